-- The wanted fields of a match, field by field, and the fields of every match. Assumes nothing.
use Rattle.numbers.proofs.Prelude.{ℕ, zero, suc, ◌+◌, ◌-◌, ◌≤◌, ◌<◌, eqb, length, drop, get_or, drop_of_length-le, drop-cons, Bool, true, false, List, ◌∷◌, ◌≡◌, sym, ap, subst, ◌∙◌}
use Rattle.numbers.proofs.Prelude.{sub-zero, add-one, arith}
use Rattle.numbers.{proofs.Replies.{carried, onward, given_from}, specs.{Answer.{if◌then◌else◌}, Reply.{Reply, given, refused, ◌>>=◌}, declared.refusal.Refusal.{Refusal}}}
use Rattle.header.{proofs.Strings.{text_lies}, specs.{Header.{blame_of}, Text.{text_at, bytes_of}, declared.{header.Head.{Head}, text.{Blame.{Blame}, Text.{Text}}}}}
use Rattle.table.specs.{Hits.{no_hit}, declared.hits.Hit.{Hit}}
use Rattle.zones.specs.{Fields.{fields_place}, Simple.{part_of, begun, newer, picked_from, checked}, declared.simple.{Picked.{Picked}}}
use Rattle.std.specs.Prelude.{Option, Some, None}

abbrev fifteen : Blame
fifteen = record { number = 15; detail = 0 }

-- ---- field by field
pub starts : (file : List ℕ) (head : Head) (count place : ℕ) {last : Picked} → last ≡ begun head.preamble.kind
    → picked_from file head (count - 0) 0 7 place last ≡ picked_from file head count 0 7 place (begun head.preamble.kind)
starts file head count place e = λ i. picked_from file head (sub-zero count i) 0 7 place (e i)

module _ (file : List ℕ) (head : Head) (count index name place : ℕ) (last : Picked) {whole : Reply Picked} (so_far : picked_from file head (count - index) index name place last ≡ whole) where
  pub all_picked : count ≤ index → given last ≡ whole
  unfolding picked_from
  all_picked h = let none : count - index ≡ 0 = omega arith in rw none at so_far

  module _ (more : index < count) where
    abbrev rest : Text → Text → Reply Picked
    rest called value = picked_from file head (count - (index + 1)) (index + 1) called.next value.next (newer (part_of head.preamble.kind (bytes_of file called)) value last)

    opened : (text_at head.strict file 0 name (blame_of head.preamble.count index) >>= λ called. text_at head.strict file head.sections.metadata place fifteen >>= rest called) ≡ whole
    unfolding picked_from
    opened = let z : count - index ≡ suc (count - (index + 1)) = omega arith in rw z at so_far

    pub no_name : {why : Refusal} → refused why ≡ text_at head.strict file 0 name (blame_of head.preamble.count index) → refused why ≡ whole
    no_name e = carried e _ ∙ opened

    module _ {called : Text} (e : given called ≡ text_at head.strict file 0 name (blame_of head.preamble.count index)) where
      pub name_inside : called.start + called.size ≤ length file
      name_inside = (text_lies file called head.strict 0 name (blame_of head.preamble.count index) e).inside

      pub no_value : {why : Refusal} → refused why ≡ text_at head.strict file head.sections.metadata place fifteen → refused why ≡ whole
      no_value f = carried f _ ∙ onward e _ ∙ opened

      pub goes : {value : Text} {part : ℕ} {next : Picked} → given value ≡ text_at head.strict file head.sections.metadata place fifteen
          → part ≡ part_of head.preamble.kind (bytes_of file called) → next ≡ newer part value last → picked_from file head (count - (index + 1)) (index + 1)
          called.next value.next next ≡ whole
      goes {value} f p n =
          ap (picked_from file head (count - (index + 1)) (index + 1) called.next value.next) (n ∙ ap (λ (k : ℕ). newer k value last) p) ∙ onward f (rest called) ∙ onward e _ ∙ opened

-- ---- match by match
module _ (file : List ℕ) (head : Head) (all : List Hit) (i : ℕ) {whole : Reply (Unit {0})} (so_far : checked file head (drop i all) ≡ whole) where
  pub all_checked : length all ≤ i → given tt ≡ whole
  unfolding checked
  all_checked h = rw (drop_of_length-le all {i = i} h) at so_far

  module _ (more : i < length all) {got : Hit} (is : got ≡ get_or all i no_hit) {place : ℕ} (p : place ≡ fields_place head got.metadata) (v : Reply Picked)
      (e : v ≡ picked_from file head head.preamble.count 0 7 place (begun head.preamble.kind)) where
    unrolled : (v >>= λ picked. checked file head (drop (i + 1) all)) ≡ whole
    unfolding checked
    unrolled = let cons : drop i all ≡ got ∷ drop (i + 1) all = drop-cons all i no_hit more ∙ sym (λ j. is j ∷ drop (add-one i j) all) in
        rw (cons, ← p, ← e) at so_far

    pub match_good : {picked : Picked} → v ≡ given picked → checked file head (drop (i + 1) all) ≡ whole
    match_good is = rw is at unrolled

    pub match_bad : {why : Refusal} → v ≡ refused why → refused why ≡ whole
    match_bad is = rw is at unrolled

-- ---- what is picked lies in the file
unfoldable pub Inside : List ℕ → Option Text → Type 0
Inside file (Some text) = text.start + text.size ≤ length file
Inside file None = Unit {0}

pub record Lying (file : List ℕ) (picked : Picked) : Type 0 where
  pub one : Inside file picked.one
  pub two : Inside file picked.two

module _ (file : List ℕ) where
  newer_lies : (part : ℕ) (value : Text) (last : Picked) → value.start + value.size ≤ length file → Lying file last → Lying file (newer part value last)
  unfolding Inside
  newer_lies part value last h l = go (eqb part 1) (eqb part 2) where
    go : (a b : Bool) → Lying file (if a then record { one = Some value; two = last.two } else (if b then record { one = last.one; two = Some value } else last))
    go true b = record { one = h; two = l.two }
    go false true = record { one = l.one; two = h }
    go false false = l

  begun_lies : (kind : ℕ) → Lying file (begun kind)
  unfolding Inside
  begun_lies kind = go (eqb kind 0x54) where
    go : (zone : Bool) → Lying file (record { one = None; two = if zone then None else Some (record { start = 0; size = 0; next = 0 }) })
    go true = record { one = tt; two = tt }
    go false = record { one = tt; two = omega arith }

  module _ (head : Head) where
    from_lies : (more index names values : ℕ) (last : Picked) {picked : Picked} → given picked ≡ picked_from file head more index names values last → Lying file last → Lying file picked
    unfolding picked_from
    from_lies zero index names values last {picked} e l = let same : last ≡ picked = cc in rw (← same) l
    from_lies (suc more) index names values last e l =
        let called = given_from (text_at head.strict file 0 names (blame_of head.preamble.count index)) _ e in
        let value = given_from (text_at head.strict file head.sections.metadata values fifteen) _ called.onto in
        let part = part_of head.preamble.kind (bytes_of file called.it) in
        from_lies more (index + 1) called.it.next value.it.next (newer part value.it last) value.onto (newer_lies part value.it last
        (text_lies file value.it head.strict head.sections.metadata values fifteen value.is).inside l)

    pub picked_lies : {picked : Picked} (place : ℕ) → given picked ≡ picked_from file head head.preamble.count 0 7 place (begun head.preamble.kind) → Lying file picked
    picked_lies place e = from_lies head.preamble.count 0 7 place (begun head.preamble.kind) e (begun_lies head.preamble.kind)

pub lies_at : (file : List ℕ) {text : Text} (value : Option Text) → value ≡ Some text → Inside file value → text.start + text.size ≤ length file
unfolding Inside
lies_at file value e h = subst (λ (v : Option Text). Inside file v) e h
