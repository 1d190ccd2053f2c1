-- Simple lookups in two files with like rows and the same names give the same matches and description, or the same refusal. Assumes nothing.
use Rattle.numbers.proofs.Prelude.{ℕ, suc, ◌+◌, ◌/◌, eqb, length, length-map, Bool, true, false, List, [], ◌∷◌, ◌++◌, ◌≡◌, refl, sym, ap, subst, ◌∙◌, arith}
use Rattle.numbers.specs.{Answer.{if◌then◌else◌}, Reply.{Reply, given, ◌>>=◌, ◌>>◌}}
use Rattle.std.specs.Prelude.{Option, Some, None}
use Rattle.header.specs.{Header.{blame_of}, Text.{bytes_of, text_at}, declared.{header.{Head.{Head}, Preamble.{Preamble}}, text.Text.{Text}}}
use Rattle.table.{proofs.Merged.{Each, next}, specs.{Find.{Matched, matched_with}, Hits.{width}, Rows.{rows_in, as_rows}, declared.{hits.Hit.{Hit}, location.Location.{Location}, rows.Row.{Row}}}}
use Rattle.zones.proofs.PlaceLeftOut.{bare_hit, bare}
use Rattle.zones.specs.{Fields.{fields_place}, Lent.{Outcome}, Simple.{part_of, begun, newer, joined, picked_from, picked_of, checked, description_of, bytes_in}}
use Rattle.zones.specs.{Simple.{length_in, fitting, worded_of, described_with}, declared.simple.{Described.{Described}, Picked.{Picked}}}
use Rattle.promises.proofs.Salvaged.{Alike.{compared, bare_matched, both_given, SameRecord, AllLike}, Carried.{SameTexts, no_more, one_more}}
use Rattle.promises.proofs.Salvaged.{LookedAlike.{Read, MatchesRead, matched_like, matched_each}, TextsAgain.{SameNames, no_names, one_name}}
use Rattle.promises.specs.Salvaged.Same.{unmarked_simple}
use Rattle.numbers.specs.Reply as R

module _ (f f' : List ℕ) (h h' : Head) (preamble : h'.preamble ≡ h.preamble) where
  -- ---- what is picked has the same bytes
  data LikeValue : Option Text → Option Text → Type 0 where
    missing : LikeValue None None
    at : {t t' : Text} → bytes_of f' t' ≡ bytes_of f t → LikeValue (Some t) (Some t')

  record LikePicked (p p' : Picked) : Type 0 where
    one : LikeValue p.one p'.one
    two : LikeValue p.two p'.two

  begun_like : (kind : ℕ) → LikePicked (begun kind) (begun kind)
  unfolding bytes_of
  begun_like kind = go (eqb kind 0x54) where
    go : (t : Bool) → LikePicked (record { one = None; two = if t then None else Some (record { start = 0; size = 0; next = 0 }) })
        (record { one = None; two = if t then None else Some (record { start = 0; size = 0; next = 0 }) })
    go true = record { one = missing; two = missing }
    go false = record { one = missing; two = at refl }

  newer_like : (part : ℕ) (v v' : Text) {p p' : Picked} → bytes_of f' v' ≡ bytes_of f v → LikePicked p p' → LikePicked (newer part v p) (newer part v' p')
  newer_like part v v' {p} {p'} e l = go (eqb part 1) (eqb part 2) where
    go : (s t : Bool) → LikePicked (if s then record { one = Some v; two = p.two } else (if t then record { one = p.one; two = Some v } else p))
        (if s then record { one = Some v'; two = p'.two } else (if t then record { one = p'.one; two = Some v' } else p'))
    go true t = record { one = at e; two = l.two }
    go false true = record { one = l.one; two = at e }
    go false false = l

  joined_like : {a a' b b' : Option Text} → LikeValue a a' → LikeValue b b' → joined f' a' b' ≡ joined f a b
  joined_like missing l = refl
  joined_like (at e) missing = refl
  joined_like (at e) (at g) = λ i. Some (e i ++ g i)

  -- ---- the fields of a record, each beside its name
  record Picks (r r' : Reply Picked) : Type 0 where
    old : Picked
    now : Picked
    is : r ≡ given old
    is' : r' ≡ given now
    like : LikePicked old now

  picked_step : (file : List ℕ) (head : Head) (more index names values : ℕ) (last : Picked) (called value : Text)
      → text_at head.strict file 0 names (blame_of head.preamble.count index) ≡ given called
      → text_at head.strict file head.sections.metadata values (record { number = 15; detail = 0 }) ≡ given value
      → picked_from file head (suc more) index names values last ≡ picked_from file head more (index + 1) called.next value.next
      (newer (part_of head.preamble.kind (bytes_of file called)) value last)
  unfolding picked_from
  picked_step file head more index names values last called value e g = rw (e, g)

  picks : {more : ℕ} (index : ℕ) {names names' values values' : ℕ} {last last' : Picked} → SameNames f f' h h' h.preamble.count more index names names'
      → SameTexts f f' h h' more values values' → LikePicked last last' → Picks (picked_from f h more index names values last) (picked_from f' h' more index names' values' last')
  unfolding picked_from
  picks index {last = last} {last' = last'} no_names no_more l = record { old = last; now = last'; is = refl; is' = refl; like = l }
  picks {more = suc more} index {names = names} {names' = names'} {values = values} {values' = values'} {last = last} {last' = last'} (one_name c c' called
      called' same_name names_later) (one_more v v' value value' same_value placed later) l =
      let part : part_of h'.preamble.kind (bytes_of f' c') ≡ part_of h.preamble.kind (bytes_of f c) = λ i. part_of (preamble i).kind (same_name i) in
      let rest = picks (index + 1) names_later later (newer_like (part_of h.preamble.kind (bytes_of f c)) v v' same_value l) in
      record {
        old = rest.old;
        now = rest.now;
        is = picked_step f h more index names values last c v called value ∙ rest.is;
        is' = picked_step f' h' more index names' values' last' c' v' (ap (λ (p : Preamble). text_at h'.strict f' 0 names' (blame_of p.count index)) preamble ∙ called') value'
            ∙ ap (λ (n : ℕ). picked_from f' h' more (index + 1) c'.next v'.next (newer n v' last')) part
            ∙ rest.is';
        like = rest.like;
      }

  module _ (names : SameNames f f' h h' h.preamble.count h.preamble.count 0 7 7) where
    match_picks : (x y : Hit) → x.metadata ≡ y.metadata → SameRecord f f' h h' y.metadata → Picks (picked_of f h y) (picked_of f' h' x)
    match_picks x y id texts = let p = picks 0 names texts (begun_like h.preamble.kind) in record {
      old = p.old;
      now = p.now;
      is = p.is;
      is' = (λ i. picked_from f' h' (preamble i).count 0 7 (fields_place h' (id i)) (begun (preamble i).kind)) ∙ p.is';
      like = p.like;
    }

    -- every match can be checked
    checked_step : (file : List ℕ) (head : Head) (match : Hit) (matches : List Hit) (p : Picked) → picked_of file head match ≡ given p → checked file head (match ∷ matches) ≡ checked file head matches
    unfolding checked
    checked_step file head match matches p e = rw e

    checked_like : (xs ys : List Hit) → bare xs ≡ bare ys → Each (Read f f' h h' preamble) ys → checked f' h' xs ≡ checked f h ys
    unfolding checked
    checked_like [] [] e each = refl
    checked_like [] (y ∷ ys) e each = let z : ◌≡◌ {A = ℕ} 0 1 = cc in absurd (omega arith)
    checked_like (x ∷ xs) [] e each = let z : ◌≡◌ {A = ℕ} 0 1 = cc in absurd (omega arith)
    checked_like (x ∷ xs) (y ∷ ys) e (next own later) = let first : bare_hit x ≡ bare_hit y = cc (e) in let rest : bare xs ≡ bare ys = cc (e) in
        let p = match_picks x y (ap (λ (hit : Hit). hit.metadata) first) own in
        checked_step f' h' x xs p.now p.is' ∙ checked_like xs ys rest later ∙ sym (checked_step f h y ys p.old p.is)

    described_step : (file : List ℕ) (head : Head) (match : Hit) (matches : List Hit) (p : Picked) → picked_of file head match ≡ given p
        → description_of file head (match ∷ matches) ≡ given (joined file p.one p.two)
    unfolding description_of
    described_step file head match matches p e = rw e

    description_like : (xs ys : List Hit) → bare xs ≡ bare ys → Each (Read f f' h h' preamble) ys → description_of f' h' xs ≡ description_of f h ys
    unfolding description_of
    description_like [] [] e each = refl
    description_like [] (y ∷ ys) e each = let z : ◌≡◌ {A = ℕ} 0 1 = cc in absurd (omega arith)
    description_like (x ∷ xs) [] e each = let z : ◌≡◌ {A = ℕ} 0 1 = cc in absurd (omega arith)
    description_like (x ∷ xs) (y ∷ ys) e (next own later) = let first : bare_hit x ≡ bare_hit y = cc (e) in
        let p = match_picks x y (ap (λ (hit : Hit). hit.metadata) first) own in
        described_step f' h' x xs p.now p.is' ∙ ap given (joined_like p.like.one p.like.two) ∙ sym (described_step f h y ys p.old p.is)

    worded_like : (room : ℕ) (xs ys : List Hit) → bare xs ≡ bare ys → Each (Read f f' h h' preamble) ys → worded_of f' h' room xs ≡ worded_of f h room ys
    unfolding worded_of
    worded_like room xs ys e each = ap (λ (r : Reply (Option (List ℕ))). r >>= λ description. fitting room (bytes_in description) >>= λ bytes. given description) (description_like xs ys e each)

    -- ---- the answer
    module _ (rows rows' : List Row) (like : AllLike f f' h h' rows rows') (old_rows : rows_in f h ≡ as_rows rows) (new_rows : rows_in f' h' ≡ as_rows rows') (location : Location) where
      abbrev outcome : Matched → Option (List ℕ) → Outcome Described
      outcome found description =
          record { answer = record { matches = length found.matches; mark = found.mark; description = length_in description }; matches = found.matches; text = bytes_in description }

      same_outcome : (a b : Matched) → bare_matched a ≡ bare_matched b → (d : Option (List ℕ)) → unmarked_simple (outcome a d) ≡ unmarked_simple (outcome b d)
      same_outcome a b e d = let hits : bare a.matches ≡ bare b.matches = ap (λ (x : Matched). x.matches) e in
          let count : length a.matches ≡ length b.matches = sym (length-map a.matches bare_hit) ∙ ap length hits ∙ length-map b.matches bare_hit in
          λ i. record { answer = record { matches = count i; mark = 0; description = length_in d }; matches = hits i; text = bytes_in d }

      finish : (a b : Matched) → bare_matched a ≡ bare_matched b → (c : Reply (Unit {0})) (r : Reply (Option (List ℕ)))
          → compared unmarked_simple (c >> (r >>= λ d. given (outcome a d))) ≡ compared unmarked_simple (c >> (r >>= λ d. given (outcome b d)))
      finish a b e (given u) (given d) = ap given (same_outcome a b e d)
      finish a b e (given u) (R.refused why) = refl
      finish a b e (R.refused why) r = refl

      pub described_like : (n room : ℕ) → (described_with f' h' location n room >>= λ o. given (unmarked_simple o)) ≡ (described_with f h location n room >>= λ o. given (unmarked_simple o))
      unfolding described_with
      described_like n room =
          both_given bare_matched unmarked_simple (matched_with f' h' location false (n / width)) (matched_with f h location false (n / width)) (λ a. checked f' h'
          a.matches >> (worded_of f' h' room a.matches >>= λ d. given (outcome a d))) (λ b. checked f h b.matches >> (worded_of f h room b.matches
          >>= λ d. given (outcome b d))) (matched_like f f' h h' preamble rows rows' like old_rows new_rows location false (n / width))
          (λ a b is e. (λ i. compared unmarked_simple (checked_like a.matches b.matches (ap (λ (x : Matched). x.matches) e) (read b is) i >>
          (worded_like room a.matches b.matches (ap (λ (x : Matched). x.matches) e) (read b is) i >>= λ d. given (outcome a d)))) ∙ finish a b e
          (checked f h b.matches) (worded_of f h room b.matches)) where
            read : (b : Matched) → matched_with f h location false (n / width) ≡ given b → Each (Read f f' h h' preamble) b.matches
            read b is = subst (MatchesRead f f' h h' preamble) is (matched_each f f' h h' preamble rows rows' like old_rows new_rows location false (n / width))
