-- What the table grows by with the entry of one yard more. Assumes nothing.
use Rattle.numbers.proofs.Prelude.{ℕ, zero, suc, ◌+◌, ◌-◌, ◌%◌, ◌^◌, ◌≤◌, ◌<◌, leb, ℤ, pos, ◌-ℤ◌, length, get_or, length-append, Bool, true, false, List, [], ◌∷◌, ◌++◌, map, ◌≡◌, refl, sym, ap, ◌∙◌, add-one}
use Rattle.numbers.{proofs.{Prelude.{arith}, Spelling.{varint_few}}, specs.{Answer.{if◌then◌else◌}, Spelling.{varint_of, signed_form}}}
use mathlib.Core.Option
use mathlib.Core.Option.{Option, none, some}
use Rattle.builder.{proofs.Steps.{box_few}, specs.{Entries.{Entry, bounds_at, box_bytes, entry_at, entry_bytes, from_south, table_of}, Grouping.Keys.{numbers_from}, declared.boxes.Bounds.{Bounds}}}
use Rattle.builder.specs.declared.entry.Places.{Places}
use Rattle.draft.proofs.held.Inserted.{low_in, high_in, gap, record_of, border_of, table_grown}
use Rattle.layout.{proofs.Orders.{sorted_map}, specs.Order.{sorted_by}}
use Rattle.notes.specs.inner.Nearby.Nearby.{entry_for, entries_at, entry_with, south_at, numbered, low_to, high_to, Nears, places_of, size_behind}

-- ---- an entry is its box and two steps of at most ten bytes
record Parts (box size : ℕ) : Type 0 where
  least : box ≤ size
  most : size ≤ box + 20

entry_parts : (r b : ℕ) (e : Entry) → Parts (length (box_bytes e.bounds)) (length (entry_bytes r b e))
unfolding entry_bytes
entry_parts r b e = let step = signed_form (pos e.record' -ℤ pos r) in let border = (e.border + 2 ^ 32 - b) % 2 ^ 32 in
    let all = length-append (box_bytes e.bounds) (varint_of step ++ varint_of border) in let steps = length-append (varint_of step) (varint_of border) in
    record { least = omega (arith, all); most = omega (arith, all, steps, varint_few step, varint_few border) }

new_few : (r b : ℕ) (e : Entry) (size : ℕ) → size ≡ length (entry_bytes r b e) → size ≤ 60
new_few r b e size is = let p = entry_parts r b e in omega (arith, is, p.most, box_few e.bounds)

module _ (boxes : List ℤ) (begins borders : List ℕ) where
  behind_few : (from : Places) (near size : ℕ) → size ≡ size_behind boxes begins borders from near → size ≤ 60
  unfolding size_behind
  behind_few from zero size is = omega (arith, is)
  behind_few from (suc yard) size is = new_few from.«record» from.border (entry_for boxes begins borders yard) size is

  -- a step alone differs between two entries before it
  behind_near : (from here : Places) (near before behind : ℕ) → before ≡ size_behind boxes begins borders from near → behind ≡ size_behind boxes begins borders here near → behind ≤ before + 20
  unfolding size_behind
  behind_near from here zero before behind e f = omega (arith, e, f)
  behind_near from here (suc yard) before behind e f = let p = entry_parts from.«record» from.border (entry_for boxes begins borders yard) in
      let q = entry_parts here.«record» here.border (entry_for boxes begins borders yard) in omega (arith, e, f, p.least, q.most)

-- ---- a neighbour's number
module _ (begins borders : List ℕ) where
  pub places_none : (near : ℕ) → near ≡ 0 → record { «record» = 0; border = 0 } ≡ places_of begins borders near
  unfolding places_of
  places_none near e = ap (places_of begins borders) (sym e)

  pub places_some : (near yard : ℕ) → near ≡ yard + 1 → record { «record» = get_or begins yard 0; border = get_or borders yard 0 } ≡ places_of begins borders near
  unfolding places_of
  places_some near yard is = ap (places_of begins borders) (sym (is ∙ add-one yard))

  module _ (boxes : List ℤ) (from : Places) where
    pub size_none : (near : ℕ) → near ≡ 0 → 0 ≡ size_behind boxes begins borders from near
    unfolding size_behind
    size_none near e = ap (size_behind boxes begins borders from) (sym e)

    pub size_some : (near yard : ℕ) → near ≡ yard + 1 → (bounds : Bounds) → bounds ≡ bounds_at boxes yard → (places : Places) → places ≡ places_of begins borders (yard + 1)
        → (size : ℕ) → size ≡ length (entry_bytes from.«record» from.border (entry_at bounds places)) → size ≡ size_behind boxes begins borders from near
    unfolding size_behind places_of
    size_some near yard there bounds eb places ep size is = let e : near ≡ suc yard = there ∙ add-one yard in
        is ∙ (ap (λ (b : Bounds). length (entry_bytes from.«record» from.border (entry_at b places))) eb
        ∙ (ap (λ (p : Places). length (entry_bytes from.«record» from.border (entry_at (bounds_at boxes yard) p))) (ep ∙ ap (places_of begins borders) (add-one yard))
        ∙ ap (size_behind boxes begins borders from) (sym e)))

-- ---- the neighbours of an entry are those of its yard
module _ {A B : Type 0} (key : A → ℕ) (other : B → ℕ) (f : A → B) (same : (a : A) → other (f a) ≡ key a) (k : ℕ) where
  low_map : (sofar : Option A) (ys : List A) → low_in other k (Option.map f sofar) (map f ys) ≡ Option.map f (low_in key k sofar ys)
  unfolding low_in
  low_map sofar [] = refl
  low_map sofar (y ∷ ys) = ap (λ (n : ℕ). if leb n k then low_in other k (some (f y)) (map f ys) else Option.map f sofar) (same y) ∙ go (leb (key y) k) (low_map (some y) ys) where
    go : (t : Bool) → low_in other k (some (f y)) (map f ys) ≡ Option.map f (low_in key k (some y) ys)
        → (if t then low_in other k (some (f y)) (map f ys) else Option.map f sofar) ≡ Option.map f (if t then low_in key k (some y) ys else sofar)
    go true more = more
    go false more = refl

  high_map : (ys : List A) → high_in other k (map f ys) ≡ Option.map f (high_in key k ys)
  unfolding high_in
  high_map [] = refl
  high_map (y ∷ ys) = ap (λ (n : ℕ). if leb n k then high_in other k (map f ys) else some (f y)) (same y) ∙ go (leb (key y) k) (high_map ys) where
    go : (t : Bool) → high_in other k (map f ys) ≡ Option.map f (high_in key k ys) → (if t then high_in other k (map f ys) else some (f y)) ≡ Option.map f (if t then high_in key k ys else some y)
    go true more = more
    go false more = refl

-- ---- the table
abbrev south_of : Entry → ℕ
south_of e = from_south e.bounds.south

module _ (boxes : List ℤ) (begins borders : List ℕ) where
  abbrev entry : ℕ → Entry
  entry = entry_for boxes begins borders

  -- what a neighbour's number says of its entry
  record_near : (found : Option ℕ) → (places_of begins borders (numbered found)).«record» ≡ record_of (Option.map entry found)
  unfolding places_of numbered record_of
  record_near none = refl
  record_near (some yard) = refl

  border_near : (found : Option ℕ) → (places_of begins borders (numbered found)).border ≡ border_of (Option.map entry found)
  unfolding places_of numbered border_of
  border_near none = refl
  border_near (some yard) = refl

  size_near : (from : Places) (found : Option ℕ) → size_behind boxes begins borders from (numbered found) ≡ gap from.«record» from.border (Option.map entry found)
  unfolding size_behind numbered gap
  size_near from none = refl
  size_near from (some yard) = refl

  module _ (count begin : ℕ) where
    abbrev entries : List Entry
    entries = entries_at boxes begins borders count

    abbrev new : Entry
    new = entry_with boxes borders count begin

    abbrev south : ℕ
    south = south_at boxes count

    sorted_entries : map entry (sorted_by (south_at boxes) (numbers_from 0 count)) ≡ sorted_by south_of entries
    unfolding entries_at
    sorted_entries = sorted_map (south_at boxes) south_of entry (λ yard. refl) (numbers_from 0 count)

    low_entry : low_in south_of south none (sorted_by south_of entries) ≡ Option.map entry (low_to boxes south count)
    low_entry = ap (low_in south_of south none) (sym sorted_entries) ∙ low_map (south_at boxes) south_of entry (λ yard. refl) south none (sorted_by (south_at boxes) (numbers_from 0 count))

    high_entry : high_in south_of south (sorted_by south_of entries) ≡ Option.map entry (high_to boxes south count)
    high_entry = ap (high_in south_of south) (sym sorted_entries) ∙ high_map (south_at boxes) south_of entry (λ yard. refl) south (sorted_by (south_at boxes) (numbers_from 0 count))

    module _ (low high : ℕ) (near : Nears boxes count low high) where
      abbrev from : Places
      from = places_of begins borders low

      abbrev here : Places
      here = record { «record» = begin; border = get_or borders count 0 }

      lows : Option Entry
      lows = low_in south_of south none (sorted_by south_of entries)

      highs : Option Entry
      highs = high_in south_of south (sorted_by south_of entries)

      from_record : record_of lows ≡ from.«record»
      unfolding lows
      from_record = ap record_of low_entry ∙ (sym (record_near (low_to boxes south count)) ∙ ap (λ (n : ℕ). (places_of begins borders n).«record») (sym near.low_is))

      from_border : border_of lows ≡ from.border
      unfolding lows
      from_border = ap border_of low_entry ∙ (sym (border_near (low_to boxes south count)) ∙ ap (λ (n : ℕ). (places_of begins borders n).border) (sym near.low_is))

      gap_is : (p : Places) → gap p.«record» p.border highs ≡ size_behind boxes begins borders p high
      unfolding highs
      gap_is p = ap (gap p.«record» p.border) high_entry ∙ (sym (size_near p (high_to boxes south count)) ∙ ap (size_behind boxes begins borders p) (sym near.high_is))

      gap_from : gap (record_of lows) (border_of lows) highs ≡ size_behind boxes begins borders from high
      gap_from = ap (λ (r : ℕ). gap r (border_of lows) highs) from_record ∙ (ap (λ (b : ℕ). gap from.«record» b highs) from_border ∙ gap_is from)

      entry_from : entry_bytes (record_of lows) (border_of lows) new ≡ entry_bytes from.«record» from.border new
      entry_from = ap (λ (r : ℕ). entry_bytes r (border_of lows) new) from_record ∙ ap (λ (b : ℕ). entry_bytes from.«record» b new) from_border

      table_with : length (table_of (entries_at boxes begins borders count ++ (entry_with boxes borders count begin ∷ []))) + size_behind boxes begins borders
          (places_of begins borders low) high ≡ length (table_of (entries_at boxes begins borders count)) + (length (entry_bytes (places_of begins borders low).«record»
          (places_of begins borders low).border (entry_with boxes borders count begin)) + size_behind boxes begins borders (record { «record» = begin; border = get_or borders count 0 }) high)
      unfolding table_of lows highs
      table_with = omega (arith, table_grown south_of new entries, gap_from, gap_is here, ap length entry_from)

-- what the function has found: the sizes of the new entry, of its upper neighbour behind it, and of that where it stood
pub record Grows (boxes : List ℤ) (begins borders : List ℕ) (count begin new behind before : ℕ) : Type 0 where
  pub new_small : new ≤ 60
  pub behind_small : behind ≤ 60
  pub behind_alike : behind ≤ before + 20
  pub sum : length (table_of (entries_at boxes begins borders count ++ (entry_with boxes borders count begin ∷ []))) + before ≡ length (table_of (entries_at boxes begins borders count)) +
      (new + behind)

module _ (boxes : List ℤ) (begins borders : List ℕ) (count begin : ℕ) where
  pub grows : (low high : ℕ) → Nears boxes count low high → (from : Places) → from ≡ places_of begins borders low → (bounds : Bounds) → bounds ≡ bounds_at boxes count
      → (new : ℕ) → new ≡ length (entry_bytes from.«record» from.border (entry_at bounds (record { «record» = begin; border = get_or borders count 0 })))
      → (behind : ℕ) → behind ≡ size_behind boxes begins borders (record { «record» = begin; border = get_or borders count 0 }) high
      → (before : ℕ) → before ≡ size_behind boxes begins borders from high → Grows boxes begins borders count begin new behind before
  grows low high near from ef bounds eb new en behind eh before eo = let here : Places = record { «record» = begin; border = get_or borders count 0 } in
      let old : before ≡ size_behind boxes begins borders (places_of begins borders low) high = eo ∙ ap (λ (p : Places). size_behind boxes begins borders p high) ef in
      let size : new ≡ length (entry_bytes (places_of begins borders low).«record» (places_of begins borders low).border (entry_with boxes borders count begin)) = en
      ∙ (ap (λ (p : Places). length (entry_bytes p.«record» p.border (entry_at bounds here))) ef
      ∙ ap (λ (b : Bounds). length (entry_bytes (places_of begins borders low).«record» (places_of begins borders low).border (entry_at b here))) eb) in record {
        new_small = new_few from.«record» from.border (entry_at bounds here) new en;
        behind_small = behind_few boxes begins borders here high behind eh;
        behind_alike = behind_near boxes begins borders from here high before behind eo eh;
        sum = omega (arith, table_with boxes begins borders count begin low high near, old, size, eh);
      }

  module _ (new behind before : ℕ) (g : Grows boxes begins borders count begin new behind before) (table : ℕ) where
    abbrev Answered : ℕ → Type 0
    Answered r =
        (table ≡ length (table_of (entries_at boxes begins borders count)) → r ≡ length (table_of (entries_at boxes begins borders count ++ (entry_with boxes borders count begin ∷ [])))) ×
        (r ≤ table + 100)

    pub answer_none : table + new + behind < before → Answered 0
    answer_none h = ((λ e. omega (arith, g.sum, e, h)), omega arith)

    pub answer_some : before ≤ table + new + behind → Answered (table + new + behind - before)
    answer_some h = ((λ e. omega (arith, g.sum, e, h)), omega (arith, g.new_small, g.behind_alike, h))
