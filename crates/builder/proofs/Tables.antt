-- Entries that go into the output one after another. Assumes nothing.
use Rattle.numbers.proofs.Prelude.{ℕ, suc, ◌+◌, ◌-◌, ◌*◌, ◌%◌, ◌^◌, ◌≤◌, ◌<◌, ℤ, pos, ◌-ℤ◌, length, drop, get_or, length-append, drop-cons, drop-length, List, ◌∷◌, ◌++◌, map, ◌≡◌, ap, subst, ◌∙◌}
use Rattle.numbers.{proofs.{Prelude.{add-one, arith}, Spelling.{varint_few}}, specs.Spelling.{varint_of, signed_form}}
use Rattle.writer.{proofs.Stores.{Left, left_all, left_step, left_none}, specs.inner.Stored.{Stored}}
use Rattle.builder.proofs.Steps.{box_few}
use Rattle.builder.specs.{Entries.{Entry, box_bytes, entry_at, entry_bytes, table_from, bounds_at, places_at, entry_of_word}, declared.{boxes.Bounds.{Bounds}, entry.Places.{Places}}}

-- at most ten bytes a number
pub entry_few : (r b : ℕ) (e : Entry) → length (entry_bytes r b e) ≤ 60
unfolding entry_bytes
entry_few r b e = let step = signed_form (pos e.record' -ℤ pos r) in
    omega (
      arith,
      length-append (box_bytes e.bounds) (varint_of step ++ varint_of ((e.border + 2 ^ 32 - b) % 2 ^ 32)),
      length-append (varint_of step) (varint_of ((e.border + 2 ^ 32 - b) % 2 ^ 32)),
      box_few e.bounds,
      varint_few step,
      varint_few ((e.border + 2 ^ 32 - b) % 2 ^ 32),
    )

-- the loop's invariant, at the word i, behind an entry with these places
pub record Tabling (before : List ℕ) (place : ℕ) (words : List ℕ) (boxes : List ℤ) (places now : List ℕ) (next : ℕ) (last : Places) (i : ℕ) : Type 0 where
  pub index : i ≤ length words
  pub left : Left before place (table_from 0 0 (map (entry_of_word boxes places) words)) now next (table_from last.«record» last.border (map (entry_of_word boxes places) (drop i words)))
  pub bound : next + 60 * length (drop i words) < 2 ^ 60

pub table_starts : (before : List ℕ) (place : ℕ) (words : List ℕ) (boxes : List ℤ) (places : List ℕ) → place + 60 * length words < 2 ^ 60 →
    Tabling before place words boxes places before place (record { «record» = 0; border = 0 }) 0
table_starts before place words boxes places h = record { index = omega arith; left = left_all; bound = h }

module _ (before : List ℕ) (place : ℕ) (words : List ℕ) (boxes : List ℤ) (places now : List ℕ) (next : ℕ) (last : Places) (i : ℕ)
    (t : Tabling before place words boxes places now next last i) (more : i < length words) where
  rest : drop i words ≡ get_or words i 0 ∷ drop (suc i) words
  rest = drop-cons words i 0 more

  pub row_room : next < 2 ^ 60
  row_room = omega (arith, t.bound)

  cuts : (bounds : Bounds) (here : Places) → bounds ≡ bounds_at boxes (get_or words i 0 % 2 ^ 32) → here ≡ places_at places (get_or words i 0 % 2 ^ 32)
      → table_from last.«record» last.border (map (entry_of_word boxes places) (drop i words))
      ≡ entry_bytes last.«record» last.border (entry_at bounds here) ++ table_from here.«record» here.border (map (entry_of_word boxes places) (drop (suc i) words))
  unfolding table_from entry_of_word
  cuts bounds here eb eh = ap (λ (ws : List ℕ). table_from last.«record» last.border (map (entry_of_word boxes places) ws)) rest ∙ rw (eb, eh)

  pub table_goes : (bounds : Bounds) (here : Places) → bounds ≡ bounds_at boxes (get_or words i 0 % 2 ^ 32) → here ≡ places_at places (get_or words i 0 % 2 ^ 32)
      → (after : List ℕ) (later : ℕ) → Stored now next (entry_bytes last.«record» last.border (entry_at bounds here)) after later
      → Tabling before place words boxes places after later here (i + 1)
  table_goes bounds here eb eh after later s =
      rw (add-one i) (record {
        index = omega arith;
        left = left_step (entry_bytes last.«record» last.border (entry_at bounds here))
            (subst (λ (r : List ℕ). Left before place (table_from 0 0 (map (entry_of_word boxes places) words)) now next r) (cuts bounds here eb eh) t.left) s;
        bound = omega (arith, t.bound, s.place_after, entry_few last.«record» last.border (entry_at bounds here), ap length rest);
      })

pub table_ends : (before : List ℕ) (place : ℕ) (words : List ℕ) (boxes : List ℤ) (places now : List ℕ) (next : ℕ) (last : Places) (i : ℕ) →
    Tabling before place words boxes places now next last i → length words ≤ i → Stored before place (table_from 0 0 (map (entry_of_word boxes places) words)) now next
unfolding table_from
table_ends before place words boxes places now next last i t h = let e : i ≡ length words = omega (arith, t.index) in
    left_none (subst (λ (r : List ℕ). Left before place (table_from 0 0 (map (entry_of_word boxes places) words)) now next r)
    (ap (λ (ws : List ℕ). table_from last.«record» last.border (map (entry_of_word boxes places) ws)) (ap (λ (n : ℕ). drop n words) e ∙ drop-length words)) t.left)
