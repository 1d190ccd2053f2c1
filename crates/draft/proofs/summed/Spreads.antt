-- Borders' places at every second place, and the yards in the order of the table. Assumes nothing.
use Rattle.numbers.proofs.Prelude.{ℕ, suc, ◌+◌, ◌*◌, ◌≤◌, ◌<◌, le-leb, ℤ, length, drop, get_or, set, length-map, length-set, drop-cons, drop-length, Bool, true, List, map, ◌≡◌, refl, sym, ap, ◌∙◌}
use Rattle.numbers.{proofs.Prelude.{add-one, arith}, specs.Answer.{if◌then◌else◌}}
use Rattle.builder.{proofs.grouping.Listed.{numbers_many}, specs.{Entries.{word_of_yard}, Grouping.Keys.{numbers_from}, inner.Drawing.Section.{spread}}}
use Rattle.layout.specs.{Order.{key_of, sorted_by}, inner.Answers.{Sorted}}

-- the loop's invariant
pub record Spreading (borders before places : List ℕ) (i : ℕ) : Type 0 where
  pub index : i ≤ length borders
  pub size : length places ≡ length before
  pub same : spread (2 * i + 1) (drop i borders) places ≡ spread 1 borders before

pub spread_starts : (borders before : List ℕ) → Spreading borders before before 0
spread_starts borders before = record { index = omega arith; size = refl; same = refl }

module _ (borders before places : List ℕ) (i : ℕ) (s : Spreading borders before places i) where
  pub spread_inside : i < length borders → 2 * length borders ≤ length before → 2 * i + 1 < length places
  spread_inside h room = omega (arith, h, room, s.size)

  pub spread_goes : i < length borders → Spreading borders before (set places (2 * i + 1) (get_or borders i 0)) (i + 1)
  unfolding spread
  spread_goes h = let next : 2 * suc i + 1 ≡ 2 * i + 1 + 2 = omega arith in let n : ℕ = get_or borders i 0 in
      rw (add-one i) (record {
        index = omega (arith, h);
        size = length-set places (2 * i + 1) n ∙ s.size;
        same = ap (λ (k : ℕ). spread k (drop (suc i) borders) (set places (2 * i + 1) n)) next ∙ (sym (ap (λ (l : List ℕ). spread (2 * i + 1) l places) (drop-cons borders i 0 h)) ∙ s.same);
      })

  pub spread_ends : length borders ≤ i → places ≡ spread 1 borders before
  unfolding spread
  spread_ends h = let e : i ≡ length borders = omega (arith, s.index, h) in
      sym (ap (λ (l : List ℕ). spread (2 * i + 1) l places) (ap (λ (k : ℕ). drop k borders) e ∙ drop-length borders)) ∙ s.same

-- the yards' words, sorted
pub words_sorted : (boxes : List ℤ) (k : ℕ) (words spare after other : List ℕ) (has : Bool) → k ≤ length spare → words ≡ map (word_of_yard boxes) (numbers_from 0 k)
    → Sorted words spare after other has
    → after ≡ sorted_by key_of (map (word_of_yard boxes) (numbers_from 0 k))
words_sorted boxes k words spare after other has long e s =
    let size : length words ≡ k = ap length e ∙ (length-map (numbers_from 0 k) (word_of_yard boxes) ∙ numbers_many 0 k) in
    let has_room : has ≡ true = s.room ∙ le-leb (length words) (length spare) (omega (arith, size, long)) in
    s.order ∙ (ap (λ (b : Bool). if b then sorted_by key_of words else words) has_room ∙ ap (sorted_by key_of) e)
