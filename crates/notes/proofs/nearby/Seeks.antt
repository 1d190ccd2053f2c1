-- The neighbours of a yard, found in one pass over those before it. Assumes nothing.
use Rattle.numbers.proofs.Prelude.{ℕ, ◌+◌, ◌^◌, ◌≤◌, ◌<◌, lt-ltb, le-leb, le-ltb, lt-leb, ltb, leb, ℤ, Bool, List, [], ◌∷◌, ◌++◌, ◌≡◌, refl, sym, ap, ◌∙◌, add-one, arith}
use Rattle.numbers.specs.Answer.{if◌then◌else◌}
use mathlib.Core.Option.{Option, none, some}
use Rattle.builder.specs.Grouping.Keys.{numbers_from}
use Rattle.draft.proofs.held.Inserted.{low_in, high_in, not_below, below, low_step, high_step, low_more, high_more}
use Rattle.layout.specs.Order.{sorted_by}
use Rattle.build.proofs.metadata.Shared.{numbers_more}
use Rattle.notes.specs.inner.Nearby.Nearby.{south_at, numbered, low_to, high_to, Nears}

-- the first yards, and one more
pub numbers_one : (yard : ℕ) → numbers_from 0 (yard + 1) ≡ numbers_from 0 yard ++ (yard ∷ [])
numbers_one yard = let z : 0 + yard ≡ yard = omega arith in ap (numbers_from 0) (add-one yard) ∙ (numbers_more 0 yard ∙ ap (λ (n : ℕ). numbers_from 0 yard ++ (n ∷ [])) z)

-- the key of what was found, or this one
unfoldable pub key_or : (ℕ → ℕ) → ℕ → Option ℕ → ℕ
key_or key least none = least
key_or key least (some yard) = key yard

module _ (key : ℕ → ℕ) where
  not_below_is : (found : Option ℕ) (here : ℕ) → not_below key found here ≡ leb (key_or key 0 found) here
  unfolding not_below key_or
  not_below_is none here = sym (le-leb 0 here (omega arith))
  not_below_is (some yard) here = refl

  is_below : (found : Option ℕ) (here most : ℕ) → here < most → below key found here ≡ ltb here (key_or key most found)
  unfolding below key_or
  is_below none here most h = sym (lt-ltb here most h)
  is_below (some yard) here most h = refl

  module _ (k : ℕ) (found : Option ℕ) (yard : ℕ) where
    low_takes : key yard ≤ k → key_or key 0 found ≤ key yard → low_step key k found yard ≡ some yard
    unfolding low_step
    low_takes h m =
        ap (λ (t : Bool). if t then (if not_below key found (key yard) then some yard else found) else found) (le-leb (key yard) k h)
        ∙ ap (λ (t : Bool). if t then some yard else found) (not_below_is found (key yard) ∙ le-leb (key_or key 0 found) (key yard) m)

    low_lesser : key yard ≤ k → key yard < key_or key 0 found → low_step key k found yard ≡ found
    unfolding low_step
    low_lesser h m =
        ap (λ (t : Bool). if t then (if not_below key found (key yard) then some yard else found) else found) (le-leb (key yard) k h)
        ∙ ap (λ (t : Bool). if t then some yard else found) (not_below_is found (key yard) ∙ lt-leb (key_or key 0 found) (key yard) m)

    low_passes : k < key yard → low_step key k found yard ≡ found
    unfolding low_step
    low_passes h = ap (λ (t : Bool). if t then (if not_below key found (key yard) then some yard else found) else found) (lt-leb (key yard) k h)

    high_passes : key yard ≤ k → high_step key k found yard ≡ found
    unfolding high_step
    high_passes h = ap (λ (t : Bool). if t then found else (if below key found (key yard) then some yard else found)) (le-leb (key yard) k h)

    module _ (most : ℕ) (small : key yard < most) (h : k < key yard) where
      high_takes : key yard < key_or key most found → high_step key k found yard ≡ some yard
      unfolding high_step
      high_takes m =
          ap (λ (t : Bool). if t then found else (if below key found (key yard) then some yard else found)) (lt-leb (key yard) k h)
          ∙ ap (λ (t : Bool). if t then some yard else found) (is_below found (key yard) most small ∙ lt-ltb (key yard) (key_or key most found) m)

      high_greater : key_or key most found ≤ key yard → high_step key k found yard ≡ found
      unfolding high_step
      high_greater m =
          ap (λ (t : Bool). if t then found else (if below key found (key yard) then some yard else found)) (lt-leb (key yard) k h)
          ∙ ap (λ (t : Bool). if t then some yard else found) (is_below found (key yard) most small ∙ le-ltb (key yard) (key_or key most found) m)

-- what was found, as its number and one more, and its key
pub record Found (key : ℕ → ℕ) (least : ℕ) (found : Option ℕ) (yard number at : ℕ) : Type 0 where
  pub number_is : number ≡ numbered found
  pub at_is : at ≡ key_or key least found
  pub there : number ≤ yard

module _ (key : ℕ → ℕ) (least : ℕ) (found : Option ℕ) (yard number at : ℕ) (f : Found key least found yard number at) (later : Option ℕ) where
  found_still : later ≡ found → Found key least later (yard + 1) number at
  found_still e = record { number_is = f.number_is ∙ ap numbered (sym e); at_is = f.at_is ∙ ap (key_or key least) (sym e); there = omega (arith, f.there) }

  found_here : later ≡ some yard → (here : ℕ) → here ≡ key yard → Found key least later (yard + 1) (yard + 1) here
  unfolding numbered key_or
  found_here e here h = record { number_is = add-one yard ∙ ap numbered (sym e); at_is = h ∙ ap (key_or key least) (sym e); there = omega arith }

-- the loop's invariant: the neighbours among the yards before this one
pub record Seeking (boxes : List ℤ) (south count low lowest high highest yard : ℕ) : Type 0 where
  pub index : yard ≤ count
  pub lower : Found (south_at boxes) 0 (low_to boxes south yard) yard low lowest
  pub upper : Found (south_at boxes) (2 ^ 32) (high_to boxes south yard) yard high highest

module _ (boxes : List ℤ) (south count : ℕ) where
  pub seek_starts : Seeking boxes south count 0 0 0 4294967296 0
  unfolding low_in high_in sorted_by numbers_from numbered key_or
  seek_starts = record { index = omega arith; lower = record { number_is = refl; at_is = refl; there = omega arith }; upper = record { number_is = refl; at_is = refl; there = omega arith } }

  low_on : (yard : ℕ) → low_to boxes south (yard + 1) ≡ low_step (south_at boxes) south (low_to boxes south yard) yard
  low_on yard = ap (λ (l : List ℕ). low_in (south_at boxes) south none (sorted_by (south_at boxes) l)) (numbers_one yard) ∙ low_more (south_at boxes) south (numbers_from 0 yard) yard

  high_on : (yard : ℕ) → high_to boxes south (yard + 1) ≡ high_step (south_at boxes) south (high_to boxes south yard) yard
  high_on yard = ap (λ (l : List ℕ). high_in (south_at boxes) south (sorted_by (south_at boxes) l)) (numbers_one yard) ∙ high_more (south_at boxes) south (numbers_from 0 yard) yard

  module _ (low lowest high highest yard : ℕ) (s : Seeking boxes south count low lowest high highest yard) (h : yard < count) (here : ℕ) (e : (here ≡ south_at boxes yard) × (here < 2 ^ 32)) where
    abbrev lows : Option ℕ
    lows = low_to boxes south yard

    abbrev highs : Option ℕ
    highs = high_to boxes south yard

    high_still : here ≤ south → Found (south_at boxes) (2 ^ 32) (high_to boxes south (yard + 1)) (yard + 1) high highest
    high_still t = found_still (south_at boxes) (2 ^ 32) highs yard high highest s.upper (high_to boxes south (yard + 1))
        (high_on yard ∙ high_passes (south_at boxes) south highs yard (omega (arith, t, e.0)))

    low_still : south < here → Found (south_at boxes) 0 (low_to boxes south (yard + 1)) (yard + 1) low lowest
    low_still t = found_still (south_at boxes) 0 lows yard low lowest s.lower (low_to boxes south (yard + 1)) (low_on yard ∙ low_passes (south_at boxes) south lows yard (omega (arith, t, e.0)))

    pub seek_low : here ≤ south → lowest ≤ here → Seeking boxes south count (yard + 1) here high highest (yard + 1)
    seek_low t m = record {
      index = omega (arith, h);
      lower = found_here (south_at boxes) 0 lows yard low lowest s.lower (low_to boxes south (yard + 1))
          (low_on yard ∙ low_takes (south_at boxes) south lows yard (omega (arith, t, e.0)) (omega (arith, m, e.0, s.lower.at_is))) here e.0;
      upper = high_still t;
    }

    pub seek_lesser : here ≤ south → here < lowest → Seeking boxes south count low lowest high highest (yard + 1)
    seek_lesser t m = record {
      index = omega (arith, h);
      lower = found_still (south_at boxes) 0 lows yard low lowest s.lower (low_to boxes south (yard + 1))
          (low_on yard ∙ low_lesser (south_at boxes) south lows yard (omega (arith, t, e.0)) (omega (arith, m, e.0, s.lower.at_is)));
      upper = high_still t;
    }

    pub seek_high : south < here → here < highest → Seeking boxes south count low lowest (yard + 1) here (yard + 1)
    seek_high t m = record {
      index = omega (arith, h);
      lower = low_still t;
      upper = found_here (south_at boxes) (2 ^ 32) highs yard high highest s.upper (high_to boxes south (yard + 1))
          (high_on yard ∙ high_takes (south_at boxes) south highs yard (2 ^ 32) (omega (arith, e.0, e.1)) (omega (arith, t, e.0)) (omega (arith, m, e.0, s.upper.at_is))) here e.0;
    }

    pub seek_greater : south < here → highest ≤ here → Seeking boxes south count low lowest high highest (yard + 1)
    seek_greater t m = record {
      index = omega (arith, h);
      lower = low_still t;
      upper = found_still (south_at boxes) (2 ^ 32) highs yard high highest s.upper (high_to boxes south (yard + 1))
          (high_on yard ∙ high_greater (south_at boxes) south highs yard (2 ^ 32) (omega (arith, e.0, e.1)) (omega (arith, t, e.0)) (omega (arith, m, e.0, s.upper.at_is)));
    }

-- all yards are passed
pub seek_ends : (boxes : List ℤ) (south count low lowest high highest yard : ℕ) → Seeking boxes south count low lowest high highest yard → count ≤ yard → south ≡ south_at boxes count →
    Nears boxes count low high
seek_ends boxes south count low lowest high highest yard s h e = let all : yard ≡ count = omega (arith, h, s.index) in record {
  low_is = s.lower.number_is ∙ (ap (λ (n : ℕ). numbered (low_to boxes south n)) all ∙ ap (λ (k : ℕ). numbered (low_to boxes k count)) e);
  high_is = s.upper.number_is ∙ (ap (λ (n : ℕ). numbered (high_to boxes south n)) all ∙ ap (λ (k : ℕ). numbered (high_to boxes k count)) e);
  low_there = omega (arith, s.lower.there, all);
  high_there = omega (arith, s.upper.there, all);
}
