-- 27, test by test. Assumes nothing.
use Rattle.numbers.proofs.Prelude.{ℕ, ◌≤◌, ◌<◌, lt-ltb, le-leb, le-ltb, lt-leb, ltb, leb, Bool, false, ◌&&◌, ◌≡◌, refl}

module _ (precision version : ℕ) (kind : Bool) where
  abbrev good : Bool
  good = (leb 1 precision && leb precision 31) && (ltb version 2 && kind)

  pub known_low : precision < 1 → false ≡ good
  known_low h = rw (lt-leb 1 precision h) refl

  module _ (low : 1 ≤ precision) where
    pub known_high : 31 < precision → false ≡ good
    known_high h = rw (le-leb 1 precision low, lt-leb precision 31 h) refl

    module _ (high : precision ≤ 31) where
      pub known_version : 2 ≤ version → false ≡ good
      known_version h = rw (le-leb 1 precision low, le-leb precision 31 high, le-ltb version 2 h) refl

      pub known_kind : version < 2 → (r : Bool) → r ≡ kind → r ≡ good
      known_kind h r e = rw (le-leb 1 precision low, le-leb precision 31 high, lt-ltb version 2 h) e
