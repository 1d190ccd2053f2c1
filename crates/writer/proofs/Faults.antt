-- The checks of a border in turn, each with those before it. Assumes nothing.
use Rattle.numbers.proofs.Prelude.{ℕ, ◌^◌, ◌≤◌, ◌<◌, lt-ltb, le-leb, le-ltb, leb-true, ltb-true, lt-leb, eqb-true, eqb, ltb, leb, ℤ, length, take, drop, true, false, ◌&&◌, List, ◌≡◌, sym, ap, ◌∙◌}
use Rattle.numbers.{proofs.{Prelude.{arith}, Tests.{both}}, specs.{Reply.{given, refused, refusal, plain, demand, ◌>>◌}, declared.point.RawPoint.{RawPoint}}}
use Rattle.writer.specs.{Moves.{moves_of, is_move}, Writer.{every, near, sized, checks}, inner.Stored.{move_at}}
use Rattle.writer.proofs.Indexed.{moves_next}
use mathlib.Core.Bool.{and-true}

-- what a border of good size has
pub record Sizes (lats lons : List ℤ) : Type 0 where
  pub some : 0 < length lats
  pub same : length lons ≡ length lats
  pub few : length lats ≤ 65535

pub sizes : (lats lons : List ℤ) → sized lats lons ≡ true → Sizes lats lons
unfolding sized
sizes lats lons e = let h = both (eqb (length lats) (length lons)) (ltb 0 (length lats) && leb (length lats) 65535) e in
    let k = both (ltb 0 (length lats)) (leb (length lats) 65535) h.1 in
    record { some = ltb-true 0 (length lats) k.0; same = sym (eqb-true (length lats) (length lons) h.0); few = leb-true (length lats) 65535 k.1 }

first_move : (lats lons : List ℤ) → 0 < length lats → 0 < length lons → every is_move (take 1 (moves_of lats lons)) ≡ is_move (move_at lats lons 0)
unfolding every
first_move lats lons h k = ap (λ (ms : List RawPoint). every is_move (take 1 ms)) (moves_next lats lons 0 h k) ∙ and-true (is_move (move_at lats lons 0))

-- the first three checks have passed
pub record Early (version : ℕ) (lats lons : List ℤ) (earlier : List ℕ) : Type 0 where
  pub short : length earlier ≤ 2 ^ 30
  pub version_known : version < 2
  pub right : sized lats lons ≡ true

module _ (version : ℕ) (lats lons : List ℤ) (earlier : List ℕ) where
  pub long_data : 2 ^ 30 < length earlier → refused (plain 1) ≡ checks version lats lons earlier
  unfolding checks
  long_data h = rw (lt-leb (length earlier) (2 ^ 30) h)

  pub odd_version : length earlier ≤ 2 ^ 30 → 2 ≤ version → refused (refusal 5 0 version) ≡ checks version lats lons earlier
  unfolding checks
  odd_version e₁ h = rw (le-leb (length earlier) (2 ^ 30) e₁, le-ltb version 2 h)

  pub not_sized : length earlier ≤ 2 ^ 30 → version < 2 → sized lats lons ≡ false → refused (plain 19) ≡ checks version lats lons earlier
  unfolding checks
  not_sized e₁ e₂ h = rw (le-leb (length earlier) (2 ^ 30) e₁, lt-ltb version 2 e₂, h)

module _ {version : ℕ} {lats lons : List ℤ} {earlier : List ℕ} (g : Early version lats lons earlier) where
  left : (demand (every near lats && every near lons) (plain 20) >>
      (demand (every is_move (drop 1 (moves_of lats lons))) (plain 21) >> demand (every is_move (take 1 (moves_of lats lons))) (plain 22))) ≡ checks version lats lons earlier
  unfolding checks
  left = rw (le-leb (length earlier) (2 ^ 30) g.short, lt-ltb version 2 g.version_known, g.right)

  pub far_lat : every near lats ≡ false → refused (plain 20) ≡ checks version lats lons earlier
  far_lat h = rw h at left

  module _ (north : every near lats ≡ true) where
    pub far_lon : every near lons ≡ false → refused (plain 20) ≡ checks version lats lons earlier
    far_lon h = rw (north, h) at left

    module _ (east : every near lons ≡ true) where
      pub repeated : every is_move (drop 1 (moves_of lats lons)) ≡ false → refused (plain 21) ≡ checks version lats lons earlier
      repeated h = rw (north, east, h) at left

      module _ (apart : every is_move (drop 1 (moves_of lats lons)) ≡ true) where
        last : demand (is_move (move_at lats lons 0)) (plain 22) ≡ checks version lats lons earlier
        last = let s = sizes lats lons g.right in let e = first_move lats lons s.some (omega (arith, s.some, s.same)) in
            rw (north, east, apart, e) at left

        pub at_origin : is_move (move_at lats lons 0) ≡ false → refused (plain 22) ≡ checks version lats lons earlier
        at_origin h = rw h at last

        pub no_fault : is_move (move_at lats lons 0) ≡ true → given tt ≡ checks version lats lons earlier
        no_fault h = rw h at last
