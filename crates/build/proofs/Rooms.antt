-- The room of the working lists, list by list; sums of lengths. Assumes nothing.
use Rattle.numbers.proofs.Prelude.{ℕ, zero, suc, ◌+◌, ◌*◌, ◌/◌, ◌≤◌, ◌<◌, lt-ltb, le-leb, le-ltb, lt-leb, leb, length, take, drop, get_or, drop-length, Bool, false, List, [], ◌∷◌, ◌≡◌, refl, ap, ◌∙◌}
use Rattle.numbers.proofs.Prelude.{add-one, arith}
use Rattle.builder.{proofs.Sums.{sum_next}, specs.Yards.{sum_of}}
use Rattle.build.specs.{Room.{enough, need_of}, declared.room.{Need.{Need}, Work.{Work}}}

module _ (w : Work) (count fields bytes : ℕ) where
  pub no_starts : w.starts ≤ fields → false ≡ enough w count fields bytes
  unfolding enough
  no_starts h = rw (le-ltb (fields) w.starts h) refl

  module _ (h0 : fields < w.starts) where
    pub no_keys : w.keys < fields → false ≡ enough w count fields bytes
    unfolding enough
    no_keys h = rw (lt-ltb (fields) w.starts h0, lt-leb (fields) w.keys h) refl

    module _ (h1 : fields ≤ w.keys) where
      pub no_keys_yards : w.keys < count → false ≡ enough w count fields bytes
      unfolding enough
      no_keys_yards h = rw (lt-ltb (fields) w.starts h0, le-leb (fields) w.keys h1, lt-leb (count) w.keys h) refl

      module _ (h2 : count ≤ w.keys) where
        pub no_spare : w.spare < fields → false ≡ enough w count fields bytes
        unfolding enough
        no_spare h = rw (lt-ltb (fields) w.starts h0, le-leb (fields) w.keys h1, le-leb (count) w.keys h2, lt-leb (fields) w.spare h) refl

        module _ (h3 : fields ≤ w.spare) where
          pub no_spare_yards : w.spare < count → false ≡ enough w count fields bytes
          unfolding enough
          no_spare_yards h = rw (lt-ltb (fields) w.starts h0, le-leb (fields) w.keys h1, le-leb (count) w.keys h2, le-leb (fields) w.spare h3, lt-leb (count) w.spare h) refl

          module _ (h4 : count ≤ w.spare) where
            pub no_kept : w.kept < fields → false ≡ enough w count fields bytes
            unfolding enough
            no_kept h = rw (
              lt-ltb (fields) w.starts h0,
              le-leb (fields) w.keys h1,
              le-leb (count) w.keys h2,
              le-leb (fields) w.spare h3,
              le-leb (count) w.spare h4,
              lt-leb (fields) w.kept h,
            ) refl

            module _ (h5 : fields ≤ w.kept) where
              pub no_held : w.held < bytes → false ≡ enough w count fields bytes
              unfolding enough
              no_held h = rw (
                lt-ltb (fields) w.starts h0,
                le-leb (fields) w.keys h1,
                le-leb (count) w.keys h2,
                le-leb (fields) w.spare h3,
                le-leb (count) w.spare h4,
                le-leb (fields) w.kept h5,
                lt-leb (bytes) w.held h,
              ) refl

              module _ (h6 : bytes ≤ w.held) where
                pub no_words : w.words < fields → false ≡ enough w count fields bytes
                unfolding enough
                no_words h = rw (
                  lt-ltb (fields) w.starts h0,
                  le-leb (fields) w.keys h1,
                  le-leb (count) w.keys h2,
                  le-leb (fields) w.spare h3,
                  le-leb (count) w.spare h4,
                  le-leb (fields) w.kept h5,
                  le-leb (bytes) w.held h6,
                  lt-leb (fields) w.words h,
                ) refl

                module _ (h7 : fields ≤ w.words) where
                  pub no_places : w.places < 2 * count → false ≡ enough w count fields bytes
                  unfolding enough
                  no_places h =
                      rw (
                        lt-ltb (fields) w.starts h0,
                        le-leb (fields) w.keys h1,
                        le-leb (count) w.keys h2,
                        le-leb (fields) w.spare h3,
                        le-leb (count) w.spare h4,
                        le-leb (fields) w.kept h5,
                        le-leb (bytes) w.held h6,
                        le-leb (fields) w.words h7,
                        lt-leb (2 * count) w.places h,
                      ) refl

                  module _ (h8 : 2 * count ≤ w.places) where
                    pub boxes_last : (r : Bool) → r ≡ leb (4 * count) w.boxes → r ≡ enough w count fields bytes
                    unfolding enough
                    boxes_last r e =
                        rw (
                          lt-ltb (fields) w.starts h0,
                          le-leb (fields) w.keys h1,
                          le-leb (count) w.keys h2,
                          le-leb (fields) w.spare h3,
                          le-leb (count) w.spare h4,
                          le-leb (fields) w.kept h5,
                          le-leb (bytes) w.held h6,
                          le-leb (fields) w.words h7,
                          le-leb (2 * count) w.places h8,
                        ) e

-- ---- sums
pub record Summing (lengths : List ℕ) (sum i : ℕ) : Type 0 where
  pub index : i ≤ length lengths
  pub left : sum + sum_of (drop i lengths) ≡ sum_of lengths

pub sum_starts : (lengths : List ℕ) → Summing lengths 0 0
sum_starts lengths = record { index = omega arith; left = omega arith }

module _ (lengths : List ℕ) (sum i : ℕ) (s : Summing lengths sum i) where
  module _ (more : i < length lengths) where
    pub sum_room : sum + get_or lengths i 0 ≤ sum_of lengths
    sum_room = omega (arith, s.left, sum_next lengths i more)

    pub sum_goes : Summing lengths (sum + get_or lengths i 0) (i + 1)
    sum_goes = rw (add-one i) (record { index = omega arith; left = omega (arith, s.left, sum_next lengths i more) })

  pub sum_ends : length lengths ≤ i → sum ≡ sum_of lengths
  unfolding sum_of
  sum_ends h = let e : i ≡ length lengths = omega (arith, s.index) in
      let none : sum_of (drop i lengths) ≡ 0 = ap sum_of (ap (λ (k : ℕ). drop k lengths) e ∙ drop-length lengths) in omega (arith, s.left, none)

-- ---- what a plan needs
pub sum_front : (a b : ℕ) (list : List ℕ) → a ≤ b → sum_of (take a list) ≤ sum_of (take b list)
unfolding sum_of
sum_front zero b list h = omega arith
sum_front (suc a) zero list h = absurd (omega arith)
sum_front (suc a) (suc b) [] h = omega arith
sum_front (suc a) (suc b) (x ∷ list) h = omega (arith, sum_front a b list (omega arith))

pub need_is : (names words : ℕ) (lengths : List ℕ) (behind sum : ℕ) → behind ≡ sum_of (take (names + 1) lengths) → sum ≡ sum_of (take (names + 1 + names * (words / 4)) lengths)
    → ◌≡◌ {A = Need} (record { count = words / 4; front = names + 1; all = names + 1 + names * (words / 4); behind = behind; sum = sum }) (need_of names words lengths)
unfolding need_of
need_is names words lengths behind sum eb es =
    ap (λ (n : ℕ). record { count = words / 4; front = names + 1; all = names + 1 + names * (words / 4); behind = n; sum = sum }) eb
    ∙ ap (λ (n : ℕ). record { count = words / 4; front = names + 1; all = names + 1 + names * (words / 4); behind = sum_of (take (names + 1) lengths); sum = n }) es
