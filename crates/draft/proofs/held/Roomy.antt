-- The room that is lent with a builder, list by list. Assumes nothing.
use Rattle.numbers.proofs.Prelude.{ℕ, ◌+◌, ◌-◌, ◌*◌, ◌^◌, ◌≤◌, ◌<◌, le-leb, lt-leb, leb, Bool, true, false, ◌&&◌, ◌≡◌, refl, ap, ◌∙◌}
use Rattle.build.specs.Room.{enough}
use Rattle.draft.specs.{Held.Space.{own_enough, long_enough, standing, work_in}, declared.held.{room.Rooms.{Rooms}, state.Held.{Held}}}

module _ (r : Rooms) (names yards strings : ℕ) where
  pub no_borders : r.borders < yards → false ≡ own_enough r names yards strings
  unfolding own_enough
  no_borders h = rw (lt-leb yards r.borders h) refl

  module _ (h0 : yards ≤ r.borders) where
    pub no_lengths : r.lengths < names + 1 + names * yards → false ≡ own_enough r names yards strings
    unfolding own_enough
    no_lengths h = rw (le-leb yards r.borders h0, lt-leb (names + 1 + names * yards) r.lengths h) refl

    module _ (h1 : names + 1 + names * yards ≤ r.lengths) where
      pub no_texts : r.texts < strings → false ≡ own_enough r names yards strings
      unfolding own_enough
      no_texts h = rw (le-leb yards r.borders h0, le-leb (names + 1 + names * yards) r.lengths h1, lt-leb strings r.texts h) refl

      pub boxes_last : strings ≤ r.texts → (b : Bool) → b ≡ leb (4 * yards) r.boxes → b ≡ own_enough r names yards strings
      unfolding own_enough
      boxes_last h b e = rw (le-leb yards r.borders h0, le-leb (names + 1 + names * yards) r.lengths h1, le-leb strings r.texts h) e

  module _ (front : ℕ) where
    pub no_own : false ≡ own_enough r names yards strings → false ≡ long_enough r names yards front strings
    unfolding long_enough
    no_own e =
        let work : Bool = enough (work_in r) yards (names * yards) (strings - front) in
        ap (λ (b : Bool). b && work) e

    pub own_and_work : true ≡ own_enough r names yards strings → (b : Bool) → b ≡ enough (work_in r) yards (names * yards) (strings - front) → b ≡ long_enough r names yards front strings
    unfolding long_enough
    own_and_work e b is =
        let work : Bool = enough (work_in r) yards (names * yards) (strings - front) in
        is ∙ ap (λ (b : Bool). b && work) e

-- ---- a builder's numbers
module _ (held : Held) (r : Rooms) where
  pub many_names : 255 < held.names → false ≡ standing held r
  unfolding standing
  many_names h = rw (lt-leb held.names 255 h) refl

  module _ (h0 : held.names ≤ 255) where
    pub many_yards : 4096 < held.yards → false ≡ standing held r
    unfolding standing
    many_yards h = rw (le-leb held.names 255 h0, lt-leb held.yards 4096 h) refl

    module _ (h1 : held.yards ≤ 4096) where
      pub no_front : held.strings < held.front → false ≡ standing held r
      unfolding standing
      no_front h = rw (le-leb held.names 255 h0, le-leb held.yards 4096 h1, lt-leb held.front held.strings h) refl

      module _ (h2 : held.front ≤ held.strings) where
        pub no_data : held.bytes < 1 → false ≡ standing held r
        unfolding standing
        no_data h = rw (le-leb held.names 255 h0, le-leb held.yards 4096 h1, le-leb held.front held.strings h2, lt-leb 1 held.bytes h) refl

        module _ (h3 : 1 ≤ held.bytes) where
          pub long_data : 2 ^ 30 < held.bytes → false ≡ standing held r
          unfolding standing
          long_data h = rw (le-leb held.names 255 h0, le-leb held.yards 4096 h1, le-leb held.front held.strings h2, le-leb 1 held.bytes h3, lt-leb held.bytes (2 ^ 30) h) refl

          module _ (h4 : held.bytes ≤ 2 ^ 30) where
            pub no_bytes : r.bytes < held.bytes → false ≡ standing held r
            unfolding standing
            no_bytes h =
                rw (
                  le-leb held.names 255 h0,
                  le-leb held.yards 4096 h1,
                  le-leb held.front held.strings h2,
                  le-leb 1 held.bytes h3,
                  le-leb held.bytes (2 ^ 30) h4,
                  lt-leb held.bytes r.bytes h,
                ) refl

            pub own_last : held.bytes ≤ r.bytes → (b : Bool) → b ≡ own_enough r held.names held.yards held.strings → b ≡ standing held r
            unfolding standing
            own_last h b e =
                rw (
                  le-leb held.names 255 h0,
                  le-leb held.yards 4096 h1,
                  le-leb held.front held.strings h2,
                  le-leb 1 held.bytes h3,
                  le-leb held.bytes (2 ^ 30) h4,
                  le-leb held.bytes r.bytes h,
                ) e
