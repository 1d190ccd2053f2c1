-- Whether a text may stand in the place of a value, test by test. Assumes nothing.
use Rattle.numbers.proofs.Prelude.{ℕ, suc, ◌+◌, ◌-◌, ◌*◌, ◌^◌, ◌≤◌, ◌<◌, lt-ltb, le-leb, le-ltb, leb-true, lt-leb, leb, length, take, get_or, Bool, true, false, ◌&&◌, List, ◌≡◌, refl, ap, mul_comm}
use Rattle.numbers.{proofs.{Prelude.{suc-mul, mul-le-mul_right, arith}, Tests.{both}}, specs.Reply.{Reply, given, refused, plain}}
use Rattle.builder.{proofs.Counting.{lengths_room}, specs.{File.{is_text}, Yards.{Text, sum_of}}}
use Rattle.draft.specs.{Held.Space.{long_enough, standing}, declared.held.{room.Rooms.{Rooms}, state.Held.{Held}}}
use Rattle.edit.specs.{declared.replacing.check.Spot.{Spot}, inner.Replacing.Spot.{text_at, spot_in, within, size_with, checked_of}}

-- ---- the index of a value
pub index_inside : (names yards yard field : ℕ) → yard < yards → field < names → text_at names yard field < names + 1 + names * yards
index_inside names yards yard field h k = omega (arith, suc-mul yard names, mul-le-mul_right {m = suc yard} {n = yards} names h, mul_comm names yards)

pub index_few : (names yards yard field : ℕ) → names ≤ 255 → yards ≤ 4096 → yard < yards → field < names → text_at names yard field < 2 ^ 24
index_few names yards yard field a b h k = omega (arith, index_inside names yards yard field h k, lengths_room names yards a b)

-- ---- a spot
pub spot_is : (index : ℕ) (lengths : List ℕ) (place : ℕ) → place ≡ sum_of (take index lengths) →
    ◌≡◌ {A = Spot} (record { index = index; place = place; from = place + get_or lengths index 0 }) (spot_in index lengths)
spot_is index lengths place e = ap (λ (n : ℕ). record { index = index; place = n; from = n + get_or lengths index 0 }) e

pub spot_ordered : (index : ℕ) (lengths : List ℕ) (spot : Spot) → spot ≡ spot_in index lengths → spot.place ≤ spot.from
spot_ordered index lengths spot e = omega (arith, ap (λ (s : Spot). s.place) e, ap (λ (s : Spot). s.from) e)

module _ (held : Held) (spot : Spot) where
  pub too_early : spot.place < held.front → false ≡ within held spot
  unfolding within
  too_early h = rw (lt-leb held.front spot.place h) refl

  module _ (h0 : held.front ≤ spot.place) where
    pub too_late : held.strings < spot.from → false ≡ within held spot
    unfolding within
    too_late h = rw (le-leb held.front spot.place h0, lt-leb spot.from held.strings h) refl

    module _ (h1 : spot.from ≤ held.strings) where
      pub too_long : 255 < spot.from - spot.place → false ≡ within held spot
      unfolding within
      too_long h = rw (le-leb held.front spot.place h0, le-leb spot.from held.strings h1, lt-leb (spot.from - spot.place) 255 h) refl

      pub short_last : spot.from - spot.place ≤ 255 → (b : Bool) → b ≡ leb held.strings (2 ^ 40) → b ≡ within held spot
      unfolding within
      short_last h b e = rw (le-leb held.front spot.place h0, le-leb spot.from held.strings h1, le-leb (spot.from - spot.place) 255 h) e

pub record Within (held : Held) (spot : Spot) : Type 0 where
  pub behind_front : held.front ≤ spot.place
  pub inside : spot.from ≤ held.strings
  pub few : spot.from - spot.place ≤ 255
  pub short : held.strings ≤ 2 ^ 40

pub within_parts : (held : Held) (spot : Spot) → within held spot ≡ true → Within held spot
unfolding within
within_parts held spot e =
    let a = both (leb held.front spot.place) (leb spot.from held.strings && (leb (spot.from - spot.place) 255 && leb held.strings (2 ^ 40))) e in
    let b = both (leb spot.from held.strings) (leb (spot.from - spot.place) 255 && leb held.strings (2 ^ 40)) a.1 in
    let c = both (leb (spot.from - spot.place) 255) (leb held.strings (2 ^ 40)) b.1 in record {
      behind_front = leb-true held.front spot.place a.0;
      inside = leb-true spot.from held.strings b.0;
      few = leb-true (spot.from - spot.place) 255 c.0;
      short = leb-true held.strings (2 ^ 40) c.1;
    }

-- ---- the tests, one after another
module _ (held : Held) (rooms : Rooms) (out yard field : ℕ) (text : Text) (lengths : List ℕ) where
  abbrev spot : Spot
  spot = spot_in (text_at held.names yard field) lengths

  abbrev reply : Reply Spot
  reply = checked_of held rooms out yard field text lengths

  pub fallen : standing held rooms ≡ false → refused (plain 28) ≡ reply
  unfolding checked_of
  fallen h = rw h refl

  module _ (h0 : standing held rooms ≡ true) where
    pub no_yard : held.yards ≤ yard → refused (plain 30) ≡ reply
    unfolding checked_of
    no_yard h = rw (h0, le-ltb yard held.yards h) refl

    module _ (h1 : yard < held.yards) where
      pub no_field : held.names ≤ field → refused (plain 30) ≡ reply
      unfolding checked_of
      no_field h = rw (h0, lt-ltb yard held.yards h1, le-ltb field held.names h) refl

      module _ (h2 : field < held.names) where
        pub no_text : is_text text ≡ false → refused (plain 26) ≡ reply
        unfolding checked_of
        no_text h = rw (h0, lt-ltb yard held.yards h1, lt-ltb field held.names h2, h) refl

        module _ (h3 : is_text text ≡ true) where
          pub outside : within held spot ≡ false → refused (plain 28) ≡ reply
          unfolding checked_of
          outside h = rw (h0, lt-ltb yard held.yards h1, lt-ltb field held.names h2, h3, h) refl

          module _ (h4 : within held spot ≡ true) where
            pub no_aside : out < held.strings → refused (plain 28) ≡ reply
            unfolding checked_of
            no_aside h = rw (h0, lt-ltb yard held.yards h1, lt-ltb field held.names h2, h3, h4, lt-leb held.strings out h) refl

            module _ (h5 : held.strings ≤ out) where
              pub no_space : long_enough rooms held.names held.yards held.front (size_with held spot (length text)) ≡ false → refused (plain 28) ≡ reply
              unfolding checked_of
              no_space h = rw (h0, lt-ltb yard held.yards h1, lt-ltb field held.names h2, h3, h4, le-leb held.strings out h5, h) refl

              pub spotted : long_enough rooms held.names held.yards held.front (size_with held spot (length text)) ≡ true → given spot ≡ reply
              unfolding checked_of
              spotted h = rw (h0, lt-ltb yard held.yards h1, lt-ltb field held.names h2, h3, h4, le-leb held.strings out h5, h) refl
