-- The data section, yard by yard. Assumes nothing.
use Rattle.numbers.proofs.Prelude.{ℕ, suc, ◌+◌, ◌*◌, ◌^◌, ◌≤◌, ◌<◌, leb-true, ltb, leb, ℤ, length, take, drop, get_or, set, length-append, length-set, length-take-le, take_at}
use Rattle.numbers.proofs.Prelude.{length-sets, sets-eq, Bool, not, List, [], ◌∷◌, ◌++◌, append_assoc, append-nil, ◌≡◌, refl, sym, ap, subst, ◌∙◌, arith}
use Rattle.numbers.specs.{Reply.{Reply, given, refused, refusal, plain, demand, ◌>>=◌, ◌>>◌}, declared.refusal.Refusal.{Refusal}}
use Rattle.writer.specs.{Pieces.{pieces_of}, Writer.{border_of}, inner.Stored.{Stored}}
use Rattle.builder.proofs.{Checking.{four_words, next_is, begins_inside}, drawing.Lending.{never_given, past, demanded, given_same}}
use Rattle.builder.specs.{Borders.{Drawn, appended, with_border, drawn_from, drawn_of, Draws}, Yards.{Text, part_of, next_part, yards_from}}
use Rattle.builder.specs.inner.Drawing.Section.{yard_appended, spread, DrawsAll}

-- ---- an answer, with the places so far before its own
abbrev carried : List ℕ → Reply Drawn → Reply Drawn
carried done (given d) = given (record { bytes = d.bytes; places = done ++ d.places })
carried done (refused why) = refused why

-- with one place more before them
abbrev placed_at : ℕ → Reply Drawn → Reply Drawn
placed_at n r = r >>= λ d. given (record { bytes = d.bytes; places = n ∷ d.places })

carried_none : (r : Reply Drawn) → carried [] r ≡ r
carried_none (given d) = refl
carried_none (refused why) = refl

carried_more : (done : List ℕ) (n : ℕ) (r : Reply Drawn) → carried done (placed_at n r) ≡ carried (done ++ (n ∷ [])) r
carried_more done n (given d) = ap (λ (ps : List ℕ). given (record { bytes = d.bytes; places = ps })) (sym (append_assoc done (n ∷ []) d.places))
carried_more done n (refused why) = refl

-- ---- places at every second word
pub spread_more : (i : ℕ) (done : List ℕ) (n : ℕ) (list : List ℕ) → spread i (done ++ (n ∷ [])) list ≡ set (spread i done list) (i + 2 * length done) n
unfolding spread
spread_more i [] n list = let e : i ≡ i + 2 * 0 = omega arith in ap (λ (k : ℕ). set list k n) e
spread_more i (d ∷ done) n list = let e : i + 2 + 2 * length done ≡ i + 2 * suc (length done) = omega arith in
    spread_more (i + 2) done n (set list i d) ∙ ap (λ (k : ℕ). set (spread (i + 2) done (set list i d)) k n) e

-- ---- a border that was added fits the room
pub appended_fits : (room : ℕ) (sofar : List ℕ) (cut : Bool) (pieces : ℕ) (border : Reply (List ℕ)) (all : List ℕ) → appended room sofar cut pieces border ≡ given all → length all ≤ room
unfolding appended
appended_fits room sofar cut pieces (refused why) all e = absurd (never_given why all e)
appended_fits room sofar cut pieces (given bytes) all e =
    let inner : Reply (List ℕ) = demand (leb (length (sofar ++ bytes)) room) (plain 28) >> given (sofar ++ bytes) in
    let e' : inner ≡ given all = past (demand (not cut) (refusal 23 0 pieces)) inner all e in
    let fits : length (sofar ++ bytes) ≤ room = leb-true (length (sofar ++ bytes)) room (demanded (leb (length (sofar ++ bytes)) room) (plain 28) (given (sofar ++ bytes)) all e') in
    let same : sofar ++ bytes ≡ all = given_same (sofar ++ bytes) all (past (demand (leb (length (sofar ++ bytes)) room) (plain 28)) (given (sofar ++ bytes)) all e') in
    subst (λ (l : List ℕ). length l ≤ room) same fits

-- ---- drawing looks at no text
pub drawn_alone : (version room : ℕ) (sofar ns : List ℕ) (ys xs : List ℤ) (w : List ℕ) (t t' : List Text) →
    drawn_from version room sofar (yards_from ns ys xs w t) ≡ drawn_from version room sofar (yards_from ns ys xs w t')
unfolding yards_from drawn_from with_border
drawn_alone version room sofar (a ∷ b ∷ p ∷ v ∷ rest) ys xs w t t' =
    go (yard_appended version room sofar ys a xs b w (5 * p)) (λ more. drawn_alone version room more rest (drop a ys) (drop b xs) (drop (5 * p) w) (drop v t) (drop v t')) where
      go : (r : Reply (List ℕ)) → ((more : List ℕ) → drawn_from version room more (yards_from rest (drop a ys) (drop b xs) (drop (5 * p) w) (drop v t)) ≡ drawn_from
          version room more (yards_from rest (drop a ys) (drop b xs) (drop (5 * p) w) (drop v t'))) → (r >>= λ more. placed_at (length sofar)
          (drawn_from version room more (yards_from rest (drop a ys) (drop b xs) (drop (5 * p) w) (drop v t)))) ≡ (r >>= λ more. placed_at (length sofar)
          (drawn_from version room more (yards_from rest (drop a ys) (drop b xs) (drop (5 * p) w) (drop v t'))))
      go (given more) same = ap (placed_at (length sofar)) (same more)
      go (refused why) same = refl
drawn_alone version room sofar (a ∷ b ∷ p ∷ []) ys xs w t t' = refl
drawn_alone version room sofar (a ∷ b ∷ []) ys xs w t t' = refl
drawn_alone version room sofar (a ∷ []) ys xs w t t' = refl
drawn_alone version room sofar [] ys xs w t t' = refl

none_left : (version room : ℕ) (sofar ns : List ℕ) (ys xs : List ℤ) (w : List ℕ) → length ns < 4 →
    drawn_from version room sofar (yards_from ns ys xs w []) ≡ given (record { bytes = sofar; places = [] })
unfolding yards_from drawn_from
none_left version room sofar (a ∷ b ∷ p ∷ v ∷ rest) ys xs w h = let few : suc (suc (suc (suc (length rest)))) < 4 = h in absurd (omega (arith, few))
none_left version room sofar (a ∷ b ∷ p ∷ []) ys xs w h = refl
none_left version room sofar (a ∷ b ∷ []) ys xs w h = refl
none_left version room sofar (a ∷ []) ys xs w h = refl
none_left version room sofar [] ys xs w h = refl

module _ (version room : ℕ) (yards : List ℕ) (lats lons : List ℤ) (pieces before : List ℕ) (long : ℕ) where
  -- from what is left of the words
  abbrev from : List ℕ → List ℕ → ℕ → ℕ → ℕ → Reply Drawn
  from sofar left lat lon piece = drawn_from version room sofar (yards_from left (drop lat lats) (drop lon lons) (drop piece pieces) [])

  abbrev whole : Reply Drawn
  whole = drawn_of version room (yards_from yards lats lons pieces [])

  pub record Section (places bytes : List ℕ) (size lat lon piece : ℕ) (left : List ℕ) (cut count : ℕ) : Type 0 where
    pub done : List ℕ
    pub four : cut ≡ 4
    pub counted : count ≡ length done
    pub tall : lat ≤ length lats
    pub wide : lon ≤ length lons
    pub deep : piece ≤ length pieces
    pub full : size ≤ room
    pub room_in : room ≤ length bytes
    pub size_is : length bytes ≡ long
    pub stored : places ≡ spread 1 done before
    pub places_size : length places ≡ length before
    pub same : carried done (from (take size bytes) left lat lon piece) ≡ whole

  first_byte : (bytes : List ℕ) → 0 < length bytes → get_or bytes 0 0 ≡ 0 → take 1 bytes ≡ 0 ∷ []
  first_byte [] h e = absurd (omega arith)
  first_byte (b ∷ bytes) h e = ap (λ (n : ℕ). n ∷ []) e

  pub section_starts : (bytes : List ℕ) → 0 < room → room ≤ length bytes → length bytes ≡ long → get_or bytes 0 0 ≡ 0 → (left : List ℕ) (cut count : ℕ) → left ≡ yards → cut ≡ 4
      → count ≡ 0 → Section before bytes 1 0 0 0 left cut count
  unfolding spread drawn_of
  section_starts bytes some fits is zero' left cut count all by none = record {
    done = [];
    four = by;
    counted = none;
    tall = omega arith;
    wide = omega arith;
    deep = omega arith;
    full = some;
    room_in = fits;
    size_is = is;
    stored = refl;
    places_size = refl;
    same = carried_none (from (take 1 bytes) left 0 0 0) ∙ ap (λ (ns : List ℕ). from (take 1 bytes) ns 0 0 0) all ∙ ap (λ (s : List ℕ). from s yards 0 0 0) (first_byte bytes (omega (arith, some, fits)) zero');
  }

  module _ (places bytes : List ℕ) (size lat lon piece : ℕ) (left : List ℕ) (by count : ℕ) (c : Section places bytes size lat lon piece left by count) where
    module _ (yard rest : List ℕ) (cut : left ≡ yard ++ rest) (four : length yard ≡ by) where
      abbrev a : ℕ
      a = get_or yard 0 0

      abbrev b : ℕ
      b = get_or yard 1 0

      abbrev w : ℕ
      w = 5 * get_or yard 2 0

      abbrev here : Reply (List ℕ)
      here = yard_appended version room (take size bytes) (drop lat lats) a (drop lon lons) b (drop piece pieces) w

      abbrev later : List ℕ → Reply Drawn
      later all = drawn_from version room all (yards_from rest (drop a (drop lat lats)) (drop b (drop lon lons)) (drop w (drop piece pieces)) [])

      goes : (r : Reply (List ℕ)) → (texts : List Text) → (r >>= λ all. placed_at (length (take size bytes)) (drawn_from version room all (yards_from rest
          (drop a (drop lat lats)) (drop b (drop lon lons)) (drop w (drop piece pieces)) texts))) ≡ (r >>= λ all. placed_at (length (take size bytes)) (later all))
      goes (given all) texts =
          ap (placed_at (length (take size bytes))) (drawn_alone version room all rest (drop a (drop lat lats)) (drop b (drop lon lons)) (drop w (drop piece pieces)) texts [])
      goes (refused why) texts = refl

      step : from (take size bytes) left lat lon piece ≡ (here >>= λ all. placed_at (length (take size bytes)) (later all))
      unfolding yards_from drawn_from with_border
      step =
          ap (λ (ns : List ℕ). drawn_from version room (take size bytes) (yards_from ns (drop lat lats) (drop lon lons) (drop piece pieces) [])) (cut ∙ four_words yard rest (four ∙ c.four))
          ∙ goes here (drop (get_or yard 3 0) [])

      -- a border that is refused refuses all
      pub section_refused : (out : List ℕ) (r : Reply ℕ) → Draws here (take size bytes) out r → (why : Refusal) → r ≡ refused why → (last : Reply ℕ) → last ≡ refused why → DrawsAll whole before places bytes last
      unfolding Draws DrawsAll
      section_refused out r d why e last is = let no' : here ≡ refused why = subst (λ (x : Reply ℕ). Draws here (take size bytes) out x) e d in
          rw is (sym c.same ∙ ap (carried c.done) (step ∙ ap (λ (k : Reply (List ℕ)). k >>= λ all. placed_at (length (take size bytes)) (later all)) no'))

      module _ (out : List ℕ) (r : Reply ℕ) (d : Draws here (take size bytes) out r) (n : ℕ) (e : r ≡ given n) where
        drawn : (here ≡ given (take size bytes ++ take n out)) × (n ≤ length out)
        unfolding Draws
        drawn = subst (λ (x : Reply ℕ). Draws here (take size bytes) out x) e d

        pub border_inside : n ≤ length out
        border_inside = drawn.1

        before_size : length (take size bytes) ≡ size
        before_size = length-take-le size bytes (omega (arith, c.full, c.room_in))

        pub border_fits : size + n ≤ room
        border_fits =
            let l = appended_fits room (take size bytes) (ltb (length (drop piece pieces)) w) (length (pieces_of (take w (drop piece pieces))))
            (border_of version (part_of a (drop lat lats)) (part_of b (drop lon lons)) (pieces_of (take w (drop piece pieces))) (take size bytes)) (take size bytes ++ take n out) drawn.0 in
            omega (arith, l, length-append (take size bytes) (take n out), before_size, length-take-le n out drawn.1)

        pub border_put : room ≤ 1073741824 → size + length (take n out) < 2 ^ 62
        border_put most = omega (arith, border_fits, length-take-le n out drawn.1, most)

        pub section_goes : (places' : List ℕ) → places' ≡ set places (2 * count + 1) size → (bytes' : List ℕ) (size' : ℕ) → Stored bytes size (take n out) bytes' size'
            → (lat' lon' piece' : ℕ) → lat' ≡ next_part (length lats) lat a → lon' ≡ next_part (length lons) lon b → piece' ≡ next_part (length pieces) piece w
            → (by' count' : ℕ) → by' ≡ by → count' ≡ count + 1 → Section places' bytes' size' lat' lon' piece' rest by' count'
        section_goes places' ep bytes' size' s lat' lon' piece' el eo ec by' count' kept next' =
            let many : length (take n out) ≡ n = length-take-le n out drawn.1 in
            let next : size' ≡ size + length (take n out) = s.place_after in
            let room' : size + length (take n out) ≤ length bytes = omega (arith, many, border_fits, c.room_in) in
            let lay : bytes' ≡ (take size bytes ++ take n out) ++ drop (size + length (take n out)) bytes = s.stored ∙ sets-eq (take n out) bytes size room' in
            let front : take size' bytes' ≡ take size bytes ++ take n out =
            ap (take size') lay ∙
            take_at (take size bytes ++ take n out) (drop (size + length (take n out)) bytes) size' (length-append (take size bytes) (take n out) ∙ omega (arith, before_size, next)) in
            let at : 2 * count + 1 ≡ 1 + 2 * length c.done = omega (arith, c.counted) in
            let whole' : carried c.done (placed_at size (later (take size bytes ++ take n out))) ≡ whole =
            sym (ap (carried c.done)
            (step ∙ (ap (λ (k : Reply (List ℕ)). k >>= λ all. placed_at (length (take size bytes)) (later all)) drawn.0 ∙
            ap (λ (k : ℕ). placed_at k (later (take size bytes ++ take n out))) before_size))) ∙ c.same in
            let ys : drop lat' lats ≡ drop a (drop lat lats) = next_is lats lat a lat' el in
            let xs : drop lon' lons ≡ drop b (drop lon lons) = next_is lons lon b lon' eo in
            let ws : drop piece' pieces ≡ drop w (drop piece pieces) = next_is pieces piece w piece' ec in
            let there : from (take size' bytes') rest lat' lon' piece' ≡ later (take size bytes ++ take n out) = rw (front, ys, xs, ws) in
            record {
              done = c.done ++ (size ∷ []);
              four = kept ∙ c.four;
              counted = omega (arith, next', c.counted, length-append c.done (size ∷ []));
              tall = begins_inside (length lats) lat a c.tall lat' el;
              wide = begins_inside (length lons) lon b c.wide lon' eo;
              deep = begins_inside (length pieces) piece w c.deep piece' ec;
              full = omega (arith, next, many, border_fits);
              room_in = omega (arith, c.room_in, ap length s.stored, length-sets bytes size (take n out));
              size_is = ap length s.stored ∙ (length-sets bytes size (take n out) ∙ c.size_is);
              stored = ep ∙ (ap (λ (k : ℕ). set places k size) at ∙ (ap (λ (l : List ℕ). set l (1 + 2 * length c.done) size) c.stored ∙ sym (spread_more 1 c.done size before)));
              places_size = ap length ep ∙ (length-set places (2 * count + 1) size ∙ c.places_size);
              same = ap (carried (c.done ++ (size ∷ []))) there ∙ (sym (carried_more c.done size (later (take size bytes ++ take n out))) ∙ whole');
            }

    pub section_ends : length left < by → DrawsAll whole before places bytes (given size)
    unfolding DrawsAll
    section_ends few =
        let short : length left < 4 = omega (arith, few, c.four) in
        let end : whole ≡ given (record { bytes = take size bytes; places = c.done ++ [] }) =
        sym c.same ∙ ap (carried c.done) (none_left version room (take size bytes) left (drop lat lats) (drop lon lons) (drop piece pieces) short) in
        record {
          drawn = record { bytes = take size bytes; places = c.done };
          is = end ∙ ap (λ (ps : List ℕ). given (record { bytes = take size bytes; places = ps })) (append-nil c.done);
          full = omega (arith, c.full, c.room_in);
          front = refl;
          stored = c.stored;
        }
