-- Replies that follow one another, as the code meets them. Assumes nothing.
use Rattle.numbers.proofs.Prelude.{ℕ, zero, suc, ◌+◌, ◌-◌, ◌/◌, ◌%◌, ◌≤◌, ◌<◌, eq-eqb, ne_eqb, le-leb, lt-leb, eqb, Float, ℤ, length, take, drop, get_or, length-drop, drop-drop, Bool}
use Rattle.numbers.proofs.Prelude.{true, false, List, [], ◌∷◌, ◌≡◌, refl, sym, ap, ◌∙◌, arith}
use Rattle.numbers.{proofs.Replies.{given_from, refused_from}, specs.{Answer.{Answer}, Reply.{Reply, given, refused, refusal, plain, demand, ◌>>=◌, ◌>>◌}, declared.refusal.Refusal.{Refusal}}}
use Rattle.calendar.specs.Moments.{instant_of}
use Rattle.request.proofs.Texts.{form_length, behind_on, behind_end, until_take, part_is, place_is}
use Rattle.request.specs.{Clock.{Date, Time, When, utc, time_of, date_of, when_of, day_of, second_of, instant_at}, Number.{Size, Fraction, angle_of, side_of, degrees_of, nearest_to}}
use Rattle.request.specs.Request.{Spelt, at, star_of, body_of, is_hex, is_sealed, is_address, is_rmc, is_known, is_mode, place_of, in_field, turned, fix_of, fields_of, sentence_of, place_in, in_word, plain_of, spelt_of}
use Rattle.request.specs.{Request.{meaning, request_of}, Text.{every, formed, count, xors, behind, field, to_comma, word, unblanked, past_word, next_word, line_of}, Told.{shown}}
use Rattle.request.specs.declared.read.Fix.{Fix}

-- ---- fields
module _ (n : ℕ) (body : List ℕ) (from to : ℕ) (b : drop from body ≡ behind n body) where
  pub field_is : to ≡ from + length (to_comma (drop from body)) → take (to - from) (drop from body) ≡ field n body
  field_is e = part_is 44 44 body from to e ∙ ap to_comma b

  pub field_place : from ≤ length body → 1 + from ≡ place_of n body
  field_place h = ap (λ (k : ℕ). 1 + k) (place_is body (behind n body) from b h)

-- what a field spells, by its bytes and its place
pub in_its_field : (n : ℕ) (body : List ℕ) {text : List ℕ} {place : ℕ} → text ≡ field n body → place ≡ place_of n body → {A : Type 0} (reading : List ℕ → Answer A)
    → at place (reading text) ≡ in_field n body reading
in_its_field n body t p reading = λ i. at (p i) (reading (t i))

-- ---- what was shown
pub record Shown {A B : Type 0} (reply : Reply A) (f : A → B) (b : B) : Type 0 where
  pub it : A
  pub is : given it ≡ reply
  pub shows : b ≡ f it

module _ {A B : Type 0} (reply : Reply A) (f : A → B) where
  pub shown_from : {b : B} → given b ≡ shown reply f → Shown reply f b
  shown_from e = let g = given_from reply (λ a. given (f a)) e in let h = g.onto in record { it = g.it; is = g.is; shows = cc }

  pub stopped : {why : Refusal} → refused why ≡ shown reply f → refused why ≡ reply
  stopped e = refused_from reply f e

-- ---- a size and its side
abbrev turning : Reply Size → Reply Bool → Reply Fraction
turning a b = do
  size ← a
  side ← b
  given (record { minus = side; size = size })

module _ (a : Reply Size) (b : Reply Bool) where
  turning_are : {size : Size} {side : Bool} → given size ≡ a → given side ≡ b → given (nearest_to (record { minus = side; size = size })) ≡ shown (turning a b) nearest_to
  turning_are p q = rw (← p, ← q) refl

  turning_size : {why : Refusal} → refused why ≡ a → refused why ≡ shown (turning a b) nearest_to
  turning_size p = rw (← p) refl

  turning_side : {size : Size} {why : Refusal} → given size ≡ a → refused why ≡ b → refused why ≡ shown (turning a b) nearest_to
  turning_side p q = rw (← p, ← q) refl

module _ (n width limit plus minus : ℕ) (body : List ℕ) where
  pub turned_are : {size : Size} {side : Bool} → given size ≡ in_field n body (angle_of width limit) → given side ≡ in_field (n + 1) body (side_of plus minus)
      → {x : Float} → x ≡ nearest_to (record { minus = side; size = size }) → given x ≡ shown (turned n width limit plus minus body) nearest_to
  unfolding turned
  turned_are p q f = ap given f ∙ turning_are (in_field n body (angle_of width limit)) (in_field (n + 1) body (side_of plus minus)) p q

  pub turned_size : {why : Refusal} → refused why ≡ in_field n body (angle_of width limit) → refused why ≡ shown (turned n width limit plus minus body) nearest_to
  unfolding turned
  turned_size p = turning_size (in_field n body (angle_of width limit)) (in_field (n + 1) body (side_of plus minus)) p

  pub turned_side : {size : Size} {why : Refusal} → given size ≡ in_field n body (angle_of width limit) → refused why ≡ in_field (n + 1) body (side_of plus minus)
      → refused why ≡ shown (turned n width limit plus minus body) nearest_to
  unfolding turned
  turned_side p q = turning_side (in_field n body (angle_of width limit)) (in_field (n + 1) body (side_of plus minus)) p q

-- ---- time, places, date
abbrev fixing : Reply Time → Reply Fraction → Reply Fraction → Reply Date → Reply Spelt
fixing a b c d = do
  time ← a
  lat ← b
  lon ← c
  date ← d
  given (record { lat = lat; lon = lon; when = utc date time })

module _ (a : Reply Time) (b c : Reply Fraction) (d : Reply Date) where
  fix_1 : {why : Refusal} → refused why ≡ a → refused why ≡ shown (fixing a b c d) meaning
  fix_1 p = rw (← p) refl

  module _ {time : Time} (p : given time ≡ a) where
    fix_2 : {why : Refusal} → refused why ≡ b → refused why ≡ shown (fixing a b c d) meaning
    fix_2 q = rw (← p, ← q) refl

    module _ {lat : Fraction} (q : given lat ≡ b) where
      fix_3 : {why : Refusal} → refused why ≡ c → refused why ≡ shown (fixing a b c d) meaning
      fix_3 r = rw (← p, ← q, ← r) refl

      module _ {lon : Fraction} (r : given lon ≡ c) where
        fix_4 : {why : Refusal} → refused why ≡ d → refused why ≡ shown (fixing a b c d) meaning
        fix_4 s = rw (← p, ← q, ← r, ← s) refl

        fix_5 : {date : Date} → given date ≡ d → given (meaning (record { lat = lat; lon = lon; when = utc date time })) ≡ shown (fixing a b c d) meaning
        fix_5 s = rw (← p, ← q, ← r, ← s) refl

same_fix : {x y u v : Float} {z w : ℤ} → x ≡ y → u ≡ v → z ≡ w → ◌≡◌ {A = Fix} (record { lat = x; lon = u; instant = z }) (record { lat = y; lon = v; instant = w })
same_fix e f g = cc

module _ (body : List ℕ) where
  pub fix_time : {why : Refusal} → refused why ≡ shown (in_field 1 body time_of) second_of → refused why ≡ shown (fix_of body) meaning
  unfolding fix_of
  fix_time e = fix_1 (in_field 1 body time_of) (turned 3 2 90 78 83 body) (turned 5 3 180 69 87 body) (in_field 9 body date_of) (stopped (in_field 1 body time_of) second_of e)

  module _ {second : ℕ} (e : given second ≡ shown (in_field 1 body time_of) second_of) where
    pub fix_lat : {why : Refusal} → refused why ≡ shown (turned 3 2 90 78 83 body) nearest_to → refused why ≡ shown (fix_of body) meaning
    unfolding fix_of
    fix_lat f = fix_2 (in_field 1 body time_of) (turned 3 2 90 78 83 body) (turned 5 3 180 69 87 body) (in_field 9 body date_of) (shown_from (in_field 1 body time_of) second_of e).is (stopped
        (turned 3 2 90 78 83 body) nearest_to f)

    module _ {lat : Float} (f : given lat ≡ shown (turned 3 2 90 78 83 body) nearest_to) where
      pub fix_lon : {why : Refusal} → refused why ≡ shown (turned 5 3 180 69 87 body) nearest_to → refused why ≡ shown (fix_of body) meaning
      unfolding fix_of
      fix_lon g = fix_3 (in_field 1 body time_of) (turned 3 2 90 78 83 body) (turned 5 3 180 69 87 body) (in_field 9 body date_of) (shown_from (in_field 1 body time_of) second_of e).is (shown_from
          (turned 3 2 90 78 83 body) nearest_to f).is (stopped (turned 5 3 180 69 87 body) nearest_to g)

      module _ {lon : Float} (g : given lon ≡ shown (turned 5 3 180 69 87 body) nearest_to) where
        pub fix_date : {why : Refusal} → refused why ≡ shown (in_field 9 body date_of) day_of → refused why ≡ shown (fix_of body) meaning
        unfolding fix_of
        fix_date h = fix_4 (in_field 1 body time_of) (turned 3 2 90 78 83 body) (turned 5 3 180 69 87 body) (in_field 9 body date_of) (shown_from (in_field 1 body time_of) second_of e).is (shown_from
            (turned 3 2 90 78 83 body) nearest_to f).is (shown_from (turned 5 3 180 69 87 body) nearest_to g).is (stopped (in_field 9 body date_of) day_of h)

        pub fix_is : {day : ℕ} → given day ≡ shown (in_field 9 body date_of) day_of → {z : ℤ} → z ≡ instant_of day second
            → given (record { lat = lat; lon = lon; instant = z }) ≡ shown (fix_of body) meaning
        unfolding fix_of meaning instant_at
        fix_is h i = let t = shown_from (in_field 1 body time_of) second_of e in let l = shown_from (turned 3 2 90 78 83 body) nearest_to f in
            let o = shown_from (turned 5 3 180 69 87 body) nearest_to g in let d = shown_from (in_field 9 body date_of) day_of h in
            ap given (same_fix l.shows o.shows (i ∙ ap (λ (n : ℕ). instant_of n second) d.shows ∙ ap (instant_of (day_of d.it)) t.shows))
            ∙ fix_5 (in_field 1 body time_of) (turned 3 2 90 78 83 body) (turned 5 3 180 69 87 body) (in_field 9 body date_of) t.is l.is o.is d.is

-- ---- the tests of a sentence
pub address_is : (text : List ℕ) → 2 ≤ length text → length text ≤ 8 → every true text ≡ is_address text
address_is text l h = sym (simp (le-leb 2 (length text) l, le-leb (length text) 8 h))

pub rmc_short : (text : List ℕ) → length text < 2 → false ≡ is_rmc text
rmc_short text h = form_length (82 ∷ 77 ∷ 67 ∷ []) (drop 2 text) (λ e. omega (arith, length-drop 2 text))

pub mode_none : (text : List ℕ) → length text ≡ 0 → true ≡ is_mode text
unfolding is_mode
mode_none [] h = refl
mode_none (b ∷ bs) h = absurd (omega arith)

pub mode_long : (text : List ℕ) → 1 < length text → false ≡ is_mode text
unfolding is_mode
mode_long [] h = absurd (omega arith)
mode_long (b ∷ []) h = absurd (omega arith)
mode_long (b ∷ d ∷ more) h = refl

pub mode_one : (text : List ℕ) → 1 ≤ length text → length text < 2 → is_mode text ≡ is_known (get_or text 0 0)
unfolding is_mode
mode_one [] n h = absurd (omega arith)
mode_one (b ∷ []) n h = refl
mode_one (b ∷ d ∷ more) n h = absurd (omega arith)

-- the checksum
module _ (line : List ℕ) {star : ℕ} (s : star ≡ star_of line) where
  there : get_or line star 0 ≡ get_or line (star_of line) 0
  there = ap (λ (k : ℕ). get_or line k 0) s

  pub seal_star : (get_or line star 0 ≡ 42 → ⊥) → false ≡ is_sealed line
  unfolding is_sealed
  seal_star n = sym (simp (ne_eqb (get_or line (star_of line) 0) 42 (λ e. n (there ∙ e))))

  module _ (a : get_or line star 0 ≡ 42) where
    pub seal_count : (count 42 line ≡ 1 → ⊥) → false ≡ is_sealed line
    unfolding is_sealed
    seal_count n = sym (simp (eq-eqb (get_or line (star_of line) 0) 42 (sym there ∙ a), ne_eqb (count 42 line) 1 n))

    module _ (b : count 42 line ≡ 1) {sum : ℕ} (x : sum ≡ xors (body_of line)) where
      pub seal_high : is_hex (sum / 16) (get_or line (star + 1) 0) ≡ false → false ≡ is_sealed line
      unfolding is_sealed
      seal_high e = sym (simp (eq-eqb (get_or line (star_of line) 0) 42 (sym there ∙ a), eq-eqb (count 42 line) 1 b, rw (x, s) at e))

      pub seal_low : is_hex (sum / 16) (get_or line (star + 1) 0) ≡ true → is_hex (sum % 16) (get_or line (star + 2) 0) ≡ is_sealed line
      unfolding is_sealed
      seal_low e = ap (λ (n : ℕ). is_hex (n % 16) (get_or line (star + 2) 0)) x ∙ ap (λ (k : ℕ). is_hex (xors (body_of line) % 16) (get_or line (k + 2) 0)) s
          ∙ sym (simp (eq-eqb (get_or line (star_of line) 0) 42 (sym there ∙ a), eq-eqb (count 42 line) 1 b, rw (x, s) at e))

pub body_is : (line : List ℕ) {star : ℕ} → star ≡ star_of line → take (star - 1) (drop 1 line) ≡ body_of line
body_is line s = ap (λ (k : ℕ). take (k - 1) (drop 1 line)) s

pub seal_none : (line : List ℕ) {star : ℕ} → star ≡ star_of line → star < 1 → get_or line 0 0 ≡ 36 → false ≡ is_sealed line
seal_none line {star} s h p = seal_star line s (λ e. omega (arith, p, e, ap (λ (k : ℕ). get_or line k 0) (let z : star ≡ 0 = omega arith in z)))

pub seal_some : (line : List ℕ) {star : ℕ} → star ≡ star_of line → get_or line 0 0 ≡ 36 → is_sealed line ≡ true → 1 ≤ star
seal_some line {star = zero} s p e = absurd (let f = seal_none line s (omega arith) p in let z : ◌≡◌ {A = ℕ} 0 1 = cc in omega arith)
seal_some line {star = suc n} s p e = omega arith

-- ---- where fields begin
module _ (body : List ℕ) (from comma left : ℕ) (e : comma ≡ from + length (to_comma (drop from body))) (some : 0 < left) where
  fewer : suc (left - 1) ≡ left
  fewer = omega arith

  pub start_on : behind (left - 1) (drop (comma + 1) body) ≡ behind left (drop from body)
  start_on = behind_on body from comma e (left - 1) ∙ ap (λ (k : ℕ). behind k (drop from body)) fewer

  pub start_end : comma ≡ length body → drop comma body ≡ behind left (drop from body)
  start_end f = behind_end body from comma e f (left - 1) ∙ ap (λ (k : ℕ). behind k (drop from body)) fewer

pub start_here : (body : List ℕ) (left : ℕ) → left ≡ 0 → body ≡ behind left body
unfolding behind
start_here body left e = rw e refl

-- ---- 2 to 4
module _ (body : List ℕ) (star : ℕ) where
  pub no_address : is_address (field 0 body) ≡ false → refused (refusal 80 0 1) ≡ shown (fields_of body star) meaning
  unfolding fields_of
  no_address e = simp e

  module _ (a : is_address (field 0 body) ≡ true) where
    pub no_rmc : is_rmc (field 0 body) ≡ false → refused (plain 83) ≡ shown (fields_of body star) meaning
    unfolding fields_of
    no_rmc e = simp (a, e)

    module _ (r : is_rmc (field 0 body) ≡ true) where
      pub few_fields : count 44 body < 9 → refused (refusal 80 0 star) ≡ shown (fields_of body star) meaning
      unfolding fields_of
      few_fields h = simp (a, r, lt-leb 9 (count 44 body) h)

      module _ (h : 9 ≤ count 44 body) where
        pub no_fix : formed (86 ∷ []) (field 2 body) ≡ true → refused (plain 81) ≡ shown (fields_of body star) meaning
        unfolding fields_of
        no_fix e = simp (a, r, le-leb 9 (count 44 body) h, e)

        module _ (v : formed (86 ∷ []) (field 2 body) ≡ false) where
          pub no_status : formed (65 ∷ []) (field 2 body) ≡ false → refused (refusal 80 0 (place_of 2 body)) ≡ shown (fields_of body star) meaning
          unfolding fields_of
          no_status e = simp (a, r, le-leb 9 (count 44 body) h, v, e)

          module _ (s : formed (65 ∷ []) (field 2 body) ≡ true) where
            pub no_mode : is_mode (field 12 body) ≡ false → refused (plain 81) ≡ shown (fields_of body star) meaning
            unfolding fields_of
            no_mode e = simp (a, r, le-leb 9 (count 44 body) h, v, s, e)

            pub fields_are : is_mode (field 12 body) ≡ true → shown (fix_of body) meaning ≡ shown (fields_of body star) meaning
            unfolding fields_of
            fields_are e = sym (simp (a, r, le-leb 9 (count 44 body) h, v, s, e))

pub not_sealed : (line : List ℕ) → is_sealed line ≡ false → refused (refusal 82 0 (star_of line)) ≡ shown (sentence_of line) meaning
unfolding sentence_of
not_sealed line e = simp e

pub sealed_fields : (line : List ℕ) → is_sealed line ≡ true → shown (fields_of (body_of line) (star_of line)) meaning ≡ shown (sentence_of line) meaning
unfolding sentence_of
sealed_fields line e = sym (simp e)

-- ---- words
module _ (line left : List ℕ) (from end : ℕ) (l : drop from line ≡ left) (e : end ≡ from + length (word (drop from line))) where
  pub word_is : take (end - from) (drop from line) ≡ word left
  word_is = part_is 32 9 line from end e ∙ ap word l

  pub past_is : drop end line ≡ past_word left
  past_is = ap (λ (k : ℕ). drop k line) e ∙ sym (drop-drop (length (word (drop from line))) from line) ∙ ap past_word l

  pub next_is : (next : ℕ) → drop next line ≡ unblanked (drop end line) → drop next line ≡ next_word left
  next_is next n = n ∙ ap unblanked past_is

  pub shown_in_word : from ≤ length line → {A B : Type 0} (reading : List ℕ → Answer A) (f : A → B)
      → shown (at from (reading (take (end - from) (drop from line)))) f ≡ shown (in_word line left reading) f
  shown_in_word h reading f = ap (λ (t : List ℕ). shown (at from (reading t)) f) word_is ∙ ap (λ (k : ℕ). shown (at k (reading (word left))) f) (place_is line left from l h)

pub in_first : (line : List ℕ) (end : ℕ) → end ≡ 0 + length (word line) → {A B : Type 0} (reading : List ℕ → Answer A) (f : A → B)
    → shown (at 0 (reading (take end line))) f ≡ shown (in_word line line reading) f
in_first line end e reading f =
    ap (λ (t : List ℕ). shown (at 0 (reading t)) f) (ap (λ (k : ℕ). take k line) (let z : end ≡ length (word line) = omega arith in z) ∙ until_take 32 9 line)
    ∙ ap (λ (k : ℕ). shown (at k (reading (word line))) f) (place_is line line 0 refl (omega arith))

abbrev plaining : Reply Fraction → Reply Fraction → Reply When → Bool → Refusal → Reply Spelt
plaining a b c test why = do
  lat ← a
  lon ← b
  when ← c
  demand test why
  given (record { lat = lat; lon = lon; when = when })

module _ (a b : Reply Fraction) (c : Reply When) (test : Bool) (last : Refusal) where
  plain_1 : {why : Refusal} → refused why ≡ a → refused why ≡ shown (plaining a b c test last) meaning
  plain_1 p = rw (← p) refl

  module _ {lat : Fraction} (p : given lat ≡ a) where
    plain_2 : {why : Refusal} → refused why ≡ b → refused why ≡ shown (plaining a b c test last) meaning
    plain_2 q = rw (← p, ← q) refl

    module _ {lon : Fraction} (q : given lon ≡ b) where
      plain_3 : {why : Refusal} → refused why ≡ c → refused why ≡ shown (plaining a b c test last) meaning
      plain_3 r = rw (← p, ← q, ← r) refl

      module _ {when : When} (r : given when ≡ c) where
        plain_4 : test ≡ false → refused last ≡ shown (plaining a b c test last) meaning
        plain_4 e = rw (← p, ← q, ← r, e) refl

        plain_5 : test ≡ true → given (meaning (record { lat = lat; lon = lon; when = when })) ≡ shown (plaining a b c test last) meaning
        plain_5 e = rw (← p, ← q, ← r, e) refl

module _ (line : List ℕ) where
  abbrev second : List ℕ
  second = next_word line

  abbrev third : List ℕ
  third = next_word second

  pub plain_lat : {why : Refusal} → refused why ≡ shown (in_word line line (degrees_of 90)) nearest_to → refused why ≡ shown (plain_of line) meaning
  unfolding plain_of
  plain_lat e = plain_1 (in_word line line (degrees_of 90)) (in_word line second (degrees_of 180)) (in_word line third when_of) (eqb (length (past_word third)) 0) (refusal 80 0 (place_in line
      (next_word third))) (stopped (in_word line line (degrees_of 90)) nearest_to e)

  module _ {lat : Float} (e : given lat ≡ shown (in_word line line (degrees_of 90)) nearest_to) where
    pub plain_lon : {why : Refusal} → refused why ≡ shown (in_word line second (degrees_of 180)) nearest_to → refused why ≡ shown (plain_of line) meaning
    unfolding plain_of
    plain_lon f = plain_2 (in_word line line (degrees_of 90)) (in_word line second (degrees_of 180)) (in_word line third when_of) (eqb (length (past_word third)) 0) (refusal 80 0 (place_in line
        (next_word third))) (shown_from (in_word line line (degrees_of 90)) nearest_to e).is (stopped (in_word line second (degrees_of 180)) nearest_to f)

    module _ {lon : Float} (f : given lon ≡ shown (in_word line second (degrees_of 180)) nearest_to) where
      pub plain_when : {why : Refusal} → refused why ≡ shown (in_word line third when_of) instant_at → refused why ≡ shown (plain_of line) meaning
      unfolding plain_of
      plain_when g = plain_3 (in_word line line (degrees_of 90)) (in_word line second (degrees_of 180)) (in_word line third when_of) (eqb (length (past_word third)) 0) (refusal 80 0 (place_in line
          (next_word third))) (shown_from (in_word line line (degrees_of 90)) nearest_to e).is (shown_from (in_word line second (degrees_of 180)) nearest_to f).is (stopped
          (in_word line third when_of) instant_at g)

      module _ {z : ℤ} (g : given z ≡ shown (in_word line third when_of) instant_at) where
        pub plain_more : (length (past_word third) ≡ 0 → ⊥) → refused (refusal 80 0 (place_in line (next_word third))) ≡ shown (plain_of line) meaning
        unfolding plain_of
        plain_more n = plain_4 (in_word line line (degrees_of 90)) (in_word line second (degrees_of 180)) (in_word line third when_of) (eqb (length (past_word third)) 0) (refusal 80 0 (place_in line
            (next_word third))) (shown_from (in_word line line (degrees_of 90)) nearest_to e).is (shown_from (in_word line second (degrees_of 180)) nearest_to f).is (shown_from
            (in_word line third when_of) instant_at g).is (ne_eqb (length (past_word third)) 0 n)

        pub plain_is : length (past_word third) ≡ 0 → {w : ℤ} → w ≡ z → given (record { lat = lat; lon = lon; instant = w }) ≡ shown (plain_of line) meaning
        unfolding plain_of meaning
        plain_is h i = ap given (same_fix (shown_from (in_word line line (degrees_of 90)) nearest_to e).shows (shown_from (in_word line second (degrees_of 180)) nearest_to f).shows (i
            ∙ (shown_from (in_word line third when_of) instant_at g).shows))
            ∙ plain_5 (in_word line line (degrees_of 90)) (in_word line second (degrees_of 180)) (in_word line third when_of) (eqb (length (past_word third)) 0) (refusal 80 0 (place_in line
            (next_word third))) (shown_from (in_word line line (degrees_of 90)) nearest_to e).is (shown_from (in_word line second (degrees_of 180)) nearest_to f).is (shown_from
            (in_word line third when_of) instant_at g).is (eq-eqb (length (past_word third)) 0 h)

-- ---- the request
module _ (text line : List ℕ) (l : line ≡ line_of text) where
  pub too_long : 255 < length line → refused (refusal 80 0 255) ≡ request_of text
  unfolding request_of spelt_of
  too_long h = rw (← l) (simp (lt-leb (length line) 255 h))

  module _ (h : length line ≤ 255) where
    pub as_sentence : get_or line 0 0 ≡ 36 → shown (sentence_of line) meaning ≡ request_of text
    unfolding request_of spelt_of
    as_sentence e = rw (← l) (sym (simp (le-leb (length line) 255 h, eq-eqb (get_or line 0 0) 36 e)))

    pub as_plain : (get_or line 0 0 ≡ 36 → ⊥) → shown (plain_of line) meaning ≡ request_of text
    unfolding request_of spelt_of
    as_plain n = rw (← l) (sym (simp (le-leb (length line) 255 h, ne_eqb (get_or line 0 0) 36 n)))
