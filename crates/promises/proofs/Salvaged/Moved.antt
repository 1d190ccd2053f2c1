-- The metadata section is the same bytes at another place, so whatever lies in it reads alike there, plainly and strictly. Assumes nothing.
use Rattle.numbers.proofs.Prelude.{ℕ, ◌+◌, ◌-◌, ◌%◌, ◌^◌, ◌≤◌, ◌<◌, lt-ltb, le-leb, le-ltb, leb-true, ltb-true, lt-leb, ltb-false, leb-false, ltb, leb, length, take, drop, length-append, length-drop}
use Rattle.numbers.proofs.Prelude.{take-append-drop, length-take-le, drop-drop, take-append_seam, take-append-le, drop-append-le, Bool, true, false, ◌&&◌, List, ◌++◌, ◌≡◌, refl, sym, ap, ◌∙◌, arith}
use Rattle.numbers.proofs.{Readings.{Strictly, cut, same, reading_strictly, plain_reading}, Tests.{differ, both}, Wholes.{ReadWhole, read_whole, whole_some}}
use Rattle.numbers.specs.{Answer.{Answer, found, failed, refused, if◌then◌else◌}, Spelling.{Whole}, Varint.{Numeral, numeral, forward_at, reading_of}}
use Rattle.border.proofs.OnWay.{At}
use Rattle.header.specs.{Text.{within, remote_at, string_at}, declared.{header.Head.{Head}, text.Text.{Text}}}
use Rattle.salvage.{proofs.moves.Standing.{reads_both}, specs.Kept.{in_section, span_in, span_inside, string_in, string_inside}}
use Rattle.promises.proofs.Salvaged.TextsAgain.{Lain, within_lain}

middle : (k n : ℕ) (xs ys : List ℕ) → k + n ≤ length xs → take n (drop k (xs ++ ys)) ≡ take n (drop k xs)
middle k n xs ys h = ap (take n) (drop-append-le k xs ys (omega arith)) ∙ take-append-le n (drop k xs) ys (omega (arith, length-drop k xs))

plain_found : {number : Numeral} {strict plain : Answer Numeral} → Strictly strict plain → strict ≡ found number → plain ≡ found number
plain_found cut e = let z : ◌≡◌ {A = ℕ} 0 1 = cc in absurd (omega arith)
plain_found same e = e

-- ---- bytes and numbers
module _ (file new : List ℕ) (m d m' : ℕ) (in_order : m ≤ d) (inside : d ≤ length file) (there : At new m' (take (d - m) (drop m file))) where
  section_length : length (take (d - m) (drop m file)) ≡ d - m
  section_length = length-take-le (d - m) (drop m file) (omega (arith, length-drop m file, inside, in_order))

  pub part_moves : (p n : ℕ) → m ≤ p → p + n ≤ d → take n (drop (m' + (p - m)) new) ≡ take n (drop p file)
  part_moves p n h k = let j = p - m in let section = take (d - m) (drop m file) in let same_place : m + j ≡ p = omega arith in
      ap (take n) (sym (drop-drop j m' new) ∙ ap (drop j) there.here) ∙ middle j n section there.rest (omega (arith, section_length))
      ∙ sym (middle j n section (drop (d - m) (drop m file)) (omega (arith, section_length))) ∙ ap (λ (xs : List ℕ). take n (drop j xs)) (take-append-drop (d - m) (drop m file))
      ∙ ap (take n) (drop-drop j m file) ∙ ap (λ (q : ℕ). take n (drop q file)) same_place

  pub record NumberMoved (strict : Bool) (p : ℕ) (number : Numeral) : Type 0 where
    pub reads : reading_of strict new (m' + (p - m)) ≡ found (record { value = number.value; place = m' + (number.place - m) })
    pub past : p < number.place

  pub number_moves : (strict : Bool) (p : ℕ) (number : Numeral) → reading_of true file p ≡ found number → m ≤ p → number.place ≤ d → NumberMoved strict p number
  number_moves strict p number e h k =
      let plainly : forward_at file p ≡ found number = sym (plain_reading file p) ∙ plain_found (reading_strictly file p) e in
      let w : ReadWhole file p number.value number.place = read_whole file p (sym plainly) (omega arith) in
      let some = whole_some w.bytes w.complete in
      let size : number.place ≡ p + length w.bytes =
      omega (arith, some, ap length w.stands ∙ length-append w.bytes (drop number.place file), length-drop p file, length-drop number.place file) in
      go w size some where
        go : (w : ReadWhole file p number.value number.place) → number.place ≡ p + length w.bytes → 0 < length w.bytes → NumberMoved strict p number
        go w size some = let n = length w.bytes in let p' = m' + (p - m) in
            let stands : take n (drop p' new) ≡ w.bytes = part_moves p n h (omega arith) ∙ ap (take n) w.stands ∙ take-append_seam w.bytes (drop number.place file) in
            let at : At new p' w.bytes = record { rest = drop n (drop p' new); here = sym (take-append-drop n (drop p' new)) ∙ ap (λ (xs : List ℕ). xs ++ drop n (drop p' new)) stands } in
            let whole : Whole w.bytes number.value = record { complete = w.complete; short = w.short; reads = w.reads } in
            let ends : p' + n ≡ m' + (number.place - m) = omega arith in
            record { reads = sym (reads_both strict whole at) ∙ ap (numeral number.value) ends; past = omega arith }

-- ---- strings, by their numbers
module _ (strict : Bool) (file : List ℕ) (metadata place : ℕ) (number : Numeral) (read : reading_of strict file place ≡ found number) where
  string_inline : number.value < 256 → string_at strict file metadata place ≡ within file (record { start = number.place; size = number.value; next = number.place + number.value })
  unfolding string_at
  string_inline h = rw (read, lt-ltb number.value 256 h)

  module _ (far : 256 ≤ number.value) (p : ℕ) (at : (metadata + number.value - 256) % 2 ^ 32 ≡ p) (length' : Numeral) (read' : reading_of strict file p ≡ found length') where
    string_remote : length'.value ≤ 256 → string_at strict file metadata place ≡ within file (record { start = length'.place; size = length'.value; next = number.place })
    unfolding string_at remote_at
    string_remote h = rw (read, le-ltb number.value 256 far, at, read', le-leb length'.value 256 h)

    string_long : 256 < length'.value → string_at strict file metadata place ≡ failed
    unfolding string_at remote_at
    string_long h = rw (read, le-ltb number.value 256 far, at, read', lt-leb length'.value 256 h)

module _ (file : List ℕ) (head : Head) (place : ℕ) (number : Numeral) (read : reading_of head.strict file place ≡ found number) (low : head.sections.metadata ≤ place) where
  inside_inline : number.value < 256 → number.place + number.value ≤ head.sections.«data» → string_inside file head place ≡ true
  unfolding string_inside
  inside_inline h k = rw (read, lt-ltb number.value 256 h, le-leb head.sections.metadata place low, le-leb (number.place + number.value) head.sections.«data» k)

  inside_remote : 256 ≤ number.value → number.place ≤ head.sections.«data» → (p : ℕ) → (head.sections.metadata + number.value - 256) % 2 ^ 32 ≡ p
      → (length' : Numeral) → reading_of head.strict file p ≡ found length' → head.sections.metadata ≤ p → length'.place + length'.value ≤ head.sections.«data»
      → string_inside file head place ≡ true
  unfolding string_inside span_inside
  inside_remote h k p at length' read' l k' =
      rw (
        read,
        le-ltb number.value 256 h,
        le-leb head.sections.metadata place low,
        le-leb number.place head.sections.«data» k,
        at,
        read',
        le-leb
            head.sections.metadata p l,
        le-leb (length'.place + length'.value) head.sections.«data» k',
      )

-- ---- a string that lies in the section
module _ (file : List ℕ) (head : Head) (is_strict : head.strict ≡ true) (in_order : head.sections.metadata ≤ head.sections.«data»)
    (inside : head.sections.«data» ≤ length file) (small : length file ≤ 2 ^ 30) (new : List ℕ) (head' : Head) (there : At new head'.sections.metadata
    (take (head.sections.«data» - head.sections.metadata) (drop head.sections.metadata file)))
    (ends : head'.sections.«data» ≡ head'.sections.metadata + (head.sections.«data» - head.sections.metadata)) (inside' : head'.sections.«data» ≤ length new)
    (small' : length new ≤ 2 ^ 30) where
  abbrev m : ℕ
  m = head.sections.metadata

  abbrev d : ℕ
  d = head.sections.«data»

  abbrev m' : ℕ
  m' = head'.sections.metadata

  pub record StringMoved (place : ℕ) : Type 0 where
    pub raw : List ℕ
    pub next : ℕ
    pub old : Lain file (string_at true file head.sections.metadata place) raw next
    pub now : Lain new (string_at head'.strict new head'.sections.metadata (head'.sections.metadata + (place - head.sections.metadata))) raw
        (head'.sections.metadata + (next - head.sections.metadata))
    pub low : head.sections.metadata ≤ place
    pub high : place ≤ head.sections.«data»
    pub goes_on : head.sections.metadata ≤ next
    pub placed : string_inside new head' (head'.sections.metadata + (place - head.sections.metadata)) ≡ true

  moves : (p : ℕ) (number : Numeral) → reading_of true file p ≡ found number → m ≤ p → number.place ≤ d → NumberMoved file new m d m' in_order inside there head'.strict p number
  moves p number = number_moves file new m d m' in_order inside there head'.strict p number

  part : (p n : ℕ) → m ≤ p → p + n ≤ d → take n (drop (m' + (p - m)) new) ≡ take n (drop p file)
  part = part_moves file new m d m' in_order inside there

  raw_length : (p n : ℕ) → p + n ≤ d → length (take n (drop p file)) ≡ n
  raw_length p n h = length-take-le n (drop p file) (omega (arith, length-drop p file))

  section_of : (from to : ℕ) → in_section head from to ≡ true → (m ≤ from) × (to ≤ d)
  section_of from to e = let parts = both (leb m from) (leb to d) e in (leb-true m from parts.0, leb-true to d parts.1)

  inline_moves : (place : ℕ) (number : Numeral) → reading_of true file place ≡ found number → number.value < 256 → in_section head place (number.place + number.value) ≡ true → StringMoved place
  inline_moves place number e h i = let parts = section_of place (number.place + number.value) i in let n = number.value in
      let moved = moves place number e parts.0 (omega (arith, parts.1)) in let raw = take n (drop number.place file) in
      let sized : length raw ≡ n = raw_length number.place n parts.1 in let s' = m' + (number.place - m) in
      let after : s' + n ≡ m' + (number.place + n - m) = omega (arith, moved.past, parts.0) in
      let old = within_lain file raw number.place n (number.place + n) sized refl (λ some. omega (arith, parts.1)) in
      let now = within_lain new raw s' n (s' + n) sized (part number.place n (omega (arith, moved.past, parts.0)) parts.1) (λ some. omega
      (arith, parts.1, moved.past, parts.0, ends)) in record {
        raw = raw;
        next = number.place + n;
        old = record { text = old.text; is = string_inline true file m place number e h ∙ old.is; stand = old.stand; size = old.size; after = old.after };
        now = record {
          text = now.text;
          is = string_inline head'.strict new m' (m' + (place - m)) (record { value = n; place = s' }) moved.reads h ∙ now.is;
          stand = now.stand;
          size = now.size;
          after = now.after ∙ after;
        };
        low = parts.0;
        high = omega (arith, moved.past, parts.1);
        goes_on = omega (arith, moved.past, parts.0);
        placed = inside_inline new head' (m' + (place - m)) (record { value = n; place = s' }) moved.reads (omega arith) h (omega (arith, parts.1, moved.past, parts.0, ends));
      }

  remote_moves : (place : ℕ) (number : Numeral) → reading_of true file place ≡ found number → 256 ≤ number.value → in_section head place number.place ≡ true
      → (length' : Numeral) → reading_of true file ((m + number.value - 256) % 2 ^ 32) ≡ found length' → in_section head ((m + number.value - 256) % 2 ^ 32)
      (length'.place + length'.value) ≡ true → length'.value ≤ 256 → StringMoved place
  remote_moves place number e h i length' e' i' short =
      let parts = section_of place number.place i in
      let p = (m + number.value - 256) % 2 ^ 32 in
      let parts' = section_of p (length'.place + length'.value) i' in
      let n = length'.value in
      let moved = moves place number e parts.0 parts.1 in
      let moved' = moves p length' e' parts'.0 (omega (arith, parts'.1)) in
      let far : (m' + number.value - 256) % 2 ^ 32 ≡ m' + (p - m) = shifted number.value h parts'.0 (omega (arith, parts'.1, moved'.past)) in
      let raw = take n (drop length'.place file) in
      let sized : length raw ≡ n = raw_length length'.place n parts'.1 in
      let s' = m' + (length'.place - m) in
      let next' = m' + (number.place - m) in
      let old = within_lain file raw length'.place n number.place sized refl (λ some. omega (arith, parts'.1)) in
      let now = within_lain new raw s' n next' sized (part length'.place n (omega (arith, moved'.past, parts'.0)) parts'.1) (λ some. omega
      (arith, parts'.1, moved'.past, parts'.0, ends)) in
      record {
        raw = raw;
        next = number.place;
        old = record { text = old.text; is = string_remote true file m place number e h p refl length' e' short ∙ old.is; stand = old.stand; size = old.size; after = old.after };
        now = record {
          text = now.text;
          is = string_remote head'.strict new m' (m' + (place - m)) (record { value = number.value; place = next' }) moved.reads h (m' + (p - m)) far
              (record { value = n; place = s' }) moved'.reads short ∙ now.is;
          stand = now.stand;
          size = now.size;
          after = now.after;
        };
        low = parts.0;
        high = omega (arith, moved.past, parts.1);
        goes_on = omega (arith, moved.past, parts.0);
        placed = inside_remote new head' (m' + (place - m)) (record { value = number.value; place = next' }) moved.reads (omega arith) h
            (omega (arith, parts.1, moved.past, parts.0, ends)) (m' + (p - m)) far (record { value = n; place = s' }) moved'.reads (omega arith)
            (omega (arith, parts'.1, moved'.past, parts'.0, ends));
      } where
        shifted : (value : ℕ) → 256 ≤ value → m ≤ (m + value - 256) % 2 ^ 32 → (m + value - 256) % 2 ^ 32 ≤ d → (m' + value - 256) % 2 ^ 32 ≡ m' + ((m + value - 256) % 2 ^ 32 - m)
        shifted value h low high = let bound : m' + ((m + value - 256) % 2 ^ 32 - m) < 2 ^ 32 = omega (arith, low, high, ends, inside', small') in
            omega (arith, low, bound, h)

  -- A string that was found and lies in the section is found in the new file, as far behind the section's begin, with the same bytes, and lies in its section.
  pub string_moves : (place : ℕ) (text : Text) → string_at true file m place ≡ found text → string_inside file head place ≡ true → StringMoved place
  unfolding string_inside span_inside
  string_moves place text found_there i =
      go (reading_of true file place) refl (ap (λ (t : Bool). string_in file head place (reading_of t file place)) (sym is_strict) ∙ i) where
        too_long : (number : Numeral) → reading_of true file place ≡ found number → 256 ≤ number.value → (length' : Numeral)
            → reading_of true file ((m + number.value - 256) % 2 ^ 32) ≡ found length' → (test : Bool) → leb length'.value 256 ≡ test
            → in_section head place number.place ≡ true → in_section head ((m + number.value - 256) % 2 ^ 32) (length'.place + length'.value) ≡ true → StringMoved place
        too_long number e h length' e' true short i i' = remote_moves place number e h i length' e' i' (leb-true length'.value 256 short)
        too_long number e h length' e' false long i i' =
            let none : found text ≡ failed = sym found_there ∙ string_long true file m place number e h ((m + number.value - 256) % 2 ^ 32) refl length' e' (leb-false length'.value 256 long) in
            let z : ◌≡◌ {A = ℕ} 0 1 = cc in absurd (omega arith)

        far : (number : Numeral) → reading_of true file place ≡ found number → 256 ≤ number.value → in_section head place number.place ≡ true
            → (answer : Answer Numeral) → reading_of true file ((m + number.value - 256) % 2 ^ 32) ≡ answer → span_in file head ((m + number.value - 256) % 2 ^ 32) answer ≡ true → StringMoved place
        far number e h i (found length') e' i' = too_long number e h length' e' (leb length'.value 256) refl i i'
        far number e h i failed e' i' = differ i'
        far number e h i (refused n) e' i' = differ i'

        by_size : (number : Numeral) → reading_of true file place ≡ found number → (test : Bool) → ltb number.value 256 ≡ test
            → (if test then in_section head place (number.place + number.value) else (in_section head place number.place && span_inside file head ((m + number.value - 256) % 2 ^ 32))) ≡ true
            → StringMoved place
        by_size number e true h i = inline_moves place number e (ltb-true number.value 256 h) i
        by_size number e false h i = let parts = both (in_section head place number.place) (span_inside file head ((m + number.value - 256) % 2 ^ 32)) i in
            let p = (m + number.value - 256) % 2 ^ 32 in
            far number e (ltb-false number.value 256 h) parts.0 (reading_of true file p) refl (ap (λ (t : Bool). span_in file head p (reading_of t file p)) (sym is_strict) ∙ parts.1)

        go : (answer : Answer Numeral) → reading_of true file place ≡ answer → string_in file head place answer ≡ true → StringMoved place
        go (found number) e i = by_size number e (ltb number.value 256) refl i
        go failed e i = differ i
        go (refused n) e i = differ i
