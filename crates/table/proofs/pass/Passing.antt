-- Rows that a search passes over: what the code's fast reading says of them, and that the search goes on as if it had read them. Assumes nothing.
use Rattle.numbers.proofs.{Answers.{found_one, goes}, Prelude.{ℕ, suc, ◌+◌, ◌-◌, ◌*◌, ◌%◌, ◌≤◌, ◌<◌, lt-ltb, le-ltb, lit≤, length, drop, get_or, drop-cons, lt_z, le_z, Bool, true, false, List, [], ◌∷◌}}
use Rattle.numbers.{proofs.{Prelude.{◌++◌, ◌≡◌, refl, sym, ap, ◌∙◌, le_refl, add-one, arith}, Readings.{read_both, reading_grows}, Spelling.{one_byte}, Wholes.{whole_forward}}, specs.Answer.{found}}
use Rattle.numbers.specs.{Point.{signed_of}, Spelling.{Whole}, Varint.{Numeral, numeral, value_of, size_of, reading_of}}
use Rattle.border.specs.{Box.{between}, declared.place.Point.{Point}}
use Rattle.verdict.{proofs.Gliding.{less_le}, specs.Verdict.{Judgement}}
use Rattle.table.proofs.{TableRows.{at_row, row_less}, rest.Remaining.{rest_from, skipped, skipped_later}, rows.Entering.{row_read}}
use Rattle.table.specs.{Rows.{Rows, row, row_of, after, rows_from}, Search.{row_turn, seek}, Table.{bounds_of, steps_by, entry_by, is_above, holds}, declared.{hits.Hit.{Hit}, rows.Cursor.{Cursor}}}
use Rattle.table.specs.{declared.{rows.Row.{Row}, table.Bounds.{Bounds}}, inner.Passing.{Near, Bounding, Lons, PassedRow, PassedOver, Skipped, SkippedOver}}
use mathlib.Core.Bool.{and-false}

-- ---- numbers of up to three bytes
two_bytes : (a b : ℕ) → 128 ≤ a → b < 128 → Whole (a ∷ b ∷ []) (a % 128 + 128 * b)
unfolding size_of value_of
two_bytes a b h k = record { complete = rw (le-ltb a 128 h, lt-ltb b 128 k); short = lit≤ tt; reads = rw (le-ltb a 128 h, lt-ltb b 128 k) (omega arith) }

three_bytes : (a b c : ℕ) → 128 ≤ a → 128 ≤ b → c < 128 → Whole (a ∷ b ∷ c ∷ []) (a % 128 + 128 * (b % 128 + 128 * c))
unfolding size_of value_of
three_bytes a b c h k l =
    record { complete = rw (le-ltb a 128 h, le-ltb b 128 k, lt-ltb c 128 l); short = lit≤ tt; reads = rw (le-ltb a 128 h, le-ltb b 128 k, lt-ltb c 128 l) (omega arith) }

module _ (file : List ℕ) (place : ℕ) where
  near : (w rest : List ℕ) {value : ℕ} → Whole w value → drop place file ≡ w ++ rest → length w ≤ 3 → place + length w ≤ length file
      → Near file place (record { value = value; place = place + length w })
  near w rest whole here few inside = record {
    reads = λ strict. read_both file place strict (ap (λ (n : ℕ). numeral n (place + length w)) (sym whole.reads) ∙ whole_forward file w rest place whole.complete here whole.short) inside;
    close = omega arith;
  }

  module _ (room : place + 2 < length file) {low : ℕ} (a : low ≡ get_or file place 0) where
    first : drop place file ≡ low ∷ drop (place + 1) file
    first = rw (a, add-one) (drop-cons file place 0 (omega arith))

    pub near_one : low < 128 → Near file place (record { value = low; place = place + 1 })
    near_one h = near (low ∷ []) (drop (place + 1) file) (one_byte low h) first (lit≤ tt) (omega arith)

    module _ (more : 128 ≤ low) {middle : ℕ} (b : middle ≡ get_or file (place + 1) 0) where
      second : drop (place + 1) file ≡ middle ∷ drop (suc (place + 1)) file
      second = rw b (drop-cons file (place + 1) 0 (omega arith))

      pub near_two : middle < 128 → Near file place (record { value = low % 128 + 128 * middle; place = place + 2 })
      near_two h = near (low ∷ middle ∷ []) (drop (suc (place + 1)) file) (two_bytes low middle more h) (first ∙ ap (λ (bs : List ℕ). low ∷ bs) second) (lit≤ tt) (omega arith)

      module _ (most : 128 ≤ middle) {high : ℕ} (c : high ≡ get_or file (place + 2) 0) where
        third : drop (suc (place + 1)) file ≡ high ∷ drop (suc (suc (place + 1))) file
        third = let there : high ≡ get_or file (suc (place + 1)) 0 = c ∙ ap (λ (n : ℕ). get_or file n 0) (omega arith) in
            rw there (drop-cons file (suc (place + 1)) 0 (omega arith))

        pub near_three : high < 128 → Near file place (record { value = low % 128 + 128 * (middle % 128 + 128 * high); place = place + 3 })
        near_three h =
            near (low ∷ middle ∷ high ∷ []) (drop (suc (suc (place + 1))) file) (three_bytes low middle high more most h)
            (first ∙ ap (λ (bs : List ℕ). low ∷ bs) (second ∙ ap (λ (bs : List ℕ). middle ∷ bs) third)) (lit≤ tt) (omega arith)

near_same : {file : List ℕ} {place : ℕ} {a b : Numeral} → Near file place a → Near file place b → a ≡ b
near_same n m = found_one (n.reads false ∙ sym (m.reads false))

-- ---- a box that does not hold the location
pub below_missed : (bounds : Bounds) (fix : Point) → lt_z bounds.max_lat.0 fix.lat.0 ≡ true → holds bounds fix ≡ false
below_missed bounds fix e = rw ((less_le bounds.max_lat.0 fix.lat.0 e).1, and-false (le_z bounds.min_lat.0 fix.lat.0)) refl

pub lons_missed : {file : List ℕ} {bounds : Bounds} {west east : ℕ} (fix : Point) → Lons file bounds west east → {a b : Numeral} → Near file west a → Near file east b
    → {r : Bool} → r ≡ between (signed_of a.value) fix.lon.0 (signed_of b.value) → r ≡ false → holds bounds fix ≡ false
lons_missed {bounds = bounds} fix l {a} {b} na nb e f =
    let low : bounds.min_lon.0 ≡ signed_of a.value = l.low_is ∙ ap (λ (n : Numeral). signed_of n.value) (near_same l.low_there na) in
    let high : bounds.max_lon.0 ≡ signed_of b.value = l.high_is ∙ ap (λ (n : Numeral). signed_of n.value) (near_same l.high_there nb) in
    rw (low, high, sym e ∙ f) (and-false (between bounds.min_lat.0 fix.lat.0 bounds.max_lat.0))

-- ---- a row by its six numbers
module _ {file : List ℕ} {place : ℕ} {a b c d : Numeral} (na : Near file place a) (nb : Near file a.place b) (nc : Near file b.place c) (nd : Near file c.place d) {bounds : Bounds}
    (is : bounds ≡ bounds_of a.value b.value c.value d.value) where
  pub bounding : Bounding file place bounds d.place
  bounding = record { south = a; west = b; north = c; east = d; south_there = na; west_there = nb; north_there = nc; east_there = nd; are = is; then = refl }

  pub lons : place + 17 < length file → Lons file bounds a.place c.place
  lons room = record {
    low = b;
    high = d;
    low_there = nb;
    high_there = nd;
    low_is = ap (λ (x : Bounds). x.min_lon.0) is;
    high_is = ap (λ (x : Bounds). x.max_lon.0) is;
    west_inside = omega (arith, na.close);
    east_inside = omega (arith, na.close, nb.close, nc.close);
  }

module _ {file : List ℕ} {place : ℕ} {bounds : Bounds} {next : ℕ} (four : Bounding file place bounds next) where
  pub four_close : next ≤ place + 12
  four_close = omega (arith, four.then, four.south_there.close, four.west_there.close, four.north_there.close, four.east_there.close)

  module _ {m p : Numeral} (nm : Near file next m) (np : Near file m.place p) where
    entry_read : (strict : Bool) → found (record { bounds = bounds; metadata = m.value; polygon = p.value; next = p.place }) ≡ entry_by (reading_of strict file) place
    unfolding entry_by steps_by
    entry_read strict = let behind = rw four.then at (nm.reads strict) in
        ap (λ (x : Bounds). found (record { bounds = x; metadata = m.value; polygon = p.value; next = p.place })) four.are ∙ goes (np.reads strict) _
        ∙ goes behind _ ∙ goes (four.east_there.reads strict) _ ∙ goes (four.north_there.reads strict) _ ∙ goes (four.west_there.reads strict) _ ∙ goes (four.south_there.reads strict) _

    pub skipped_row : (fix : Point) → is_above bounds fix ≡ true → Skipped file fix place p.place
    skipped_row fix up = record { entry = record { bounds = bounds; metadata = m.value; polygon = p.value; next = p.place }; reads = entry_read; above = up; then = refl }

pub passed : {file : List ℕ} (at : Cursor) {bounds : Bounds} {place : ℕ} → Bounding file at.place bounds place → {m p : Numeral} → Near file place m → Near file m.place p → (fix : Point)
    → {r : Row} {next : Cursor} → is_above bounds fix ≡ false → holds bounds fix ≡ false
    → r ≡ row_of at (record { bounds = bounds; metadata = m.value; polygon = p.value; next = p.place }) → next ≡ after r → PassedRow file fix at next
passed {file} at four nm np fix {r} low missed e n = record {
  row = r;
  reads = λ strict. row_read (reading_of strict file) at (entry_read four nm np strict) e;
  low = ap (λ (x : Row). is_above x.bounds fix) e ∙ low;
  missed = ap (λ (x : Row). holds x.bounds fix) e ∙ missed;
  then = n;
}

-- ---- the search goes on
module _ (judge : ℕ → ℕ → Judgement) (fix : Point) (end room : ℕ) where
  row_passed : (r : Row) (rest : Rows) (least : ℕ) (hits : List Hit) → is_above r.bounds fix ≡ false → holds r.bounds fix ≡ false
      → seek judge fix end room (row r rest) least hits ≡ seek judge fix end room rest least hits
  unfolding seek row_turn
  row_passed r rest least hits low missed = rw (low, missed) refl

module _ {file : List ℕ} {end : ℕ} {fix : Point} where
  pub stays : (at : Cursor) → PassedOver file end fix at at
  stays at = record { on = le_refl at.place; same = λ strict judge room least hits. refl }

  module _ {at next : Cursor} (more : at.place < end) (p : PassedRow file fix at next) where
    pub passes_less : end - next.place < end - at.place
    passes_less = row_less (reading_of false file) (reading_grows false file) at more (p.reads false) p.then

    pub passes : {start : Cursor} → PassedOver file end fix start at → PassedOver file end fix start next
    passes g = record {
      on = omega (arith, g.on, passes_less);
      same = λ strict judge room least hits. g.same strict judge room least hits
          ∙ ap (λ (rows : Rows). seek judge fix end room rows least hits) (at_row (reading_of strict file) (reading_grows strict file) at more (p.reads strict) p.then)
          ∙ row_passed judge fix end room p.row (rows_from (reading_of strict file) end next) least hits p.low p.missed;
    }

  -- the later cursor leaves less to read
  pub over_less : {later next : Cursor} (place : ℕ) → end - later.place < end - place → PassedOver file end fix later next → end - next.place < end - place
  over_less place h p = omega (arith, p.on)

-- ---- the rest of a table
module _ {file : List ℕ} {end : ℕ} {fix : Point} where
  pub rest_stays : (place : ℕ) → SkippedOver file end fix place place
  rest_stays place = record { on = le_refl place; same = λ strict. refl }

  module _ {place next : ℕ} (more : place < end) (s : Skipped file fix place next) where
    skips_later : place < next
    skips_later = rw s.then (skipped_later false file end fix place more (s.reads false))

    pub skips_less : end - next < end - place
    skips_less = omega (arith, skips_later)

    pub skips : next ≤ end → {start : ℕ} → SkippedOver file end fix start place → SkippedOver file end fix start next
    skips within g = record {
      on = omega (arith, g.on, skips_later);
      same = λ strict. g.same strict ∙ skipped strict file end fix place more (s.reads strict) s.above (omega (arith, s.then))
          ∙ ap (λ (n : ℕ). rest_from (reading_of strict file) end fix n) (sym s.then);
    }

  pub skip_less : {later next : ℕ} (place : ℕ) → end - later < end - place → SkippedOver file end fix later next → end - next < end - place
  skip_less place h p = omega (arith, p.on)
