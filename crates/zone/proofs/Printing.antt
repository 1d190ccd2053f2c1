-- The lines that are printed, one after another. Assumes nothing.
use Rattle.numbers.proofs.Prelude.{ℕ, zero, suc, ◌+◌, ◌-◌, ◌/◌, ◌≤◌, ◌<◌, min, leb-true, leb-false, leb, length, take, drop, get_or, length-drop, drop_of_length-le, drop-cons, drop-drop, take_all}
use Rattle.numbers.proofs.Prelude.{get_or-drop, Bool, true, false, List, [], ◌∷◌, ◌++◌, append_assoc, append-nil, ◌≡◌, refl, sym, ap, subst, ◌∙◌, add-one, arith}
use Rattle.numbers.specs.{Reply.{Reply, given, refused}, declared.refusal.Refusal.{Refusal}}
use Rattle.line.{proofs.Puts.{put_none, put_then, put_as, put_length, same_put}, specs.Put.{Put}}
use Rattle.table.{proofs.Words.{slots_size}, specs.{Hits.{width, slots, no_hit}, declared.hits.Hit.{Hit}}}
use Rattle.zone.specs.{Answer.{answer_of}, Lines.{hex_byte, digits_text, bytes_text, size_of, field_line, field_lines, behind_fields, Behind, match_line, match_lines, refused_line, lines_of}}
use Rattle.zone.specs.Printed.{count_of, printed_of, Printed}
use Rattle.zones.specs.{Lent.{Replied, replied}, declared.lookup.Zones.{Zones}}

-- ---- some of all bytes went into a buffer, and these are still to come
pub record Partly (before : List ℕ) (at : ℕ) (all now : List ℕ) (next : ℕ) (rest : List ℕ) : Type 0 where
  pub done : List ℕ
  pub put : Put before at done now next
  pub is : done ++ rest ≡ all

pub none_yet : (before : List ℕ) (at : ℕ) (all : List ℕ) → Partly before at all before at all
none_yet before at all = record { done = []; put = put_none before at; is = refl }

module _ {before : List ℕ} {at : ℕ} {all now : List ℕ} {next : ℕ} where
  pub partly_length : {rest : List ℕ} → Partly before at all now next rest → length now ≡ length before
  partly_length p = put_length p.put

  -- some more
  pub partly_on : {after : List ℕ} {end : ℕ} (xs rest : List ℕ) → Partly before at all now next (xs ++ rest) → Put now next xs after end → Partly before at all after end rest
  partly_on xs rest p q = record { done = p.done ++ xs; put = put_then p.done xs p.put q; is = append_assoc p.done xs rest ∙ p.is }

  pub partly_as : {rest rest' : List ℕ} → rest ≡ rest' → Partly before at all now next rest → Partly before at all now next rest'
  partly_as e p = subst (Partly before at all now next) e p

  -- and no more
  pub partly_all : {rest : List ℕ} → rest ≡ [] → Partly before at all now next rest → Put before at all now next
  partly_all e p = let q = partly_as e p in put_as (sym (append-nil q.done) ∙ q.is) q.put

-- ---- digits
-- one byte more
pub one_byte : {before : List ℕ} {at : ℕ} {all now after : List ℕ} {next end : ℕ} (bytes : List ℕ) (i : ℕ) → i < length bytes → Partly before at all now next (digits_text (drop i bytes))
    → Put now next (hex_byte (get_or bytes i 0)) after end → Partly before at all after end (digits_text (drop (i + 1) bytes))
unfolding digits_text
one_byte bytes i h p q =
    rw (add-one i) (partly_on (hex_byte (get_or bytes i 0)) (digits_text (drop (suc i) bytes)) (partly_as (ap digits_text (drop-cons bytes i 0 h)) p) q)

pub no_bytes : (bytes : List ℕ) (i : ℕ) → length bytes ≤ i → digits_text (drop i bytes) ≡ []
unfolding digits_text
no_bytes bytes i h = ap digits_text (drop_of_length-le bytes h)

-- nothing, or a space and digits
pub empty_text : (bytes : List ℕ) → length bytes ≡ 0 → [] ≡ bytes_text bytes
unfolding bytes_text
empty_text [] e = refl
empty_text (byte ∷ bytes) e = absurd (omega (arith, e))

pub spaced_text : (bytes : List ℕ) → (length bytes ≡ 0 → ⊥) → (32 ∷ []) ++ digits_text bytes ≡ bytes_text bytes
unfolding bytes_text
spaced_text [] h = absurd (h refl)
spaced_text (byte ∷ bytes) h = refl

-- ---- fields
-- so many of a list, or all
pub take_least : {A : Type 0} (most : ℕ) (l : List A) → take (min most (length l)) l ≡ take most l
take_least most l = go (leb most (length l)) refl where
  go : (t : Bool) → leb most (length l) ≡ t → take (min most (length l)) l ≡ take most l
  go true e = let m : min most (length l) ≡ most = omega (arith, leb-true most (length l) e) in ap (λ (k : ℕ). take k l) m
  go false e = take_all (min most (length l)) l (omega (arith, leb-false most (length l) e)) ∙ sym (take_all most l (omega (arith, leb-false most (length l) e)))

drop_least : (most : ℕ) (l : List ℕ) → drop (min most (length l)) l ≡ drop most l
drop_least most l = go (leb most (length l)) refl where
  go : (t : Bool) → leb most (length l) ≡ t → drop (min most (length l)) l ≡ drop most l
  go true e = let m : min most (length l) ≡ most = omega (arith, leb-true most (length l) e) in ap (λ (k : ℕ). drop k l) m
  go false e = drop_of_length-le l {i = min most (length l)} (omega (arith, leb-false most (length l) e)) ∙ sym (drop_of_length-le l {i = most} (omega (arith, leb-false most (length l) e)))

-- a field's bytes, as they are lent
pub lent_bytes : (text : List ℕ) (start end : ℕ) → end ≡ min (3 + size_of text) (length text) → start ≡ min 3 end → take (end - start) (drop start text) ≡ take (size_of text) (drop 3 text)
lent_bytes text start end e s = let first : start ≡ min 3 (length text) = omega (arith, e, s) in
    let many : end - start ≡ min (size_of text) (length (drop 3 text)) = omega (arith, e, s, length-drop 3 text) in
    ap (λ (k : ℕ). take (end - start) (drop k text)) first ∙ ap (take (end - start)) (drop_least 3 text) ∙ ap (λ (k : ℕ). take k (drop 3 text)) many ∙ take_least (size_of text) (drop 3 text)

-- a place of a tail, in the whole
pub within : (text : List ℕ) (place far : ℕ) {tail : List ℕ} → tail ≡ drop place text → place ≤ length text → far ≤ length tail → place + far ≤ length text
within text place far t inside h = omega (arith, inside, h, ap length t, length-drop place text)

pub end_within : (text : List ℕ) (place end : ℕ) {tail : List ℕ} → tail ≡ drop place text → place ≤ length text → end ≡ min (3 + size_of tail) (length tail) → place + end ≤ length text
end_within text place end t inside e = within text place end t inside (omega (arith, e))

-- the loop over the fields: so many are still to come, from a place on
pub record Fielding (before : List ℕ) (at : ℕ) (text : List ℕ) (count : ℕ) (now : List ℕ) (next place more : ℕ) : Type 0 where
  pub partly : Partly before at (field_lines count text) now next (field_lines more (drop place text))
  pub inside : place ≤ length text
  pub rest : behind_fields more (drop place text) ≡ behind_fields count text

pub no_field_yet : (before : List ℕ) (at : ℕ) (text : List ℕ) (count : ℕ) → Fielding before at text count before at 0 count
no_field_yet before at text count = record { partly = none_yet before at (field_lines count text); inside = omega arith; rest = refl }

module _ {before : List ℕ} {at : ℕ} {text : List ℕ} {count : ℕ} {now : List ℕ} {next : ℕ} where
  -- one field more
  pub one_field : {after : List ℕ} {further : ℕ} (place more end : ℕ) (tail tail' : List ℕ) → 0 < more → tail ≡ drop place text → tail' ≡ drop place text → end ≡ min (3 + size_of tail) (length tail)
      → Fielding before at text count now next place more → Put now next (field_line tail') after further → Fielding before at text count after further (place + end) (more - 1)
  unfolding field_lines behind_fields
  one_field place zero end tail tail' some t t' e f q = absurd (omega arith)
  one_field {after} {further} place (suc more) end tail tail' some t t' e f q = let here = drop place text in
      let cut : end ≡ min (3 + size_of here) (length here) = e ∙ ap (λ (l : List ℕ). min (3 + size_of l) (length l)) t in
      let behind : drop (3 + size_of here) here ≡ drop (place + end) text = sym (drop_least (3 + size_of here) here) ∙ ap (λ (k : ℕ). drop k here) (sym cut) ∙ drop-drop end place text in
      let fewer : suc more - 1 ≡ more = omega arith in
      let on = partly_on (field_line here) (field_lines more (drop (3 + size_of here) here)) f.partly (put_as (ap field_line t') q) in record {
        partly = partly_as (ap (field_lines more) behind ∙ ap (λ (k : ℕ). field_lines k (drop (place + end) text)) (sym fewer)) on;
        inside = omega (arith, cut, f.inside, length-drop place text);
        rest = ap (λ (k : ℕ). behind_fields k (drop (place + end) text)) fewer ∙ ap (behind_fields more) (sym behind) ∙ f.rest;
      }

  pub all_fields : (place more : ℕ) → more ≤ 0 → Fielding before at text count now next place more → Put before at (field_lines count text) now next × Behind count text place
  unfolding field_lines behind_fields
  all_fields place zero none f = (partly_all refl f.partly, record { inside = f.inside; rest = f.rest })
  all_fields place (suc more) none f = absurd (omega arith)

-- ---- matches
-- the loop over the matches: those from i on are still to come, with fields from a place on
pub record Matching (before : List ℕ) (at count : ℕ) (hits : List Hit) (text now : List ℕ) (next place i : ℕ) : Type 0 where
  pub partly : Partly before at (match_lines count hits text) now next (match_lines count (drop i hits) (drop place text))
  pub inside : place ≤ length text

pub no_match_yet : (before : List ℕ) (at count : ℕ) (hits : List Hit) (text : List ℕ) → Matching before at count hits text before at 0 0
no_match_yet before at count hits text = record { partly = none_yet before at (match_lines count hits text); inside = omega arith }

module _ {before : List ℕ} {at count : ℕ} {hits : List Hit} {text now : List ℕ} {next : ℕ} where
  -- one match more, and its fields
  pub one_match : {middle after tail : List ℕ} {fields further : ℕ} (place i far : ℕ) (hit : Hit) → i < length hits → hit ≡ get_or hits i no_hit → tail ≡ drop place text
      → Matching before at count hits text now next place i → Put now next (match_line hit) middle fields → Put middle fields (field_lines count tail) after further
      → Behind count tail far → Matching before at count hits text after further (place + far) (i + 1)
  unfolding match_lines
  one_match {middle} {after} {tail} {fields} {further} place i far hit h e t m p q b = let here = drop place text in let rest = drop (suc i) hits in
      let behind : behind_fields count here ≡ drop (place + far) text = ap (behind_fields count) (sym t) ∙ sym b.rest ∙ ap (drop far) t ∙ drop-drop far place text in
      let ahead = partly_as (ap (λ (hs : List Hit). match_lines count hs here) (drop-cons hits i no_hit h)) m.partly in
      let lined = partly_on (match_line (get_or hits i no_hit)) (field_lines count here ++ match_lines count rest (behind_fields count here)) ahead (put_as (ap match_line e) p) in
      let on = partly_on (field_lines count here) (match_lines count rest (behind_fields count here)) lined (put_as (ap (field_lines count) t) q) in record {
        partly = partly_as (ap (match_lines count rest) behind ∙ ap (λ (k : ℕ). match_lines count (drop k hits) (drop (place + far) text)) (sym (add-one i))) on;
        inside = within text place far t m.inside b.inside;
      }

  pub all_matches : (place i : ℕ) → length hits ≤ i → Matching before at count hits text now next place i → Put before at (match_lines count hits text) now next
  unfolding match_lines
  all_matches place i h m = partly_all (ap (λ (hs : List Hit). match_lines count hs (drop place text)) (drop_of_length-le hits {i = i} h)) m.partly

-- as many matches as there are words for
pub all_slots : (ws : List ℕ) (matches all : ℕ) → all ≡ min matches (length ws / width) → take all (slots ws) ≡ take matches (slots ws)
all_slots ws matches all e = let many : all ≡ min matches (length (slots ws)) = omega (arith, e, (slots_size ws).0, (slots_size ws).1) in
    ap (λ (k : ℕ). take k (slots ws)) many ∙ take_least matches (slots ws)

-- ---- the two ways of `zone`
module _ (input : List ℕ) (n room : ℕ) {before hits text after : List ℕ} {used count : ℕ} where
  printed : (reply : Reply Zones) → replied reply hits text ≡ answer_of input n room → count ≡ count_of input → Put before 0 (lines_of count reply hits text) after used
      → Printed input n room before hits text after used
  unfolding printed_of
  printed reply e c p =
      record {
        lines = put_as (λ i. lines_of (c i) (e i).reply (e i).hits (e i).text) p;
        hits_are = ap (λ (r : Replied Zones). r.hits) e;
        text_is = ap (λ (r : Replied Zones). r.text) e;
      }

  pub printed_zones : {looked : Reply Zones} {zones : Zones} → looked ≡ given zones → replied looked hits text ≡ answer_of input n room → count ≡ get_or input 14 0
      → Put before 0 (lines_of count (given zones) hits text) after used → Printed input n room before hits text after used
  printed_zones {looked} {zones} is e c p =
      printed (given zones) (ap (λ (l : Reply Zones). replied l hits text) (sym is) ∙ e) (c ∙ sym (get_or-drop 8 input 6 0)) p

  printed_by : (why : Refusal) → replied (refused why) hits text ≡ answer_of input n room → count ≡ count_of input → Put before 0 (refused_line why) after used
      → Printed input n room before hits text after used
  unfolding lines_of
  printed_by why e c p = printed (refused why) e c p

pub printed_refused : (input : List ℕ) (n room : ℕ) {before hits text after : List ℕ} {used : ℕ} {looked : Reply Zones} {why : Refusal} → looked ≡ refused why
    → replied looked hits text ≡ answer_of input n room → Put before 0 (refused_line why) after used → Printed input n room before hits text after used
printed_refused input n room {hits = hits} {text = text} {why = why} is e p =
    printed_by input n room why (ap (λ (l : Reply Zones). replied l hits text) (sym is) ∙ e) refl p

-- two outputs that the promise permits for an input are equal: what is printed, how much, and both lent buffers
pub one_output : {input : List ℕ} {n room : ℕ} {before hits hits' text text' after after' : List ℕ} {used used' : ℕ}
    → Printed input n room before hits text after used → Printed input n room before hits' text' after' used' → (used ≡ used') × ((after ≡ after') × ((hits ≡ hits') × (text ≡ text')))
one_output p q = let same = same_put p.lines q.lines in (same.0, (same.1, (p.hits_are ∙ sym q.hits_are, p.text_is ∙ sym q.text_is)))
