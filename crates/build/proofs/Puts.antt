-- The sections of a file, one after another. Assumes nothing.
use Rattle.numbers.proofs.Prelude.{ℕ, suc, ◌+◌, ◌*◌, ◌^◌, ◌≤◌, ℤ, length, take, drop, get_or, length-append, length-map, length-take, List, [], ◌∷◌, ◌++◌, map, append_assoc, flat_map, ◌≡◌, ap, subst}
use Rattle.numbers.{proofs.{Prelude.{◌∙◌, arith}, Spelling.{varint_few}}, specs.Spelling.{varint_of}}
use Rattle.writer.{proofs.Stores.{stored_then}, specs.inner.Stored.{Stored}}
use Rattle.builder.{proofs.{Inlines.{inlined_few, word_few}, Tables.{entry_few}}, specs.{Entries.{Entry, entry_bytes, table_from, entry_of_word}, File.{head_from, assembled}}}
use Rattle.builder.specs.{Metadata.{inlined, joined_from, field_bytes}, Yards.{cut_by, sum_of}}
use Rattle.build.specs.inner.Puts.{section_from, Sectioned, Headed}

-- ---- how long each part can be
pub table_few : (r b : ℕ) (es : List Entry) → length (table_from r b es) ≤ 60 * length es
unfolding table_from
table_few r b [] = omega arith
table_few r b (e ∷ es) = omega (arith, length-append (entry_bytes r b e) (table_from e.record' e.border es), entry_few r b e, table_few e.record' e.border es)

pub table_next : (boxes : List ℤ) (places keys : List ℕ) → length keys ≤ 4096 → (place next : ℕ) (before after : List ℕ)
    → Stored before place (table_from 0 0 (map (entry_of_word boxes places) keys)) after next → next ≤ place + 245760
table_next boxes places keys few place next before after t = omega (arith, t.place_after, table_few 0 0 (map (entry_of_word boxes places) keys), length-map keys (entry_of_word boxes places), few)

texts_few : (lengths texts : List ℕ) → length (flat_map inlined (cut_by lengths texts)) ≤ sum_of lengths + 10 * length lengths
unfolding cut_by sum_of flat_map
texts_few [] texts = omega arith
texts_few (n ∷ ns) texts =
    omega (arith, length-append (inlined (take n texts)) (flat_map inlined (cut_by ns (drop n texts))), inlined_few (take n texts), length-take n texts, texts_few ns (drop n texts))

pub head_next : (kind version precision names : ℕ) (lengths texts : List ℕ) → Headed lengths texts → (next : ℕ) (before after : List ℕ)
    → Stored before 0 (head_from kind version precision names (cut_by lengths texts)) after next → next ≤ 7 + 2 ^ 32
unfolding head_from
head_next kind version precision names lengths texts h next before after t = omega (arith, t.place_after, texts_few lengths texts, h.bound)

pub sizes_next : (a b c : ℕ) (place next : ℕ) (before after : List ℕ) → Stored before place (varint_of a ++ (varint_of b ++ varint_of c)) after next → next ≤ place + 30
sizes_next a b c place next before after t =
    omega (arith, t.place_after, length-append (varint_of a) (varint_of b ++ varint_of c), length-append (varint_of b) (varint_of c), varint_few a, varint_few b, varint_few c)

-- ---- the metadata section
fields_few : (records : ℕ) (words : List ℕ) (i : ℕ) (lengths texts : List ℕ) → length (joined_from (field_bytes records words) i (cut_by lengths texts)) ≤ sum_of lengths + 10 * length lengths
unfolding cut_by sum_of joined_from
fields_few records words i [] texts = omega arith
fields_few records words i (n ∷ ns) texts =
    omega (
      arith,
      length-append (field_bytes records words i (take n texts)) (joined_from (field_bytes records words) (suc i) (cut_by ns (drop n texts))),
      word_few records
          (get_or words i 0) (take n texts),
      length-take n texts,
      fields_few records words (suc i) ns (drop n texts),
    )

module _ (records size : ℕ) (words lengths texts : List ℕ) (s : Sectioned records size words lengths texts) where
  pub behind_few : (place next : ℕ) (before after : List ℕ) → Stored before place (joined_from (field_bytes records words) 0 (cut_by lengths texts)) after next → next ≤ place + 2 ^ 32
  behind_few place next before after t = omega (arith, t.place_after, fields_few records words 0 lengths texts, s.bound)

  pub section_few : (place next : ℕ) (before after : List ℕ) → Stored before place (section_from records words lengths texts) after next → next ≤ place + 2 ^ 34
  section_few place next before after t = omega (arith, t.place_after, s.size_is, s.small)

-- ---- the file
module _ {before zeroed after one two : List ℕ} {at next end : ℕ} (head table section bytes : List ℕ) (tall wide : ℕ) where
  pub file_stored : before ≡ zeroed → Stored before 0 head one at → tall ≡ length table → wide ≡ length section
      → Stored one at (varint_of tall ++ (varint_of wide ++ varint_of (length bytes))) two next → Stored two next (table ++ (section ++ bytes)) after end
      → Stored zeroed 0 (assembled head table section bytes) after end
  unfolding assembled
  file_stored ez a et es b c = let v : List ℕ = varint_of (length table) in let w : List ℕ = varint_of (length section) in
      let x : List ℕ = varint_of (length bytes) in let rest : List ℕ = table ++ (section ++ bytes) in
      let e : (v ++ (w ++ x)) ++ rest ≡ v ++ (w ++ (x ++ rest)) = append_assoc v (w ++ x) rest ∙ ap (λ (l : List ℕ). v ++ l) (append_assoc w x rest) in
      let b' : Stored one at (v ++ (w ++ x)) two next = subst (λ (n : ℕ). Stored one at (varint_of n ++ (w ++ x)) two next) et
      (subst (λ (n : ℕ). Stored one at (varint_of tall ++ (varint_of n ++ x)) two next) es b) in
      let a' : Stored zeroed 0 head one at = subst (λ (l : List ℕ). Stored l 0 head one at) ez a in
      stored_then head (v ++ (w ++ (x ++ rest))) a' (subst (λ (l : List ℕ). Stored one at l after end) e (stored_then (v ++ (w ++ x)) rest b' c))
