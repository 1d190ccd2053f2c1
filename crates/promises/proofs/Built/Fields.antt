-- The fields of a record in a built file's metadata are read back, plainly and strictly. Assumes nothing.
use Rattle.numbers.proofs.Prelude.{ℕ, ◌+◌, ◌-◌, ◌^◌, ◌≤◌, ◌<◌, leb-true, eqb, leb, length, length-append, Bool, true, false, ◌&&◌, not, List, [], ◌∷◌, ◌++◌, map, append_assoc, flat_map, ◌≡◌, refl}
use Rattle.numbers.proofs.Prelude.{sym, ap, ◌∙◌, arith}
use Rattle.numbers.{proofs.{Spelling.{varint_whole}, Tests.{both}}, specs.{Answer.{if◌then◌else◌}, Reply.{Reply, given, plain, demand, ◌>>=◌, ◌>>◌}, Spelling.{varint_of}}}
use native.Mathlib.Nat.{add_assoc}
use Rattle.border.proofs.{AtPlace.{at_inside, at_place, at_part}, OnWay.{At, at_first, at_next, some_bytes}}
use Rattle.writer.specs.Writer.{every}
use Rattle.builder.{proofs.Shortest.{records_size, layout_least}, specs.{File.{is_text}, Metadata.{inlined, fields_of, is_remote, remotes, offset_of, written, layout_of, start_of, metadata_of}}}
use Rattle.builder.specs.{Sharing.{same_text, same_texts, is_in, times_in}, Yards.{Text}}
use Rattle.promises.proofs.Built.{Shared.{stood, twice_in, texts_decided, records_decided}, Strings.{inline_says, remote_says}}
use Rattle.header.{proofs.ReadBack.{Says, says_field}, specs.{Field.{Field, field}, Utf8.{unmasked, is_utf8}, declared.header.Head.{Head}}}
use Rattle.promises.specs.Built.Finds.{fields_into}
use Rattle.layout.specs.inner.Layout.{Fits}
use Rattle.zones.specs.Fields as Z

-- a record's fields one after another, record by record
pub fields_flat : (f : Text → List ℕ) (records : List (List Text)) → flat_map f (fields_of records) ≡ flat_map (flat_map f) records
unfolding fields_of flat_map
fields_flat f [] = refl
fields_flat f (r ∷ records) = both_flat r (fields_of records) ∙ ap (λ (bs : List ℕ). flat_map f r ++ bs) (fields_flat f records) where
  both_flat : (xs ys : List Text) → flat_map f (xs ++ ys) ≡ flat_map f xs ++ flat_map f ys
  both_flat [] ys = refl
  both_flat (x ∷ xs) ys = ap (λ (bs : List ℕ). f x ++ bs) (both_flat xs ys) ∙ sym (append_assoc (f x) (flat_map f xs) (flat_map f ys))

module _ (file : List ℕ) (small : length file ≤ 2 ^ 30) (records : List (List Text)) (metadata : ℕ) (here : At file metadata (metadata_of records)) where
  abbrev fields : List Text
  fields = fields_of records

  abbrev layout : ℕ
  layout = layout_of fields

  -- the records take the length that they are laid out for
  pub laid_out : length (flat_map (written fields layout) fields) ≡ layout
  unfolding Fits
  laid_out = records_size fields layout fields ∙ (layout_least fields).fits

  at_texts : At file (metadata + layout) (flat_map inlined (remotes fields))
  unfolding metadata_of
  at_texts = at_place (ap (λ (n : ℕ). metadata + n) laid_out) (at_next file metadata (flat_map (written fields layout) fields) (flat_map inlined (remotes fields)) here)

  at_remote : (t : Text) → is_remote fields t ≡ true → At file (metadata + (layout + offset_of fields t)) (inlined t)
  unfolding is_remote remotes offset_of
  at_remote t far = let twice = both (not (eqb (length t) 0)) (leb 2 (times_in same_text t fields)) far in
      let s = stood same_text texts_decided inlined t (remotes fields) (twice_in same_text texts_decided (is_remote fields) t fields far twice.1) in
      at_place (ap (λ (n : ℕ). metadata + layout + n) s.size ∙ add_assoc metadata layout _) (at_part s.before (inlined t) s.behind s.is at_texts)

  -- where a record begins, its fields stand
  pub at_record : (values : List Text) → is_in same_texts values records ≡ true → At file (metadata + start_of records values) (flat_map (written fields layout) values)
  unfolding metadata_of start_of
  at_record values known = let f = written fields layout in let s = stood same_texts records_decided (flat_map f) values records known in
      at_place (ap (λ (n : ℕ). metadata + n) s.size)
      (at_part s.before (flat_map f values) s.behind (fields_flat f records ∙ s.is) (at_first file metadata (flat_map f fields) (flat_map inlined (remotes fields)) here))

  some_inlined : (t : Text) → length t ≤ 255 → 0 < length (inlined t)
  unfolding inlined
  some_inlined t short = omega (arith, length-append (varint_of (length t)) (map unmasked t), some_bytes (varint_whole (length t) (omega arith)))

  -- The word at a place reads its text, whether it stands there or behind the records.
  pub word_says : (strict : Bool) (t : Text) → length t ≤ 255 → (place : ℕ) → At file place (written fields layout t) → Says strict file metadata place t (place + length (written fields layout t))
  unfolding written
  word_says strict t short place = go (is_remote fields t) refl where
    go : (far : Bool) → is_remote fields t ≡ far → At file place (if far then varint_of (256 + layout + offset_of fields t) else inlined t)
        → Says strict file metadata place t (place + length (if far then varint_of (256 + layout + offset_of fields t) else inlined t))
    go true e at = let offset = layout + offset_of fields t in
        let word : 256 + layout + offset_of fields t ≡ 256 + offset = add_assoc 256 layout (offset_of fields t) in
        rw word (remote_says strict file t short metadata place offset (omega (arith, at_inside (at_remote t e) (some_inlined t short))) (rw word at at) (at_remote t e))
    go false e at = inline_says strict file t short place at metadata

  -- the fields of a record, into what remains of the lent text
  pub fields_read : (head : Head) → head.sections.metadata ≡ metadata → (room : ℕ) (values : List Text) → every is_text values ≡ true → (tag place : ℕ) (text : List ℕ)
      → At file place (flat_map (written fields layout) values) → Z.fields_from file head room (length values) tag place text ≡ fields_into room tag values text
  unfolding Z.fields_from fields_into flat_map every is_text
  fields_read head is room [] good tag place text at = refl
  fields_read head is room (v ∷ values) good tag place text at = let f = written fields layout in
      let now = both (leb (length v) 255 && is_utf8 v) (every is_text values) good in let short = both (leb (length v) 255) (is_utf8 v) now.0 in
      let says = word_says head.strict v (leb-true (length v) 255 short.0) place (at_first file place (f v) (flat_map f values) at) in
      let more = fields_read head is room values now.1 (tag + 1) (place + length (f v)) (text ++ field tag v) (at_next file place (f v) (flat_map f values) at) in
      rw (is, says_field says short.1 tag (room - length text)) (go (leb (length (field tag v)) (room - length text)) _ _ more) where
        go : (fits : Bool) (one : Field) (k : Field → Reply (List ℕ)) {rest : Reply (List ℕ)} → k one ≡ rest → ((demand fits (plain 18) >> given one) >>= k) ≡ (demand fits (plain 18) >> rest)
        go true one k e = e
        go false one k e = refl
