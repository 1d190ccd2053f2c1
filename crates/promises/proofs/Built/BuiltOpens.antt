-- Opening a built file gives type, version, precision, names and notice back, plainly and strictly. Assumes nothing.
use Rattle.numbers.proofs.Prelude.{ℕ, ◌+◌, ◌≤◌, ◌<◌, ltb, leb, length, length-append, Bool, true, ◌&&◌, List, [], ◌∷◌, ◌++◌, flat_map, ◌≡◌, ap, ◌∙◌, arith}
use Rattle.numbers.{proofs.Tests.{both}, specs.{Lists.{zeros}, Reply.{given, refused, plain}}}
use Rattle.writer.specs.Writer.{every}
use Rattle.builder.specs.{Borders.{Drawn}, File.{Room, head_from, head_of, is_text, readable, known, built_of}, Metadata.{inlined}, Yards.{Text, Plan}}
use Rattle.promises.proofs.Built.{Header.{texts_read, sections_read}, Parts.{Built, built_from, sizes, sections, in_parts, at_sizes, file_length}}
use Rattle.border.proofs.AtPlace.{at_behind}
use Rattle.header.{proofs.ReadBack.{preamble_is}, specs.{Field.{entry}, Header.{is_kind, preamble_of, texts_of, sections_at, Contents, contents_by, head_by}, Opening.{opened_by}}}
use Rattle.promises.specs.Built.{Opens.{texts_out, opened_as}, Seats.{table_in, metadata_in, table_place, head_in}}
use Rattle.header.proofs.ReadBack as R

every_and : (ts : List Text) (t : Text) → every is_text ts ≡ true → is_text t ≡ true → every is_text (ts ++ (t ∷ [])) ≡ true
unfolding every
every_and [] t h k = rw k
every_and (x ∷ ts) t h k = let now = both (is_text x) (every is_text ts) h in rw (now.0, every_and ts t now.1 k)

module _ (plan : Plan) (room : Room) (file : List ℕ) (b : Built plan room file) (strict : Bool) where
  abbrev drawn : Drawn
  drawn = b.drawn

  abbrev texts : List Text
  texts = plan.names ++ (plan.notice ∷ [])

  all_texts : every is_text texts ≡ true
  unfolding readable
  all_texts = let two = both (every is_text plan.names) _ (both plan.whole _ b.texts).1 in
      every_and plan.names plan.notice two.0 (both (is_text plan.notice) _ two.1).0

  count_is : length texts ≡ length plan.names + 1
  count_is = length-append plan.names (plan.notice ∷ [])

  abbrev seven : List ℕ
  seven = 0x50 ∷ 0x4C ∷ 0x42 ∷ plan.kind ∷ plan.version ∷ plan.precision ∷ length plan.names ∷ []

  in_seven : file ≡ seven ++ (flat_map inlined texts ++ (sizes plan drawn file b.is ++ sections plan drawn file b.is))
  unfolding head_of head_from
  in_seven = in_parts plan drawn file b.is

  head_length : 7 + length (flat_map inlined texts) ≡ length (head_of plan)
  unfolding head_of head_from
  head_length = omega arith

  read_preamble : preamble_of file ≡ given (record { kind = plan.kind; version = plan.version; precision = plan.precision; count = length plan.names })
  unfolding known
  read_preamble = let one = both (leb 1 plan.precision && leb plan.precision 31) (ltb plan.version 2 && is_kind plan.kind) b.forms in
      let two = both (ltb plan.version 2) (is_kind plan.kind) one.1 in
      preamble_is plan.kind plan.version plan.precision (length plan.names) _ file in_seven b.small two.1 two.0

  read_texts : texts_of strict file (length plan.names) ≡ given (record { bytes = texts_out plan; place = length (head_of plan) })
  unfolding texts_out
  read_texts =
      rw (← count_is) (texts_read strict file (length plan.names) texts all_texts 0 7 (at_behind seven (flat_map inlined texts) (sizes plan drawn file
      b.is ++ sections plan drawn file b.is) in_seven) ∙ ap (λ (n : ℕ). given (record { bytes = flat_map entry texts; place = n })) head_length)

  read_sections : sections_at strict file (length (head_of plan)) ≡ given (head_in strict plan drawn).sections
  unfolding head_in table_place
  read_sections =
      sections_read strict file (length (head_of plan)) (length (table_in plan drawn)) (length (metadata_in plan)) (length drawn.bytes) b.small
      (at_sizes plan drawn file b.is) (file_length plan drawn file b.is)

  -- the whole header, with names and notice
  abbrev contents : Contents
  contents = record { head = head_in strict plan drawn; bytes = texts_out plan }

  pub contents_are : contents_by strict file ≡ given (record { head = head_in strict plan drawn; bytes = texts_out plan })
  unfolding head_in
  contents_are =
      R.contents_are strict file (head_in strict plan drawn).preamble (record { bytes = texts_out plan; place = length (head_of plan) })
      (head_in strict plan drawn).sections read_preamble read_texts read_sections

  pub head_is : head_by strict file ≡ given (head_in strict plan drawn)
  head_is = R.head_is strict file contents contents_are

module _ (plan : Plan) (room : Room) (file : List ℕ) (built : built_of plan room ≡ given file) (strict : Bool) (lent : ℕ) where
  abbrev made : Built plan room file
  made = built_from plan room file built

  -- Opening an answered build, plainly and strictly, gives type, version, precision, names and notice back.
  pub built_opens : length (texts_out plan) ≤ lent → opened_by strict file lent ≡ opened_as plan lent
  unfolding head_in
  built_opens h = R.opened_is strict file (contents plan room file made strict) (contents_are plan room file made strict) lent h

  -- With less room than names and notice take it is refused with 18, and by nothing else.
  pub built_needs_room : lent < length (texts_out plan) → opened_by strict file lent ≡ record { reply = refused (plain 18); text = zeros lent }
  built_needs_room h = R.not_opened strict file (contents plan room file made strict) (contents_are plan room file made strict) lent h
