-- Document 03's example sentence on a map of one square, and slips that are not stamped, worked by computation. Assumes nothing.
use Rattle.numbers.proofs.Prelude.{ℕ, ◌+◌, ◌*◌, ◌≤◌, fin, nan, of_int, to_signed, add, sub, mul, div, neg, ℤ, pos, negsuc, ◌+ℤ◌, length, true, false, List, [], ◌∷◌, ◌≡◌, refl, sym, ap, ◌∙◌, arith}
use Rattle.numbers.{proofs.Replies.{met, onward}, specs.{Answer.{checked, found}, Float.{fixed_point, one_shifted}, Lists.{zeros}, Point.{signed_of, even_bits, point_of}}}
use Rattle.numbers.specs.{Reply.{Reply, given, refused, refusal, plain, ◌>>=◌}, Varint.{reading_of, forward_at, value_of, size_of, too_long}, declared.refusal.Refusal.{Refusal}}
use lib.Ieee.{round, le}
use Rattle.atlas.specs.Beside.{matched_beside, zones_beside}
use Rattle.border.specs.{Place.{moved_by}, Reader.{advanced, marker, packed_turn, turn_of}, Trace.{round_again, next_within, next_point, trace_then, trace_within, trace_of}}
use Rattle.bundle.specs.{Bundle.{find_of}, declared.find.File.{File}}
use Rattle.calendar.{proofs.{CivilAt.{is_civil_at}, Laws.{days_closed, weekday_closed}}, specs.Calendar.{is_leap, year_length, days_of_years, month_length, days_of_months, day_number, weekday_of}}
use Rattle.calendar.specs.{Civil.{reading_at, civil_at, CivilOf}, Moments.{seconds_to, instant_of}, declared.civil.Reading.{Reading}}
use Rattle.header.specs.{Field.{field_at}, Header.{preamble_of, texts_from, sections_from, sections_at, contents_by, head_by, head_of}, Text.{remote_at, string_at, bytes_of, text_at}}
use Rattle.header.specs.{Utf8.{characters, started_by, begun_by, followed, goes_on, is_utf8}, declared.header.Head.{Head}}
use Rattle.line.specs.Clock.{weekday_text, date_text, time_text, hours_text, seconds_text, span_text, offset_text}
use Rattle.localtime.specs.Local.{rules_in, answer_by, answer_at, scale_in, scale_or, scale_by}
use Rattle.request.specs.{Request.{request_of}, declared.read.Fix.{Fix}}
use Rattle.slip.proofs.Stamps.{no_request, asked_so}
use Rattle.slip.specs.Hour.{Hour, named, name_of, plainly, known, local_in, shown, hour_in, blamed, of_match, hour_of, hours_from}
use Rattle.slip.specs.{Line.{clock_text, is_among, between, zone_text, added, zones_from, line_of}, ReadBack.{weekday_in, is_minutes, span_in, offset_in, reading_in, read_back}}
use Rattle.slip.specs.Slip.{Slip, place_of, within, on_globe, have_offset, agreed, fitted, slip_at, replied, replied_of, slipped_at, slipped}
use Rattle.table.specs.{Find.{fix_of, matched_with}, Hits.{words, hit_of}, Merge.{summary, seen, merged_after, merged}, Rest.{rest_mark}, Rows.{rows_then, row_by, rows_within, rows_from, rows_in}}
use Rattle.table.specs.{Search.{judged_turn, row_turn, seek, searched}, Table.{steps_by, entry_by}, declared.hits.Hit.{Hit}}
use Rattle.tzif.specs.Check.{occurs_later, correction_before, correction_at, correction_of, one_apart, is_expiry, nul_end, check_time, check_index, check_type, check_leap, check_leaps}
use Rattle.tzif.specs.Check.{check_standard, is_standard}
use Rattle.tzif.specs.{Check.{check_ut}, Header.{begins, is_version, is_fourth, version_fits, check_header, block_at, none_or_all, check_counts, check_block, read_block}}
use Rattle.tzif.specs.{Local.{type_in, type_behind, is_after_last, by_table}, Number.{octets, be32, raised, time_at, lift}, Part.{count_of, check_of, check_part}}
use Rattle.tzif.specs.Text.{first_with, is_stop, run_to, slice}
use Rattle.tzif.specs.{Times.{time_in, last_with, last_not_after}, Zone.{read_short, read_zone_by}, declared.local.Found.{Found}}
use Rattle.verdict.specs.{Distance.{measured}, Edge.{same_point, in_box, quadrant_of, slope_of, edge_of, straight, closest_on}, Verdict.{along, passing, closed_at, then_on, judge, judged_at}}
use Rattle.verdict.specs.Winding.{turned, quarter_by, half_turn, turn_at, crossing_of, across_by, clear_of, wound_by}
use Rattle.zones.proofs.WorkedEnding.{printed, in_the_zone}
use Rattle.zones.specs.{Fields.{fields_from, fields_of}, Lent.{Outcome}, Lookup.{safezone_bits}, Simple.{same, picked_from}, declared.lookup.Zones.{Zones}}
use Rattle.bundle.specs.Bundle as B
use Rattle.std.specs.Prelude.{Option, Some}
use Rattle.header.specs.Text as H
use Rattle.line.specs.Clock as L
use Rattle.request.specs.Clock as QC
use Rattle.request.specs.Number as QN
use Rattle.request.specs.Request as QR
use Rattle.request.specs.Text as QT
use Rattle.tzif.specs.Reply as T
use Rattle.verdict.specs.Edge as E
use Rattle.verdict.specs.Step as S

-- ---- what is asked about
-- $GNRMC,115959.00,A,5231.200000,N,01324.000000,E,0.0,0.0,010726,,,A*41
abbrev pub sentence : List ℕ
sentence =
    36 ∷ 71 ∷ 78 ∷ 82 ∷ 77 ∷ 67 ∷ 44 ∷ 49 ∷ 49 ∷ 53 ∷ 57 ∷ 53 ∷ 57 ∷ 46 ∷ 48 ∷ 48 ∷ 44 ∷ 65 ∷ 44 ∷ 53 ∷ 50 ∷ 51 ∷ 49 ∷ 46 ∷ 50 ∷ 48 ∷ 48 ∷ 48 ∷ 48 ∷ 48 ∷ 44
    ∷ 78 ∷ 44 ∷ 48 ∷ 49 ∷ 51 ∷ 50 ∷ 52 ∷ 46 ∷ 48 ∷ 48 ∷ 48 ∷ 48 ∷ 48 ∷ 48 ∷ 44 ∷ 69 ∷ 44 ∷ 48 ∷ 46 ∷ 48 ∷ 44 ∷ 48 ∷ 46 ∷ 48 ∷ 44 ∷ 48 ∷ 49 ∷ 48 ∷ 55 ∷ 50 ∷ 54 ∷ 44 ∷ 44 ∷ 44 ∷ 65 ∷ 42 ∷ 52 ∷ 49 ∷ []

-- 52.52 degrees north and 13.4 east, as floats, at an instant
abbrev fix_at : ℤ → Fix
fix_at instant = record { lat = fin false 13767803 (negsuc 17); lon = fin false 7025459 (negsuc 18); instant = instant }

abbrev fix : Fix
fix = fix_at (pos 1782907199)

asked : given fix ≡ request_of sentence
unfolding QT.formed QT.until QT.behind QT.unblanked QN.spelled QN.value_from QN.part_of QN.has_form QN.angle_of QN.side_of
    QN.decimal_of QN.degrees_of QN.nearest_to QC.is_date QC.is_time QC.time_of QC.full_year QC.date_of QC.moment_of QC.seconds_of QC.when_of QC.instant_at QR.is_sealed
    QR.is_mode QR.turned QR.fix_of QR.fields_of QR.sentence_of QR.plain_of QR.spelt_of QR.meaning QR.request_of is_leap year_length days_of_years month_length
    days_of_months day_number seconds_to instant_of round
asked = refl

placed : (instant : ℤ) → on_globe (fix_at instant) ≡ true
unfolding on_globe within le neg
placed instant = refl

-- ---- the map: one square, from 58 degrees south to 56 north, whose prefix is `Europe/` and whose id is `Berlin`
abbrev pub square : List ℕ
square =
    80 ∷ 76 ∷ 66 ∷ 84 ∷ 1 ∷ 7 ∷ 2 ∷ 16 ∷ 212 ∷ 233 ∷ 237 ∷ 229 ∷ 250 ∷ 239 ∷ 238 ∷ 229 ∷ 201 ∷ 228 ∷ 208 ∷ 242 ∷ 229 ∷ 230 ∷ 233 ∷ 248 ∷ 10 ∷ 212 ∷ 233 ∷ 237 ∷ 229 ∷ 250 ∷ 239 ∷ 238 ∷
    229 ∷ 201 ∷ 228 ∷ 0 ∷ 6 ∷ 15 ∷ 14 ∷ 81 ∷ 81 ∷ 80 ∷ 80 ∷ 0 ∷ 1 ∷ 7 ∷ 197 ∷ 245 ∷ 242 ∷ 239 ∷ 240 ∷ 229 ∷ 175 ∷ 6 ∷ 194 ∷ 229 ∷ 242 ∷ 236 ∷ 233 ∷ 238 ∷ 0 ∷ 131 ∷ 102 ∷ 128 ∷
    136 ∷ 1 ∷ 128 ∷ 144 ∷ 2 ∷ 129 ∷ 136 ∷ 1 ∷ 0 ∷ 0 ∷ []

abbrev pub head : Head
head = record { preamble = record { kind = 84; version = 1; precision = 7; count = 2 }; sections = record { table = 39; metadata = 45; «data» = 60 }; strict = false }

pub opened : given head ≡ head_of square
unfolding reading_of forward_at value_of size_of too_long signed_of even_bits point_of fixed_point one_shifted checked moved_by advanced marker packed_turn turn_of
    round_again next_within next_point trace_then trace_within trace_of along passing closed_at then_on judge judged_at field_at fields_from fields_of fix_of matched_with
    preamble_of texts_from sections_from sections_at contents_by head_by safezone_bits zones_beside matched_beside summary seen merged_after merged rows_then row_by
    rows_within rows_from rows_in judged_turn row_turn seek searched steps_by entry_by H.within remote_at string_at bytes_of text_at characters started_by begun_by followed
    goes_on is_utf8 same_point E.between in_box quadrant_of slope_of edge_of straight closest_on turned quarter_by half_turn turn_at crossing_of across_by clear_of wound_by
    measured S.checked rest_mark of_int add sub mul div to_signed
opened = refl

abbrev match : Hit
match = hit_of 0 0 1 39

abbrev pub texts : List ℕ
texts = 0 ∷ 0 ∷ 7 ∷ 69 ∷ 117 ∷ 114 ∷ 111 ∷ 112 ∷ 101 ∷ 47 ∷ 1 ∷ 0 ∷ 6 ∷ 66 ∷ 101 ∷ 114 ∷ 108 ∷ 105 ∷ 110 ∷ []

abbrev outcome : Outcome Zones
outcome = record { answer = record { matches = 1; mark = 1; safezone = 0; used = 19 }; matches = match ∷ []; text = texts }

looked : given outcome ≡ zones_beside square head [] (place_of fix) false 4 19
unfolding reading_of forward_at value_of size_of too_long signed_of even_bits point_of fixed_point one_shifted checked moved_by advanced marker packed_turn turn_of
    round_again next_within next_point trace_then trace_within trace_of along passing closed_at then_on judge judged_at field_at fields_from fields_of fix_of matched_with
    preamble_of texts_from sections_from sections_at contents_by head_by safezone_bits zones_beside matched_beside summary seen merged_after merged rows_then row_by
    rows_within rows_from rows_in judged_turn row_turn seek searched steps_by entry_by H.within remote_at string_at bytes_of text_at characters started_by begun_by followed
    goes_on is_utf8 same_point E.between in_box quadrant_of slope_of edge_of straight closest_on turned quarter_by half_turn turn_at crossing_of across_by clear_of wound_by
    measured S.checked rest_mark of_int add sub mul div to_signed
looked = refl

-- Europe/Berlin
abbrev name : List ℕ
name = 69 ∷ 117 ∷ 114 ∷ 111 ∷ 112 ∷ 101 ∷ 47 ∷ 66 ∷ 101 ∷ 114 ∷ 108 ∷ 105 ∷ 110 ∷ []

name_is : given name ≡ name_of square head 0
unfolding reading_of forward_at value_of size_of too_long picked_from H.within remote_at string_at bytes_of text_at characters started_by begun_by followed goes_on is_utf8 same name_of
name_is = refl

-- ---- the zones: a bundle with one file of version 1, whose one type is `CEST`, two hours east
abbrev pub berlin : List ℕ
berlin =
    116 ∷ 122 ∷ 100 ∷ 97 ∷ 116 ∷ 97 ∷ 50 ∷ 48 ∷ 50 ∷ 54 ∷ 97 ∷ 0 ∷ 0 ∷ 0 ∷ 0 ∷ 24 ∷ 0 ∷ 0 ∷ 0 ∷ 76 ∷ 0 ∷ 0 ∷ 0 ∷ 131 ∷ 69 ∷ 117 ∷ 114 ∷ 111 ∷ 112 ∷ 101 ∷ 47
    ∷ 66 ∷ 101 ∷ 114 ∷ 108 ∷ 105 ∷ 110 ∷ 0 ∷ 0 ∷ 0 ∷ 0 ∷ 0 ∷ 0 ∷ 0 ∷ 0 ∷ 0 ∷ 0 ∷ 0 ∷ 0 ∷ 0 ∷ 0 ∷ 0 ∷ 0 ∷ 0 ∷ 0 ∷ 0 ∷ 0 ∷ 0 ∷ 0 ∷ 0 ∷ 0 ∷ 0 ∷ 0 ∷ 0 ∷ 0 ∷ 0 ∷ 0
    ∷ 0 ∷ 0 ∷ 0 ∷ 0 ∷ 55 ∷ 0 ∷ 0 ∷ 0 ∷ 0 ∷ 84 ∷ 90 ∷ 105 ∷ 102 ∷ 0 ∷ 0 ∷ 0 ∷ 0 ∷ 0 ∷ 0 ∷ 0 ∷ 0 ∷ 0 ∷ 0 ∷ 0 ∷ 0 ∷ 0 ∷ 0 ∷ 0 ∷ 0 ∷ 0 ∷ 0 ∷ 0 ∷ 0 ∷ 0 ∷ 0 ∷ 0 ∷ 0
    ∷ 0 ∷ 0 ∷ 0 ∷ 0 ∷ 0 ∷ 0 ∷ 0 ∷ 0 ∷ 0 ∷ 0 ∷ 0 ∷ 1 ∷ 0 ∷ 0 ∷ 0 ∷ 5 ∷ 0 ∷ 0 ∷ 28 ∷ 32 ∷ 1 ∷ 0 ∷ 67 ∷ 69 ∷ 83 ∷ 84 ∷ 0 ∷ []

abbrev file : File
file = record { start = 76; length = 55 }

held : given file ≡ find_of berlin name
unfolding B.word_at B.agrees B.head_of B.is_entry B.seek_of B.find_of
held = refl

abbrev local : Found
local = record { offset = pos 7200; daylight = 1; place = 50; length = 4 }

local_is : given local ≡ local_in (slice berlin 76 55) (pos 1782907199)
unfolding read_zone_by read_short read_block begins is_version is_fourth version_fits check_header block_at none_or_all check_counts check_block check_part count_of check_of
    check_time check_index check_type check_leap check_leaps check_standard is_standard check_ut nul_end one_apart occurs_later correction_before correction_of correction_at
    is_expiry type_in type_behind is_after_last by_table octets be32 raised time_at lift T.demand T.each T.◌>>=◌ T.◌>>◌ first_with is_stop run_to time_in last_with
    last_not_after scale_by scale_or scale_in rules_in answer_at answer_by local_in
local_is = refl

-- ---- the clock
abbrev reading : Reading
reading = record { year = 2026; month = 7; day = 1; hour = 13; minute = 59; second = 59; weekday = 3 }

day_is : day_number 2026 7 1 ≡ 739797
unfolding day_number days_of_months month_length is_leap
day_is = rw days_closed

-- a time of that day
shown_at : (offset : ℤ) (hour minute second : ℕ) → hour ≤ 23 → minute ≤ 59 → second ≤ 59 → instant_of 739797 (3600 * hour + 60 * minute + second) ≡ pos 1782907199 +ℤ offset
    → CivilOf (pos 1782907199) offset (Some (record { year = 2026; month = 7; day = 1; hour = hour; minute = minute; second = second; weekday = 3 }))
unfolding CivilOf month_length is_leap
shown_at offset hour minute second h m s e =
    record {
      date = record { range = record { from = omega arith; to = omega arith }; months = record { month_from = omega arith; month_to = omega arith; day_from = omega arith; day_to = omega arith } };
      hour = h;
      minute = m;
      second = s;
      weekday = sym (ap weekday_of day_is ∙ weekday_closed 739797);
      back = ap (λ (day : ℕ). instant_of day (3600 * hour + 60 * minute + second)) day_is ∙ e;
    }

shown_so : CivilOf (pos 1782907199) (pos 7200) (Some reading)
unfolding instant_of seconds_to days_of_years year_length is_leap
shown_so = shown_at (pos 7200) 13 59 59 (omega arith) (omega arith) (omega arith) refl

-- what a match says, by its file, the local time in it and the clock
hour_by : (zones name : List ℕ) (at : File) (local : Found) (reading : Reading) → given at ≡ find_of zones name → given local ≡ local_in (slice zones at.start at.length) (pos 1782907199)
    → CivilOf (pos 1782907199) local.offset (Some reading)
    → given (record { name = name; abbreviation = slice zones (at.start + local.place) local.length; offset = local.offset; reading = reading }) ≡ hour_in zones (pos 1782907199) name
unfolding hour_in
hour_by zones name at local reading f l c =
    ap (λ (civil : Option Reading). shown civil >>= λ reading. given (record { name = name; abbreviation = slice zones (at.start + local.place) local.length; offset = local.offset; reading = reading }))
    (is_civil_at (pos 1782907199) local.offset (Some reading) c)
    ∙ onward l _
    ∙ onward f _

abbrev hour : Hour
hour = record { name = name; abbreviation = 67 ∷ 69 ∷ 83 ∷ 84 ∷ []; offset = pos 7200; reading = reading }

hour_is : given hour ≡ hour_in berlin (pos 1782907199) name
hour_is = hour_by berlin name file local reading held local_is shown_so

-- ---- the line: Wed 2026-07-01 13:59:59 +02:00 CEST Europe/Berlin
abbrev pub line : List ℕ
line =
    87 ∷ 101 ∷ 100 ∷ 32 ∷ 50 ∷ 48 ∷ 50 ∷ 54 ∷ 45 ∷ 48 ∷ 55 ∷ 45 ∷ 48 ∷ 49 ∷ 32 ∷ 49 ∷ 51 ∷ 58 ∷ 53 ∷ 57 ∷ 58 ∷ 53 ∷ 57 ∷ 32 ∷ 43 ∷ 48 ∷ 50 ∷ 58 ∷ 48 ∷ 48 ∷ 32 ∷ 67 ∷
    69 ∷ 83 ∷ 84 ∷ 32 ∷ 69 ∷ 117 ∷ 114 ∷ 111 ∷ 112 ∷ 101 ∷ 47 ∷ 66 ∷ 101 ∷ 114 ∷ 108 ∷ 105 ∷ 110 ∷ []

line_is : line_of hour (hour ∷ []) ≡ line
unfolding line_of clock_text weekday_text date_text time_text hours_text seconds_text span_text offset_text zones_from added is_among between zone_text L.shown
line_is = refl

-- which is read back as that
pub line_back : read_back line ≡ found (record { reading = reading; offset = pos 7200 })
unfolding read_back weekday_in is_minutes span_in offset_in reading_in weekday_text same QT.formed QT.until QN.value_from QN.part_of
line_back = refl

-- ---- what comes behind the lookup
abbrev rest : ℕ → Reply (List Hour) → Reply Slip
rest size said = do
  hours ← said
  hour ← agreed hours
  line ← fitted size (line_of hour hours)
  given (record { stamped = record { length = length line; matches = length hours; offset = hour.offset }; line = line; matches = match ∷ []; text = texts })

-- in any zones, by what the match says
by_match : (zones : List ℕ) (instant : ℤ) (size : ℕ) {said : Reply Hour} → said ≡ hour_in zones instant name
    → rest size (of_match 1 said >>= λ hour. given (hour ∷ [])) ≡ slip_at (fix_at instant) square [] zones 4 19 size
unfolding slip_at hours_from hour_of
by_match zones instant size e =
    ap (λ (s : Reply Hour). rest size (of_match 1 s >>= λ hour. given (hour ∷ []))) e ∙ ap (λ (s : Reply Hour). rest size (s >>= λ hour. given (hour ∷ [])))
    (onward name_is _) ∙ onward looked _ ∙ onward opened _ ∙ met (placed instant) (plain 84) _

-- The example sentence, stamped: one match, two hours east, and the line fills its room.
pub stamped : slipped sentence square [] berlin 4 19 49 ≡ replied (given (record { length = 49; matches = 1; offset = pos 7200 })) (0 ∷ 0 ∷ 1 ∷ 39 ∷ []) texts line
unfolding slipped_at replied_of agreed have_offset fitted words line_of clock_text weekday_text date_text time_text hours_text seconds_text span_text offset_text
    zones_from added is_among between zone_text L.shown
stamped = sym (asked_so sentence square [] berlin 4 19 49 asked) ∙ ap (replied_of 4 19 49) (sym (by_match berlin (pos 1782907199) 49 hour_is))

-- with a byte less of room: 18, and the line's length
pub no_room : slipped sentence square [] berlin 4 19 48 ≡ replied (refused (refusal 18 0 49)) (zeros 4) (zeros 19) (zeros 48)
unfolding slipped_at replied_of agreed have_offset fitted line_of clock_text weekday_text date_text time_text hours_text seconds_text span_text offset_text
    zones_from added is_among between zone_text L.shown
no_room = sym (asked_so sentence square [] berlin 4 19 48 asked) ∙ ap (replied_of 4 19 48) (sym (by_match berlin (pos 1782907199) 48 hour_is))

-- ---- not stamped: the zones
by_zones : (zones : List ℕ) (instant : ℤ) {why : Refusal} → refused why ≡ hour_in zones instant name
    → slipped_at (fix_at instant) square [] zones 4 19 49 ≡ replied (refused (blamed 1 why)) (zeros 4) (zeros 19) (zeros 49)
unfolding slipped_at replied_of
by_zones zones instant e = ap (replied_of 4 19 49) (sym (by_match zones instant 49 e))

-- no bundle: 89 at 0, of the first match
pub no_bundle : slipped_at fix square [] [] 4 19 49 ≡ replied (refused (refusal 89 1 0)) (zeros 4) (zeros 19) (zeros 49)
unfolding hour_in B.word_at B.agrees B.head_of B.is_entry B.seek_of B.find_of
no_bundle = by_zones [] (pos 1782907199) refl

-- a bundle without entries: 88
abbrev empty : List ℕ
empty = 116 ∷ 122 ∷ 100 ∷ 97 ∷ 116 ∷ 97 ∷ 50 ∷ 48 ∷ 50 ∷ 54 ∷ 97 ∷ 0 ∷ 0 ∷ 0 ∷ 0 ∷ 24 ∷ 0 ∷ 0 ∷ 0 ∷ 24 ∷ 0 ∷ 0 ∷ 0 ∷ 24 ∷ []

pub no_zone : slipped_at fix square [] empty 4 19 49 ≡ replied (refused (refusal 88 1 0)) (zeros 4) (zeros 19) (zeros 49)
unfolding hour_in B.word_at B.agrees B.head_of B.is_entry B.seek_of B.find_of
no_zone = by_zones empty (pos 1782907199) refl

-- a file whose last transition is past, without a string behind it: 90
abbrev unknown : List ℕ
unknown =
    116 ∷ 122 ∷ 100 ∷ 97 ∷ 116 ∷ 97 ∷ 50 ∷ 48 ∷ 50 ∷ 54 ∷ 97 ∷ 0 ∷ 0 ∷ 0 ∷ 0 ∷ 24 ∷ 0 ∷ 0 ∷ 0 ∷ 76 ∷ 0 ∷ 0 ∷ 0 ∷ 136 ∷ 69 ∷ 117 ∷ 114 ∷ 111 ∷ 112 ∷ 101 ∷ 47
    ∷ 66 ∷ 101 ∷ 114 ∷ 108 ∷ 105 ∷ 110 ∷ 0 ∷ 0 ∷ 0 ∷ 0 ∷ 0 ∷ 0 ∷ 0 ∷ 0 ∷ 0 ∷ 0 ∷ 0 ∷ 0 ∷ 0 ∷ 0 ∷ 0 ∷ 0 ∷ 0 ∷ 0 ∷ 0 ∷ 0 ∷ 0 ∷ 0 ∷ 0 ∷ 0 ∷ 0 ∷ 0 ∷ 0 ∷ 0 ∷ 0 ∷ 0
    ∷ 0 ∷ 0 ∷ 0 ∷ 0 ∷ 60 ∷ 0 ∷ 0 ∷ 0 ∷ 0 ∷ 84 ∷ 90 ∷ 105 ∷ 102 ∷ 0 ∷ 0 ∷ 0 ∷ 0 ∷ 0 ∷ 0 ∷ 0 ∷ 0 ∷ 0 ∷ 0 ∷ 0 ∷ 0 ∷ 0 ∷ 0 ∷ 0 ∷ 0 ∷ 0 ∷ 0 ∷ 0 ∷ 0 ∷ 0 ∷ 0 ∷ 0 ∷ 0
    ∷ 0 ∷ 0 ∷ 0 ∷ 0 ∷ 0 ∷ 0 ∷ 0 ∷ 1 ∷ 0 ∷ 0 ∷ 0 ∷ 1 ∷ 0 ∷ 0 ∷ 0 ∷ 5 ∷ 0 ∷ 0 ∷ 0 ∷ 0 ∷ 0 ∷ 0 ∷ 0 ∷ 28 ∷ 32 ∷ 1 ∷ 0 ∷ 67 ∷ 69 ∷ 83 ∷ 84 ∷ 0 ∷ []

pub not_known : slipped_at fix square [] unknown 4 19 49 ≡ replied (refused (refusal 90 1 0)) (zeros 4) (zeros 19) (zeros 49)
unfolding hour_in B.word_at B.agrees B.head_of B.is_entry B.seek_of B.find_of read_zone_by read_short read_block begins
    is_version is_fourth version_fits check_header block_at none_or_all check_counts check_block check_part count_of check_of check_time check_index check_type check_leap
    check_leaps check_standard is_standard check_ut nul_end one_apart occurs_later correction_before correction_of correction_at is_expiry type_in type_behind is_after_last
    by_table octets be32 raised time_at lift T.demand T.each T.◌>>=◌ T.◌>>◌ first_with is_stop run_to time_in last_with last_not_after scale_by scale_or scale_in rules_in
    answer_at answer_by local_in
not_known = by_zones unknown (pos 1782907199) refl

-- a file that counts leap seconds: 91
abbrev leaping : List ℕ
leaping =
    116 ∷ 122 ∷ 100 ∷ 97 ∷ 116 ∷ 97 ∷ 50 ∷ 48 ∷ 50 ∷ 54 ∷ 97 ∷ 0 ∷ 0 ∷ 0 ∷ 0 ∷ 24 ∷ 0 ∷ 0 ∷ 0 ∷ 76 ∷ 0 ∷ 0 ∷ 0 ∷ 139 ∷ 69 ∷ 117 ∷ 114 ∷ 111 ∷ 112 ∷ 101 ∷ 47
    ∷ 66 ∷ 101 ∷ 114 ∷ 108 ∷ 105 ∷ 110 ∷ 0 ∷ 0 ∷ 0 ∷ 0 ∷ 0 ∷ 0 ∷ 0 ∷ 0 ∷ 0 ∷ 0 ∷ 0 ∷ 0 ∷ 0 ∷ 0 ∷ 0 ∷ 0 ∷ 0 ∷ 0 ∷ 0 ∷ 0 ∷ 0 ∷ 0 ∷ 0 ∷ 0 ∷ 0 ∷ 0 ∷ 0 ∷ 0 ∷ 0 ∷ 0
    ∷ 0 ∷ 0 ∷ 0 ∷ 0 ∷ 63 ∷ 0 ∷ 0 ∷ 0 ∷ 0 ∷ 84 ∷ 90 ∷ 105 ∷ 102 ∷ 0 ∷ 0 ∷ 0 ∷ 0 ∷ 0 ∷ 0 ∷ 0 ∷ 0 ∷ 0 ∷ 0 ∷ 0 ∷ 0 ∷ 0 ∷ 0 ∷ 0 ∷ 0 ∷ 0 ∷ 0 ∷ 0 ∷ 0 ∷ 0 ∷ 0 ∷ 0 ∷ 0
    ∷ 0 ∷ 0 ∷ 0 ∷ 1 ∷ 0 ∷ 0 ∷ 0 ∷ 0 ∷ 0 ∷ 0 ∷ 0 ∷ 1 ∷ 0 ∷ 0 ∷ 0 ∷ 5 ∷ 0 ∷ 0 ∷ 28 ∷ 32 ∷ 1 ∷ 0 ∷ 67 ∷ 69 ∷ 83 ∷ 84 ∷ 0 ∷ 4 ∷ 178 ∷ 88 ∷ 0 ∷ 0 ∷ 0 ∷ 0 ∷ 1 ∷ []

pub not_unix : slipped_at fix square [] leaping 4 19 49 ≡ replied (refused (refusal 91 1 0)) (zeros 4) (zeros 19) (zeros 49)
unfolding hour_in B.word_at B.agrees B.head_of B.is_entry B.seek_of B.find_of read_zone_by read_short read_block begins
    is_version is_fourth version_fits check_header block_at none_or_all check_counts check_block check_part count_of check_of check_time check_index check_type check_leap
    check_leaps check_standard is_standard check_ut nul_end one_apart occurs_later correction_before correction_of correction_at is_expiry type_in type_behind is_after_last
    by_table octets be32 raised time_at lift T.demand T.each T.◌>>=◌ T.◌>>◌ first_with is_stop run_to time_in last_with last_not_after scale_by scale_or scale_in rules_in
    answer_at answer_by local_in
not_unix = by_zones leaping (pos 1782907199) refl

-- a clock behind the year 9999: 61
pub too_late : slipped_at (fix_at (pos 9223372036854775807)) square [] berlin 4 19 49 ≡ replied (refused (refusal 61 1 0)) (zeros 4) (zeros 19) (zeros 49)
unfolding hour_in civil_at reading_at seconds_to days_of_years year_length is_leap B.word_at B.agrees B.head_of
    B.is_entry B.seek_of B.find_of read_zone_by read_short read_block begins is_version is_fourth version_fits check_header block_at none_or_all check_counts check_block
    check_part count_of check_of check_time check_index check_type check_leap check_leaps check_standard is_standard check_ut nul_end one_apart occurs_later correction_before
    correction_of correction_at is_expiry type_in type_behind is_after_last by_table octets be32 raised time_at lift T.demand T.each T.◌>>=◌ T.◌>>◌ first_with is_stop
    run_to time_in last_with last_not_after scale_by scale_or scale_in rules_in answer_at answer_by local_in
too_late = by_zones berlin (pos 9223372036854775807) refl

-- ---- not stamped: two zones
-- two squares, the second with Asia/Kolkata's name
abbrev pair : List ℕ
pair =
    80 ∷ 76 ∷ 66 ∷ 84 ∷ 1 ∷ 7 ∷ 3 ∷ 16 ∷ 212 ∷ 233 ∷ 237 ∷ 229 ∷ 250 ∷ 239 ∷ 238 ∷ 229 ∷ 201 ∷ 228 ∷ 208 ∷ 242 ∷ 229 ∷ 230 ∷ 233 ∷ 248 ∷ 10 ∷ 212 ∷ 233 ∷ 237 ∷ 229 ∷ 250 ∷ 239 ∷ 238 ∷
    229 ∷ 201 ∷ 228 ∷ 4 ∷ 206 ∷ 239 ∷ 244 ∷ 229 ∷ 0 ∷ 12 ∷ 33 ∷ 27 ∷ 81 ∷ 81 ∷ 80 ∷ 80 ∷ 0 ∷ 1 ∷ 81 ∷ 81 ∷ 80 ∷ 82 ∷ 34 ∷ 13 ∷ 7 ∷ 197 ∷ 245 ∷ 242 ∷ 239 ∷ 240 ∷ 229 ∷ 175 ∷
    6 ∷ 194 ∷ 229 ∷ 242 ∷ 236 ∷ 233 ∷ 238 ∷ 1 ∷ 176 ∷ 5 ∷ 193 ∷ 243 ∷ 233 ∷ 225 ∷ 175 ∷ 7 ∷ 203 ∷ 239 ∷ 236 ∷ 235 ∷ 225 ∷ 244 ∷ 225 ∷ 1 ∷ 177 ∷ 0 ∷ 131 ∷ 102 ∷ 128 ∷ 136 ∷ 1 ∷ 128 ∷
    144 ∷ 2 ∷ 129 ∷ 136 ∷ 1 ∷ 0 ∷ 0 ∷ 131 ∷ 102 ∷ 128 ∷ 136 ∷ 1 ∷ 136 ∷ 144 ∷ 2 ∷ 129 ∷ 136 ∷ 1 ∷ 0 ∷ 0 ∷ []

abbrev pair_head : Head
pair_head = record { preamble = record { kind = 84; version = 1; precision = 7; count = 3 }; sections = record { table = 44; metadata = 56; «data» = 89 }; strict = false }

pair_opened : given pair_head ≡ head_of pair
unfolding reading_of forward_at value_of size_of too_long signed_of even_bits point_of fixed_point one_shifted checked moved_by advanced marker packed_turn turn_of
    round_again next_within next_point trace_then trace_within trace_of along passing closed_at then_on judge judged_at field_at fields_from fields_of fix_of matched_with
    preamble_of texts_from sections_from sections_at contents_by head_by safezone_bits zones_beside matched_beside summary seen merged_after merged rows_then row_by
    rows_within rows_from rows_in judged_turn row_turn seek searched steps_by entry_by H.within remote_at string_at bytes_of text_at characters started_by begun_by followed
    goes_on is_utf8 same_point E.between in_box quadrant_of slope_of edge_of straight closest_on turned quarter_by half_turn turn_at crossing_of across_by clear_of wound_by
    measured S.checked rest_mark of_int add sub mul div to_signed
pair_opened = refl

abbrev matches : List Hit
matches = hit_of 0 0 1 44 ∷ hit_of 1 17 1 50 ∷ []

abbrev pair_texts : List ℕ
pair_texts =
    0 ∷ 0 ∷ 7 ∷ 69 ∷ 117 ∷ 114 ∷ 111 ∷ 112 ∷ 101 ∷ 47 ∷ 1 ∷ 0 ∷ 6 ∷ 66 ∷ 101 ∷ 114 ∷ 108 ∷ 105 ∷ 110 ∷ 2 ∷ 0 ∷ 1 ∷ 48 ∷ 0 ∷ 0 ∷ 5 ∷ 65 ∷ 115 ∷ 105 ∷ 97 ∷ 47 ∷ 1 ∷
    0 ∷ 7 ∷ 75 ∷ 111 ∷ 108 ∷ 107 ∷ 97 ∷ 116 ∷ 97 ∷ 2 ∷ 0 ∷ 1 ∷ 49 ∷ []

abbrev pair_outcome : Outcome Zones
pair_outcome = record { answer = record { matches = 2; mark = 1; safezone = 0; used = 45 }; matches = matches; text = pair_texts }

pair_looked : given pair_outcome ≡ zones_beside pair pair_head [] (place_of fix) false 8 45
unfolding reading_of forward_at value_of size_of too_long signed_of even_bits point_of fixed_point one_shifted checked moved_by advanced marker packed_turn turn_of
    round_again next_within next_point trace_then trace_within trace_of along passing closed_at then_on judge judged_at field_at fields_from fields_of fix_of matched_with
    preamble_of texts_from sections_from sections_at contents_by head_by safezone_bits zones_beside matched_beside summary seen merged_after merged rows_then row_by
    rows_within rows_from rows_in judged_turn row_turn seek searched steps_by entry_by H.within remote_at string_at bytes_of text_at characters started_by begun_by followed
    goes_on is_utf8 same_point E.between in_box quadrant_of slope_of edge_of straight closest_on turned quarter_by half_turn turn_at crossing_of across_by clear_of wound_by
    measured S.checked rest_mark of_int add sub mul div to_signed
pair_looked = refl

-- Asia/Kolkata
abbrev kolkata : List ℕ
kolkata = 65 ∷ 115 ∷ 105 ∷ 97 ∷ 47 ∷ 75 ∷ 111 ∷ 108 ∷ 107 ∷ 97 ∷ 116 ∷ 97 ∷ []

first_name : given name ≡ name_of pair pair_head 0
unfolding reading_of forward_at value_of size_of too_long picked_from H.within remote_at string_at bytes_of text_at characters started_by begun_by followed goes_on is_utf8 same name_of
first_name = refl

second_name : given kolkata ≡ name_of pair pair_head 17
unfolding reading_of forward_at value_of size_of too_long picked_from H.within remote_at string_at bytes_of text_at characters started_by begun_by followed goes_on is_utf8 same name_of
second_name = refl

-- Berlin's file, and one whose type is `IST`, five hours and a half east
abbrev two : List ℕ
two =
    116 ∷ 122 ∷ 100 ∷ 97 ∷ 116 ∷ 97 ∷ 50 ∷ 48 ∷ 50 ∷ 54 ∷ 97 ∷ 0 ∷ 0 ∷ 0 ∷ 0 ∷ 24 ∷ 0 ∷ 0 ∷ 0 ∷ 128 ∷ 0 ∷ 0 ∷ 0 ∷ 237 ∷ 69 ∷ 117 ∷ 114 ∷ 111 ∷ 112 ∷ 101 ∷ 47
    ∷ 66 ∷ 101 ∷ 114 ∷ 108 ∷ 105 ∷ 110 ∷ 0 ∷ 0 ∷ 0 ∷ 0 ∷ 0 ∷ 0 ∷ 0 ∷ 0 ∷ 0 ∷ 0 ∷ 0 ∷ 0 ∷ 0 ∷ 0 ∷ 0 ∷ 0 ∷ 0 ∷ 0 ∷ 0 ∷ 0 ∷ 0 ∷ 0 ∷ 0 ∷ 0 ∷ 0 ∷ 0 ∷ 0 ∷ 0 ∷ 0 ∷ 0
    ∷ 0 ∷ 0 ∷ 0 ∷ 0 ∷ 55 ∷ 0 ∷ 0 ∷ 0 ∷ 0 ∷ 65 ∷ 115 ∷ 105 ∷ 97 ∷ 47 ∷ 75 ∷ 111 ∷ 108 ∷ 107 ∷ 97 ∷ 116 ∷ 97 ∷ 0 ∷ 0 ∷ 0 ∷ 0 ∷ 0 ∷ 0 ∷ 0 ∷ 0 ∷ 0 ∷ 0 ∷ 0 ∷ 0 ∷ 0
    ∷ 0 ∷ 0 ∷ 0 ∷ 0 ∷ 0 ∷ 0 ∷ 0 ∷ 0 ∷ 0 ∷ 0 ∷ 0 ∷ 0 ∷ 0 ∷ 0 ∷ 0 ∷ 0 ∷ 0 ∷ 0 ∷ 55 ∷ 0 ∷ 0 ∷ 0 ∷ 54 ∷ 0 ∷ 0 ∷ 0 ∷ 0 ∷ 84 ∷ 90 ∷ 105 ∷ 102 ∷ 0 ∷ 0 ∷ 0 ∷ 0 ∷ 0 ∷ 0
    ∷ 0 ∷ 0 ∷ 0 ∷ 0 ∷ 0 ∷ 0 ∷ 0 ∷ 0 ∷ 0 ∷ 0 ∷ 0 ∷ 0 ∷ 0 ∷ 0 ∷ 0 ∷ 0 ∷ 0 ∷ 0 ∷ 0 ∷ 0 ∷ 0 ∷ 0 ∷ 0 ∷ 0 ∷ 0 ∷ 0 ∷ 0 ∷ 0 ∷ 0 ∷ 1 ∷ 0 ∷ 0 ∷ 0 ∷ 5 ∷ 0 ∷ 0 ∷ 28 ∷ 32
    ∷ 1 ∷ 0 ∷ 67 ∷ 69 ∷ 83 ∷ 84 ∷ 0 ∷ 84 ∷ 90 ∷ 105 ∷ 102 ∷ 0 ∷ 0 ∷ 0 ∷ 0 ∷ 0 ∷ 0 ∷ 0 ∷ 0 ∷ 0 ∷ 0 ∷ 0 ∷ 0 ∷ 0 ∷ 0 ∷ 0 ∷ 0 ∷ 0 ∷ 0 ∷ 0 ∷ 0 ∷ 0 ∷ 0 ∷ 0 ∷ 0 ∷ 0
    ∷ 0 ∷ 0 ∷ 0 ∷ 0 ∷ 0 ∷ 0 ∷ 0 ∷ 0 ∷ 0 ∷ 0 ∷ 1 ∷ 0 ∷ 0 ∷ 0 ∷ 4 ∷ 0 ∷ 0 ∷ 77 ∷ 88 ∷ 0 ∷ 0 ∷ 73 ∷ 83 ∷ 84 ∷ 0 ∷ []

abbrev second_hour : Hour
second_hour = record { name = kolkata; abbreviation = 73 ∷ 83 ∷ 84 ∷ []; offset = pos 19800; reading = record { year = 2026; month = 7; day = 1; hour = 17; minute = 29; second = 59; weekday = 3 } }

second_shown : CivilOf (pos 1782907199) (pos 19800) (Some second_hour.reading)
unfolding instant_of seconds_to days_of_years year_length is_leap
second_shown = shown_at (pos 19800) 17 29 59 (omega arith) (omega arith) (omega arith) refl

first_in : given hour ≡ hour_in two (pos 1782907199) name
unfolding B.word_at B.agrees B.head_of B.is_entry B.seek_of B.find_of read_zone_by read_short read_block begins is_version is_fourth
    version_fits check_header block_at none_or_all check_counts check_block check_part count_of check_of check_time check_index check_type check_leap check_leaps check_standard
    is_standard check_ut nul_end one_apart occurs_later correction_before correction_of correction_at is_expiry type_in type_behind is_after_last by_table octets be32 raised
    time_at lift T.demand T.each T.◌>>=◌ T.◌>>◌ first_with is_stop run_to time_in last_with last_not_after scale_by scale_or scale_in rules_in answer_at answer_by local_in
first_in = hour_by two name (record { start = 128; length = 55 }) local reading refl refl shown_so

second_in : given second_hour ≡ hour_in two (pos 1782907199) kolkata
unfolding B.word_at B.agrees B.head_of B.is_entry B.seek_of B.find_of read_zone_by read_short read_block begins is_version is_fourth
    version_fits check_header block_at none_or_all check_counts check_block check_part count_of check_of check_time check_index check_type check_leap check_leaps check_standard
    is_standard check_ut nul_end one_apart occurs_later correction_before correction_of correction_at is_expiry type_in type_behind is_after_last by_table octets be32 raised
    time_at lift T.demand T.each T.◌>>=◌ T.◌>>◌ first_with is_stop run_to time_in last_with last_not_after scale_by scale_or scale_in rules_in answer_at answer_by local_in
second_in =
    hour_by two kolkata (record { start = 183; length = 54 }) (record { offset = pos 19800; daylight = 0; place = 50; length = 3 }) second_hour.reading refl refl second_shown

both_hours : given (hour ∷ second_hour ∷ []) ≡ hours_from pair pair_head two (pos 1782907199) 1 matches
unfolding hours_from hour_of
both_hours =
    ap (λ (h : Reply Hour). h >>= λ hour. given second_hour >>= λ second. given (hour ∷ second ∷ [])) (ap (of_match 1) first_in ∙ onward first_name _)
    ∙ ap (λ (s : Reply Hour). hour_of pair pair_head two (pos 1782907199) 1 (hit_of 0 0 1 44) >>= λ hour. s >>= λ second. given (hour ∷ second ∷ [])) (ap (of_match 2) second_in ∙ onward second_name _)
    ∙ joined (hour_of pair pair_head two (pos 1782907199) 1 (hit_of 0 0 1 44)) (hour_of pair pair_head two (pos 1782907199) 2 (hit_of 1 17 1 50)) where
      joined : (a b : Reply Hour) → (a >>= λ hour. b >>= λ second. given (hour ∷ second ∷ [])) ≡ (a >>= λ hour. (b >>= λ second. given (second ∷ [])) >>= λ hours. given (hour ∷ hours))
      joined (given h) (given second) = refl
      joined (given h) (refused why) = refl
      joined (refused why) b = refl

-- their offsets differ: 92
pub differing : slipped_at fix pair [] two 8 45 0 ≡ replied (refused (plain 92)) (zeros 8) (zeros 45) []
unfolding slipped_at replied_of slip_at agreed have_offset
differing = ap (replied_of 8 45 0) (sym (ap (rest_of 0) both_hours ∙ onward pair_looked _ ∙ onward pair_opened _ ∙ met (placed (pos 1782907199)) (plain 84) _)) where
  rest_of : ℕ → Reply (List Hour) → Reply Slip
  rest_of size said =
      said >>= λ hours. agreed hours >>= λ hour. fitted size (line_of hour hours) >>= λ line.
      given (record { stamped = record { length = length line; matches = length hours; offset = hour.offset }; line = line; matches = matches; text = pair_texts })

-- ---- not stamped: the map
-- a search that stopped early: 85, with its mark; it is zones' table out of order
abbrev out_of_order : List ℕ
out_of_order =
    80 ∷ 76 ∷ 66 ∷ 67 ∷ 1 ∷ 16 ∷ 1 ∷ 4 ∷ 206 ∷ 225 ∷ 237 ∷ 229 ∷ 0 ∷ 18 ∷ 2 ∷ 18 ∷ 4 ∷ 4 ∷ 20 ∷ 20 ∷ 0 ∷ 0 ∷ 40 ∷ 40 ∷ 40 ∷ 40 ∷ 0 ∷ 0 ∷ 4 ∷ 4 ∷ 20 ∷ 20 ∷
    0 ∷ 9 ∷ 1 ∷ 193 ∷ 48 ∷ 128 ∷ 2 ∷ 128 ∷ 4 ∷ 129 ∷ 2 ∷ 0 ∷ 0 ∷ 48 ∷ 128 ∷ 4 ∷ 128 ∷ 2 ∷ 130 ∷ 4 ∷ 0 ∷ 0 ∷ []

abbrev inside : Fix
inside = record { lat = in_the_zone.lat; lon = in_the_zone.lon; instant = pos 0 }

pub not_whole : slipped_at inside out_of_order [] [] 4 4 0 ≡ replied (refused (refusal 85 0 4)) (zeros 4) (zeros 4) []
unfolding slipped_at replied_of slip_at on_globe within le neg reading_of forward_at value_of size_of too_long signed_of even_bits point_of fixed_point one_shifted checked
    moved_by advanced marker packed_turn turn_of round_again next_within next_point trace_then trace_within trace_of along passing closed_at then_on judge judged_at field_at
    fields_from fields_of fix_of matched_with preamble_of texts_from sections_from sections_at contents_by head_by safezone_bits zones_beside matched_beside summary seen
    merged_after merged rows_then row_by rows_within rows_from rows_in judged_turn row_turn seek searched steps_by entry_by H.within remote_at string_at bytes_of text_at
    characters started_by begun_by followed goes_on is_utf8 same_point E.between in_box quadrant_of slope_of edge_of straight closest_on turned quarter_by half_turn turn_at
    crossing_of across_by clear_of wound_by measured S.checked rest_mark of_int add sub mul div to_signed
not_whole = refl

-- no match, at 80 degrees south: 86
pub at_sea : slipped_at (record { lat = fin true 5 (pos 4); lon = fin false 0 (pos 0); instant = pos 0 }) square [] [] 4 19 0 ≡ replied (refused (plain 86)) (zeros 4) (zeros 19) []
unfolding slipped_at replied_of slip_at hours_from agreed on_globe within le neg reading_of forward_at value_of size_of too_long signed_of even_bits point_of fixed_point
    one_shifted checked moved_by advanced marker packed_turn turn_of round_again next_within next_point trace_then trace_within trace_of along passing closed_at then_on
    judge judged_at field_at fields_from fields_of fix_of matched_with preamble_of texts_from sections_from sections_at contents_by head_by safezone_bits zones_beside
    matched_beside summary seen merged_after merged rows_then row_by rows_within rows_from rows_in judged_turn row_turn seek searched steps_by entry_by H.within remote_at
    string_at bytes_of text_at characters started_by begun_by followed goes_on is_utf8 same_point E.between in_box quadrant_of slope_of edge_of straight closest_on turned
    quarter_by half_turn turn_at crossing_of across_by clear_of wound_by measured S.checked rest_mark of_int add sub mul div to_signed
at_sea = refl

-- a map of countries: 87
pub of_countries : slipped_at inside printed [] [] 4 4 0 ≡ replied (refused (plain 87)) (zeros 4) (zeros 4) []
unfolding slipped_at replied_of slip_at hours_from hour_of name_of on_globe within le neg reading_of forward_at value_of size_of too_long signed_of even_bits point_of
    fixed_point one_shifted checked moved_by advanced marker packed_turn turn_of round_again next_within next_point trace_then trace_within trace_of along passing closed_at
    then_on judge judged_at field_at fields_from fields_of fix_of matched_with preamble_of texts_from sections_from sections_at contents_by head_by safezone_bits zones_beside
    matched_beside summary seen merged_after merged rows_then row_by rows_within rows_from rows_in judged_turn row_turn seek searched steps_by entry_by H.within remote_at
    string_at bytes_of text_at characters started_by begun_by followed goes_on is_utf8 same_point E.between in_box quadrant_of slope_of edge_of straight closest_on turned
    quarter_by half_turn turn_at crossing_of across_by clear_of wound_by measured S.checked rest_mark of_int add sub mul div to_signed
of_countries = refl

-- no map: 2
pub no_map : slipped_at fix [] [] [] 0 0 0 ≡ replied (refused (plain 2)) [] [] []
unfolding slipped_at replied_of slip_at on_globe within le neg head_by contents_by preamble_of
no_map = refl

-- ---- not stamped: the request
-- no place on the globe: 84
pub no_place : slipped_at (record { lat = nan; lon = nan; instant = pos 0 }) [] [] [] 0 0 0 ≡ replied (refused (plain 84)) [] [] []
unfolding slipped_at replied_of slip_at on_globe within le neg
no_place = refl

by_request : (text : List ℕ) {why : Refusal} → refused why ≡ request_of text → slipped text [] [] [] 0 0 0 ≡ replied (refused why) [] [] []
by_request text e = sym (no_request text [] [] [] 0 0 0 e refl refl refl)

-- without a fix, with a wrong checksum, another sentence, a leap second
abbrev fixless : List ℕ
fixless = 36 ∷ 71 ∷ 80 ∷ 82 ∷ 77 ∷ 67 ∷ 44 ∷ 44 ∷ 86 ∷ 44 ∷ 44 ∷ 44 ∷ 44 ∷ 44 ∷ 44 ∷ 44 ∷ 48 ∷ 49 ∷ 48 ∷ 55 ∷ 50 ∷ 54 ∷ 42 ∷ 51 ∷ 51 ∷ []

abbrev garbled : List ℕ
garbled = 36 ∷ 71 ∷ 80 ∷ 71 ∷ 71 ∷ 65 ∷ 44 ∷ 49 ∷ 49 ∷ 53 ∷ 57 ∷ 53 ∷ 57 ∷ 42 ∷ 55 ∷ 66 ∷ []

abbrev other : List ℕ
other = 36 ∷ 71 ∷ 80 ∷ 71 ∷ 71 ∷ 65 ∷ 44 ∷ 49 ∷ 49 ∷ 53 ∷ 57 ∷ 53 ∷ 57 ∷ 42 ∷ 55 ∷ 65 ∷ []

abbrev leap : List ℕ
leap =
    36 ∷ 71 ∷ 80 ∷ 82 ∷ 77 ∷ 67 ∷ 44 ∷ 50 ∷ 51 ∷ 53 ∷ 57 ∷ 54 ∷ 48 ∷ 44 ∷ 65 ∷ 44 ∷ 53 ∷ 50 ∷ 51 ∷ 49 ∷ 44 ∷ 78 ∷ 44 ∷ 48 ∷ 49 ∷ 51 ∷ 50 ∷ 52 ∷ 44 ∷ 69 ∷ 44 ∷ 44 ∷
    44 ∷ 48 ∷ 49 ∷ 48 ∷ 55 ∷ 50 ∷ 54 ∷ 42 ∷ 49 ∷ 53 ∷ []

-- no text: 80; status V: 81; a wrong checksum: 82; another sentence: 83; a leap second: 84, at its place
pub record Unread : Type 0 where
  pub form : slipped [] [] [] [] 0 0 0 ≡ replied (refused (plain 80)) [] [] []
  pub no_fix : slipped fixless [] [] [] 0 0 0 ≡ replied (refused (plain 81)) [] [] []
  pub sum : slipped garbled [] [] [] 0 0 0 ≡ replied (refused (refusal 82 0 13)) [] [] []
  pub another : slipped other [] [] [] 0 0 0 ≡ replied (refused (plain 83)) [] [] []
  pub late : slipped leap [] [] [] 0 0 0 ≡ replied (refused (refusal 84 0 7)) [] [] []

pub unread : Unread
unfolding QT.formed QT.until QT.behind QT.unblanked QN.spelled QN.value_from QN.part_of QN.has_form QN.angle_of QN.side_of
    QN.decimal_of QN.degrees_of QN.nearest_to QC.is_date QC.is_time QC.time_of QC.full_year QC.date_of QC.moment_of QC.seconds_of QC.when_of QC.instant_at QR.is_sealed
    QR.is_mode QR.turned QR.fix_of QR.fields_of QR.sentence_of QR.plain_of QR.spelt_of QR.meaning QR.request_of is_leap year_length days_of_years month_length
    days_of_months day_number seconds_to instant_of round
unread = record { form = by_request [] refl; no_fix = by_request fixless refl; sum = by_request garbled refl; another = by_request other refl; late = by_request leap refl }
