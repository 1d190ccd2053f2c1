-- The page of promises: the questions of README in its order, all but the last, each with the theorem that answers it, over what the entry points promise. A statement stands here in full, so that
-- a reader looks up definitions alone (`tools/floor` lists them); its proof is the law of the crate where it belongs.
use Prim.Native.Nat.{ℕ, ◌+◌, ◌*◌, ◌-◌, ◌<◌, ◌≤◌}
use lib.{Dec.{eqb}, Ieee.{Float}, IntN.{ℤ}, ListN.{length, get_or, take}, Signed.{mag, lt_z}}
use mathlib.Core.{Bool.{Bool, true, false, ◌||◌}, List.{List, [], ◌∷◌}, Logic.{◌↔◌, ◌⊎◌}, Path.{◌≡◌}}
use mir.{Syntax.{w64}, Val.{SFits}}
use Rattle.std.specs.Prelude.{Option, Some}
use Rattle.atlas.specs.{Atlas.{atlas_made, is_atlas_of}, Beside.{NoneOrAtlas, simply_beside}, Looked.{looked_atlas}}
use Rattle.batch.specs.{Many.{is_taken, fixes_of, many_beside, looked_up_many}, OneByOne.{one_by_one}}
use Rattle.border.specs.{Box.{Box, holds}, Encoding.{encoding_of}, Trace.{Trace, point}, declared.place.{FixedLat.{FixedLat}, FixedLon.{FixedLon}, Point.{Point}}}
use Rattle.builder.specs.{File.{Room, built_of}, Yards.{Lent, Plan, Yard, plan_of}}
use Rattle.bundle.specs.{Bundle.{find_of}, First.{FoundAt}, declared.find.File.{File}}
use Rattle.calendar.specs.{Calendar.{days_of_years}, Civil.{CivilOf}, Epoch.{forwards, backwards}, declared.civil.Reading.{Reading}}
use Rattle.draft.specs.{Held.{Builder.{Builder, finish, holding}, Sound.{Sound, room_for}, Space.{Space}, Totals.{totals_of}}, Summed.Ends.{Files, Finishes, space_of}}
use Rattle.draft.specs.declared.held.room.Rooms.{Rooms}
use Rattle.header.specs.{Header.{head_by, head_of}, declared.header.Head.{Head}}
use Rattle.index.specs.{Index.{indexed, indexed_of}, Own.{is_index_of}, Through.{looked_indexed}}
use Rattle.localtime.specs.{Found.{found_of}, Local.{rules_in, local_time}}
use Rattle.numbers.specs.{Lists.{zeros}, Reply.{Reply, given, refused}, Spoken.{spoken}, declared.refusal.Refusal.{Refusal}}
use Rattle.promises.specs.Built.Finds.{FindsInto}
use Rattle.request.specs.{Clock.{Date, Time, utc}, Nearest.{Nearest}, Only.{OnlyAt}, Request.{Spelt, request_of, spelt_of}, Text.{line_of}, declared.read.Fix.{Fix}}
use Rattle.salvage.specs.{Kept.{kept_of}, Promises.{ListOf, KeptFile}, Salvage.{salvaged}, declared.rescue.reply.Counts.{Counts}}
use Rattle.slip.specs.{Says.{from, Meant, Whole, Agreed, Clocked, Short, is_at_number, is_slip_number}, Slip.{slipped_at, slipped}, declared.slip.Stamped.{Stamped}}
use Rattle.slip.specs.Slip as Z
use Rattle.table.specs.{Rows.{rows_in}, declared.location.Location.{Location}}
use Rattle.tzif.specs.{Check.{correction_at}, Local.{type_behind, named}, Number.{lift}, Times.{transitions_of, last_not_after}, Zone.{read_zone}, declared.{block.Block.{Block}, zone.Zone.{Zone}}}
use Rattle.tzif.specs.Last.{Octets, transition_time, LastNotAfter}
use Rattle.tzif.specs.Reply as T
use Rattle.tzrule.specs.{Ask.{corrected, in_years, clock_at}, Summer.{is_summer, IsSummer, IsRule}, declared.rule.{Rule.{Rule}, Tz.{Tz}}}
use Rattle.office.specs.{Calls.{Shelf, Called, Made, TotalsIn}, Draft.{Ends}}
use Rattle.uskelzar.specs.{Slips.{Printed, slip_spoken}, Spoken.{zones_values, found_spoken}}
use Rattle.verdict.specs.{Stretch.{Stretch}, Verdict.{after, judge, judged_at}, declared.step.Tally.{Tally}}
use Rattle.writer.specs.WrittenAt.{WrittenAt}
use Rattle.zones.specs.{Lookup.{looked_up}, Simple.{simply_looked}, Unstopped.{looked_through_all}, declared.lookup.Zones.{Zones}}
use Rattle.zones.specs.Lent as L
use Rattle.atlas.proofs.AtlasIsPlain as atlas
use Rattle.atlas.proofs.BesideIsPlain as beside
use Rattle.atlas.proofs.Theorems as theorems
use Rattle.batch.proofs.ManyIsOneByOne as batch
use Rattle.batch.proofs.ManyIsPlain as many
use Rattle.bundle.proofs.Theorems as bundle
use Rattle.calendar.proofs.Epoch as epoch
use Rattle.calendar.proofs.SameCivil as calendar
use Rattle.draft.proofs.held.Ends as draft
use Rattle.index.proofs.Owned as index
use Rattle.localtime.proofs.Theorems as localtime
use Rattle.promises.proofs.AtlasNumbers as ranges
use Rattle.promises.proofs.Built.BuiltLookup as built
use Rattle.promises.proofs.Salvaged.Answered as salvage
use Rattle.request.proofs.Theorems as request
use Rattle.slip.proofs.Theorems as slip
use Rattle.tzif.proofs.Theorems as tzif
use Rattle.tzrule.proofs.SummerAt as tzrule
use Rattle.office.proofs.Made as calls
use Rattle.uskelzar.proofs.ReturnedSlip as printed
use Rattle.uskelzar.proofs.ReturnedWhole as returned
use Rattle.verdict.proofs.Stretch as stretch
use Rattle.writer.proofs.OneVerdict as writer
use Rattle.zones.proofs.WholeMeansWhole as zones

-- ---- Can a slip carry a zone from a search that stopped halfway?
-- Under mark 1 reply, hit list and text are those of a search that never stops early.
pub whole_means_whole : (file : List ℕ) (location : Location) (asked : Bool) (n room : ℕ) (found : Zones) → (looked_up file location asked n room).reply ≡ given found → found.mark ≡ 1
    → looked_up file location asked n room ≡ looked_through_all file location asked n room
whole_means_whole = zones.whole_means_whole

-- In C: so is all that a call returned and wrote which returned 0 and left 1 in the reply's second word.
pub returned_whole : (file : List ℕ) (location : Location) (asked : Bool) (n room : ℕ) {number : ℕ} {reply hits text : List ℕ}
    → spoken number reply (hits ∷ text ∷ []) ≡ found_spoken zones_values (looked_up file location asked n room) → number ≡ 0 → get_or reply 1 0 ≡ 1
    → spoken number reply (hits ∷ text ∷ []) ≡ found_spoken zones_values (looked_through_all file location asked n room)
returned_whole = returned.returned_whole

-- ---- Does a slip that is stamped together with a day's others carry what it would carry alone?
-- Where the lists go together, and the file opens or there is a fix, many fixes come to what plain lookups come to, each in the room that the earlier ones left.
pub many_is_one_by_one : (file : List ℕ) (lats lons : List Float) (asked : Bool) (n room third : ℕ) → is_taken (length lats) (length lons) third ≡ true
    → ((head : Head) × (given head ≡ head_of file)) ⊎ (0 < length lats)
    → looked_up_many file lats lons asked n room third ≡ one_by_one file asked n room third (fixes_of lats lons) 0 0 0 (zeros n) (zeros room) (zeros third)
many_is_one_by_one = batch.many_is_one_by_one

-- ---- Does an index or an atlas beside the file change an answer?
-- By the definition of `is_index_of`: 0 exactly where building, lent as many, gives and leaves these words for this file. Proved is the contract of `uskelzar_is_index`, that it returns this;
pub is_index_exactly : (file words : List ℕ) → (is_index_of file words ≡ given tt) ↔ ((used : ℕ) × (indexed_of file (length words) ≡ indexed (given used) words))
is_index_exactly = index.is_index_exactly

-- where it says 0 a lookup through them is the plain one.
pub is_index_is_plain : (file words : List ℕ) → is_index_of file words ≡ given tt → (location : Location) (asked : Bool) (n room : ℕ)
    → looked_indexed file words location asked n room ≡ looked_up file location asked n room
is_index_is_plain file words e location asked n room = index.is_index_is_plain file words e location asked n room

-- By the definition of `is_atlas_of`: 0 exactly where building, lent as many, gives and leaves these words for this file. Proved is the contract of `uskelzar_is_atlas`, that it returns this,
pub is_atlas_exactly : (file words : List ℕ) → (is_atlas_of file words ≡ given tt) ↔ ((used : ℕ) × (atlas_made file (length words) ≡ indexed (given used) words))
is_atlas_exactly = atlas.is_atlas_exactly

-- so that what `build_atlas` gave is one,
pub built_is_atlas : (file : List ℕ) (n : ℕ) {used : ℕ} → (atlas_made file n).reply ≡ given used → is_atlas_of file (atlas_made file n).words ≡ given tt
built_is_atlas = theorems.built_is_atlas

-- and, again by the definition, nothing else is;
pub atlas_is_built : (file words : List ℕ) → is_atlas_of file words ≡ given tt → (used : ℕ) × (atlas_made file (length words) ≡ indexed (given used) words)
atlas_is_built = theorems.atlas_is_built

-- where it says 0 a lookup through them is the plain one.
pub atlas_is_plain : (file words : List ℕ) → is_atlas_of file words ≡ given tt → (location : Location) (asked : Bool) (n room : ℕ)
    → looked_atlas file words location asked n room ≡ looked_up file location asked n room
atlas_is_plain = atlas.atlas_is_plain

-- So is a simple lookup,
pub simple_atlas_is_plain : (file words : List ℕ) → is_atlas_of file words ≡ given tt → (location : Location) (n room : ℕ)
    → simply_beside file words location n room ≡ simply_looked file location n room
simple_atlas_is_plain = beside.simple_atlas_is_plain

-- so are many fixes,
pub many_atlas_is_plain : (file words : List ℕ) → is_atlas_of file words ≡ given tt → (lats lons : List Float) (asked : Bool) (n room third : ℕ)
    → many_beside file words lats lons asked n room third ≡ looked_up_many file lats lons asked n room third
many_atlas_is_plain = many.many_atlas_is_plain

-- and a slip through the map's atlas is the slip without one,
pub slip_atlas_is_plain : (request map atlas zones : List ℕ) → is_atlas_of map atlas ≡ given tt → (n room size : ℕ)
    → slipped request map atlas zones n room size ≡ slipped request map [] zones n room size
slip_atlas_is_plain = slip.slip_atlas_is_plain

-- at a fix too.
pub slip_at_atlas_is_plain : (fix : Fix) (map atlas zones : List ℕ) → is_atlas_of map atlas ≡ given tt → (n room size : ℕ)
    → slipped_at fix map atlas zones n room size ≡ slipped_at fix map [] zones n room size
slip_at_atlas_is_plain = slip.slip_at_atlas_is_plain

-- With any words at all a lookup through them has one reply, with all lent output; it takes them all, so that it ends and stays inside what it was lent.
pub atlas_safe : (file words : List ℕ) (location : Location) (asked : Bool) (n room : ℕ) (r r' : Reply Zones) (hs hs' ts ts' : List ℕ)
    → L.replied r hs ts ≡ looked_atlas file words location asked n room → L.replied r' hs' ts' ≡ looked_atlas file words location asked n room
    → (r ≡ r') × (hs ≡ hs') × (ts ≡ ts')
atlas_safe = theorems.atlas_safe

-- So is what `build_atlas` and `is_atlas` answer and leave.
pub same_atlas : (file words : List ℕ) (n : ℕ)
    → ((r r' : Reply ℕ) (ws ws' : List ℕ) → indexed r ws ≡ atlas_made file n → indexed r' ws' ≡ atlas_made file n → (r ≡ r') × (ws ≡ ws'))
    × ((r r' : Reply (Unit {0})) → r ≡ is_atlas_of file words → r' ≡ is_atlas_of file words → r ≡ r')
same_atlas file words n = (theorems.same_atlas_built file n, theorems.same_atlas_held file words)

-- Where it is refused, then with 1 to 18, as a plain lookup, or with 36,
pub atlas_refusals : (file words : List ℕ) (location : Location) (asked : Bool) (n room : ℕ) (why : Refusal) → (looked_atlas file words location asked n room).reply ≡ refused why
    → (from 1 18 why.number || eqb why.number 36) ≡ true
atlas_refusals = ranges.by_ranges

-- and all lent output is zero.
pub atlas_refusal_zeroes : (file words : List ℕ) (location : Location) (asked : Bool) (n room : ℕ) (why : Refusal) → (looked_atlas file words location asked n room).reply ≡ refused why
    → ((looked_atlas file words location asked n room).hits ≡ zeros n) × ((looked_atlas file words location asked n room).text ≡ zeros room)
atlas_refusal_zeroes = theorems.atlas_refusal_zeroes

-- What an atlas rests on: the turns of a stretch whose box does not hold the fix are those of the one edge between its ends.
pub stretch_is_edge : (fix : Point) (box : Box) {from to : Point} {trace rest : Trace} (t : Tally) → holds box fix ≡ false → holds box from ≡ true → Stretch box from trace to rest
    → mag t.winding < 2147483647 → judge fix false (after from) t trace ≡ judge fix false (after from) t (point to rest)
stretch_is_edge = stretch.stretch_is_edge

-- ---- When borders move from encoding version 0 to 1, what shows that a yard stays in its zone?
-- One border, in whichever way it is written, gets one verdict and one distance at every fix.
pub one_border_one_verdict : {version version' : ℕ} {lats lons : List ℤ} {file file' : List ℕ} {base base' place place' : ℕ}
    → WrittenAt version lats lons file base place → WrittenAt version' lats lons file' base' place'
    → (lat : FixedLat) (lon : FixedLon) (asked : Bool) (least : ℕ)
    → judged_at file (encoding_of version base) place lat lon asked least ≡ judged_at file' (encoding_of version' base') place' lat lon asked least
one_border_one_verdict = writer.one_border_one_verdict

-- ---- Does a yard of ours stay what we drew?
-- Every lookup in a built file that is answered is whole, and has each yard's verdict as its own border gives it, with the yard's values.
pub lookup_finds : (lists : Lent) (room : Room) (file : List ℕ) → built_of (plan_of lists) room ≡ given file → (location : Location) (asked : Bool) (n space : ℕ) (found : Zones)
    → (looked_up file location asked n space).reply ≡ given found → FindsInto (plan_of lists) room location asked n space (looked_up file location asked n space) found
lookup_finds lists room file e location asked n space = built.lookup_finds lists room file e location asked n space

-- ---- Are a builder's sizes right after every change?
-- After every sequence of exported calls the state's totals are those of the yards that were added and not taken away,
pub totals_fresh : (plan : Plan) (room : ℕ) (yards : List Yard) (s : Shelf) → Made plan room yards s → TotalsIn s.state (totals_of (holding plan yards))
totals_fresh = calls.totals_fresh

-- and a call that returns no 0 leaves state, lists and notes.
pub refused_changes_nothing : (plan : Plan) (room : ℕ) (yards : List Yard) (found left : Shelf) (number : ℕ) (change : List Yard → List Yard) → Made plan room yards found
    → Called found left number change → (number ≡ 0 → ⊥) → left ≡ found
refused_changes_nothing = calls.refused_changes_nothing

-- The file that a sound builder ends with is the one that building the yards held gives, and the end is refused as that is.
pub finish_builds : (b : Builder) → Sound b.plan b.room → b.totals ≡ totals_of b.plan → (out : ℕ) (space : Space)
    → finish b out space ≡ built_of b.plan (room_for out (record { bytes = out; lists = space.lists }))
finish_builds b sound fresh out space = draft.finish_builds b sound fresh out space

-- What the end leaves after every sequence of exported calls is what building the yards gives that were added and not taken away, with names and notice as they were begun.
pub finish_made : (plan : Plan) (room : ℕ) (yards : List Yard) (s : Shelf) → Made plan room yards s → (rooms : Rooms) (size : ℕ) (out : List ℕ) (number : ℕ) (words : List ℕ)
    → Ends (λ h. Files h rooms s.lists size out) s.state number words
    → Ends (λ h. Finishes (built_of (holding plan yards) (room_for size (record { bytes = size; lists = (space_of h rooms).lists }))) size out) s.state number words
finish_made = calls.finish_made

-- ---- What is left of a damaged file?
-- The file that was written opens strictly, and its table is that of the old file's whole entries, in the old order, each as it was.
pub salvage_kept : (file : List ℕ) (words room : ℕ) (counts : Counts) → (salvaged file words room).reply ≡ given counts → (head : Head) → head_by true file ≡ given head
    → KeptFile file head (take counts.size (salvaged file words room).out) (kept_of file head (rows_in file head))
salvage_kept file words room counts e head opens = salvage.lent_kept file words room counts e head opens

-- The words that were written are exactly the old file's entries that do not read whole, each with the first reason met.
pub salvage_list : (file : List ℕ) (words room : ℕ) (counts : Counts) → (salvaged file words room).reply ≡ given counts → (head : Head) → head_by true file ≡ given head
    → ListOf file head (take (2 * counts.lines) (salvaged file words room).list)
salvage_list file words room counts e head opens = salvage.lent_list file words room counts e head opens

-- ---- Is the hour that of the zone's file?
-- The type that answers is that of the last transition not after the instant, and type 0 before the first;
pub last_not_after_lem : (file : List ℕ) → Octets file → (block : Block) (instant : ℤ) → SFits w64 instant
    → LastNotAfter file block instant (type_behind file block (last_not_after file (transitions_of block) (lift instant)))
last_not_after_lem file octets block instant fits = tzif.last_not_after_lem file octets block instant fits

-- after the last transition local time is the TZ string's clock, in the years 1 to 9999;
pub after_last_by_string : (file : List ℕ) (instant : ℤ) (room : ℕ) {zone : Zone} → read_zone file ≡ T.given zone → {tz : Tz} → rules_in file zone ≡ T.given (Some tz) → Octets file → SFits w64 instant
    → 0 < zone.block.timecnt → lt_z (transition_time file zone.block (zone.block.timecnt - 1)) instant ≡ true
    → in_years (corrected (lift instant) (correction_at file zone.block (lift instant))) ≡ true
    → local_time file instant room ≡ named file room (found_of (clock_at tz (corrected (lift instant) (correction_at file zone.block (lift instant)))))
after_last_by_string file instant room z r = localtime.after_last_by_string file instant room z r

-- and it is summer exactly if the instant lies in the summer of some year.
pub summer_some : (rule : Rule) (instant : ℕ) → IsRule rule → (is_summer rule instant ≡ true → IsSummer rule instant) × (IsSummer rule instant → is_summer rule instant ≡ true)
summer_some rule instant good = tzrule.summer_some rule instant good

-- ---- Is the date?
-- What a clock shows is the one date and time whose seconds give instant and offset back.
pub same_civil : (instant offset : ℤ) (a b : Option Reading) → CivilOf instant offset a → CivilOf instant offset b → a ≡ b
same_civil = calendar.same_civil

-- The days before 1 January of a year are counted from 1970, year by year, forwards and backwards; years before the year 1 are told by one whole rounds of 400 years later.
pub days_from_1970 : (c k : ℕ) → (days_of_years (1969 + k + 400 * c) ≡ 719162 + forwards k + 146097 * c)
    × (k ≤ 1969 + 400 * c → days_of_years (1969 + 400 * c - k) + backwards k ≡ 719162 + 146097 * c)
days_from_1970 = epoch.days_from_1970

-- ---- Is it the fix, the instant and the zone's file that were asked for?
-- The two floats of a fix are the f32 nearest to the fractions that the request spells, ties to even;
pub request_nearest : (text : List ℕ) {fix : Fix} {spelt : Spelt} → given fix ≡ request_of text → given spelt ≡ spelt_of (line_of text)
    → Nearest spelt.lat fix.lat × Nearest spelt.lon fix.lon
request_nearest text e s = request.request_nearest text e s

-- its instant is the one at which a clock in UTC shows the date and time that the request spells;
pub request_instant : (text : List ℕ) {fix : Fix} {spelt : Spelt} {date : Date} {time : Time} → given fix ≡ request_of text → given spelt ≡ spelt_of (line_of text)
    → spelt.when ≡ utc date time → OnlyAt date time fix.instant
request_instant text e s w = request.request_instant text e s w

-- and the file that is found in a bundle lies in its data, where the first entry of the name says.
pub found_first : (bundle name : List ℕ) {file : File} → given file ≡ find_of bundle name → FoundAt bundle name file
found_first = bundle.found_first

-- ---- Is the line right for this sentence, this map and these zones?
-- Two replies of the slip that are permitted for a request, a map, an atlas or none, and zones are one, with all lent output;
pub one_slip : (request map atlas zones : List ℕ) (n room size : ℕ) (r r' : Reply Stamped) (hs hs' ts ts' os os' : List ℕ)
    → Z.replied r hs ts os ≡ slipped request map atlas zones n room size → Z.replied r' hs' ts' os' ≡ slipped request map atlas zones n room size
    → (r ≡ r') × (hs ≡ hs') × (ts ≡ ts') × (os ≡ os')
one_slip = slip.one_slip

-- and so of the slip at a fix.
pub one_slip_at : (fix : Fix) (map atlas zones : List ℕ) (n room size : ℕ) (r r' : Reply Stamped) (hs hs' ts ts' os os' : List ℕ)
    → Z.replied r hs ts os ≡ slipped_at fix map atlas zones n room size → Z.replied r' hs' ts' os' ≡ slipped_at fix map atlas zones n room size
    → (r ≡ r') × (hs ≡ hs') × (ts ≡ ts') × (os ≡ os')
one_slip_at = slip.one_slip_at

-- Where it is stamped, without an atlas or through the map's own, hits and text are those of a lookup with mark 1 at what the request means, and so of a search that never stops early;
pub slip_whole : (request map atlas zones : List ℕ) → NoneOrAtlas map atlas → (n room size : ℕ) (stamped : Stamped) (hs ts os : List ℕ)
    → Z.replied (given stamped) hs ts os ≡ slipped request map atlas zones n room size → Meant request (λ fix. Whole fix map n room hs ts)
slip_whole = slip.slip_whole

pub slip_at_whole : (fix : Fix) (map atlas zones : List ℕ) → NoneOrAtlas map atlas → (n room size : ℕ) (stamped : Stamped) (hs ts os : List ℕ)
    → Z.replied (given stamped) hs ts os ≡ slipped_at fix map atlas zones n room size → Whole fix map n room hs ts
slip_at_whole = slip.slip_at_whole

-- there is a match; each one's zone has a TZif file that counts UNIX time and has the printed offset there; the line is the one civil reading and the zones of these matches, which the reply counts;
pub slip_agrees : (request map atlas zones : List ℕ) (n room size : ℕ) (stamped : Stamped) (hs ts os : List ℕ)
    → Z.replied (given stamped) hs ts os ≡ slipped request map atlas zones n room size → Meant request (λ fix. Agreed fix map zones n size stamped hs os)
slip_agrees = slip.slip_agrees

pub slip_at_agrees : (fix : Fix) (map atlas zones : List ℕ) (n room size : ℕ) (stamped : Stamped) (hs ts os : List ℕ)
    → Z.replied (given stamped) hs ts os ≡ slipped_at fix map atlas zones n room size → Agreed fix map zones n size stamped hs os
slip_at_agrees = slip.slip_at_agrees

-- the printed bytes, read back as weekday, date, time and offset, are that reading and the offset of the reply;
pub slip_clock : (request map atlas zones : List ℕ) (n room size : ℕ) (stamped : Stamped) (hs ts os : List ℕ)
    → Z.replied (given stamped) hs ts os ≡ slipped request map atlas zones n room size → Meant request (λ fix. Clocked fix stamped os)
slip_clock = slip.slip_clock

pub slip_at_clock : (fix : Fix) (map atlas zones : List ℕ) (n room size : ℕ) (stamped : Stamped) (hs ts os : List ℕ)
    → Z.replied (given stamped) hs ts os ≡ slipped_at fix map atlas zones n room size → Clocked fix stamped os
slip_at_clock = slip.slip_at_clock

-- and the line has at most 36 bytes, and for each different zone 43 and its abbreviation.
pub slip_short : (request map atlas zones : List ℕ) (n room size : ℕ) (stamped : Stamped) (hs ts os : List ℕ)
    → Z.replied (given stamped) hs ts os ≡ slipped request map atlas zones n room size → Meant request (λ fix. Short fix map zones n stamped hs)
slip_short = slip.slip_short

pub slip_at_short : (fix : Fix) (map atlas zones : List ℕ) (n room size : ℕ) (stamped : Stamped) (hs ts os : List ℕ)
    → Z.replied (given stamped) hs ts os ≡ slipped_at fix map atlas zones n room size → Short fix map zones n stamped hs
slip_at_short = slip.slip_at_short

-- In C: what a call of `uskelzar_slip`, or of `uskelzar_slip_atlas` with any words, left which returned 0 is a stamped slip, and its length, matches and offset are the reply's words;
pub returned_slip : (request map atlas zones : List ℕ) (n room size : ℕ) {number : ℕ} {words hits text out : List ℕ}
    → spoken number words (hits ∷ text ∷ out ∷ []) ≡ slip_spoken (slipped request map atlas zones n room size) → number ≡ 0 → Printed (slipped request map atlas zones n room size) words hits text out
returned_slip = printed.returned_slip

-- and so of `uskelzar_slip_at` and `uskelzar_slip_at_atlas`.
pub returned_slip_at : (fix : Fix) (map atlas zones : List ℕ) (n room size : ℕ) {number : ℕ} {words hits text out : List ℕ}
    → spoken number words (hits ∷ text ∷ out ∷ []) ≡ slip_spoken (slipped_at fix map atlas zones n room size) → number ≡ 0 → Printed (slipped_at fix map atlas zones n room size) words hits text out
returned_slip_at = printed.returned_slip_at

-- Where it is not stamped, without an atlas or through the map's own, the number is one of 1 to 18, 40 to 61, 80 to 92, at a fix none of 80 to 83;
pub slip_refusals : (request map atlas zones : List ℕ) → NoneOrAtlas map atlas → (n room size : ℕ) (why : Refusal) (hs ts os : List ℕ)
    → Z.replied (refused why) hs ts os ≡ slipped request map atlas zones n room size → is_slip_number why.number ≡ true
slip_refusals = slip.slip_refusals

pub slip_at_refusals : (fix : Fix) (map atlas zones : List ℕ) → NoneOrAtlas map atlas → (n room size : ℕ) (why : Refusal) (hs ts os : List ℕ)
    → Z.replied (refused why) hs ts os ≡ slipped_at fix map atlas zones n room size → is_at_number why.number ≡ true
slip_at_refusals = slip.slip_at_refusals

-- and all that was lent is zero.
pub slip_refusal_zeroes : (request map atlas zones : List ℕ) (n room size : ℕ) (why : Refusal) (hs ts os : List ℕ)
    → Z.replied (refused why) hs ts os ≡ slipped request map atlas zones n room size → (hs ≡ zeros n) × (ts ≡ zeros room) × (os ≡ zeros size)
slip_refusal_zeroes = slip.slip_refusal_zeroes

pub slip_at_refusal_zeroes : (fix : Fix) (map atlas zones : List ℕ) (n room size : ℕ) (why : Refusal) (hs ts os : List ℕ)
    → Z.replied (refused why) hs ts os ≡ slipped_at fix map atlas zones n room size → (hs ≡ zeros n) × (ts ≡ zeros room) × (os ≡ zeros size)
slip_at_refusal_zeroes = slip.slip_at_refusal_zeroes
