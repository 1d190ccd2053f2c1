-- What a stamped slip was made of: the lookup, the hours of its matches, and the first of them. Assumes nothing.
use Rattle.numbers.proofs.Prelude.{ℕ, suc, ◌+◌, ◌≤◌, min, eqb-true, eqb, leb, ℤ, ◌+ℤ◌, length, Bool, true, false, not, List, [], ◌∷◌, ◌≡◌, refl, sym, ap, subst, ◌∙◌, w32, SFits, arith}
use Rattle.numbers.proofs.{Replies.{given_from, given_one, demanded}, Tests.{both}}
use Rattle.numbers.specs.{Answer.{if◌then◌else◌}, Lists.{padded}, Reply.{Reply, given, refused, refusal, plain, demand, ◌>>=◌, ◌>>◌}}
use Rattle.atlas.specs.Beside.{zones_beside}
use Rattle.bundle.{proofs.Theorems.{found_first, entry_bytes}, specs.{Bundle.{find_of}, declared.find.File.{File}}}
use Rattle.calendar.{proofs.CivilAt.{civil_at_is}, specs.{Civil.{civil_at, Shows, CivilOf}, declared.civil.Reading.{Reading}}}
use Rattle.header.specs.{Header.{head_of}, declared.header.Head.{Head}}
use Rattle.line.specs.Put.{far}
use Rattle.localtime.{proofs.Offsets.{offset_fits}, specs.{Local.{rules_in, answer_by, answer_at, scale_in, scale_or, scale_by, scale_at}, declared.scale.Scale.{Scale}}}
use Rattle.request.specs.{Request.{request_of}, declared.read.Fix.{Fix}}
use Rattle.std.specs.Prelude.{Option, Some, None}
use Rattle.slip.proofs.Zones.{same_match}
use Rattle.slip.specs.{Hour.{Hour, name_of, plainly, known, local_in, shown, hour_in, hour_of, hours_from}, Line.{line_of}, Says.{Meant, Says, EachSays}}
use Rattle.slip.specs.{Slip.{Slip, place_of, on_globe, have_offset, agreed, fitted, slip_at, slip_of, Replied, replied, replied_of, slipped_at, slipped}, declared.slip.Stamped.{Stamped}}
use Rattle.table.specs.{Hits.{words}, declared.hits.Hit.{Hit}}
use Rattle.tzif.specs.{Header.{rfc9636}, Number.{lift}, Text.{slice}, Zone.{read_zone_by}, declared.{local.Found.{Found}, zone.Zone.{Zone}}}
use Rattle.verdict.{proofs.Compared.{same_eq}, specs.Edge.{same_z}}
use Rattle.zones.specs.{Lent.{Outcome}, declared.lookup.Zones.{Zones}}
use Rattle.tzif.specs.Reply as Z

abbrev unix_scale : Scale
unix_scale = record { kind = 1; correction = 0 }

-- ---- stamped: what it was made of
abbrev slip_with : Outcome Zones → List Hour → Hour → List ℕ → Slip
slip_with looked hours hour line =
    record { stamped = record { length = length line; matches = length hours; offset = hour.offset }; line = line; matches = looked.matches; text = looked.text }

-- what follows the lookup
abbrev pub after_lookup : Fix → List ℕ → Head → List ℕ → ℕ → Outcome Zones → Reply Slip
after_lookup fix map head zones size looked = do
  demand (eqb looked.answer.mark 1) (refusal 85 0 looked.answer.mark)
  hours ← hours_from map head zones fix.instant 1 looked.matches
  hour ← agreed hours
  line ← fitted size (line_of hour hours)
  given (slip_with looked hours hour line)

pub record Made (fix : Fix) (map atlas zones : List ℕ) (n room size : ℕ) (slip : Slip) : Type 0 where
  pub head : Head
  pub opened : given head ≡ head_of map
  pub looked : Outcome Zones
  pub found : given looked ≡ zones_beside map head atlas (place_of fix) false n room
  pub mark : looked.answer.mark ≡ 1
  pub hours : List Hour
  pub said : given hours ≡ hours_from map head zones fix.instant 1 looked.matches
  pub hour : Hour
  pub agree : given hour ≡ agreed hours
  pub is : slip ≡ slip_with looked hours hour (line_of hour hours)

fits_so : (size : ℕ) (text : List ℕ) {line : List ℕ} → given line ≡ fitted size text → line ≡ text
unfolding fitted
fits_so size text e = given_one (demanded (leb (length text) size) (refusal 18 0 (min (length text) far)) e).1

pub made : (fix : Fix) (map atlas zones : List ℕ) (n room size : ℕ) {slip : Slip} → given slip ≡ slip_at fix map atlas zones n room size → Made fix map atlas zones n room size slip
unfolding slip_at
made fix map atlas zones n room size e = let head = given_from (head_of map) _ (demanded (on_globe fix) (plain 84) e).1 in
    let looked = given_from (zones_beside map head.it atlas (place_of fix) false n room) _ head.onto in
    let mark = demanded (eqb looked.it.answer.mark 1) (refusal 85 0 looked.it.answer.mark) looked.onto in
    let hours = given_from (hours_from map head.it zones fix.instant 1 looked.it.matches) _ mark.1 in
    let hour = given_from (agreed hours.it) _ hours.onto in let line = given_from (fitted size (line_of hour.it hours.it)) _ hour.onto in record {
      head = head.it;
      opened = head.is;
      looked = looked.it;
      found = looked.is;
      mark = eqb-true looked.it.answer.mark 1 mark.0;
      hours = hours.it;
      said = hours.is;
      hour = hour.it;
      agree = hour.is;
      is =
          given_one line.onto ∙ ap (slip_with looked.it hours.it hour.it) (fits_so size (line_of hour.it hours.it) line.is);
    }

-- the slip behind a stamped reply
pub record Behind (n room size : ℕ) (whole : Reply Slip) (stamped : Stamped) (hs ts os : List ℕ) : Type 0 where
  pub slip : Slip
  pub is : given slip ≡ whole
  pub said : stamped ≡ slip.stamped
  pub hits : hs ≡ padded n (words slip.matches)
  pub text : ts ≡ padded room slip.text
  pub out : os ≡ padded size slip.line

pub behind : (n room size : ℕ) (whole : Reply Slip) (stamped : Stamped) (hs ts os : List ℕ) → replied (given stamped) hs ts os ≡ replied_of n room size whole
    → Behind n room size whole stamped hs ts os
unfolding replied_of
behind n room size (given slip) stamped hs ts os e = let hits = ap (λ (x : Replied). x.hits) e in let text = ap (λ (x : Replied). x.text) e in
    let out = ap (λ (x : Replied). x.out) e in
    record { slip = slip; is = refl; said = given_one (ap (λ (x : Replied). x.reply) e); hits = hits; text = text; out = out }
behind n room size (refused why) stamped hs ts os e = let said = ap (λ (x : Replied). x.reply) e in let z : ◌≡◌ {A = ℕ} 0 1 = cc in absurd (omega arith)

-- a stamped slip of a request is the slip at what the request means
asked_by : (n room size : ℕ) (request : Reply Fix) (at : Fix → Reply Slip) {stamped : Stamped} {hs ts os : List ℕ} → replied (given stamped) hs ts os ≡ replied_of n room size (request >>= at)
    → (fix : Fix) × (request ≡ given fix) × (replied (given stamped) hs ts os ≡ replied_of n room size (at fix))
asked_by n room size (given fix) at e = (fix, refl, e)
asked_by n room size (refused why) at {stamped} {hs} {ts} {os} e = absurd (nothing (behind n room size (refused why) stamped hs ts os e).is) where
  nothing : {slip : Slip} → given slip ≡ refused why → ⊥
  nothing e = let z : ◌≡◌ {A = ℕ} 0 1 = cc in omega arith

pub meant : (request map atlas zones : List ℕ) (n room size : ℕ) {stamped : Stamped} {hs ts os : List ℕ} {Holds : Fix → Type 0}
    → replied (given stamped) hs ts os ≡ slipped request map atlas zones n room size
    → ((fix : Fix) → replied (given stamped) hs ts os ≡ slipped_at fix map atlas zones n room size → Holds fix) → Meant request Holds
unfolding slipped slip_of slipped_at
meant request map atlas zones n room size e k = let a = asked_by n room size (request_of request) (λ fix. slip_at fix map atlas zones n room size) e in
    record { fix = a.0; asked = a.1; holds = k a.0 a.2 }

-- ---- the matches
-- an hour that was said, with what it rests on
pub record Hourly (map : List ℕ) (head : Head) (zones : List ℕ) (instant : ℤ) (match : Hit) (hour : Hour) : Type 0 where
  pub says : Says map head zones instant hour.offset match
  pub shows : Shows (instant +ℤ hour.offset) hour.reading
  pub fits : SFits w32 hour.offset
  pub short : length hour.name ≤ 40

was_shown : (instant offset : ℤ) (civil : Option Reading) {reading : Reading} → CivilOf instant offset civil → given reading ≡ shown civil → Shows (instant +ℤ offset) reading
unfolding CivilOf
was_shown instant offset (Some r) c e = subst (λ (x : Reading). Shows (instant +ℤ offset) x) (sym (given_one e)) c
was_shown instant offset None c e = let z : ◌≡◌ {A = ℕ} 0 1 = cc in absurd (omega arith)

-- its offset fits 32 bits
found_known : (answer : Option Found) {found : Found} → given found ≡ known answer → Some found ≡ answer
found_known (Some found) e = ap Some (given_one e)
found_known None e = let z : ◌≡◌ {A = ℕ} 0 1 = cc in absurd (omega arith)

said_plainly : (reply : Z.Reply (Option Found)) {answer : Option Found} → given answer ≡ plainly reply → Z.given answer ≡ reply
said_plainly (Z.given a) e = ap Z.given (given_one e)
said_plainly (Z.refused why) e = let z : ◌≡◌ {A = ℕ} 0 1 = cc in absurd (omega arith)

local_fits : (file : List ℕ) (instant : ℤ) {found : Found} → given found ≡ local_in file instant → SFits w32 found.offset
unfolding local_in
local_fits file instant e =
    let a = given_from (plainly (answer_at rfc9636 file instant)) _ (demanded (not (eqb (scale_at file instant).kind 2)) (plain 91) e).1 in
    offset_fits rfc9636 file instant (ap Z.given (found_known a.it a.onto) ∙ said_plainly (answer_at rfc9636 file instant) a.is)

-- and its file counts UNIX time: it has a scale, since it answers, and this is not its own
unix_kind : (none : Bool) (correction : ℕ) → not (eqb (if none then unix_scale else record { kind = 2; correction = correction }).kind 2) ≡ true
    → (if none then unix_scale else record { kind = 2; correction = correction }).kind ≡ 1
unix_kind true correction e = refl
unix_kind false correction e = let z : ◌≡◌ {A = ℕ} 0 1 = cc in absurd (omega arith)

scale_there : {Rules : Type 0} (zone : Z.Reply Zone) (rules : Zone → Z.Reply Rules) (next : Zone → Rules → Z.Reply (Option Found)) (scale : Zone → Scale) {answer : Option Found}
    → Z.given answer ≡ Z.◌>>=◌ zone (λ z. Z.◌>>=◌ (rules z) (next z)) → (z : Zone) × (scale_or (Z.◌>>=◌ zone (λ z. Z.◌>>=◌ (rules z) (λ r. Z.given (scale z)))) ≡ scale z)
unfolding scale_or Z.◌>>=◌
scale_there {Rules} (Z.given z) rules next scale {answer} e = (z, by_rules (rules z) (next z) e) where
  by_rules : (rs : Z.Reply Rules) (onto : Rules → Z.Reply (Option Found)) → Z.given answer ≡ Z.◌>>=◌ rs onto → scale_or (Z.◌>>=◌ rs (λ r. Z.given (scale z))) ≡ scale z
  by_rules (Z.given r) onto e = refl
  by_rules (Z.refused why) onto e = let z : ◌≡◌ {A = ℕ} 0 1 = cc in absurd (omega arith)
scale_there (Z.refused why) rules next scale e = let z : ◌≡◌ {A = ℕ} 0 1 = cc in absurd (omega arith)

local_unix : (file : List ℕ) (instant : ℤ) {found : Found} → given found ≡ local_in file instant → (scale_at file instant).kind ≡ 1
unfolding local_in answer_at scale_by scale_in
local_unix file instant e =
    let d = demanded (not (eqb (scale_at file instant).kind 2)) (plain 91) e in
    let a = given_from (plainly (answer_at rfc9636 file instant)) _ d.1 in
    let s = scale_there (read_zone_by rfc9636 file) (λ zone. rules_in file zone) (λ zone rules. answer_by file zone.block rules (lift instant))
    (λ zone. scale_in file zone.block (lift instant)) (said_plainly (answer_at rfc9636 file instant) a.is) in
    ap (λ (x : Scale). x.kind) s.1 ∙ unix_kind (eqb s.0.block.leapcnt 0) _ (subst (λ (x : Scale). not (eqb x.kind 2) ≡ true) s.1 d.0)

-- its name has an entry in the bundle
name_fits : (zones name : List ℕ) {file : File} → given file ≡ find_of zones name → length name ≤ 40
name_fits zones name e = let f = found_first zones name e in (entry_bytes zones name f.place f.first.has).0

pub hourly : (map : List ℕ) (head : Head) (zones : List ℕ) (instant : ℤ) (number : ℕ) (match : Hit) {hour : Hour} → given hour ≡ hour_of map head zones instant number match
    → Hourly map head zones instant match hour
unfolding hour_of hour_in
hourly map head zones instant number match {hour} e = let name = given_from (name_of map head match.metadata) _ e in
    let file = given_from (find_of zones name.it) _ (same_match number _ name.onto) in
    let found = given_from (local_in (slice zones file.it.start file.it.length) instant) _ file.onto in
    let reading = given_from (shown (civil_at instant found.it.offset)) _ found.onto in let is = given_one reading.onto in
    let offset = ap (λ (h : Hour). h.offset) is in let unix = local_unix _ instant found.is in record {
      says = record { name = name.it; named = sym name.is; file = file.it; held = sym file.is; unix = unix; found = found.it; local = sym found.is; same = sym offset };
      shows =
          subst (λ (r : Reading). Shows (instant +ℤ hour.offset) r) (sym (ap (λ (h : Hour). h.reading) is))
          (subst (λ (z : ℤ). Shows (instant +ℤ z) reading.it) (sym offset)
          (was_shown instant found.it.offset (civil_at instant found.it.offset) (civil_at_is instant found.it.offset) reading.is));
      fits = subst (λ (z : ℤ). SFits w32 z) (sym offset) (local_fits _ instant found.is);
      short = subst (λ (l : List ℕ). length l ≤ 40) (sym (ap (λ (h : Hour). h.name) is)) (name_fits zones name.it file.is);
    }

pub each_says : (map : List ℕ) (head : Head) (zones : List ℕ) (instant : ℤ) (number : ℕ) (matches : List Hit) (hours : List Hour) (offset : ℤ)
    → given hours ≡ hours_from map head zones instant number matches → have_offset offset hours ≡ true → EachSays map head zones instant offset matches
unfolding EachSays hours_from have_offset
each_says map head zones instant number [] hours offset e h = tt
each_says map head zones instant number (match ∷ matches) hours offset e h = let hour = given_from (hour_of map head zones instant number match) _ e in
    let rest = given_from (hours_from map head zones instant (number + 1) matches) _ hour.onto in
    let test = both (same_z hour.it.offset offset) (have_offset offset rest.it) (subst (λ (hs : List Hour). have_offset offset hs ≡ true) (given_one rest.onto) h) in (
      subst (λ (z : ℤ). Says map head zones instant z match) (same_eq hour.it.offset offset test.0) (hourly map head zones instant number match hour.is).says,
      each_says map head zones instant (number + 1) matches rest.it offset rest.is test.1,
    )

-- each match has its hour
pub hours_long : (map : List ℕ) (head : Head) (zones : List ℕ) (instant : ℤ) (number : ℕ) (matches : List Hit) (hours : List Hour)
    → given hours ≡ hours_from map head zones instant number matches → length hours ≡ length matches
unfolding hours_from
hours_long map head zones instant number [] hours e = ap length (given_one e)
hours_long map head zones instant number (match ∷ matches) hours e = let hour = given_from (hour_of map head zones instant number match) _ e in
    let rest = given_from (hours_from map head zones instant (number + 1) matches) _ hour.onto in
    ap length (given_one rest.onto) ∙ ap suc (hours_long map head zones instant (number + 1) matches rest.it rest.is)

-- they agree on the first one's
pub record First (hours : List Hour) (hour : Hour) : Type 0 where
  pub rest : List Hour
  pub are : hours ≡ hour ∷ rest
  pub all : have_offset hour.offset hours ≡ true

pub first : (hours : List Hour) {hour : Hour} → given hour ≡ agreed hours → First hours hour
unfolding agreed
first [] e = let z : ◌≡◌ {A = ℕ} 0 1 = cc in absurd (omega arith)
first (h ∷ hs) {hour} e = let d = demanded (have_offset h.offset (h ∷ hs)) (plain 92) e in let same : h ≡ hour = sym (given_one d.1) in
    record { rest = hs; are = ap (λ (x : Hour). x ∷ hs) same; all = subst (λ (x : Hour). have_offset x.offset (h ∷ hs) ≡ true) same d.0 }

-- the first one is a match's
pub first_hourly : (map : List ℕ) (head : Head) (zones : List ℕ) (instant : ℤ) (matches : List Hit) (hours : List Hour) {hour : Hour}
    → given hours ≡ hours_from map head zones instant 1 matches → First hours hour → (match : Hit) × Hourly map head zones instant match hour
unfolding hours_from
first_hourly map head zones instant [] hours e f = let no : [] ≡ _ = given_one (sym e) ∙ f.are in let z : ◌≡◌ {A = ℕ} 0 1 = cc in absurd (omega arith)
first_hourly map head zones instant (match ∷ matches) hours {hour} e f = let one = given_from (hour_of map head zones instant 1 match) _ e in
    let rest = given_from (hours_from map head zones instant 2 matches) _ one.onto in
    let same : one.it ≡ hour = (let list : one.it ∷ rest.it ≡ hour ∷ f.rest = sym (given_one rest.onto) ∙ f.are in cc) in
    (match, subst (Hourly map head zones instant match) same (hourly map head zones instant 1 match one.is))
