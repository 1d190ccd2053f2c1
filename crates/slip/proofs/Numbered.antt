-- Which numbers a slip can be refused with. Assumes nothing.
use Rattle.numbers.proofs.Prelude.{ℕ, ◌+◌, min, le-leb, leb-true, eqb, leb, ℤ, length, Bool, true, false, ◌&&◌, ◌||◌, not, List, [], ◌∷◌, ◌++◌, ◌≡◌, refl, sym, ap, subst, ◌∙◌, arith}
use Rattle.numbers.proofs.{Refusals.{Listed, listed_so}, Replies.{NumberedReply, answers, refuses, then_reply, then_with, and_then, demands}, Tests.{both, differ}}
use Rattle.numbers.specs.{Reply.{Reply, given, refused, refusal, plain, ◌>>=◌}, declared.refusal.Refusal.{Refusal}}
use Rattle.std.specs.Prelude.{Option, Some, None}
use Rattle.atlas.{proofs.{BesideIsPlain.{zones_beside_is_plain}, NumberedAtlas.{zones_beside_refusals}}, specs.Beside.{NoneOrAtlas, zones_beside}}
use Rattle.bundle.{proofs.Theorems.{found_refusals}, specs.Bundle.{find_of}}
use Rattle.calendar.specs.{Civil.{civil_at}, declared.civil.Reading.{Reading}}
use Rattle.header.{proofs.StrictHead.{head_strict}, specs.{Header.{head_of}, declared.header.Head.{Head}}}
use Rattle.line.specs.Put.{far}
use Rattle.localtime.{proofs.Numbered.{footer_numbers, local_time_refusals}, specs.Local.{scale_at, answer_at, local_time_by}}
use Rattle.request.{proofs.Refusing.{five_numbers, request_told}, specs.declared.read.Fix.{Fix}}
use Rattle.slip.specs.{Hour.{Hour, named, name_of, plainly, known, local_in, shown, hour_in, blamed, of_match, hour_of, hours_from}, Line.{line_of}, Says.{from, is_at_number, is_slip_number}}
use Rattle.slip.specs.Slip.{place_of, on_globe, have_offset, agreed, fitted, slip_at, slip_of}
use Rattle.table.specs.declared.{hits.Hit.{Hit}, location.Location.{Location}}
use Rattle.tzif.specs.{Header.{rfc9636}, Local.{lent}, Text.{slice}, declared.local.Found.{Found}}
use Rattle.zones.{proofs.NumberedLookup.{lookup_numbers, Known, described_at, lookup_refusals}, specs.{Lookup.{zones_with, zones_in, looked_up}, declared.lookup.Zones.{Zones}}}
use Rattle.tzif.specs.Reply as Z
use Rattle.zones.specs.Lent as L

-- ---- lists of numbers
-- by each refusal that it can be
by_refusal : {A : Type 0} {P : ℕ → Type 0} (reply : Reply A) → ((why : Refusal) → refused why ≡ reply → P why.number) → NumberedReply P reply
by_refusal (given a) k = answers
by_refusal (refused why) k = refuses (k why refl)

wider : {A : Type 0} {P Q : ℕ → Type 0} {reply : Reply A} → ((n : ℕ) → P n → Q n) → NumberedReply P reply → NumberedReply Q reply
wider k answers = answers
wider k (refuses {why} h) = refuses (k why.number h)

-- ---- at a fix
abbrev Mine : ℕ → Type 0
Mine n = is_at_number n ≡ true

abbrev Told : {A : Type 0} → Reply A → Type 0
Told reply = NumberedReply Mine reply

lookup_mine : (n : ℕ) → Listed lookup_numbers n → Mine n
unfolding is_at_number
lookup_mine n h = listed_so is_at_number lookup_numbers n refl h

-- opening and looking up: their refusals are those of the lookup
module _ (map : List ℕ) (place : Location) (n room : ℕ) where
  abbrev looked : Reply Head → Reply Zones
  looked opened = (L.replied_of n room (opened >>= λ head. zones_with map head place false n room)).reply

  head_told : Told (head_of map)
  unfolding looked_up zones_in L.replied_of
  head_told = by_refusal (head_of map) (λ why e. lookup_mine why.number (lookup_refusals map place false n room why (sym (ap looked e))))

  zones_told : (head : Head) → head_of map ≡ given head → Told (zones_with map head place false n room)
  unfolding looked_up zones_in L.replied_of
  zones_told head o =
      by_refusal (zones_with map head place false n room) (λ why e. lookup_mine why.number (lookup_refusals map place false n room why (ap looked o
      ∙ ap (λ x. (L.replied_of n room x).reply) (sym e))))

name_told : (map : List ℕ) (head : Head) (metadata : ℕ) → head_of map ≡ given head → Told (name_of map head metadata)
unfolding name_of is_at_number
name_told map head metadata o =
    and_then (demands (eqb head.preamble.kind 0x54) (plain 87) refl)
    (then_reply (wider (λ n h. lookup_mine n (subst (λ (s : Bool). Known s n) (head_strict false map o) h)) (described_at map head metadata)) named_told) where
      named_told : (name : Option (List ℕ)) → Told (named name)
      named_told None = refuses refl
      named_told (Some name) = answers

local_told : (file : List ℕ) (instant : ℤ) → Told (local_in file instant)
unfolding local_in is_at_number local_time_by lent
local_told file instant =
    and_then (demands (not (eqb (scale_at file instant).kind 2)) (plain 91) refl) (then_reply (go (answer_at rfc9636 file instant) refl) known_told) where
      go : (reply : Z.Reply (Option Found)) → answer_at rfc9636 file instant ≡ reply → Told (plainly reply)
      go (Z.given a) e = answers
      go (Z.refused why) e = refuses (listed_so is_at_number footer_numbers why.number refl (local_time_refusals file instant 0 why (ap (λ (x : Z.Reply (Option Found)). (lent file 0 x).reply) e)))

      known_told : (answer : Option Found) → Told (known answer)
      known_told (Some found) = answers
      known_told None = refuses refl

shown_told : (civil : Option Reading) → Told (shown civil)
unfolding is_at_number
shown_told (Some reading) = answers
shown_told None = refuses refl

hour_told : (zones : List ℕ) (instant : ℤ) (name : List ℕ) → Told (hour_in zones instant name)
unfolding hour_in is_at_number
hour_told zones instant name =
    then_reply (by_refusal (find_of zones name) (λ why e. listed_so is_at_number (88 ∷ 89 ∷ []) why.number refl (found_refusals zones name e)))
    (λ file. then_reply (local_told (slice zones file.start file.length) instant) (λ found. then_reply (shown_told (civil_at instant found.offset)) (λ reading. answers)))

match_told : {A : Type 0} (number : ℕ) {reply : Reply A} → Told reply → Told (of_match number reply)
match_told number answers = answers
match_told number (refuses h) = refuses h

hours_told : (map : List ℕ) (head : Head) (zones : List ℕ) (instant : ℤ) (number : ℕ) (matches : List Hit) → head_of map ≡ given head → Told (hours_from map head zones instant number matches)
unfolding hours_from hour_of
hours_told map head zones instant number [] o = answers
hours_told map head zones instant number (match ∷ matches) o =
    then_reply (then_reply (name_told map head match.metadata o) (λ name. match_told number (hour_told zones instant name)))
    (λ hour. then_reply (hours_told map head zones instant (number + 1) matches o) (λ hours. answers))

agreed_told : (hours : List Hour) → Told (agreed hours)
unfolding agreed is_at_number
agreed_told [] = refuses refl
agreed_told (hour ∷ hours) = and_then (demands (have_offset hour.offset (hour ∷ hours)) (plain 92) refl) answers

fitted_told : (size : ℕ) (line : List ℕ) → Told (fitted size line)
unfolding fitted is_at_number
fitted_told size line = and_then (demands (leb (length line) size) (refusal 18 0 (min (length line) far)) refl) answers

-- by what the lookup can be refused with
slip_at_by : {P : ℕ → Type 0} → ((m : ℕ) → Mine m → P m) → (fix : Fix) (map atlas zones : List ℕ) (n room size : ℕ)
    → ((head : Head) → head_of map ≡ given head → NumberedReply P (zones_beside map head atlas (place_of fix) false n room)) → NumberedReply P (slip_at fix map atlas zones n room size)
unfolding slip_at is_at_number
slip_at_by mine fix map atlas zones n room size looks =
    and_then (wider mine (demands (on_globe fix) (plain 84) refl)) (then_with (wider mine (head_told map (place_of fix) n room)) (λ head o. then_reply (looks head o)
    (λ looked. wider mine (and_then (demands (eqb looked.answer.mark 1) (refusal 85 0 looked.answer.mark) refl) (then_reply (hours_told map head zones
    fix.instant 1 looked.matches o) (λ hours. then_reply (agreed_told hours) (λ hour. then_reply (fitted_told size (line_of hour hours)) (λ line. answers))))))))

pub slip_at_told : (fix : Fix) (map atlas zones : List ℕ) → NoneOrAtlas map atlas → (n room size : ℕ) → Told (slip_at fix map atlas zones n room size)
slip_at_told fix map atlas zones so n room size =
    slip_at_by (λ m h. h) fix map atlas zones n room size (λ head o. subst (λ (l : Reply (L.Outcome Zones)). Told l)
    (sym (zones_beside_is_plain map atlas so (sym o) (place_of fix) false n room)) (zones_told map (place_of fix) n room head o))

-- beside any words: 36 too
pub slip_at_beside_told : (fix : Fix) (map atlas zones : List ℕ) (n room size : ℕ)
    → NumberedReply (λ (m : ℕ). (is_at_number m || eqb m 36) ≡ true) (slip_at fix map atlas zones n room size)
unfolding is_at_number
slip_at_beside_told fix map atlas zones n room size =
    slip_at_by (λ m h. ap (λ (t : Bool). t || eqb m 36) h) fix map atlas zones n room size (λ head o. by_refusal (zones_beside map head atlas (place_of fix) false n room)
    (λ why e. listed_so (λ m. is_at_number m || eqb m 36) (lookup_numbers ++ 36 ∷ []) why.number refl (zones_beside_refusals map o atlas (place_of fix) false n room why (sym e))))

-- ---- of a request
either_last : (a b : Bool) → b ≡ true → (a || b) ≡ true
either_last true b h = refl
either_last false b h = h

at_slip : (n : ℕ) → is_at_number n ≡ true → is_slip_number n ≡ true
unfolding is_at_number is_slip_number
at_slip n h = go (from 1 18 n) (from 40 61 n) (from 84 92 n) refl h where
  late : from 84 92 n ≡ true → from 80 92 n ≡ true
  late e = let b = both (leb 84 n) (leb n 92) e in ap (λ (t : Bool). t && leb n 92) (le-leb 80 n (omega (arith, leb-true 84 n b.0))) ∙ b.1

  go : (a b c : Bool) → from 84 92 n ≡ c → (a || b || c) ≡ true → (a || b || from 80 92 n) ≡ true
  go true b c e h = refl
  go false true c e h = refl
  go false false true e h = late e
  go false false false e h = differ h

pub slip_told : (request map atlas zones : List ℕ) → NoneOrAtlas map atlas → (n room size : ℕ) → NumberedReply (λ (n : ℕ). is_slip_number n ≡ true) (slip_of request map atlas zones n room size)
unfolding slip_of is_slip_number
slip_told request map atlas zones so n room size =
    then_reply (wider (λ n h. listed_so is_slip_number five_numbers n refl h) (request_told request)) (λ fix. wider at_slip (slip_at_told fix map atlas zones so n room size))

pub slip_beside_told : (request map atlas zones : List ℕ) (n room size : ℕ)
    → NumberedReply (λ (m : ℕ). (is_slip_number m || eqb m 36) ≡ true) (slip_of request map atlas zones n room size)
unfolding slip_of is_slip_number
slip_beside_told request map atlas zones n room size =
    then_reply (wider (λ m h. listed_so (λ k. is_slip_number k || eqb k 36) five_numbers m refl h) (request_told request))
    (λ fix. wider (λ m. go m (is_at_number m) refl) (slip_at_beside_told fix map atlas zones n room size)) where
      go : (m : ℕ) (t : Bool) → is_at_number m ≡ t → (t || eqb m 36) ≡ true → (is_slip_number m || eqb m 36) ≡ true
      go m true e h = ap (λ (b : Bool). b || eqb m 36) (at_slip m e)
      go m false e h = either_last (is_slip_number m) (eqb m 36) h
