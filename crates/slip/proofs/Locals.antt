-- What a match says, by how far the code came: its file, the local time in it, the clock. Assumes nothing.
use Rattle.numbers.proofs.Prelude.{ℕ, ◌+◌, ◌≤◌, eq-eqb, ne_eqb, ℤ, length, List, ◌≡◌, refl, sym, ap, subst, ◌∙◌, arith}
use Rattle.numbers.{proofs.Replies.{carried, onward, passed_on}, specs.{Reply.{Reply, given, refused, refusal, plain, ◌>>=◌}, declared.refusal.Refusal.{Refusal}}}
use Rattle.bundle.{proofs.Theorems.{found_inside}, specs.{Bundle.{find_of}, declared.find.File.{File}}}
use Rattle.calendar.{proofs.CivilAt.{is_civil_at}, specs.{Civil.{civil_at, CivilOf}, declared.civil.Reading.{Reading}}}
use Rattle.header.specs.declared.header.Head.{Head}
use Rattle.localtime.specs.Local.{answer_at, scale_at, HeldSaid}
use Rattle.slip.specs.{Hour.{name_of, plainly, known, local_in, shown, hour_in, blamed, of_match, hour_of}, Told.{name_in, hour_at, Stands}, declared.hour.Spot.{Spot}}
use Rattle.std.specs.Prelude.{Option, Some, None, Result, ok_or, IfOk, IsErrAnd}
use Rattle.table.specs.declared.hits.Hit.{Hit}
use Rattle.tzif.specs.{Header.{rfc9636}, Local.{Held}, Text.{slice}, declared.local.Found.{Found}}
use Rattle.zones.specs.{Simple.{LiesParts}, declared.simple.Parts.{Parts}}
use Rattle.request.specs.Told as T
use Rattle.tzif.specs.Reply as R
use Rattle.tzif.specs.declared.refusal.Refusal as Q

-- what holds of a refusal holds where `?` hands it on
pub as_passed : {A : Type 0} (P : Reply A → Type 0) (r : Reply A) {why : Refusal} → IsErrAnd r (λ e. e ≡ why) → P (refused why) → P r
as_passed P r h p = subst P (sym (passed_on r h)) p

-- ---- the local time in a file
module _ (file : List ℕ) (instant : ℤ) {kind : ℕ} (on : kind ≡ (scale_at file instant).kind) where
  abbrev pub Local : Reply Found → Type 0
  Local reply = (reply ≡ local_in file instant) × IfOk reply (Held (length file))

  pub leaps : {reply : Reply Found} → kind ≡ 2 → reply ≡ refused (plain 91) → Local reply
  unfolding local_in
  leaps k w = subst Local (sym w) (rw (eq-eqb (scale_at file instant).kind 2 (sym on ∙ k)) refl, tt)

  module _ (other : kind ≡ 2 → ⊥) (said : R.Reply (Option Found)) (e : said ≡ answer_at rfc9636 file instant) (held : HeldSaid (length file) said) where
    goes : (plainly said >>= known) ≡ local_in file instant
    unfolding local_in
    goes = ap (λ (r : R.Reply (Option Found)). plainly r >>= known) e ∙ rw (ne_eqb (scale_at file instant).kind 2 (λ k. other (on ∙ k))) refl

    abbrev Held-so : Reply (Option Found) → Type 0
    Held-so reply = IfOk (reply >>= known) (Held (length file))

    held_so : (said : R.Reply (Option Found)) → HeldSaid (length file) said → Held-so (plainly said)
    held_so (R.given (Some found)) h = h
    held_so (R.given None) h = tt
    held_so (R.refused why) h = tt

    pub is_known : {answer : Option Found} {reply : Reply Found} → given answer ≡ plainly said → reply ≡ known answer → Local reply
    is_known a w = subst Local (sym w) (onward a known ∙ goes, subst Held-so (sym a) (held_so said held))

    pub not_told : {why : Refusal} → refused why ≡ plainly said → Local (refused why)
    not_told a = (carried a known ∙ goes, tt)

-- ---- the clock
module _ (instant offset : ℤ) {a b : ℤ} (p : a ≡ instant) (q : b ≡ offset) (civil : Option Reading) (c : CivilOf a b civil) where
  is : civil ≡ civil_at instant offset
  is = is_civil_at instant offset civil (subst (λ (z : ℤ). CivilOf z offset civil) p (subst (λ (z : ℤ). CivilOf a z civil) q c))

  pub is_shown : shown civil ≡ shown (civil_at instant offset)
  is_shown = ap shown is

-- ---- the match
module _ (map zones : List ℕ) (instant : ℤ) (name : Parts) (lies : LiesParts (length map) name) where
  abbrev pub Hour-by : Reply Spot → Type 0
  Hour-by reply = (T.shown reply (hour_at map zones) ≡ hour_in zones instant (name_in map name)) × IfOk reply (Stands (length map) (length zones))

  pub not_found : {why : Refusal} → refused why ≡ find_of zones (name_in map name) → Hour-by (refused why)
  unfolding hour_in
  not_found e = (carried e _, tt)

  module _ {file : File} (e : given file ≡ find_of zones (name_in map name)) where
    pub file_inside : file.start + file.length ≤ length zones
    file_inside = found_inside zones (name_in map name) (sym e)

    abbrev own : List ℕ
    own = slice zones file.start file.length

    pub no_local : {why : Refusal} → refused why ≡ local_in own instant → Hour-by (refused why)
    unfolding hour_in
    no_local l = (carried l _ ∙ onward e _, tt)

    module _ {found : Found} (l : given found ≡ local_in own instant) where
      pub no_clock : {why : Refusal} → refused why ≡ shown (civil_at instant found.offset) → Hour-by (refused why)
      unfolding hour_in
      no_clock k = (carried k _ ∙ onward l _ ∙ onward e _, tt)

      pub the_hour : {reading : Reading} {offset : ℤ} → given reading ≡ shown (civil_at instant found.offset) → found.place + found.length ≤ file.length → offset ≡ found.offset
          → Hour-by (given (record { name = name; place = file.start + found.place; size = found.length; offset = offset; reading = reading }))
      unfolding hour_in
      the_hour {reading} k h o = (
        ap (λ (z : ℤ). given (hour_at map zones (record { name = name; place = file.start + found.place; size = found.length; offset = z; reading = reading }))) o
            ∙ onward k _ ∙ onward l _ ∙ onward e _,
        record { name = lies; abbreviation = omega (arith, h, file_inside) },
      )

-- ---- with its number
module _ (map : List ℕ) (head : Head) (zones : List ℕ) (instant : ℤ) (number : ℕ) (hit : Hit) where
  abbrev pub Of : Reply Spot → Type 0
  Of reply = (T.shown reply (hour_at map zones) ≡ hour_of map head zones instant number hit) × IfOk reply (Stands (length map) (length zones))

  pub no_name : {why : Refusal} → refused why ≡ name_of map head hit.metadata → Of (refused why)
  unfolding hour_of
  no_name e = (carried e _, tt)

  module _ {name : List ℕ} (e : given name ≡ name_of map head hit.metadata) where
    numbered : (reply : Reply Spot) → T.shown reply (hour_at map zones) ≡ hour_in zones instant name → of_match number (T.shown reply (hour_at map zones)) ≡ hour_of map head zones instant number hit
    unfolding hour_of
    numbered reply h = ap (of_match number) h ∙ onward e _

    pub of_reply : (reply : Reply Spot) → T.shown reply (hour_at map zones) ≡ hour_in zones instant name → IfOk reply (Stands (length map) (length zones))
        → {r : Reply Spot} → r ≡ of_match number reply → Of r
    of_reply (given spot) h stands w = subst Of (sym w) (numbered (given spot) h, stands)
    of_reply (refused why) h stands w = subst Of (sym w) (numbered (refused why) h, tt)
