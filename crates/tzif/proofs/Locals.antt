-- The reply to a call, by how far it came. Assumes nothing.
use Rattle.numbers.{proofs.Prelude.{ℕ, ◌+◌, ◌-◌, ◌≤◌, ◌<◌, le-leb, lt-leb, ℤ, List, [], ◌≡◌, ap, sub-zero, arith}, specs.Lists.{zeros, padded}}
use Rattle.tzif.specs.{Local.{Replied, replied, named, lent}, Reply.{Reply, given, refused, refusal}, Text.{slice}}
use Rattle.tzif.specs.declared.{local.Found.{Found}, refusal.Refusal.{Refusal}}
use Rattle.std.specs.Prelude.{Option, Some, None}

-- nothing with zeros behind it
pub all_zeros : (n : ℕ) → padded n [] ≡ zeros n
all_zeros n = ap zeros (sub-zero n)

-- ---- a local time that was found
module _ (file : List ℕ) (room : ℕ) (found : Found) {text : List ℕ} where
  pub no_room : room < found.length → text ≡ zeros room → replied (refused (refusal 18 0)) text ≡ named file room found
  no_room l t = rw (lt-leb found.length room l) (ap (replied (refused (refusal 18 0))) t)

  pub has_room : found.length ≤ room → {offset : ℤ} → offset ≡ found.offset → text ≡ padded room (slice file found.place (found.place + found.length - found.place))
      → replied (given (Some (record { offset = offset; daylight = found.daylight; length = found.length }))) text ≡ named file room found
  has_room l o t = let same : found.place + found.length - found.place ≡ found.length = omega arith in
      rw (le-leb found.length room l, o) (ap (replied (given (Some (record { offset = found.offset; daylight = found.daylight; length = found.length })))) (rw same at t))

-- ---- the reply to what a file says
module _ (file : List ℕ) (room : ℕ) where
  pub lent_found : {said : Reply (Option Found)} {found : Found} → said ≡ given (Some found) → {r : Replied} → r ≡ named file room found → r ≡ lent file room said
  unfolding lent
  lent_found e h = rw e h

  pub lent_none : {text : List ℕ} {said : Reply (Option Found)} → said ≡ given None → text ≡ zeros room → replied (given None) text ≡ lent file room said
  unfolding lent
  lent_none e t = rw e (ap (replied (given None)) t)

  pub lent_refused : {text : List ℕ} {said : Reply (Option Found)} {why : Refusal} → said ≡ refused why → text ≡ zeros room → replied (refused why) text ≡ lent file room said
  unfolding lent
  lent_refused {why = why} e t = rw e (ap (replied (refused why)) t)
