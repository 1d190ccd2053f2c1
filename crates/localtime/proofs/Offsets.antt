-- An offset that is found is a number of 32 bits, in a table of a file as by its string. Assumes nothing.
use Rattle.numbers.proofs.Prelude.{ℕ, suc, ◌+◌, ◌-◌, ◌*◌, ◌^◌, ◌≤◌, ◌<◌, ltb-true, ltb-false, eqb, ltb, ℤ, pos, negsuc, mag, Bool, true, false, List, ◌≡◌, refl, sym, subst, w32, SFits, to_z, arith}
use Rattle.numbers.{proofs.Refusals.{either}, specs.Answer.{if◌then◌else◌}}
use mir.Val.{sel}
use Rattle.std.specs.Prelude.{Option, Some, None}
use Rattle.localtime.proofs.found.Ways.{east_small}
use Rattle.localtime.specs.{Found.{found_of}, Local.{ask_in, or_sixty, string_in, rules_in, agrees, is_ruled, by_rule, answer_by, answer_at}}
use Rattle.tzif.specs.{Check.{type_place}, Header.{Rfc}, Local.{type_in, is_after_last, by_table}, Number.{be32, lift}, Reply.{Reply, given, refused, demand, ◌>>=◌, ◌>>◌}, Zone.{read_zone_by}}
use Rattle.tzif.specs.declared.{block.Block.{Block}, local.Found.{Found}, refusal.Refusal.{Refusal}, zone.Zone.{Zone}}
use Rattle.tzrule.specs.{Ask.{clock_at, in_years, ask, since}, Grammar.{sixty, ranged, number_of, seconds_of, minutes_of}, Names.{name_of}, String.{day_hours, summer_of, change_of, changing_of, string_of}}
use Rattle.tzrule.specs.{Summer.{is_summer}, Text.{digits_of, byte_at}, declared.{ask.Time.{Time}, number.{Digits.{Digits}, Shape.{Shape}}, rule.{Clock.{Clock}, Tz.{Tz}}}}
use Rattle.tzrule.specs.declared.rule.Tz.TheVariants.{Fixed, Changing}
use Rattle.tzrule.specs.Answer as T
use Rattle.tzrule.specs.Grammar as G
use Rattle.tzrule.specs.String as S

-- ---- what was read has a property
data Reads {A : Type 0} (P : A → Type 0) : T.Answer A → Type 0 where
  reads : {a : A} {next : ℕ} → P a → Reads P (T.read a next)
  faults : {place : ℕ} → Reads P (T.fault place)

then_reads : {A B : Type 0} {P : A → Type 0} {Q : B → Type 0} {answer : T.Answer A} {k : A → ℕ → T.Answer B} → Reads P answer → ((a : A) (next : ℕ) → P a → Reads Q (k a next))
    → Reads Q (T.onward answer k)
unfolding T.onward
then_reads (reads {a} {next} h) k = k a next h
then_reads faults k = faults

-- whatever it is
anyhow : {A : Type 0} (answer : T.Answer A) → Reads (λ (a : A). Unit {0}) answer
anyhow (T.read a next) = reads tt
anyhow (T.fault place) = faults

-- ---- the numbers of a string
number_reads : (shape : Shape) (text : List ℕ) (at : ℕ) → Reads (λ n. n ≤ shape.high) (number_of shape text at)
unfolding number_of ranged
number_reads shape text at =
    either (Reads (λ n. n ≤ shape.high)) (ltb digits.next (at + shape.least)) faults
    (either (Reads (λ n. n ≤ shape.high)) (ltb digits.value shape.low) faults (last (ltb shape.high digits.value) refl)) where
      digits : Digits
      digits = digits_of shape.most text at 0

      last : (t : Bool) → ltb shape.high digits.value ≡ t → Reads (λ n. n ≤ shape.high) (if t then T.fault at else T.read digits.value digits.next)
      last true e = faults
      last false e = reads (ltb-false shape.high digits.value e)

seconds_reads : (text : List ℕ) (sum most at : ℕ) → sum ≤ most → Reads (λ n. n ≤ most + 59) (seconds_of text sum at)
unfolding seconds_of
seconds_reads text sum most at h =
    either (Reads (λ n. n ≤ most + 59)) (eqb (byte_at text at) 58) (then_reads (number_reads sixty text (at + 1)) (λ n next k. reads (omega (arith, h, k)))) (reads (omega (arith, h)))

minutes_reads : (text : List ℕ) (sum most at : ℕ) → sum ≤ most → Reads (λ n. n ≤ most + 3599) (minutes_of text sum at)
unfolding minutes_of
minutes_reads text sum most at h =
    either (Reads (λ n. n ≤ most + 3599)) (eqb (byte_at text at) 58) (then_reads (number_reads sixty text (at + 1)) (λ n next k. subst
    (λ (m : ℕ). Reads (λ x. x ≤ m) (seconds_of text (sum + 60 * n) next)) (let e : most + 3540 + 59 ≡ most + 3599 = omega arith in e) (seconds_reads text
    (sum + 60 * n) (most + 3540) next (omega (arith, h, k))))) (reads (omega (arith, h)))

-- hours to 24
time_reads : (text : List ℕ) (at : ℕ) → Reads (λ n. n ≤ 89999) (G.clock_of day_hours text at)
unfolding G.clock_of
time_reads text at = then_reads (number_reads day_hours text at) (λ n next k. minutes_reads text (3600 * n) 86400 next (omega (arith, k)))

abbrev Near : ℕ → Type 0
Near west = west ≤ 1209600

signed_reads : (text : List ℕ) (at : ℕ) → Reads Near (G.signed_of day_hours text at)
unfolding G.signed_of G.earlier_of G.later_of
signed_reads text at =
    either (Reads Near) (eqb (byte_at text at) 45) (then_reads (time_reads text (at + 1)) (λ n next k. reads (omega (arith, k)))) (either (Reads Near)
    (eqb (byte_at text at) 43) (then_reads (time_reads text (at + 1)) (λ n next k. reads (omega (arith, k)))) (then_reads (time_reads text at) (λ n next k. reads (omega (arith, k)))))

abbrev NearClock : Clock → Type 0
NearClock clock = Near clock.west

clock_reads : (offset : ℕ → T.Answer ℕ) (text : List ℕ) (at : ℕ) → ((at : ℕ) → Reads Near (offset at)) → Reads NearClock (S.clock_of offset text at)
unfolding S.clock_of
clock_reads offset text at h = then_reads (anyhow (name_of text at)) (λ name next u. then_reads (h next) (λ west next k. reads k))

summer_reads : (standard : ℕ) (text : List ℕ) (at : ℕ) → Near standard → Reads Near (summer_of standard text at)
unfolding summer_of
summer_reads standard text at h = either (Reads Near) (eqb (byte_at text at) 44) (reads (omega (arith, h))) (signed_reads text at)

unfoldable NearTz : Tz → Type 0
NearTz (Fixed clock) = NearClock clock
NearTz (Changing rule) = NearClock rule.standard × NearClock rule.daylight

changing_reads : (wide : Bool) (standard : Clock) (text : List ℕ) (at : ℕ) → NearClock standard → Reads NearTz (changing_of wide standard text at)
unfolding changing_of NearTz
changing_reads wide standard text at h =
    then_reads (clock_reads (summer_of standard.west text) text at (λ at. summer_reads standard.west text at h)) (λ daylight next k. then_reads
    (anyhow (change_of wide text next)) (λ start next u. then_reads (anyhow (change_of wide text next)) (λ end next u. either (Reads NearTz) (eqb (byte_at text next) 10) (reads (h, k)) faults)))

string_reads : (wide : Bool) (text : List ℕ) (at : ℕ) → Reads NearTz (string_of wide text at)
unfolding string_of NearTz
string_reads wide text at =
    then_reads (clock_reads (G.signed_of day_hours text) text at (signed_reads text))
    (λ standard next h. either (Reads NearTz) (eqb (byte_at text next) 10) (reads h) (changing_reads wide standard text next h))

-- ---- what a file gives
data Gives {A : Type 0} (P : A → Type 0) : Reply A → Type 0 where
  gives : {a : A} → P a → Gives P (given a)
  stops : {why : Refusal} → Gives P (refused why)

then_gives : {A B : Type 0} {P : A → Type 0} {Q : B → Type 0} {reply : Reply A} {k : A → Reply B} → Gives P reply → ((a : A) → P a → Gives Q (k a)) → Gives Q (reply >>= k)
unfolding ◌>>=◌
then_gives (gives {a} h) k = k a h
then_gives stops k = stops

behind_test : {A : Type 0} {P : A → Type 0} (test : Bool) (why : Refusal) {reply : Reply A} → Gives P reply → Gives P (demand test why >> reply)
unfolding demand ◌>>◌
behind_test true why h = h
behind_test false why h = stops

anything : {A : Type 0} (reply : Reply A) → Gives (λ (a : A). Unit {0}) reply
anything (given a) = gives tt
anything (refused why) = stops

abbrev Fits : Found → Type 0
Fits found = SFits w32 found.offset

unfoldable FitsAnswer : Option Found → Type 0
FitsAnswer (Some found) = Fits found
FitsAnswer None = Unit {0}

unfoldable NearRules : Option Tz → Type 0
NearRules None = Unit {0}
NearRules (Some tz) = NearTz tz

-- four bytes, whatever they are
signed_narrow : (n : ℕ) → mag (to_z w32 n) < 2 ^ 31
signed_narrow n = go (ltb n (2 ^ 31)) refl where
  go : (t : Bool) → ltb n (2 ^ 31) ≡ t → mag (sel t (pos n) (negsuc (2 ^ 32 - suc n))) < 2 ^ 31
  go true e = ltb-true n (2 ^ 31) e
  go false e = omega (arith, ltb-false n (2 ^ 31) e)

type_fits : (file : List ℕ) (block : Block) (type : ℕ) → SFits w32 (type_in file block type).offset
unfolding type_in
type_fits file block type = record { sfits = signed_narrow (be32 file (type_place block type)) }

table_fits : (file : List ℕ) (block : Block) (instant : ℕ) → FitsAnswer (by_table file block instant)
unfolding by_table FitsAnswer
table_fits file block instant = either FitsAnswer (is_after_last file block instant) tt (type_fits file block _)

clock_near : (tz : Tz) (u : ℕ) → NearTz tz → NearClock (clock_at tz u).clock
unfolding clock_at NearTz
clock_near (Fixed clock) u h = h
clock_near (Changing rule) u h = either (λ (time : Time). NearClock time.clock) (is_summer rule (since u)) h.1 h.0

asked_gives : (tz : Tz) (u : ℕ) → NearTz tz → Gives FitsAnswer (by_rule (ask tz u))
unfolding ask by_rule FitsAnswer found_of
asked_gives tz u h = go (in_years u) where
  fits : FitsAnswer (Some (found_of (clock_at tz u)))
  fits = record { sfits = east_small (clock_at tz u).clock.west (clock_near tz u h) }

  go : (t : Bool) → Gives FitsAnswer (by_rule (if t then Some (clock_at tz u) else None))
  go true = gives fits
  go false = stops

rules_give : (file : List ℕ) (zone : Zone) → Gives NearRules (rules_in file zone)
unfolding rules_in string_in NearRules or_sixty
rules_give file zone =
    either (Gives NearRules) (eqb zone.size 0) (gives tt)
    (then_gives (string (string_reads (ltb 50 zone.version) file zone.string)) (λ tz h. behind_test (agrees file zone.block tz) _ (gives h))) where
      string : {answer : T.Answer Tz} → Reads NearTz answer → Gives NearTz (or_sixty answer)
      string (reads h) = gives h
      string faults = stops

by_gives : (file : List ℕ) (block : Block) (rules : Option Tz) (instant : ℕ) → NearRules rules → Gives FitsAnswer (answer_by file block rules instant)
unfolding answer_by NearRules ask_in
by_gives file block None instant h = gives (table_fits file block instant)
by_gives file block (Some tz) instant h = either (Gives FitsAnswer) (is_ruled file block instant) (asked_gives tz _ h) (gives (table_fits file block instant))

at_gives : (rfc : Rfc) (file : List ℕ) (instant : ℤ) → Gives FitsAnswer (answer_at rfc file instant)
unfolding answer_at
at_gives rfc file instant = then_gives (anything (read_zone_by rfc file)) (λ zone u. then_gives (rules_give file zone) (λ rules h. by_gives file zone.block rules (lift instant) h))

-- an offset that is found fits 32 bits
pub offset_fits : (rfc : Rfc) (file : List ℕ) (instant : ℤ) {found : Found} → given (Some found) ≡ answer_at rfc file instant → SFits w32 found.offset
unfolding FitsAnswer
offset_fits rfc file instant {found} e = last (subst (Gives FitsAnswer) (sym e) (at_gives rfc file instant)) where
  last : Gives FitsAnswer (given (Some found)) → SFits w32 found.offset
  last (gives h) = h
