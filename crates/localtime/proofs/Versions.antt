-- What version 4 leaves as it was: files of versions 1 to 3 answer as by RFC 8536, a version 4 file without its features as the same bytes marked 3. Assumes nothing.
use Rattle.numbers.{proofs.Prelude.{ℕ, zero, suc, ◌+◌, ◌-◌, ◌≤◌, eqb, ℤ, Bool, true, false, List, ◌≡◌, refl, ap, ◌∙◌, arith}, specs.Answer.{if◌then◌else◌}}
use mathlib.Core.Path.{ap₂}
use Rattle.std.specs.Prelude.{Option, Some, None}
use Rattle.localtime.specs.{Found.{found_of, same_octets, same_found}, Local.{ask_in, same_as, agrees, or_sixty, string_in, rules_in, is_ruled, by_rule, answer_by, answer_at, local_time_by, local_time}}
use Rattle.localtime.specs.{Local.{scale_in, scale_or, scale_by, scale_at}, declared.scale.Scale.{Scale}}
use Rattle.tzif.proofs.Beyond.{Beyond, Behind, found_behind, refused_one, transition_same, correction_same, type_same, type_place_behind, behind_same, after_same, table_same, table_behind, lent_same}
use Rattle.tzif.{proofs.{Marked.{PlainFour, marked_three, second_version, beyond, renamed, Second, ReadAlike, refuses, gives, zone_read}, Versions.{zone_v3_unchanged}}, specs.Block.{end_of}}
use Rattle.tzif.specs.{Header.{rfc8536}, Local.{type_in, type_behind, by_table, lent}, Number.{octet, raised, lift}, Reply.{Reply, given, refused, refusal, demand, ◌>>=◌, ◌>>◌}}
use Rattle.tzif.specs.{Times.{time_in, transitions_of}, declared.{block.Block.{Block}, local.Found.{Found}, refusal.Refusal.{Refusal}, zone.Zone.{Zone}}}
use Rattle.tzrule.{proofs.Tail.{Alike, faults, reads, TzFrom, string_alike}, specs.{Ask.{corrected, in_years, since, clock_at, ask}, String.{string_of}, Summer.{is_summer}}}
use Rattle.tzrule.specs.declared.{ask.Time.{Time}, rule.Tz.{Tz}}
use Rattle.tzrule.specs.Answer as T
use Rattle.tzrule.specs.declared.rule.Tz.TheVariants as Z

-- what a file that was read says of an instant
answer_of : ℤ → List ℕ → Zone → Reply (Option Found)
answer_of instant file zone = rules_in file zone >>= λ rules. answer_by file zone.block rules (lift instant)

-- files of versions 1 to 3 answer as before, at every instant, with whatever room
pub v3_unchanged : (file : List ℕ) → (octet file 4 ≡ 0x34 → ⊥) → (instant : ℤ) (room : ℕ) → local_time file instant room ≡ local_time_by rfc8536 file instant room
unfolding local_time_by answer_at
v3_unchanged file older instant room =
    ap (λ (z : Reply Zone). lent file room (z >>= λ zone. rules_in file zone >>= λ rules. answer_by file zone.block rules (lift instant))) (zone_v3_unchanged file older)

-- on the same scale
pub v3_scale : (file : List ℕ) → (octet file 4 ≡ 0x34 → ⊥) → (instant : ℤ) → scale_at file instant ≡ scale_by rfc8536 file instant
unfolding scale_by
v3_scale file older instant = ap (λ (z : Reply Zone). scale_or (z >>= λ zone. rules_in file zone >>= λ rules. given (scale_in file zone.block (lift instant)))) (zone_v3_unchanged file older)

-- ---- what the rule says stands behind the place where its string begins
data AskedFrom (from : ℕ) : Option Time → Type 0 where
  holds_from : {time : Time} → from ≤ time.clock.name.start → AskedFrom from (Some time)
  outside : AskedFrom from None

-- where its name begins
abbrev start_of : Time → ℕ
start_of time = time.clock.name.start

clock_from : (from : ℕ) (tz : Tz) (u : ℕ) → TzFrom from tz → from ≤ start_of (clock_at tz u)
unfolding TzFrom clock_at
clock_from from (Z.Fixed clock) u t = t.start
clock_from from (Z.Changing rule) u t = go (is_summer rule (since u)) where
  go : (s : Bool) → from ≤ start_of (if s then record { clock = rule.daylight; daylight = 1 } else record { clock = rule.standard; daylight = 0 })
  go true = t.1.start
  go false = t.0.start

ask_from : (from : ℕ) (tz : Tz) (u : ℕ) → TzFrom from tz → AskedFrom from (ask tz u)
unfolding ask
ask_from from tz u t = go (in_years u) where
  go : (s : Bool) → AskedFrom from (if s then Some (clock_at tz u) else None)
  go true = holds_from {time = clock_at tz u} (clock_from from tz u t)
  go false = outside

-- refused alike, or given alike with a rule whose names stand there
data RulesAlike (from : ℕ) : Reply (Option Tz) → Reply (Option Tz) → Type 0 where
  no_rules : {why : Refusal} → RulesAlike from (refused why) (refused why)
  without : RulesAlike from (given None) (given None)
  rule_alike : {tz : Tz} → TzFrom from tz → RulesAlike from (given (Some tz)) (given (Some tz))

-- ---- two files that are the same from a place on
module _ (file other : List ℕ) (from : ℕ) (b : Beyond file other from) where
  octets_same : (p q n : ℕ) → from ≤ p → from ≤ q → same_octets file p q n ≡ same_octets other p q n
  unfolding same_octets
  octets_same p q zero h k = refl
  octets_same p q (suc n) h k = rw (octets_same p q n h k, b.at (p + n) (omega arith), b.at (q + n) (omega arith)) refl

  found_same : (one two : Found) → from ≤ one.place → from ≤ two.place → same_found file one two ≡ same_found other one two
  unfolding same_found
  found_same one two h k = rw (octets_same one.place two.place one.length h k) refl

  as_same : (found : Found) {asked : Option Time} → from ≤ found.place → AskedFrom from asked → same_as file found asked ≡ same_as other found asked
  unfolding same_as found_of
  as_same found h (holds_from {time = time} k) = found_same found (found_of time) h k
  as_same found h outside = refl

  module _ (block : Block) (behind : from ≤ block.begin) (wide : 4 ≤ block.width) where
    asked_same : (tz : Tz) (instant : ℕ) → ask_in file block tz instant ≡ ask_in other block tz instant
    unfolding ask_in
    asked_same tz instant = ap (λ (c : ℕ). ask tz (corrected instant c)) (correction_same file other from b block behind wide instant)

    asked_from : (tz : Tz) (instant : ℕ) → TzFrom from tz → AskedFrom from (ask_in file block tz instant)
    unfolding ask_in
    asked_from tz instant = ask_from from tz _

    agrees_same : (tz : Tz) → TzFrom from tz → agrees file block tz ≡ agrees other block tz
    unfolding agrees
    agrees_same tz t = ap (λ (s : Bool). if eqb block.timecnt 0 then true else s) same where
      type : type_in file block (type_behind file block block.timecnt) ≡ type_in other block (type_behind other block block.timecnt)
      type = type_same file other from b block behind wide (type_behind file block block.timecnt) ∙ ap (type_in other block) (behind_same file other from b block behind wide block.timecnt)

      asked : ask_in file block tz (time_in file (transitions_of block) (block.timecnt - 1)) ≡ ask_in other block tz (time_in other (transitions_of block) (block.timecnt - 1))
      asked = asked_same tz (time_in file (transitions_of block) (block.timecnt - 1)) ∙ ap (ask_in other block tz) (transition_same file other from b block behind wide (block.timecnt - 1))

      same : same_as file (type_in file block (type_behind file block block.timecnt)) (ask_in file block tz (time_in file (transitions_of block) (block.timecnt - 1)))
          ≡ same_as other (type_in other block (type_behind other block block.timecnt)) (ask_in other block tz (time_in other (transitions_of block) (block.timecnt - 1)))
      same =
          as_same (type_in file block (type_behind file block block.timecnt)) (type_place_behind file other from b block behind wide (type_behind file block block.timecnt))
          (asked_from tz (time_in file (transitions_of block) (block.timecnt - 1)) t) ∙ ap₂ (same_as other) type asked

    ruled_same : (instant : ℕ) → is_ruled file block instant ≡ is_ruled other block instant
    unfolding is_ruled
    ruled_same instant = rw (after_same file other from b block behind wide instant) refl

    rule_behind : {asked : Option Time} → AskedFrom from asked → Behind from (by_rule asked)
    unfolding by_rule found_of
    rule_behind (holds_from {time = time} k) = found_behind {found = found_of time} k
    rule_behind outside = refused_one

    -- the answer, and that its abbreviation stands there
    answer_same : (instant : ℕ) {one two : Reply (Option Tz)} → RulesAlike from one two → (one >>= λ rules. answer_by file block rules instant) ≡ (two >>= λ rules. answer_by other block rules instant)
    unfolding ◌>>=◌ answer_by
    answer_same instant no_rules = refl
    answer_same instant without = ap given (table_same file other from b block behind wide instant)
    answer_same instant (rule_alike {tz = tz} t) = λ i. if ruled_same instant i then by_rule (asked_same tz instant i) else given (table_same file other from b block behind wide instant i)

    answer_behind : (instant : ℕ) {one two : Reply (Option Tz)} → RulesAlike from one two → Behind from (one >>= λ rules. answer_by file block rules instant)
    unfolding ◌>>=◌ answer_by
    answer_behind instant no_rules = refused_one
    answer_behind instant without = table_behind file other from b block behind instant
    answer_behind instant (rule_alike {tz = tz} t) = go (is_ruled file block instant) where
      go : (s : Bool) → Behind from (if s then by_rule (ask_in file block tz instant) else given (by_table file block instant))
      go true = rule_behind (asked_from tz instant t)
      go false = table_behind file other from b block behind instant

  -- the rule of a zone, by both files
  module _ (zone : Zone) (second : Second from zone) where
    passed : (tz : Tz) → TzFrom from tz → (s : Bool) → RulesAlike from (demand s (refusal 60 (end_of zone.block)) >> given (Some tz))
        (demand s (refusal 60 (end_of zone.block)) >> given (Some tz))
    unfolding demand ◌>>◌
    passed tz t true = rule_alike t
    passed tz t false = no_rules

    rule : (tz : Tz) → TzFrom from tz → RulesAlike from (demand (agrees file zone.block tz) (refusal 60 (end_of zone.block)) >> given (Some tz))
        (demand (agrees other zone.block tz) (refusal 60 (end_of zone.block)) >> given (Some tz))
    rule tz t = rw (← agrees_same zone.block second.block second.wide tz t) (passed tz t (agrees file zone.block tz))

    string : {one two : T.Answer Tz} → Alike from (TzFrom from) one two → RulesAlike from (or_sixty one >>= λ tz. demand (agrees file zone.block tz)
        (refusal 60 (end_of zone.block)) >> given (Some tz)) (or_sixty two >>= λ tz. demand (agrees other zone.block tz) (refusal 60 (end_of zone.block)) >> given (Some tz))
    unfolding or_sixty ◌>>=◌
    string faults = no_rules
    string (reads {a = tz} h t) = rule tz t

    rules_alike : RulesAlike from (rules_in file zone) (rules_in other (renamed zone))
    unfolding rules_in string_in
    rules_alike = rw second.version (go (eqb zone.size 0)) where
      go : (s : Bool) → RulesAlike from (if s then given None else (or_sixty (string_of true file zone.string) >>= λ tz. demand (agrees file zone.block tz)
          (refusal 60 (end_of zone.block)) >> given (Some tz))) (if s then given None else (or_sixty (string_of true other zone.string) >>= λ tz.
          demand (agrees other zone.block tz) (refusal 60 (end_of zone.block)) >> given (Some tz)))
      go true = without
      go false = string (string_alike file other from b.size b.at true zone.string second.string)

  -- the reply
  replies_alike : (instant : ℤ) (room : ℕ) {one two : Reply Zone} → ReadAlike from one two → lent file room (one >>= answer_of instant file) ≡ lent other room (two >>= answer_of instant other)
  unfolding ◌>>=◌ answer_of
  replies_alike instant room refuses = lent_same file other from b room refused_one
  replies_alike instant room (gives {zone = zone} second) = let rules = rules_alike zone second in
      lent_same file other from b room (answer_behind zone.block second.block second.wide (lift instant) rules)
      ∙ ap (lent other room) (answer_same zone.block second.block second.wide (lift instant) rules)

  -- the scale
  scale_rest : (one two : Scale) → one ≡ two → {a b : Reply (Option Tz)} → RulesAlike from a b → scale_or (a >>= λ rules. given one) ≡ scale_or (b >>= λ rules. given two)
  unfolding scale_or ◌>>=◌
  scale_rest one two e no_rules = refl
  scale_rest one two e without = e
  scale_rest one two e (rule_alike t) = e

  scales_alike : (instant : ℤ) {one two : Reply Zone} → ReadAlike from one two → scale_or (one >>= λ zone. rules_in file zone >>= λ rules. given (scale_in file zone.block
      (lift instant))) ≡ scale_or (two >>= λ zone. rules_in other zone >>= λ rules. given (scale_in other zone.block (lift instant)))
  unfolding ◌>>=◌ scale_in
  scales_alike instant refuses = refl
  scales_alike instant (gives {zone = zone} second) =
      let correction = correction_same file other from b zone.block second.block second.wide (lift instant) in
      let same : scale_in file zone.block (lift instant) ≡ scale_in other zone.block (lift instant) =
      ap (λ (n : ℕ). if eqb zone.block.leapcnt 0 then record { kind = 1; correction = 0 } else record { kind = 2; correction = raised n }) correction in
      scale_rest (scale_in file zone.block (lift instant)) (scale_in other zone.block (lift instant)) same (rules_alike zone second)

-- a version 4 file without its features is on the scale of the same bytes marked 3
pub v4_scale : (file : List ℕ) → PlainFour file → (instant : ℤ) → scale_at file instant ≡ scale_at (marked_three file) instant
unfolding scale_by
v4_scale file plain instant = scales_alike file (marked_three file) (second_version file + 1) (beyond file plain) instant (zone_read file plain)

-- a version 4 file without its features answers as the same bytes marked 3, at every instant, with whatever room
pub v4_as_v3 : (file : List ℕ) → PlainFour file → (instant : ℤ) (room : ℕ) → local_time file instant room ≡ local_time (marked_three file) instant room
unfolding local_time_by answer_at answer_of
v4_as_v3 file plain instant room = replies_alike file (marked_three file) (second_version file + 1) (beyond file plain) instant room (zone_read file plain)
