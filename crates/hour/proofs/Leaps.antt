-- A file that counts leap seconds: no hour is printed by it. Assumes nothing.
use Rattle.numbers.{proofs.Prelude.{ℕ, ltb, length, take, drop, Bool, true, false, List, [], ◌∷◌, ◌≡◌, refl, ap, subst, ◌∙◌}, specs.{Answer.{if◌then◌else◌}, Lists.{zeros}}}
use Rattle.localtime.{proofs.Theorems.{no_scale, own_scale}, specs.{Local.{rules_in, answer_at, local_time_by, local_time, scale_in, scale_or, scale_by}}}
use Rattle.hour.specs.{Hour.{instant_of, on_scale, shown_by, answer_of, LineFor, Printed}, Line.{refused_line}}
use Rattle.tzif.specs.Check.{occurs_later, correction_before, correction_at, correction_of, one_apart, is_expiry, nul_end, check_time, check_index, check_type, check_leap, check_leaps, check_standard, is_standard}
use Rattle.tzif.specs.{Check.{check_ut}, Header.{begins, is_version, is_fourth, version_fits, check_header, block_at, none_or_all, check_counts, check_block, read_block}, Local.{Replied, replied, lent}}
use Rattle.tzif.specs.{Number.{octets, be32, raised, time_at, lift}, Part.{count_of, check_of, check_part}, Reply.{Reply, given, refused, refusal, demand, each, ◌>>=◌, ◌>>◌}}
use Rattle.tzif.specs.{Text.{first_with, is_stop, run_to}, Times.{time_in, last_with, last_not_after}, Zone.{read_short, read_zone_by, read_zone}, declared.local.Local.{Local}}
use Rattle.tzif.specs.declared.{refusal.Refusal.{Refusal}, zone.Zone.{Zone}}
use Rattle.std.specs.Prelude.{Option, Some, None}

-- a refusal's line
pub record Refuses (line : List ℕ) : Type 0 where
  pub why : Refusal
  pub is : line ≡ refused_line why

record RefusedReply (reply : Reply (Option Local)) : Type 0 where
  why : Refusal
  is : reply ≡ refused why

on_two : {kind : ℕ} (time : Reply (Option Local)) → kind ≡ 2 → on_scale kind time ≡ refused (refusal 91 0)
unfolding on_scale
on_two {kind} time e = ap (λ (k : ℕ). on_scale k time) e

on_none : {kind : ℕ} {time : Reply (Option Local)} {why : Refusal} → kind ≡ 0 → time ≡ refused why → on_scale kind time ≡ refused why
unfolding on_scale
on_none {kind} {time} e t = ap (λ (k : ℕ). on_scale k time) e ∙ t

module _ (input : List ℕ) (room : ℕ) {zone : Zone} (z : read_zone (drop 8 input) ≡ given zone) (leaps : zone.block.leapcnt ≡ 0 → ⊥) where
  refused_local : {why : Refusal} → rules_in (drop 8 input) zone ≡ refused why → (local_time (drop 8 input) (instant_of input) room).reply ≡ refused why
  unfolding local_time_by answer_at lent ◌>>=◌
  refused_local r = simp (z, r)

  -- the file's answer on its scale: refused 60 with its string, or 91
  on_own_scale : RefusedReply (shown_by (drop 8 input) (instant_of input) room).reply
  on_own_scale = go (rules_in (drop 8 input) zone) refl where
    own : {rules : _} → rules_in (drop 8 input) zone ≡ given rules → RefusedReply (shown_by (drop 8 input) (instant_of input) room).reply
    own r = record { why = refusal 91 0; is = on_two _ (own_scale (drop 8 input) (instant_of input) z r leaps) }

    none : {why : Refusal} → rules_in (drop 8 input) zone ≡ refused why → RefusedReply (shown_by (drop 8 input) (instant_of input) room).reply
    none {why} r = record { why = why; is = on_none (no_scale (drop 8 input) (instant_of input) z r) (refused_local r) }

    go : (rules : _) → rules_in (drop 8 input) zone ≡ rules → RefusedReply (shown_by (drop 8 input) (instant_of input) room).reply
    go (given rules) r = own r
    go (refused why) r = none r

  refused_reply : RefusedReply (answer_of input room).reply
  unfolding answer_of
  refused_reply = go (ltb 65536 (length input)) (ltb (length input) 8) where
    reply : Replied → Reply (Option Local)
    reply answer = answer.reply

    go : (long short : Bool) → RefusedReply (reply (if long then replied (refused (refusal 1 0)) (zeros room) else (if short then replied (refused (refusal 2 (length input)))
        (zeros room) else shown_by (drop 8 input) (instant_of input) room)))
    go true short = record { why = refusal 1 0; is = refl }
    go false true = record { why = refusal 2 (length input); is = refl }
    go false false = on_own_scale

  line_refuses : (reply : Reply (Option Local)) (text line : List ℕ) → RefusedReply reply → LineFor (instant_of input) reply text line → Refuses line
  unfolding LineFor
  line_refuses reply text line r p = record { why = r.why; is = subst (λ (x : Reply (Option Local)). LineFor (instant_of input) x text line) r.is p }

  -- whatever the instant, the line that is printed for a file whose answering block has leap-second records is a refusal's
  pub no_leap_hour : {out : List ℕ} {used : ℕ} → Printed input room out used → Refuses (take used out)
  no_leap_hour {out} {used} p = let r = line_refuses (answer_of input room).reply (answer_of input room).text p.line refused_reply p.is in record { why = r.why; is = p.whole ∙ r.is }

-- 2026-07-01 11:59:59 UT, and a file of version 1 with one leap second: `refused 91 0`
abbrev leaping : List ℕ
leaping =
    63 ∷ 1 ∷ 69 ∷ 106 ∷ 0 ∷ 0 ∷ 0 ∷ 0 ∷ 84 ∷ 90 ∷ 105 ∷ 102 ∷ 0 ∷ 0 ∷ 0 ∷ 0 ∷ 0 ∷ 0 ∷ 0 ∷ 0 ∷ 0 ∷ 0 ∷ 0 ∷ 0 ∷ 0 ∷ 0 ∷ 0 ∷ 0 ∷ 0 ∷ 0 ∷ 0 ∷ 0 ∷ 0 ∷ 0 ∷ 0 ∷ 0 ∷ 0 ∷ 0 ∷ 0 ∷ 1 ∷
    0 ∷ 0 ∷ 0 ∷ 0 ∷ 0 ∷ 0 ∷ 0 ∷ 1 ∷ 0 ∷ 0 ∷ 0 ∷ 2 ∷ 0 ∷ 0 ∷ 0 ∷ 0 ∷ 0 ∷ 0 ∷ 65 ∷ 0 ∷ 0 ∷ 0 ∷ 0 ∷ 0 ∷ 0 ∷ 0 ∷ 0 ∷ 1 ∷ []

pub record WorkedLeap : Type 0 where
  pub one : (block_at (drop 8 leaping) false 0).leapcnt ≡ 1
  pub refused : (answer_of leaping 256).reply ≡ refused (refusal 91 0)

pub worked_leap : WorkedLeap
unfolding occurs_later correction_before correction_at correction_of one_apart is_expiry nul_end check_time check_index check_type check_leap check_leaps check_standard
    is_standard check_ut begins is_version is_fourth version_fits check_header block_at none_or_all check_counts check_block read_block octets be32 raised time_at lift
    count_of check_of check_part demand each ◌>>=◌ ◌>>◌ first_with is_stop run_to time_in last_with last_not_after read_short read_zone_by answer_of on_scale scale_by scale_or
    scale_in rules_in
worked_leap = record { one = refl; refused = refl }
