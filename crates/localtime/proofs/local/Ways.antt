-- The ways to a local time. Assumes nothing.
use Rattle.numbers.proofs.Prelude.{ℕ, ◌≤◌, eq-eqb, ne_eqb, ℤ, length, Bool, true, false, List, ◌≡◌, refl, sym, ap, ◌∙◌, arith}
use Rattle.std.specs.Prelude.{Option, Some, None}
use Rattle.localtime.specs.Local.{ask_in, rules_in, is_ruled, by_rule, answer_by, answer_at, Sound}
use Rattle.tzif.{proofs.Goods.{zone_good, zone_leaps_rise, zone_string}, specs.{Header.{rfc9636}, Local.{is_after_last, by_table}, Number.{lift}}}
use Rattle.tzif.specs.{Reply.{Reply, given, refused, ◌>>=◌}, Zone.{read_zone}, declared.{block.Block.{Block}, local.Found.{Found}, refusal.Refusal.{Refusal}, zone.Zone.{Zone}}}
use Rattle.tzrule.specs.declared.{ask.Time.{Time}, rule.Tz.{Tz}}

-- whether it is asked
module _ (file : List ℕ) (block : Block) (instant : ℕ) where
  pub no_transitions : block.timecnt ≡ 0 → true ≡ is_ruled file block instant
  unfolding is_ruled
  no_transitions e = simp (eq-eqb block.timecnt 0 e)

  pub after_last : (block.timecnt ≡ 0 → ⊥) → is_after_last file block instant ≡ is_ruled file block instant
  unfolding is_ruled
  after_last h = simp (ne_eqb block.timecnt 0 h)

  -- the three ways of the answer
  module _ {rules : Option Tz} where
    pub answer_without : rules ≡ None → given (by_table file block instant) ≡ answer_by file block rules instant
    unfolding answer_by
    answer_without e = rw e refl

    module _ {tz : Tz} {test : Bool} (e : rules ≡ Some tz) (t : test ≡ is_ruled file block instant) where
      pub answer_ruled : {said : Reply (Option Found)} {asked : Option Time} → test ≡ true → asked ≡ ask_in file block tz instant → said ≡ by_rule asked → said ≡ answer_by file block rules instant
      unfolding answer_by
      answer_ruled h a s = rw e (simp (sym t ∙ h) (s ∙ ap by_rule a))

      pub answer_listed : test ≡ false → given (by_table file block instant) ≡ answer_by file block rules instant
      unfolding answer_by
      answer_listed h = rw e (simp (sym t ∙ h) refl)

-- what the checks of a file leave
module _ (file : List ℕ) {zone : Zone} (z : read_zone file ≡ given zone) where
  pub sound : Sound file zone.block
  sound = record { good = zone_good file z; leaps = zone_leaps_rise file z }

  pub string_within : zone.string ≤ length file
  string_within = omega (arith, zone_string file z)

-- the three ways of a file
module _ (file : List ℕ) (instant : ℤ) where
  pub not_read : {why : Refusal} → read_zone file ≡ refused why → refused why ≡ answer_at rfc9636 file instant
  unfolding answer_at ◌>>=◌
  not_read e = simp e

  module _ {zone : Zone} (z : read_zone file ≡ given zone) where
    pub not_ruled : {why : Refusal} → rules_in file zone ≡ refused why → refused why ≡ answer_at rfc9636 file instant
    unfolding answer_at ◌>>=◌
    not_ruled e = simp (z, e)

    pub answered : {rules : Option Tz} {said : Reply (Option Found)} {lifted : ℕ} → rules_in file zone ≡ given rules → lifted ≡ lift instant → said ≡ answer_by file zone.block rules lifted →
        said ≡ answer_at rfc9636 file instant
    unfolding answer_at ◌>>=◌
    answered {rules} r l s = s ∙ ap (answer_by file zone.block rules) l ∙ sym (simp (z, r))
