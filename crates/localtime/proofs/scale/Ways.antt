-- The ways to the scale of a file. Assumes nothing.
use Rattle.numbers.proofs.Prelude.{ℕ, eq-eqb, ne_eqb, ℤ, List, ◌≡◌, sym, ap, ◌∙◌}
use Rattle.localtime.specs.{Local.{rules_in, scale_in, scale_or, scale_by, scale_at}, declared.scale.Scale.{Scale}}
use Rattle.std.specs.Prelude.{Option}
use Rattle.tzrule.specs.declared.rule.Tz.{Tz}
use Rattle.tzif.specs.{Check.{correction_at}, Number.{raised, lift}, Reply.{given, refused, ◌>>=◌}, Zone.{read_zone}, declared.{block.Block.{Block}, refusal.Refusal.{Refusal}, zone.Zone.{Zone}}}

-- ---- a checked file's scale
module _ (file : List ℕ) (block : Block) (instant : ℕ) where
  pub no_records : block.leapcnt ≡ 0 → record { kind = 1; correction = 0 } ≡ scale_in file block instant
  unfolding scale_in
  no_records e = simp (eq-eqb block.leapcnt 0 e)

  pub has_records : (block.leapcnt ≡ 0 → ⊥) → {r correction : ℕ} → r ≡ correction_at file block instant → correction ≡ raised r →
      record { kind = 2; correction = correction } ≡ scale_in file block instant
  unfolding scale_in
  has_records h e c = ap (λ (n : ℕ). record { kind = 2; correction = n }) (c ∙ ap raised e) ∙ sym (simp (ne_eqb block.leapcnt 0 h))

-- ---- a file's, by the three ways of its checks
module _ (file : List ℕ) (instant : ℤ) where
  pub not_read : {why : Refusal} → read_zone file ≡ refused why → record { kind = 0; correction = 0 } ≡ scale_at file instant
  unfolding scale_by scale_or ◌>>=◌
  not_read e = simp e

  module _ {zone : Zone} (z : read_zone file ≡ given zone) where
    pub not_ruled : {why : Refusal} → rules_in file zone ≡ refused why → record { kind = 0; correction = 0 } ≡ scale_at file instant
    unfolding scale_by scale_or ◌>>=◌
    not_ruled e = simp (z, e)

    pub scaled : {rules : Option Tz} {scale : Scale} {lifted : ℕ} → rules_in file zone ≡ given rules → lifted ≡ lift instant → scale ≡ scale_in file zone.block lifted → scale ≡ scale_at file instant
    unfolding scale_by scale_or ◌>>=◌
    scaled r l s = s ∙ ap (scale_in file zone.block) l ∙ sym (simp (z, r))
