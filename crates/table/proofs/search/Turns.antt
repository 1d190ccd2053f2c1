-- What one row does to the search, by the tests that the code makes. Assumes nothing.
use Rattle.numbers.{proofs.Prelude.{ℕ, ◌+◌, ◌%◌, ◌^◌, eq-eqb, ne_eqb, eqb-false, eqb, Bool, true, false, List, ◌≡◌, refl, sym, ap, subst, ◌∙◌}, specs.Answer.{if◌then◌else◌}}
use Rattle.border.specs.{Encoding.{version_of, encoded_by}, declared.{place.Point.{Point}, reader.Version.{Version}}}
use Rattle.verdict.specs.{Verdict.{Judgement, judged_as, judged_at}, declared.{judge.Judged.{Judged}, step.Verdict.{Verdict}}}
use Rattle.table.specs.{Search.{kind_of, row_hit, judged_turn, row_turn, judge_in}, Table.{holds}, declared.{hits.Hit.{Hit}, rows.Row.{Row}, search.Turn.{Turn}}}
use Rattle.table.specs.declared.search.Turn.TheVariants.{On, Met, Stopped, Refused}
use Rattle.header.specs.declared.header.Head.{Head}
use Rattle.verdict.specs.Verdict as B
use Rattle.std.specs.Prelude.{Some}

-- ---- a judged border
module _ (file : List ℕ) (head : Head) (fix : Point) (asked : Bool) (polygon least : ℕ) where
  pub judged_in : {version : Version} {place : ℕ} {judgement : Judgement} → version ≡ version_of head.preamble.version → place ≡ (head.sections.«data» + polygon) % 2 ^ 32
      → judgement ≡ judged_at file (encoded_by head.strict version head.sections.«data») place fix.lat fix.lon asked least → judgement ≡ judge_in file head fix asked polygon least
  judged_in v p j = j ∙ (λ i. judged_at file (encoded_by head.strict (v i) head.sections.«data») (p i) fix.lat fix.lon asked least)

module _ (r : Row) {judgement : Judged} {verdict : Verdict} {kind : ℕ} (is : judgement.verdict ≡ Some verdict) (k : kind ≡ kind_of verdict) where
  pub outside : kind ≡ 0 → On judgement.least ≡ judged_turn r (judged_as judgement)
  unfolding judged_turn
  outside z = rw is (simp (eq-eqb _ _ (sym k ∙ z)))

  pub met : (kind ≡ 0 → ⊥) → Met (row_hit r kind) judgement.least ≡ judged_turn r (judged_as judgement)
  unfolding judged_turn
  met z = ap (λ (n : ℕ). Met (row_hit r n) judgement.least) k ∙ rw is (simp (ne_eqb _ _ (λ e. z (k ∙ e))))

-- ---- a row
module _ (judge : ℕ → ℕ → Judgement) (fix : Point) (r : Row) (least : ℕ) where
  pub not_held : holds r.bounds fix ≡ false → On least ≡ row_turn judge fix r least
  unfolding row_turn
  not_held f = rw f

  pub held : holds r.bounds fix ≡ true → judged_turn r (judge r.polygon least) ≡ row_turn judge fix r least
  unfolding row_turn
  held f = rw f

-- ---- a hit's kind is not 0
unfoldable Kinded : Turn → Type 0
Kinded (On least) = Unit
Kinded (Met hit least) = hit.kind ≡ 0 → ⊥
Kinded (Stopped mark least) = Unit
Kinded (Refused n) = Unit

either : (test : Bool) (t u : Turn) → (test ≡ true → Kinded t) → (test ≡ false → Kinded u) → Kinded (if test then t else u)
either true t u h k = h refl
either false t u h k = k refl

judged_kinded : (r : Row) (judgement : Judgement) → Kinded (judged_turn r judgement)
unfolding Kinded judged_turn
judged_kinded r (B.reached verdict least) = either (eqb (kind_of verdict) 0) (On least) (Met (row_hit r (kind_of verdict)) least) (λ e. tt) (λ e. eqb-false _ _ e)
judged_kinded r (B.failed least) = tt
judged_kinded r (B.refused n) = tt

row_kinded : (judge : ℕ → ℕ → Judgement) (fix : Point) (r : Row) (least : ℕ) → Kinded (row_turn judge fix r least)
unfolding Kinded row_turn
row_kinded judge fix r least =
    either (holds r.bounds fix) (judged_turn r (judge r.polygon least)) (On least) (λ f. judged_kinded r (judge r.polygon least)) (λ f. tt)

pub met_kind : (judge : ℕ → ℕ → Judgement) (fix : Point) (r : Row) (least : ℕ) {hit : Hit} {closer : ℕ} → Met hit closer ≡ row_turn judge fix r least → hit.kind ≡ 0 → ⊥
unfolding Kinded
met_kind judge fix r least e = subst Kinded (sym e) (row_kinded judge fix r least)
