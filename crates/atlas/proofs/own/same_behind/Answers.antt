-- `atlas::own::same_behind` meets its contract.
use Rattle.numbers.proofs.Prelude.{ℕ, ◌+◌, sym, ap, ◌∙◌, arith}
use Rattle.index.specs.{Tied.{word_at}, inner.Own.{is_word, stands_from}}
use Rattle.atlas.specs.{Atlas.{beside_of}, inner.Building.{marks_by}}
use Rattle.atlas.proofs.{Owned.{behind_other, behind_length, behind_large, behind_rest}}
use Rattle.atlas.proofs.own.same_behind.Goals as goal

pub returns-in_default : goal.returns-in_default
returns-in_default c =
    let beside = beside_of (marks_by c.args.file.now c.args.head c.args.words.now (word_at c.args.words.now 2) 0) in
    let same = ap (λ (n : ℕ). stands_from c.args.words.now (c.args.used + 1) (beside_of (marks_by c.args.file.now c.args.head c.args.words.now n 0)))
    c.wide-n.ensures.0 in
    behind_other c.args.words.now beside c.args.used (sym c.in_default.is ∙ c.same_beside.ensures ∙ same)

pub returns-then-not-is_word : goal.returns-then-not-is_word
returns-then-not-is_word c =
    let beside = beside_of (marks_by c.args.file.now c.args.head c.args.words.now (word_at c.args.words.now 2) 0) in
    let same = ap (λ (n : ℕ). stands_from c.args.words.now (c.args.used + 1) (beside_of (marks_by c.args.file.now c.args.head c.args.words.now n 0)))
    c.wide-n.ensures.0 in
    behind_length c.args.words.now beside c.args.used (sym c.in-Ok.is ∙ c.same_beside.ensures
    ∙ same) (ap (is_word c.args.words.now c.args.used) (sym c.low_of.ensures) ∙ sym c.is_word.ensures ∙ c.if-not-is_word.true)

pub returns-then-all-gt4294967295 : goal.returns-then-all-gt4294967295
returns-then-all-gt4294967295 c =
    let beside = beside_of (marks_by c.args.file.now c.args.head c.args.words.now (word_at c.args.words.now 2) 0) in
    let same = ap (λ (n : ℕ). stands_from c.args.words.now (c.args.used + 1) (beside_of (marks_by c.args.file.now c.args.head c.args.words.now n 0)))
    c.wide-n.ensures.0 in
    behind_large c.args.words.now beside c.args.used (sym c.in-Ok.is ∙ c.same_beside.ensures
    ∙ same) (ap (is_word c.args.words.now c.args.used) (sym c.low_of.ensures) ∙ sym c.is_word.ensures
    ∙ c.if-not-is_word.false) (omega (arith, c.if-all-gt4294967295.true))

pub returns : goal.returns
returns c =
    let beside = beside_of (marks_by c.args.file.now c.args.head c.args.words.now (word_at c.args.words.now 2) 0) in
    let same = ap (λ (n : ℕ). stands_from c.args.words.now (c.args.used + 1) (beside_of (marks_by c.args.file.now c.args.head c.args.words.now n 0)))
    c.wide-n.ensures.0 in
    behind_rest c.args.words.now beside c.args.used (sym c.in-Ok.is ∙ c.same_beside.ensures
    ∙ same) (ap (is_word c.args.words.now c.args.used) (sym c.low_of.ensures) ∙ sym c.is_word.ensures
    ∙ c.if-not-is_word.false) (omega (arith, c.if-all-gt4294967295.false)) c.is_empty_from.ensures
