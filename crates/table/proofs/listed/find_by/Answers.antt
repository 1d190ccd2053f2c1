-- `table::listed::find_by` meets its contract: zeros, then the search, then zeros again where it refused.
use Rattle.numbers.{proofs.Prelude.{ℕ, ◌/◌, rules, length, sym, ap, ◌∙◌}, specs.{Lists.{zeros}, Reply.{Reply}}}
use Rattle.border.specs.declared.place.Point.{Point}
use Rattle.header.proofs.Buffers.{of_length, all_zero}
use Rattle.table.proofs.find.Finding.{finds, refuses}
use Rattle.table.specs.{Find.{Matched, matched_by}, GivenRows.{searched_by}, Hits.{width}}
use Rattle.table.proofs.listed.find_by.Goals as goal

pub matches_of-found-requires : goal.matches_of-found-requires
matches_of-found-requires g c =
    all_zero _ (length c.args.hits.now) c.zero_words.ensures

pub returns-then-is_err : goal.returns-then-is_err
returns-then-is_err g c =
    let whole : ℕ → Reply Matched = λ (n : ℕ). matched_by c.args.head c.args.location (λ (fix : Point). searched_by g.J.Judging.border (g.J.Judging.judged_by c.args.judging.now fix c.args.records.now) fix c.args.records.now c.args.numbers.now (n / width)) in
    refuses whole (of_length _ (length c.args.hits.now) c.zero_words.ensures) _ c.matches_of-found.result c.matches_of-found.ensures
    (all_zero _ (length c.matches_of-found.new.hits) c.zero_words-then-is_err.ensures ∙ ap zeros ((search rules))) (sym c.is_err.ensures.value ∙ c.if-is_err.true)

pub returns-else-is_err : goal.returns-else-is_err
returns-else-is_err g c =
    let whole : ℕ → Reply Matched = λ (n : ℕ). matched_by c.args.head c.args.location (λ (fix : Point). searched_by g.J.Judging.border (g.J.Judging.judged_by c.args.judging.now fix c.args.records.now) fix c.args.records.now c.args.numbers.now (n / width)) in
    finds whole (of_length _ (length c.args.hits.now) c.zero_words.ensures) _ c.matches_of-found.result c.matches_of-found.ensures
    (sym c.is_err.ensures.value ∙ c.if-is_err.false)
