-- `table::find::find_in` meets its contract: zeros, then the search, then zeros again where it refused.
use Rattle.numbers.{proofs.Prelude.{ℕ, ◌/◌, rules, length, sym, ap, ◌∙◌}, specs.Lists.{zeros}}
use Rattle.header.proofs.Buffers.{of_length, all_zero}
use Rattle.table.proofs.find.Finding.{finds, refuses}
use Rattle.table.specs.{Find.{matched_with, found_with}, Hits.{width}}
use Rattle.table.proofs.find.find_in.Goals as goal

pub matches_in-found-requires : goal.matches_in-found-requires
matches_in-found-requires c =
    all_zero _ (length c.args.hits.now) c.zero_words.ensures

pub returns-then-is_err : goal.returns-then-is_err
unfolding found_with
returns-then-is_err c =
    refuses (λ (n : ℕ). matched_with c.args.file.now c.args.head c.args.location c.args.asked (n / width)) (of_length _ (length c.args.hits.now) c.zero_words.ensures) _ c.matches_in-found.result c.matches_in-found.ensures
    (all_zero _ (length c.matches_in-found.new.hits) c.zero_words-then-is_err.ensures ∙ ap zeros ((search rules))) (sym c.is_err.ensures.value ∙ c.if-is_err.true)

pub returns-else-is_err : goal.returns-else-is_err
unfolding found_with
returns-else-is_err c =
    finds (λ (n : ℕ). matched_with c.args.file.now c.args.head c.args.location c.args.asked (n / width)) (of_length _ (length c.args.hits.now) c.zero_words.ensures) _ c.matches_in-found.result c.matches_in-found.ensures
    (sym c.is_err.ensures.value ∙ c.if-is_err.false)
