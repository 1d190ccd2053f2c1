-- `table::usual::are_long` meets its contract: each answer is that of one number, or of three.
use Rattle.numbers.proofs.{Prelude.{sym, ◌∙◌}, Tests.{differ}}
use Rattle.table.proofs.usual.are_long.Goals as goal

pub returns-then-not-goes_on : goal.returns-then-not-goes_on
returns-then-not-goes_on c =
    λ t. differ t

pub returns-then-more : goal.returns-then-more
returns-then-more c =
    let first = c.goes_on.ensures c.if-not-goes_on.false in
    let end = c.ends-first.ensures c.if-first.true in
    let more = c.others_go_on-more.ensures c.if-more.true in
    λ t. record { south_on = first; south_ends = end; on = more; end = c.others_end-over.ensures t }

pub returns-else-more : goal.returns-else-more
returns-else-more c =
    λ t. differ (sym c.if-more.false ∙ t)

pub returns-else-first : goal.returns-else-first
returns-else-first c =
    λ t. differ (sym c.if-first.false ∙ t)
