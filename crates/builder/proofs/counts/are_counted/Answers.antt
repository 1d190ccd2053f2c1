-- `builder::counts::are_counted` meets its contract.
use Rattle.numbers.proofs.Prelude.{sym, ◌∙◌}
use Rattle.builder.proofs.{Counting.{counts_none, counts_many, counts_names, counts_other, counts_all}}
use Rattle.builder.proofs.counts.are_counted.Goals as goal

pub returns-then-count-eq0 : goal.returns-then-count-eq0
returns-then-count-eq0 c =
    counts_none c.args.names c.args.yards.now c.args.lengths c.if-count-eq0.true

pub returns-then-count-gt4096 : goal.returns-then-count-gt4096
returns-then-count-gt4096 c =
    counts_many c.args.names c.args.yards.now c.args.lengths c.if-count-eq0.false c.if-count-gt4096.true

pub returns-then-names-gt255 : goal.returns-then-names-gt255
returns-then-names-gt255 c =
    counts_names c.args.names c.args.yards.now c.args.lengths c.if-count-eq0.false c.if-count-gt4096.false c.if-names-gt255.true

pub returns-then-not-are_numbered : goal.returns-then-not-are_numbered
returns-then-not-are_numbered c =
    counts_other c.args.names c.args.yards.now c.args.lengths c.if-count-eq0.false c.if-count-gt4096.false c.if-names-gt255.false (sym c.are_numbered.ensures
    ∙ c.if-not-are_numbered.true)

pub returns : goal.returns
returns c =
    counts_all c.args.names c.args.yards.now c.args.lengths c.if-count-eq0.false c.if-count-gt4096.false c.if-names-gt255.false (sym c.are_numbered.ensures
    ∙ c.if-not-are_numbered.false) c.are_lengths.result c.are_lengths.ensures
