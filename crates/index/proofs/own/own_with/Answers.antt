-- `index::own::own_with` meets its contract.
use Rattle.numbers.proofs.{Prelude.{rules, sym, ◌∙◌}, Replies.{passed_on}}
use Rattle.table.proofs.Agreeing.{gave, refused_so}
use Rattle.index.proofs.{Filling.{precise}, Owning.{own_imprecise, own_refused, own_not, own_so}}
use Rattle.index.proofs.own.own_with.Goals as goal

pub returns-then-not-is_precision : goal.returns-then-not-is_precision
returns-then-not-is_precision c =
    rw c.alone.ensures (own_imprecise c.args.file.now c.args.head c.args.index.now (sym c.is_precision.ensures ∙ c.if-not-is_precision.true))

pub returns-in_err-n : goal.returns-in_err-n
returns-in_err-n c =
    passed_on _ c.from_residual.ensures.1 ∙ own_refused c.args.file.now c.args.head c.args.index.now (sym c.is_precision.ensures
    ∙ c.if-not-is_precision.false) (refused_so _ _ c.same_table.ensures c.in_err-n.was)

pub same_rest-requires : goal.same_rest-requires
same_rest-requires c =
    let t = gave _ _ c.same_table.ensures c.in_ok-n.was in
    let p = precise _ (sym c.is_precision.ensures ∙ c.if-not-is_precision.false) in
    (t.fits.few, search rules, p.0, p.1)

pub returns-in_err-same_rest : goal.returns-in_err-same_rest
returns-in_err-same_rest c =
    let t = gave _ _ c.same_table.ensures c.in_ok-n.was in
    passed_on _ c.from_residual-in_err-same_rest.ensures.1 ∙ own_not c.args.file.now c.args.head c.args.index.now (sym c.is_precision.ensures
    ∙ c.if-not-is_precision.false) t.is t.fits.counted (sym c.in_err-same_rest.was ∙ c.same_rest.ensures)

pub returns : goal.returns
returns c =
    let t = gave _ _ c.same_table.ensures c.in_ok-n.was in
    own_so c.args.file.now c.args.head c.args.index.now (sym c.is_precision.ensures ∙ c.if-not-is_precision.false) t.is t.fits.counted (sym c.in_ok-same_rest.was
    ∙ c.same_rest.ensures)
