-- `table::find::matches_in` meets its contract, by how far it came.
use Rattle.numbers.proofs.{Prelude.{◌/◌, length, sym, ◌∙◌, arith}, Replies.{passed_on}}
use Rattle.table.proofs.{Agreeing.{agree_given, agree_refused, gave, refused_so}, find.{Finding.{no_precision, no_search, searched_so, asks, leaves}}}
use Rattle.table.specs.{Find.{Matching}, Hits.{width}, Search.{searched, Sought}}
use Rattle.table.proofs.find.matches_in.Goals as goal

pub returns-then-not-is_precision : goal.returns-then-not-is_precision
returns-then-not-is_precision c =
    rw c.alone.ensures (agree_refused (Matching _ _) (no_precision c.args.file.now c.args.head c.args.location c.args.asked (length c.args.hits.now / width) (sym
    c.is_precision.ensures ∙ c.if-not-is_precision.true)))

pub returns-in_err-ended : goal.returns-in_err-ended
returns-in_err-ended c =
    rw (passed_on _ c.from_residual.ensures.1) (agree_refused (Matching _ _) (no_search c.args.file.now c.args.head c.args.location c.args.asked (length c.args.hits.now / width) (sym c.is_precision.ensures
    ∙ c.if-not-is_precision.false) c.fix_of-fix.ensures (refused_so (Sought (length c.args.hits.now) c.search.new.hits) (searched c.args.file.now c.args.head
    c.fix_of-fix.result c.args.asked (length c.args.hits.now / width)) c.search.ensures c.in_err-ended.was)))

pub merge_front-count-requires : goal.merge_front-count-requires
merge_front-count-requires c =
    asks (gave (Sought (length c.args.hits.now) c.search.new.hits) (searched c.args.file.now c.args.head c.fix_of-fix.result c.args.asked (length
    c.args.hits.now / width)) c.search.ensures c.in_ok-ended.was).fits (omega (arith, c.hits-1.given))

pub returns : goal.returns
returns c =
    let sought = gave (Sought (length c.args.hits.now) c.search.new.hits) (searched c.args.file.now c.args.head c.fix_of-fix.result c.args.asked (length
    c.args.hits.now / width)) c.search.ensures c.in_ok-ended.was in
    agree_given (Matching _ _) (searched_so c.args.file.now c.args.head c.args.location c.args.asked (length c.args.hits.now / width) (sym c.is_precision.ensures
    ∙ c.if-not-is_precision.false) c.fix_of-fix.ensures sought.is) (leaves sought.fits (omega (arith, c.hits-1.given)) c.merge_front-count.ensures)
