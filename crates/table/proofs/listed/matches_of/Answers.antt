-- `table::listed::matches_of` meets its contract, by how far it came.
use Rattle.numbers.proofs.{Prelude.{◌/◌, length, sym, ◌∙◌, arith}, Replies.{passed_on}}
use Rattle.numbers.specs.Reply.{Reply}
use Rattle.border.specs.declared.place.Point.{Point}
use Rattle.table.proofs.{Agreeing.{agree_given, agree_refused, gave, refused_so}, find.Finding.{asks, leaves}, listed.Given.{no_precision, no_search, searched_so}}
use Rattle.table.specs.{Find.{Matching}, GivenRows.{searched_by}, Hits.{width}, Search.{Found, Sought}}
use Rattle.table.proofs.listed.matches_of.Goals as goal

pub returns-then-not-is_precision : goal.returns-then-not-is_precision
returns-then-not-is_precision g c =
    let searching : Point → Reply Found = λ (fix : Point). searched_by g.J.Judging.border (g.J.Judging.judged_by c.args.judging.now fix c.args.records.now) fix c.args.records.now c.args.numbers.now (length c.args.hits.now / width) in
    rw c.alone.ensures (agree_refused (Matching _ _) (no_precision c.args.head c.args.location searching (sym c.is_precision.ensures ∙ c.if-not-is_precision.true)))

pub returns-in_err-ended : goal.returns-in_err-ended
returns-in_err-ended g c =
    let searching : Point → Reply Found = λ (fix : Point). searched_by g.J.Judging.border (g.J.Judging.judged_by c.args.judging.now fix c.args.records.now) fix c.args.records.now c.args.numbers.now (length c.args.hits.now / width) in
    rw (passed_on _ c.from_residual.ensures.1) (agree_refused (Matching _ _) (no_search c.args.head c.args.location searching (sym c.is_precision.ensures
    ∙ c.if-not-is_precision.false) c.fix_of-fix.ensures (refused_so (Sought (length c.args.hits.now) c.search_records.new.hits) (searching c.fix_of-fix.result)
    c.search_records.ensures c.in_err-ended.was)))

pub merge_front-count-requires : goal.merge_front-count-requires
merge_front-count-requires g c =
    let searching : Point → Reply Found = λ (fix : Point). searched_by g.J.Judging.border (g.J.Judging.judged_by c.args.judging.now fix c.args.records.now) fix c.args.records.now c.args.numbers.now (length c.args.hits.now / width) in
    asks (gave (Sought (length c.args.hits.now) c.search_records.new.hits) (searching c.fix_of-fix.result) c.search_records.ensures c.in_ok-ended.was).fits (omega (
      arith,
      c.hits-1.given,
    ))

pub returns : goal.returns
returns g c =
    let searching : Point → Reply Found = λ (fix : Point). searched_by g.J.Judging.border (g.J.Judging.judged_by c.args.judging.now fix c.args.records.now) fix c.args.records.now c.args.numbers.now (length c.args.hits.now / width) in
    let sought = gave (Sought (length c.args.hits.now) c.search_records.new.hits) (searching c.fix_of-fix.result) c.search_records.ensures c.in_ok-ended.was in
    agree_given (Matching _ _) (searched_so c.args.head c.args.location searching (sym c.is_precision.ensures ∙ c.if-not-is_precision.false) c.fix_of-fix.ensures
    sought.is) (leaves sought.fits (omega (arith, c.hits-1.given)) c.merge_front-count.ensures)
