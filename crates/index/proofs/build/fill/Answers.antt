-- `index::build::fill` meets its contract.
use Rattle.numbers.proofs.{Prelude.{◌^◌, ◌<◌, ◌≤◌, rules, length, length-sets, [], ◌∷◌, sym, ap, ◌∙◌, arith}, Replies.{passed_on}}
use Rattle.table.proofs.Agreeing.{gave, refused_so, agree_given, agree_refused}
use Rattle.index.proofs.{Filling.{precise, begin_is, length_two, length_four, early, used_is, made}, Whole.{bad_precision, bad_table, no_room, too_large, fits_room}}
use Rattle.index.proofs.build.fill.Goals as goal

pub returns-then-not-is_precision : goal.returns-then-not-is_precision
returns-then-not-is_precision c =
    rw c.alone.ensures (agree_refused _ (bad_precision _ _ _ _ (sym c.is_precision.ensures ∙ c.if-not-is_precision.true)))

pub returns-in_err-n : goal.returns-in_err-n
returns-in_err-n c =
    let fine = sym c.is_precision.ensures ∙ c.if-not-is_precision.false in
    rw (passed_on _ c.from_residual.ensures.1) (agree_refused _ (bad_table _ _ _ _ fine (refused_so _ _ c.put_table.ensures c.in_err-n.was)))

pub overflow_mul-n : goal.overflow_mul-n
overflow_mul-n c =
    let t = gave _ _ c.put_table.ensures c.in_ok-n.was in
    omega (arith, t.fits.few)

pub overflow_add-n : goal.overflow_add-n
overflow_add-n c =
    let t = gave _ _ c.put_table.ensures c.in_ok-n.was in
    omega (arith, t.fits.few)

pub put_kept-begin-requires : goal.put_kept-begin-requires
put_kept-begin-requires c =
    let t = gave _ _ c.put_table.ensures c.in_ok-n.was in
    (search rules, omega (arith, t.fits.few))

pub returns-then-index-begin : goal.returns-then-index-begin
returns-then-index-begin c =
    let fine = sym c.is_precision.ensures ∙ c.if-not-is_precision.false in
    let t = gave _ _ c.put_table.ensures c.in_ok-n.was in
    let size = length_two _ _ _ _ _ _ _ t c.put_kept-begin.ensures in
    rw c.alone-then-index-begin.ensures (agree_refused _ (no_room _ _ _ _ fine t.is (early _ _ _ _ _ _ _ t c.put_kept-begin.ensures fine (omega (
      arith,
      c.if-index-begin.true,
      size,
    )))))

pub overflow_cast-n : goal.overflow_cast-n
overflow_cast-n c =
    let t = gave _ _ c.put_table.ensures c.in_ok-n.was in
    omega (arith, t.fits.few)

pub put_lists-used-requires : goal.put_lists-used-requires
put_lists-used-requires c =
    let p = precise c.args.head.preamble.precision (sym c.is_precision.ensures ∙ c.if-not-is_precision.false) in
    let t = gave _ _ c.put_table.ensures c.in_ok-n.was in
    let size = length_two _ _ _ _ _ _ _ t c.put_kept-begin.ensures in
    let begin = begin_is _ _ _ _ _ _ _ t c.put_kept-begin.ensures in
    let small : c.args.head.sections.metadata < 2 ^ 32 = search rules in
    let same = ap length c.put_head.ensures ∙ length-sets c.put_kept-begin.new.index 0 (length c.args.file.now ∷ c.args.head.sections.metadata ∷ c.in_ok-n.n ∷ []) in (
      t.fits.few,
      omega (arith, begin, t.fits.counted),
      omega (arith, begin, t.fits.counted, t.fits.few, small),
      omega (
        arith,
        begin,
        t.fits.counted,
        same,
        c.if-index-begin.false,
      ),
      p.0,
      p.1,
    )

pub returns-then-index-used : goal.returns-then-index-used
returns-then-index-used c =
    let fine = sym c.is_precision.ensures ∙ c.if-not-is_precision.false in
    let t = gave _ _ c.put_table.ensures c.in_ok-n.was in
    let size = length_two _ _ _ _ _ _ _ t c.put_kept-begin.ensures in
    let room : c.put_kept-begin.result ≤ length c.args.index.now = omega (arith, c.if-index-begin.false, size) in
    let used = used_is _ _ _ _ _ _ _ t c.put_kept-begin.ensures fine _ _ _ room c.put_head.ensures c.put_lists-used.ensures in
    let last = length_four _ _ _ _ _ _ _ t c.put_kept-begin.ensures fine _ _ _ room c.put_head.ensures c.put_lists-used.ensures in
    rw c.alone-then-index-used.ensures (agree_refused _ (no_room _ _ _ _ fine t.is (omega (arith, used, last, c.if-index-used.true))))

pub returns-then-used-gt4294967295 : goal.returns-then-used-gt4294967295
returns-then-used-gt4294967295 c =
    let fine = sym c.is_precision.ensures ∙ c.if-not-is_precision.false in
    let t = gave _ _ c.put_table.ensures c.in_ok-n.was in
    let size = length_two _ _ _ _ _ _ _ t c.put_kept-begin.ensures in
    let room : c.put_kept-begin.result ≤ length c.args.index.now = omega (arith, c.if-index-begin.false, size) in
    let used = used_is _ _ _ _ _ _ _ t c.put_kept-begin.ensures fine _ _ _ room c.put_head.ensures c.put_lists-used.ensures in
    rw c.alone-then-used-gt4294967295.ensures (agree_refused _ (too_large _ _ _ _ fine t.is (omega (arith, used, c.if-used-gt4294967295.true))))

pub returns : goal.returns
returns c =
    let fine = sym c.is_precision.ensures ∙ c.if-not-is_precision.false in
    let t = gave _ _ c.put_table.ensures c.in_ok-n.was in
    let size = length_two _ _ _ _ _ _ _ t c.put_kept-begin.ensures in
    let room : c.put_kept-begin.result ≤ length c.args.index.now = omega (arith, c.if-index-begin.false, size) in
    let used = used_is _ _ _ _ _ _ _ t c.put_kept-begin.ensures fine _ _ _ room c.put_head.ensures c.put_lists-used.ensures in
    let last = length_four _ _ _ _ _ _ _ t c.put_kept-begin.ensures fine _ _ _ room c.put_head.ensures c.put_lists-used.ensures in
    let few : c.put_lists-used.result ≤ length c.args.index.now = omega (arith, c.if-index-used.false, last) in
    agree_given _ (fits_room _ _ _ _ fine t.is (omega (arith, used, few)) (omega (arith, used, c.if-used-gt4294967295.false))) (made _ _ _ _ _ _ _ t
    c.put_kept-begin.ensures fine _ _ _ room c.put_head.ensures c.put_lists-used.ensures c.requires.0 few (omega (arith, c.if-used-gt4294967295.false)))
