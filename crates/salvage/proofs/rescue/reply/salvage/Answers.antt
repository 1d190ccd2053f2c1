-- `salvage::rescue::reply::salvage` meets its contract.
use Rattle.numbers.{proofs.{Prelude.{rules, length, ◌≡◌, refl, sym, ap, ◌∙◌}, Replies.{passed_on}}, specs.{Lists.{zeros}, Reply.{Reply, refused}}}
use Rattle.header.proofs.Buffers.{of_length}
use Rattle.salvage.specs.{Salvage.{Counts, salvaged_of}, inner.Rescue.Told.{replied}}
use Rattle.salvage.proofs.rescue.reply.{Replying.{filled_at, no_head, told_refused, told_counts}}
use Rattle.salvage.proofs.rescue.reply.salvage.Goals as goal

pub returns-in_err-head : goal.returns-in_err-head
returns-in_err-head c =
    ap (λ (r : Reply Counts). replied r c.zero_both.new.hits c.zero_both.new.text) (passed_on _ c.from_residual.ensures.1)
    ∙ no_head c.args.file.now (length c.args.dropped.now) (length c.args.out.now) (sym c.in_err-head.was ∙ c.head_by.ensures) c.zero_both.ensures.0 c.zero_both.ensures.1

pub returns-then-is_err : goal.returns-then-is_err
returns-then-is_err c =
    let words : length c.zero_both.new.hits ≡ length c.args.dropped.now = of_length _ _ c.zero_both.ensures.0 in
    let room : length c.zero_both.new.text ≡ length c.args.out.now = of_length _ _ c.zero_both.ensures.1 in
    let words' : length c.fill-counts.new.dropped ≡ length c.args.dropped.now = search rules in
    let room' : length c.fill-counts.new.out ≡ length c.args.out.now = search rules in
    told_refused c.args.file.now (length c.args.dropped.now) (length c.args.out.now) (salvaged_of c.args.file.now (length c.args.dropped.now) (length
    c.args.out.now)) refl c.fill-counts.result (sym c.is_err.ensures.value ∙ c.if-is_err.true) c.fill-counts.new.dropped c.fill-counts.new.out (filled_at
    c.args.file.now c.fill-counts.result c.fill-counts.new.dropped c.fill-counts.new.out words room c.fill-counts.ensures)
    (c.zero_both-then-is_err.ensures.0 ∙ ap zeros words') (c.zero_both-then-is_err.ensures.1 ∙ ap zeros room')

pub returns : goal.returns
returns c =
    let words : length c.zero_both.new.hits ≡ length c.args.dropped.now = of_length _ _ c.zero_both.ensures.0 in
    let room : length c.zero_both.new.text ≡ length c.args.out.now = of_length _ _ c.zero_both.ensures.1 in
    told_counts c.args.file.now (length c.args.dropped.now) (length c.args.out.now) (salvaged_of c.args.file.now (length c.args.dropped.now) (length
    c.args.out.now)) refl c.fill-counts.result (sym c.is_err.ensures.value ∙ c.if-is_err.false) (filled_at c.args.file.now c.fill-counts.result
    c.fill-counts.new.dropped c.fill-counts.new.out words room c.fill-counts.ensures)
