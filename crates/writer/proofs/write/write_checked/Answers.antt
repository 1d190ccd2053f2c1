-- `writer::write::write_checked` meets its contract.
use Rattle.numbers.{proofs.Prelude.{ℕ, [], ◌≡◌, sym, ap, ◌∙◌}, specs.{Reply.{Reply, given, refused, refusal}, declared.refusal.Refusal.{Refusal}}}
use Rattle.writer.specs.Writer.{checks, replied}
use Rattle.numbers.proofs.Replies.{passed_on}
use Rattle.writer.proofs.{Replying.{refusing, finished, faulty, good_sizes, plain_none, plain_given, packed_many, packed_bad, packed_given}}
use Rattle.writer.proofs.write.write_checked.Goals as goal

pub returns-in_err-border_fault : goal.returns-in_err-border_fault
returns-in_err-border_fault c =
    λ ps h. ap (λ (w : Reply ℕ). replied w c.fill.new.self) (passed_on _ c.from_residual.ensures.1)
    ∙ refusing _ _ _ _ (faulty _ _ _ _ ps (sym c.in_err-border_fault.was ∙ c.border_fault.ensures)) (c.fill.ensures.after (λ y e. e))

pub returns-then-seen-ne0 : goal.returns-then-seen-ne0
returns-then-seen-ne0 c =
    let good : given tt ≡ checks c.args.version c.args.lats.now c.args.lons.now c.args.earlier.now = sym c.in_ok-border_fault.was ∙ c.border_fault.ensures in
    λ ps h. ap (λ (why : Refusal). replied (refused why) c.fill.new.self) c.alone.ensures ∙ refusing _ _ (refusal 23 0 0) _ (plain_none _ _ _ _ ps good _ h c.if-version-eq0.true
    c.if-seen-ne0.true) (c.fill.ensures.after (λ y e. e))

pub write_plain-end-requires : goal.write_plain-end-requires
write_plain-end-requires c =
    let good : given tt ≡ checks c.args.version c.args.lats.now c.args.lons.now c.args.earlier.now = sym c.in_ok-border_fault.was ∙ c.border_fault.ensures in
    let s = good_sizes _ _ _ _ [] good in
    (s.same, s.few)

pub returns-then-version-eq0 : goal.returns-then-version-eq0
returns-then-version-eq0 c =
    let good : given tt ≡ checks c.args.version c.args.lats.now c.args.lons.now c.args.earlier.now = sym c.in_ok-border_fault.was ∙ c.border_fault.ensures in
    λ ps h. finished _ _ _ _ _ _ _ (plain_given _ _ _ _ ps good _ h c.if-version-eq0.true c.if-seen-ne0.false) (c.fill.ensures.after (λ y e. e)) c.write_plain-end.ensures
    c.finish.ensures

pub returns-then-seen-gt-MOST_PIECES : goal.returns-then-seen-gt-MOST_PIECES
returns-then-seen-gt-MOST_PIECES c =
    let good : given tt ≡ checks c.args.version c.args.lats.now c.args.lons.now c.args.earlier.now = sym c.in_ok-border_fault.was ∙ c.border_fault.ensures in
    λ ps h. ap (λ (why : Refusal). replied (refused why) c.fill.new.self) c.at.ensures
    ∙ refusing _ _ (refusal 23 0 16) _ (packed_many _ _ _ _ ps good _ h c.if-version-eq0.false c.if-seen-gt-MOST_PIECES.true) (c.fill.ensures.after (λ y e. e))

pub returns-then-check-seen : goal.returns-then-check-seen
returns-then-check-seen c =
    let good : given tt ≡ checks c.args.version c.args.lats.now c.args.lons.now c.args.earlier.now = sym c.in_ok-border_fault.was ∙ c.border_fault.ensures in
    λ ps h. ap (λ (why : Refusal). replied (refused why) c.fill.new.self) c.at-then-check-seen.ensures
    ∙ refusing _ _ (refusal 23 0 _) _ (packed_bad _ _ _ _ ps good _ h c.if-version-eq0.false c.if-seen-gt-MOST_PIECES.false c.if-check-seen.true) (c.fill.ensures.after (λ y e. e))

pub write_packed-end-requires : goal.write_packed-end-requires
write_packed-end-requires c =
    let good : given tt ≡ checks c.args.version c.args.lats.now c.args.lons.now c.args.earlier.now = sym c.in_ok-border_fault.was ∙ c.border_fault.ensures in
    let s = good_sizes _ _ _ _ [] good in
    (s.same, s.few, c.if-seen-gt-MOST_PIECES.false)

pub returns : goal.returns
returns c =
    let good : given tt ≡ checks c.args.version c.args.lats.now c.args.lons.now c.args.earlier.now = sym c.in_ok-border_fault.was ∙ c.border_fault.ensures in
    λ ps h. finished _ _ _ _ _ _ _ (packed_given _ _ _ _ ps good _ h c.if-version-eq0.false c.if-seen-gt-MOST_PIECES.false c.if-check-seen.false)
    (c.fill.ensures.after (λ y e. e)) c.write_packed-end.ensures c.finish-2.ensures
