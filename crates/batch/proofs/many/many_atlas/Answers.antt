-- `batch::many::many_atlas` meets its contract, by how far it came.
use Rattle.numbers.proofs.Prelude.{length, sym, ap, ◌∙◌}
use Rattle.batch.proofs.{Opening.{not_taken, not_opened, all_opened}}
use Rattle.batch.specs.Many.{is_taken}
use Rattle.header.proofs.Buffers.{of_length}
use Rattle.batch.proofs.many.many_atlas.Goals as goal

pub returns-then-not-is_taken : goal.returns-then-not-is_taken
returns-then-not-is_taken c =
    not_taken c.args.file.now c.args.words.now c.args.lats.now c.args.lons.now c.args.asked (length c.args.hits.now) (length c.args.text.now) (length
    c.args.answers.now) c.zero_all.ensures.0 c.zero_all.ensures.1 c.zero_all.ensures.2 (sym c.if-not-is_taken.true ∙ c.is_taken.ensures
    ∙ ap (is_taken (length c.args.lats.now) (length c.args.lons.now)) (of_length _ (length c.args.answers.now) c.zero_all.ensures.2)) c.alone.ensures

pub returns-in-Err : goal.returns-in-Err
returns-in-Err c =
    not_opened c.args.file.now c.args.words.now c.args.lats.now c.args.lons.now c.args.asked (length c.args.hits.now) (length c.args.text.now) (length
    c.args.answers.now) c.zero_all.ensures.0 c.zero_all.ensures.1 c.zero_all.ensures.2 (sym c.if-not-is_taken.false ∙ c.is_taken.ensures
    ∙ ap (is_taken (length c.args.lats.now) (length c.args.lons.now)) (of_length _ (length c.args.answers.now) c.zero_all.ensures.2)) (sym c.in-Err.is ∙ c.head_of.ensures)

pub returns : goal.returns
returns c =
    c.answer_each.ensures ∙ all_opened c.args.file.now c.args.words.now c.args.lats.now c.args.lons.now c.args.asked (length c.args.hits.now) (length
    c.args.text.now) (length c.args.answers.now) (of_length _ (length c.args.hits.now) c.zero_all.ensures.0) (of_length _ (length c.args.text.now)
    c.zero_all.ensures.1) (of_length _ (length c.args.answers.now) c.zero_all.ensures.2) (sym c.if-not-is_taken.false ∙ c.is_taken.ensures
    ∙ ap (is_taken (length c.args.lats.now) (length c.args.lons.now)) (of_length _ (length c.args.answers.now) c.zero_all.ensures.2)) (sym c.in-Ok.is ∙ c.head_of.ensures)
