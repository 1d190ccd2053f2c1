-- `writer::moves::is_lent` meets its contract.
use Rattle.numbers.proofs.Prelude.{rules}
use Rattle.writer.proofs.{Elements.{lent_lat, lent_lon}}
use Rattle.writer.proofs.moves.is_lent.Goals as goal

pub returns-then-form_of-turned_form : goal.returns-then-form_of-turned_form
returns-then-form_of-turned_form c =
    lent_lat c.args.lats.now c.args.lons.now c.args.i c.args.direction c.args.value c.decode_point-by.result c.decode_point-by.ensures (search rules)
    c.form_of.ensures c.turned_form.ensures c.if-form_of-turned_form.true

pub returns : goal.returns
returns c =
    lent_lon c.args.lats.now c.args.lons.now c.args.i c.args.direction c.args.value c.decode_point-by.result c.decode_point-by.ensures (search rules)
    c.form_of.ensures c.turned_form.ensures c.if-form_of-turned_form.false (search rules) c.form_of-2.ensures c.turned_form-2.ensures
