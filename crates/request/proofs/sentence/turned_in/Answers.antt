-- `request::sentence::turned_in` meets its contract.
use Rattle.numbers.proofs.{Prelude.{◌+◌, sym, ◌∙◌, arith}, Replies.{passed_on}}
use Rattle.request.proofs.{Numerals.{size_held}, Replied.{turned_are, turned_size, turned_side, in_its_field}}
use Rattle.request.specs.{Number.{angle_of, side_of}}
use Rattle.request.proofs.sentence.turned_in.Goals as goal

pub nearest_to-requires : goal.nearest_to-requires
nearest_to-requires c =
    size_held c.in_ok-size.was c.angle.ensures.1

pub returns : goal.returns
returns c =
    let body = c.args.body.now in
    let size = sym c.in_ok-size.was ∙ c.angle.ensures.0 ∙ in_its_field c.args.n body c.field-first.ensures.0 c.field-first.ensures.1 (angle_of c.args.width c.args.limit) in
    let south = sym c.in_ok-south.was ∙ c.side.ensures ∙ in_its_field (c.args.n + 1) body c.field-second.ensures.0 c.field-second.ensures.1 (side_of c.args.plus c.args.minus) in
    turned_are c.args.n c.args.width c.args.limit c.args.plus c.args.minus body size south c.nearest_to.ensures

pub returns-in_err-south : goal.returns-in_err-south
returns-in_err-south c =
    let body = c.args.body.now in
    let size = sym c.in_ok-size.was ∙ c.angle.ensures.0 ∙ in_its_field c.args.n body c.field-first.ensures.0 c.field-first.ensures.1 (angle_of c.args.width c.args.limit) in
    let south = sym c.in_err-south.was ∙ c.side.ensures ∙ in_its_field (c.args.n + 1) body c.field-second.ensures.0 c.field-second.ensures.1 (side_of c.args.plus c.args.minus) in
    passed_on c.from_residual-in_err-south.result c.from_residual-in_err-south.ensures.1 ∙ turned_side c.args.n c.args.width c.args.limit c.args.plus c.args.minus body size south

pub returns-in_err-size : goal.returns-in_err-size
returns-in_err-size c =
    let body = c.args.body.now in
    let size = sym c.in_err-size.was ∙ c.angle.ensures.0 ∙ in_its_field c.args.n body c.field-first.ensures.0 c.field-first.ensures.1 (angle_of c.args.width c.args.limit) in
    passed_on c.from_residual.result c.from_residual.ensures.1 ∙ turned_size c.args.n c.args.width c.args.limit c.args.plus c.args.minus body size
