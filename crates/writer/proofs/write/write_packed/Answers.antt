-- `writer::write::write_packed` meets its contract.
use Rattle.numbers.proofs.Prelude.{rules, ◌∙◌, arith}
use Rattle.writer.proofs.{Packing.{Known, own_asked, piece_room, again, last_asked, end_room, closed}, Stores.{left_all, stored_length}}
use Rattle.writer.proofs.write.write_packed.Goals as goal

pub loop-j-init : goal.loop-j-init
loop-j-init c =
    record { upto = omega arith; low = omega arith; left = left_all }

pub offset_bounds-kept-j : goal.offset_bounds-kept-j
offset_bounds-kept-j c =
    omega (arith, c.loop-j.invariant.upto, c.requires.2)

pub bounds-kept-j : goal.bounds-kept-j
bounds-kept-j c =
    omega (arith, c.requires.2)

pub put_packed-here-requires : goal.put_packed-here-requires
put_packed-here-requires c =
    let known : Known c.args.lats.now c.args.lons.now c.args.kept c.args.count = record {
      same = c.requires.0;
      short = c.requires.1;
      most = c.requires.2;
      size =
          search rules;
    } in
    own_asked known c.loop-j.invariant c.loop-j-test.true c.min-to.ensures

pub put_piece-place-requires : goal.put_piece-place-requires
put_piece-place-requires c =
    let known : Known c.args.lats.now c.args.lons.now c.args.kept c.args.count = record {
      same = c.requires.0;
      short = c.requires.1;
      most = c.requires.2;
      size =
          search rules;
    } in
    piece_room known c.loop-j.invariant c.loop-j-test.true c.min-to.ensures c.put_packed-here.ensures

pub loop-j-preserved : goal.loop-j-preserved
loop-j-preserved c =
    let known : Known c.args.lats.now c.args.lons.now c.args.kept c.args.count = record {
      same = c.requires.0;
      short = c.requires.1;
      most = c.requires.2;
      size =
          search rules;
    } in
    again known c.loop-j.invariant c.loop-j-test.true c.min-to.ensures c.put_packed-here.ensures c.put_piece-place.ensures

pub put_packed-end-requires : goal.put_packed-end-requires
put_packed-end-requires c =
    let known : Known c.args.lats.now c.args.lons.now c.args.kept c.args.count = record {
      same = c.requires.0;
      short = c.requires.1;
      most = c.requires.2;
      size =
          search rules;
    } in
    last_asked known c.loop-j.invariant c.loop-j-test.false

pub put_two-requires : goal.put_two-requires
put_two-requires c =
    let known : Known c.args.lats.now c.args.lons.now c.args.kept c.args.count = record {
      same = c.requires.0;
      short = c.requires.1;
      most = c.requires.2;
      size =
          search rules;
    } in
    end_room known c.loop-j.invariant c.loop-j-test.false c.put_packed-end.ensures

pub shape_of-out : goal.shape_of-out
shape_of-out c =
    stored_length c.put_two.ensures ∙ stored_length c.put_packed-end.ensures ∙ c.loop-j.invariant.left.size

pub returns : goal.returns
returns c =
    let known : Known c.args.lats.now c.args.lons.now c.args.kept c.args.count = record {
      same = c.requires.0;
      short = c.requires.1;
      most = c.requires.2;
      size =
          search rules;
    } in
    closed known c.loop-j.invariant c.loop-j-test.false c.put_packed-end.ensures c.put_two.ensures
