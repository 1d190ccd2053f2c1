-- `add::adding::add::add` meets its contract.
use Rattle.numbers.proofs.Prelude.{length, length-take-le, sym}
use Rattle.add.proofs.adding.{Asking.{lent_in, lent_as, front_in, used}}
use Rattle.add.proofs.adding.add.add.Goals as goal

pub slice_bounds-add_kept-end-2 : goal.slice_bounds-add_kept-end-2
slice_bounds-add_kept-end-2 c =
    sym (length-take-le _ _ (lent_in _ _ _ c.lent_to-lent.ensures))

pub add_kept-added-requires : goal.add_kept-added-requires
add_kept-added-requires c =
    lent_as _ _ _ c.lent_to-lent.ensures

pub clear_front-requires : goal.clear_front-requires
clear_front-requires c =
    front_in (length c.args.lats.now) c.lent_to-lent.result c.args.out.now c.add_kept-added.new.out c.lent_to-lent.ensures c.out-1.given.0

pub returns : goal.returns
returns c = (
  c.add_kept-added.ensures.0,
  c.add_kept-added.ensures.1,
  used (length c.args.lats.now) c.lent_to-lent.result c.args.out.now c.add_kept-added.new.out
      c.lent_to-lent.ensures c.out-1.given.0 _ c.clear_front.ensures,
)
