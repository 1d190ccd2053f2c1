-- `build::file::fill_all` meets its contract.
use Rattle.numbers.proofs.Prelude.{length-take-le, sym}
use Rattle.numbers.proofs.Replies.{passed_on}
use Rattle.build.proofs.{Ending.{refused_fills, starts_inside, starts_good, starts_small}, Moving.{drawn_ends}}
use Rattle.build.proofs.file.fill_all.Goals as goal

pub returns-in_err-size : goal.returns-in_err-size
returns-in_err-size c =
    refused_fills _ _ _ _ _ _ _ _ _ _ _ _ _ _ _ _ c.start.ensures _ c.in_err-size.was _ _ _ (passed_on _ c.from_residual.ensures.1)

pub slice_bounds-finish-end : goal.slice_bounds-finish-end
slice_bounds-finish-end c =
    starts_inside _ _ _ _ _ _ _ _ _ _ _ _ _ _ _ _ c.start.ensures _ c.in_ok-size.was

pub slice_bounds-finish-end-2 : goal.slice_bounds-finish-end-2
slice_bounds-finish-end-2 c =
    sym (length-take-le _ _ (starts_inside _ _ _ _ _ _ _ _ _ _ _ _ _ _ _ _ c.start.ensures _ c.in_ok-size.was))

pub finish-requires : goal.finish-requires
finish-requires c = (
  starts_good _ _ _ _ _ _ _ _ _ _ _ _ _ _ _ _ c.start.ensures _ c.in_ok-size.was,
  starts_small _ _ _ _ _ _ _ _ _ _ _ _ _ _ _ _ c.start.ensures _
      c.in_ok-size.was,
)

pub returns : goal.returns
returns c =
    drawn_ends _ _ _ _ _ _ _ _ _ _ _ _ _ _ _ _ c.start.ensures _ c.in_ok-size.was _ _ _ _ _ _ _ _ _ _ c.places-1.given c.out-1.given _ _ c.finish.ensures
