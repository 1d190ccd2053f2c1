-- `request::sentence::fix` meets its contract.
use Rattle.numbers.proofs.Prelude.{◌<◌, sfits_of, sym, ◌∙◌, w64, to_z-of_z, arith}
use Rattle.request.proofs.{Replied.{fix_time, fix_lat, fix_lon, fix_date, fix_is}}
use Rattle.numbers.proofs.Replies.{passed_on, held}
use Rattle.request.proofs.sentence.fix.Goals as goal

pub returns-in_err-second : goal.returns-in_err-second
returns-in_err-second c =
    passed_on c.from_residual.result c.from_residual.ensures.1 ∙ fix_time c.args.body.now (sym c.in_err-second.was ∙ c.time_in.ensures.0)

pub returns-in_err-lat : goal.returns-in_err-lat
returns-in_err-lat c =
    passed_on c.from_residual-in_err-lat.result c.from_residual-in_err-lat.ensures.1 ∙ fix_lat c.args.body.now (sym c.in_ok-second.was ∙ c.time_in.ensures.0) (sym c.in_err-lat.was ∙ c.turned_in.ensures)

pub returns-in_err-lon : goal.returns-in_err-lon
returns-in_err-lon c =
    passed_on c.from_residual-in_err-lon.result c.from_residual-in_err-lon.ensures.1 ∙ fix_lon c.args.body.now (sym c.in_ok-second.was ∙ c.time_in.ensures.0) (sym c.in_ok-lat.was
    ∙ c.turned_in.ensures) (sym c.in_err-lon.was ∙ c.turned_in-2.ensures)

pub returns-in_err-day : goal.returns-in_err-day
returns-in_err-day c =
    passed_on c.from_residual-in_err-day.result c.from_residual-in_err-day.ensures.1 ∙ fix_date c.args.body.now (sym c.in_ok-second.was ∙ c.time_in.ensures.0) (sym c.in_ok-lat.was
    ∙ c.turned_in.ensures) (sym c.in_ok-lon.was ∙ c.turned_in-2.ensures) (sym c.in_err-day.was ∙ c.date_in.ensures.0)

pub returns : goal.returns
returns c =
    fix_is c.args.body.now (sym c.in_ok-second.was ∙ c.time_in.ensures.0) (sym c.in_ok-lat.was
    ∙ c.turned_in.ensures) (sym c.in_ok-lon.was ∙ c.turned_in-2.ensures) (sym c.in_ok-day.was
    ∙ c.date_in.ensures.0) (to_z-of_z w64 c.instant_of-instant.result (sfits_of c.instant_of-instant.type_inv) ∙ c.instant_of-instant.ensures)
