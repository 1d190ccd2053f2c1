-- `line::clock::put_weekday` meets its contract, by the weekday.
use Rattle.numbers.proofs.Prelude.{rules, sym, ap}
use Rattle.line.proofs.{Puts.{put_as, put_none}, Shown.{no_day}}
use Rattle.line.specs.Clock.{weekday_text}
use Rattle.line.proofs.clock.put_weekday.Goals as goal

pub returns-in-0 : goal.returns-in-0
unfolding weekday_text
returns-in-0 c =
    put_as (ap weekday_text (sym c.in-0.is)) c.put_all.ensures

pub returns-in-1 : goal.returns-in-1
unfolding weekday_text
returns-in-1 c =
    put_as (ap weekday_text (sym c.in-1.is)) c.put_all-in-1.ensures

pub returns-in-2 : goal.returns-in-2
unfolding weekday_text
returns-in-2 c =
    put_as (ap weekday_text (sym c.in-2.is)) c.put_all-in-2.ensures

pub returns-in-3 : goal.returns-in-3
unfolding weekday_text
returns-in-3 c =
    put_as (ap weekday_text (sym c.in-3.is)) c.put_all-in-3.ensures

pub returns-in-4 : goal.returns-in-4
unfolding weekday_text
returns-in-4 c =
    put_as (ap weekday_text (sym c.in-4.is)) c.put_all-in-4.ensures

pub returns-in-5 : goal.returns-in-5
unfolding weekday_text
returns-in-5 c =
    put_as (ap weekday_text (sym c.in-5.is)) c.put_all-in-5.ensures

pub returns-in-6 : goal.returns-in-6
unfolding weekday_text
returns-in-6 c =
    put_as (ap weekday_text (sym c.in-6.is)) c.put_all-in-6.ensures

pub returns-in_default : goal.returns-in_default
returns-in_default c = put_as (sym (no_day _ (search rules))) (put_none _ _)
