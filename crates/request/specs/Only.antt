-- What `request_instant` says of a request: the one instant at which a clock in UTC shows its date and time.
use Rattle.std.specs.Prelude.{Some, ◌≡◌}
use Rattle.numbers.specs.Prelude.{ℤ, pos}
use Rattle.calendar.specs.{Calendar.{weekday_of, day_number}, Civil.{CivilOf}, declared.civil.Reading.{Reading}}
use Rattle.request.specs.Clock.{Date, Time}

-- what a clock shows at a date and a time
abbrev pub reading_of : Date → Time → Reading
reading_of d t =
    record {
      year = d.year;
      month = d.month;
      day = d.day;
      hour = t.hour;
      minute = t.minute;
      second = t.second;
      weekday = weekday_of (day_number d.year d.month d.day);
    }

-- at this instant, and at no other, a clock in UTC shows this date and time
pub record OnlyAt (date : Date) (time : Time) (instant : ℤ) : Type 0 where
  pub shown : CivilOf instant (pos 0) (Some (reading_of date time))
  pub alone : (other : ℤ) → CivilOf other (pos 0) (Some (reading_of date time)) → other ≡ instant
