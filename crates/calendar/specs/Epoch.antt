-- The days counted from 1970, year by year: forwards, and backwards past the year 1.
use Rattle.std.specs.Prelude.{◌+◌, ◌-◌}
use Rattle.numbers.specs.Prelude.{ℕ, zero, suc}
use Rattle.calendar.specs.Calendar.{year_length}

-- the days from 1 January 1970 to 1 January so many years later
unfoldable pub forwards : ℕ → ℕ
forwards zero = 0
forwards (suc k) = forwards k + year_length (1970 + k)

-- the year so many years before another, without its sign: it divides as well
unfoldable pub unsigned : ℕ → ℕ → ℕ
unsigned year k = (year - k) + (k - year)

-- the days from 1 January so many years before 1970 to that of 1970
unfoldable pub backwards : ℕ → ℕ
backwards zero = 0
backwards (suc k) = backwards k + year_length (unsigned 1969 k)
