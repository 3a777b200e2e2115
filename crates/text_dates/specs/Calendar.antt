-- The date of a day by the Gregorian rule, defined by counting: day 0 is 1 January 2000 (document 01, Leaf), and each day has the date after
-- that of the day before. Definitions only.
use Rattle.std.specs.Prelude.{ℕ, zero, suc, ◌+◌, ◌*◌, ◌%◌, ◌≤◌, Bool, not, ◌&&◌, ◌||◌, cond, ltb, eqb}
use Rattle.text_dates.specs.declared.date.Date.{Date}

-- a leap year: every fourth, but of the hundreds only every fourth
unfoldable pub is_leap : ℕ → Bool
is_leap y = eqb (y % 4) 0 && (not (eqb (y % 100) 0) || eqb (y % 400) 0)

-- how many days a year has
unfoldable pub year_days : ℕ → ℕ
unfolding is_leap
year_days y = cond (is_leap y) 366 365

-- April, June, September and November
unfoldable pub is_short : ℕ → Bool
is_short m = eqb m 4 || (eqb m 6 || (eqb m 9 || eqb m 11))

-- how many days a month of a year has, January being 1: February 28 or 29, the short ones 30, the others 31
unfoldable pub month_days : ℕ → ℕ → ℕ
unfolding is_leap is_short
month_days y m =
    cond (eqb m 2) (cond (is_leap y) 29 28)
    (cond (is_short m) 30
    31)

abbrev pub dated : ℕ → ℕ → ℕ → Date
dated y m d = record { year = y; month = m; day = d }

-- the first day of the month after a month
unfoldable pub month_after : ℕ → ℕ → Date
month_after y m = cond (ltb m 12) (dated y (m + 1) 1) (dated (y + 1) 1 1)

-- the date after a date: the next of its month, or the first of the month after
unfoldable pub date_after : Date → Date
unfolding month_days month_after
date_after t =
    cond (ltb t.day (month_days t.year t.month)) (dated t.year t.month (t.day + 1)) (month_after t.year t.month)

-- the date n days after a date
unfoldable pub days_after : ℕ → Date → Date
unfolding date_after
days_after zero t = t
days_after (suc n) t = days_after n (date_after t)

-- the date of day n
unfoldable pub date_of : ℕ → Date
unfolding days_after
date_of n = days_after n (dated 2000 1 1)

-- a date that there is: a month of the twelve, and a day of that month
pub record IsDate (t : Date) : Type 0 where
  pub first_month : 1 ≤ t.month
  pub last_month : t.month ≤ 12
  pub first_day : 1 ≤ t.day
  pub last_day : t.day ≤ month_days t.year t.month

-- a date's eight digits YYYYMMDD as one number: they rise with the date
abbrev pub eight_digits : Date → ℕ
eight_digits t = t.year * 10000 + t.month * 100 + t.day
