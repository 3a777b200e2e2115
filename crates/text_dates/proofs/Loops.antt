-- What the two loops keep: the days that are left, from the first of the year or month reached, lead to the date asked for.
-- Assumes nothing.
use Prim.Native.Nat.{ℕ, ◌+◌, ◌-◌, ◌*◌, ◌≤◌, ◌<◌}
use mathlib.Core.Path.{◌≡◌, refl, sym, ap, ◌∙◌}
use native.Mathlib.Omega.{arith}
use borrow.Author.Tests.{lt-ltb, le-ltb}
use native.Mathlib.Decide.{dec_le}
use native.Mathlib.Nat.{lt_of_not-le}
use Rattle.text_dates.specs.Calendar.{year_days, month_days, dated, month_after, days_after, date_of}
use Rattle.text_dates.proofs.Passing.{month_has, month_turn, year_has, year_turn, after_within}

-- of day n: whole years are counted off
pub record YearsOff (n year left : ℕ) : Type 0 where
  pub first : 2000 ≤ year
  pub passed : year * 365 + left ≤ n + 2000 * 365
  pub same : days_after left (dated year 1 1) ≡ date_of n

pub years_start : (n : ℕ) → YearsOff n 2000 n
unfolding date_of
years_start n = record { first = omega arith; passed = omega arith; same = refl }

pub years_turn : (n year left : ℕ) → YearsOff n year left → year_days year ≤ left → YearsOff n (year + 1) (left - year_days year)
years_turn n year left k h =
    let some = year_has year in
    let before = k.passed in
    let from = k.first in
    record { first = omega arith; passed = omega arith; same = sym (year_turn left year h) ∙ k.same }

-- of `count` days after the first of a year: whole months are counted off, and `month` of `year` is reached
pub record MonthsOff (start count year month left : ℕ) : Type 0 where
  pub low : 1 ≤ month
  pub high : month ≤ 12
  pub passed : year + left ≤ start + count
  pub same : days_after left (dated year month 1) ≡ days_after count (dated start 1 1)

pub months_start : (start count : ℕ) → MonthsOff start count start 1 count
months_start start count = record { low = omega arith; high = omega arith; passed = omega arith; same = refl }

pub months_turn : (start count year month left : ℕ) → MonthsOff start count year month left → month_days year month ≤ left
    → MonthsOff start count (month_after year month).year (month_after year month).month (left - month_days year month)
unfolding month_after
months_turn start count year month left k h = elim (dec_le 12 month) [ yes w ↦ over w | no w ↦ within (lt_of_not-le w) ]
  where
    some : 28 ≤ month_days year month
    some = month_has year month

    passed : days_after (left - month_days year month) (month_after year month) ≡ days_after count (dated start 1 1)
    passed = sym (month_turn left year month h) ∙ k.same

    over : 12 ≤ month → MonthsOff start count (month_after year month).year (month_after year month).month (left - month_days year month)
    over w =
        let before = k.passed in
        let has = some in
        let is : month_after year month ≡ dated (year + 1) 1 1 = rw (le-ltb month 12 w) in
        rw is (record { low = omega arith; high = omega arith; passed = omega arith; same = rw is at passed })

    within : month < 12 → MonthsOff start count (month_after year month).year (month_after year month).month (left - month_days year month)
    within w =
        let before = k.passed in
        let has = some in
        let is : month_after year month ≡ dated year (month + 1) 1 = rw (lt-ltb month 12 w) in
        rw is (record { low = omega arith; high = omega arith; passed = omega arith; same = rw is at passed })

-- less than a month is left: its days give the day
pub months_end : (start count year month left : ℕ) → MonthsOff start count year month left → left < month_days year month
    → dated year month (left + 1) ≡ days_after count (dated start 1 1)
months_end start count year month left k h =
    let e : left + 1 ≡ 1 + left = omega arith in
    ap (dated year month) e ∙ sym (after_within left year month 1 (omega arith)) ∙ k.same
