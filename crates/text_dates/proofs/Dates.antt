-- What dates are: each day's is one that there is, dates rise strictly with the day, so that no two days share one, and every u16 has a year
-- of four digits. Assumes nothing.
use Prim.Native.Nat.{ℕ, zero, suc, ◌+◌, ◌-◌, ◌≤◌, ◌<◌}
use mathlib.Core.Path.{◌≡◌, ap, ◌∙◌}
use mathlib.Core.Bool.{Bool, true, false, cond}
use native.Mathlib.Omega.{arith}
use native.Mathlib.Decide.{dec_le}
use native.Mathlib.Nat.{lt_of_not-le}
use borrow.Author.Tests.{lt-ltb, le-ltb}
use lib.Dec.{eqb}
use Rattle.text_dates.specs.declared.date.Date.{Date}
use Rattle.text_dates.specs.Calendar.{is_leap, is_short, month_days, dated, month_after, date_after, days_after, date_of, IsDate, eight_digits}
use Rattle.text_dates.proofs.Passing.{month_has, after_sum}

-- a month has at most 31 days
pub month_most : (y m : ℕ) → month_days y m ≤ 31
unfolding month_days
month_most y m = go (eqb m 2) (is_leap y) (is_short m)
  where
    go : (b l k : Bool) → cond b (cond l 29 28) (cond k 30 31) ≤ 31
    go true true k = omega arith
    go true false k = omega arith
    go false l true = omega arith
    go false l false = omega arith

-- the date after one that there is: it is one too, and its eight digits are greater
pub record Rises (t u : Date) : Type 0 where
  pub is : IsDate u
  pub more : eight_digits t < eight_digits u

pub next_rises : (t : Date) → IsDate t → Rises t (date_after t)
unfolding date_after month_after
next_rises t k =
    elim (dec_le (month_days t.year t.month) t.day) [ yes w ↦ last w | no w ↦ inner (lt_of_not-le w) ]
  where
    inner : t.day < month_days t.year t.month → Rises t (date_after t)
    inner w =
        let l = k.first_month in
        let h = k.last_month in
        rw (lt-ltb t.day (month_days t.year t.month) w)
        (record { is = record { first_month = l; last_month = h; first_day = omega arith; last_day = omega arith }; more = omega arith })

    last : month_days t.year t.month ≤ t.day → Rises t (date_after t)
    last w =
        let d = k.last_day in
        let most = month_most t.year t.month in
        let f = k.first_day in
        let l = k.first_month in
        let h = k.last_month in
        elim (dec_le 12 t.month) [
          | yes v ↦
              let some = month_has (t.year + 1) 1 in
              rw (le-ltb t.day (month_days t.year t.month) w, le-ltb t.month 12 v)
              (record {
                is = record { first_month = omega arith; last_month = omega arith; first_day = omega arith; last_day = omega arith };
                more = omega arith;
              })
          | no v ↦
              let less = lt_of_not-le v in
              let some = month_has t.year (t.month + 1) in
              rw (le-ltb t.day (month_days t.year t.month) w, lt-ltb t.month 12 less)
              (record {
                is = record { first_month = omega arith; last_month = omega arith; first_day = omega arith; last_day = omega arith };
                more = omega arith;
              })
        ]

-- so many days on
pub after_is : (n : ℕ) (t : Date) → IsDate t → IsDate (days_after n t)
unfolding days_after
after_is zero t k = k
after_is (suc n) t k = after_is n (date_after t) (next_rises t k).is

pub after_rises : (n : ℕ) (t : Date) → IsDate t → eight_digits t + n ≤ eight_digits (days_after n t)
unfolding days_after
after_rises zero t k = omega arith
after_rises (suc n) t k =
    let one = (next_rises t k).more in
    let rest = after_rises n (date_after t) (next_rises t k).is in
    omega arith

-- day 0
start_is : IsDate (dated 2000 1 1)
unfolding month_days
start_is = record { first_month = omega arith; last_month = omega arith; first_day = omega arith; last_day = omega arith }

-- every day's date is one that there is
pub date_is : (n : ℕ) → IsDate (date_of n)
unfolding date_of
date_is n = after_is n (dated 2000 1 1) start_is

-- a later day has a later date
pub dates_rise : (m n : ℕ) → m < n → eight_digits (date_of m) < eight_digits (date_of n)
unfolding date_of
dates_rise m n h =
    let e : n ≡ m + (n - m) = omega arith in
    let both : date_of n ≡ days_after (n - m) (date_of m) = ap date_of e ∙ after_sum m (n - m) (dated 2000 1 1) in
    let up = after_rises (n - m) (date_of m) (date_is m) in
    rw both (omega arith)
