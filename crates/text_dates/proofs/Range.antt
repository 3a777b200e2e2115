-- The last day that a record can hold, computed by counting to it, and with it every day's year: it has four digits.
-- Assumes nothing.
use Prim.Native.Nat.{ℕ, ◌≤◌, ◌<◌}
use mathlib.Core.Path.{◌≡◌, refl, ap}
use native.Mathlib.Omega.{arith}
use native.Mathlib.Decide.{dec_le}
use native.Mathlib.Nat.{lt_of_not-le}
use Rattle.text_dates.specs.Calendar.{is_leap, is_short, month_days, dated, month_after, date_after, days_after, date_of, eight_digits}
use Rattle.text_dates.proofs.Dates.{date_is, dates_rise}

pub last_day : date_of 65535 ≡ dated 2179 6 6
unfolding is_leap is_short month_days month_after date_after days_after date_of
last_day = refl

pub year_most : (n : ℕ) → n < 65536 → (date_of n).year ≤ 2179
year_most n h =
    let e : eight_digits (date_of 65535) ≡ 21790606 = ap eight_digits last_day in
    let k = date_is n in
    elim (dec_le 65535 n) [
      | yes w ↦ let same : n ≡ 65535 = omega arith in rw (same, last_day) (omega arith)
      | no w ↦ let up = dates_rise n 65535 (lt_of_not-le w) in omega (arith, up, e)
    ]
