-- Whole months and whole years counted off: so many days after the first of a month is the first of the month after, and likewise for a year.
-- Assumes nothing.
use Prim.Native.Nat.{ℕ, zero, suc, ◌+◌, ◌-◌, ◌≤◌, ◌<◌}
use mathlib.Core.Path.{◌≡◌, refl, ap, ◌∙◌}
use mathlib.Core.Bool.{Bool, true, false, cond}
use native.Mathlib.Omega.{arith}
use borrow.Author.Tests.{lt-ltb, le-ltb}
use lib.Dec.{eqb}
use Rattle.text_dates.specs.declared.date.Date.{Date}
use Rattle.text_dates.specs.Calendar.{is_leap, is_short, year_days, month_days, dated, month_after, date_after, days_after}

-- one stretch of days after another
pub after_sum : (a b : ℕ) (t : Date) → days_after (a + b) t ≡ days_after b (days_after a t)
unfolding days_after
after_sum zero b t =
    let e : 0 + b ≡ b = omega arith in
    ap (λ (k : ℕ). days_after k t) e
after_sum (suc a) b t =
    let e : suc a + b ≡ suc (a + b) = omega arith in
    ap (λ (k : ℕ). days_after k t) e ∙ after_sum a b (date_after t)

-- within a month the day goes up
pub after_within : (k y m d : ℕ) → d + k ≤ month_days y m → days_after k (dated y m d) ≡ dated y m (d + k)
unfolding days_after date_after
after_within zero y m d h =
    let e : d ≡ d + 0 = omega arith in
    ap (dated y m) e
after_within (suc k) y m d h =
    let e : d + 1 + k ≡ d + suc k = omega arith in
    rw (lt-ltb d (month_days y m) (omega arith)) (after_within k y m (d + 1) (omega arith) ∙ ap (dated y m) e)

-- a month has a day
pub month_has : (y m : ℕ) → 28 ≤ month_days y m
unfolding month_days
month_has y m = go (eqb m 2) (is_leap y) (is_short m)
  where
    go : (b l k : Bool) → 28 ≤ cond b (cond l 29 28) (cond k 30 31)
    go true true k = omega arith
    go true false k = omega arith
    go false l true = omega arith
    go false l false = omega arith

-- the day after the last of a month
after_last : (y m k : ℕ) → month_days y m ≡ suc k → days_after (suc k) (dated y m 1) ≡ month_after y m
unfolding days_after date_after
after_last y m k e =
    let parts : suc k ≡ k + 1 = omega arith in
    let inside = after_within k y m 1 (omega arith) in
    let last : 1 + k ≡ suc k = omega arith in
    ap (λ (n : ℕ). days_after n (dated y m 1)) parts
    ∙ after_sum k 1 (dated y m 1)
    ∙ ap date_after inside
    ∙ rw (le-ltb (1 + k) (month_days y m) (omega arith))

-- a whole month
pub month_passes : (y m : ℕ) → days_after (month_days y m) (dated y m 1) ≡ month_after y m
month_passes y m =
    let some = month_has y m in
    let e : month_days y m ≡ suc (month_days y m - 1) = omega arith in
    ap (λ (n : ℕ). days_after n (dated y m 1)) e ∙ after_last y m (month_days y m - 1) e

-- a month counted off
pub month_turn : (left y m : ℕ) → month_days y m ≤ left
    → days_after left (dated y m 1) ≡ days_after (left - month_days y m) (month_after y m)
month_turn left y m h =
    let e : left ≡ month_days y m + (left - month_days y m) = omega arith in
    ap (λ (n : ℕ). days_after n (dated y m 1)) e
    ∙ after_sum (month_days y m) (left - month_days y m) (dated y m 1)
    ∙ ap (days_after (left - month_days y m)) (month_passes y m)

-- a month counted off that is not the last of its year
inner : (left y m k : ℕ) → month_days y m ≡ k → k ≤ left → m < 12 → days_after left (dated y m 1) ≡ days_after (left - k) (dated y (m + 1) 1)
unfolding month_after
inner left y m k e h l =
    month_turn left y m (omega arith) ∙ rw (e, lt-ltb m 12 l)

-- the ten months from March on
from_march : (y : ℕ) → days_after 306 (dated y 3 1) ≡ dated (y + 1) 1 1
unfolding month_days month_after
from_march y =
    inner 306 y 3 31 refl (omega arith) (omega arith)
    ∙ inner 275 y 4 30 refl (omega arith) (omega arith)
    ∙ inner 245 y 5 31 refl (omega arith) (omega arith)
    ∙ inner 214 y 6 30 refl (omega arith) (omega arith)
    ∙ inner 184 y 7 31 refl (omega arith) (omega arith)
    ∙ inner 153 y 8 31 refl (omega arith) (omega arith)
    ∙ inner 122 y 9 30 refl (omega arith) (omega arith)
    ∙ inner 92 y 10 31 refl (omega arith) (omega arith)
    ∙ inner 61 y 11 30 refl (omega arith) (omega arith)
    ∙ month_passes y 12

-- a whole year
pub year_passes : (y : ℕ) → days_after (year_days y) (dated y 1 1) ≡ dated (y + 1) 1 1
unfolding year_days month_days
year_passes y = go (is_leap y) refl
  where
    go : (l : Bool) → is_leap y ≡ l → days_after (year_days y) (dated y 1 1) ≡ dated (y + 1) 1 1
    go true e =
        rw e
        (inner 366 y 1 31 refl (omega arith) (omega arith)
        ∙ inner 335 y 2 29 (rw e) (omega arith) (omega arith)
        ∙ from_march y)
    go false e =
        rw e
        (inner 365 y 1 31 refl (omega arith) (omega arith)
        ∙ inner 334 y 2 28 (rw e) (omega arith) (omega arith)
        ∙ from_march y)

-- a year counted off
pub year_turn : (left y : ℕ) → year_days y ≤ left → days_after left (dated y 1 1) ≡ days_after (left - year_days y) (dated (y + 1) 1 1)
year_turn left y h =
    let e : left ≡ year_days y + (left - year_days y) = omega arith in
    ap (λ (n : ℕ). days_after n (dated y 1 1)) e
    ∙ after_sum (year_days y) (left - year_days y) (dated y 1 1)
    ∙ ap (days_after (left - year_days y)) (year_passes y)

-- a year has days
pub year_has : (y : ℕ) → 365 ≤ year_days y
unfolding year_days
year_has y = go (is_leap y)
  where
    go : (l : Bool) → 365 ≤ cond l 366 365
    go true = omega arith
    go false = omega arith
