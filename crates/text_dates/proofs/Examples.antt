-- Closed cases, computed: the first day, the leap days of 2000 and their like that 2100 has not. Assumes nothing.
use mathlib.Core.Path.{◌≡◌, refl}
use mathlib.Core.List.{[], ◌∷◌}
use Rattle.text_digits.specs.Hex.{digits, glyph_of}
use Rattle.text_dates.specs.Calendar.{is_leap, is_short, month_days, dated, month_after, date_after, days_after, date_of}
use Rattle.text_dates.specs.Iso.{iso_text, iso_of}

first : date_of 0 ≡ dated 2000 1 1
unfolding date_of days_after
first = refl

-- 2000 is a leap year
leap_day : date_of 59 ≡ dated 2000 2 29
unfolding is_leap is_short month_days month_after date_after days_after date_of
leap_day = refl

-- 2026-11-16
text : iso_of 9816 ≡ 50 ∷ 48 ∷ 50 ∷ 54 ∷ 45 ∷ 49 ∷ 49 ∷ 45 ∷ 49 ∷ 54 ∷ []
unfolding is_leap is_short month_days month_after date_after days_after date_of iso_text iso_of digits glyph_of
text = refl

-- 2100 is none
february_ends : date_of 36583 ≡ dated 2100 2 28
unfolding is_leap is_short month_days month_after date_after days_after date_of
february_ends = refl

march_starts : date_of 36584 ≡ dated 2100 3 1
unfolding is_leap is_short month_days month_after date_after days_after date_of
march_starts = refl
