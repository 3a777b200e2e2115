-- Whole ticks of a double: the least whole number that is not below it, for a limit, and the nearest one, for a mean and a spread. Definitions only.
-- A finite double is ±a / c, exactly: its size is the kit's fraction `num` / `den`.
use Rattle.std.specs.Prelude.{ℕ, ◌+◌, ◌-◌, ◌*◌, ◌/◌, ◌^◌, Bool, true, false, ◌&&◌, cond, ltb, Option, Some, None, Float}
use Rattle.std.specs.Float.{nan, inf, fin}
use Rattle.std.specs.Float.Ieee.Positive.{num, den}
use Rattle.std.specs.Float.Ieee.Scale.{finite}
use Rattle.text_ticks.specs.declared.whole.Count.{Count}

-- the least whole number not below a / c, for a c above 0
abbrev pub ceiling : ℕ → ℕ → ℕ
ceiling a c = (a + (c - 1)) / c

-- whether x has a minus sign
abbrev pub minus_of : Float → Bool
minus_of nan = false
minus_of (inf s) = s
minus_of (fin s m e) = s

-- how many ticks of that sign the least whole number not below ±a / c has: below zero the size is rounded down
unfoldable pub up_size : Bool → ℕ → ℕ → ℕ
up_size true a c = a / c
up_size false a c = ceiling a c

-- how many the nearest whole number has; between two it is the upper one, so above zero the size goes up and below zero it goes down
unfoldable pub near_size : Bool → ℕ → ℕ → ℕ
near_size true a c = (2 * a + (c - 1)) / (2 * c)
near_size false a c = (2 * a + c) / (2 * c)

-- n ticks; below zero where s is true, but for 0
abbrev pub counted : Bool → ℕ → Count
counted s n = record { below = s && ltb 0 n; size = n }

-- finite, and below 2 ^ 53 in size: beyond that every double is whole, and no limit is near it
unfoldable pub in_range : Float → Bool
in_range x = finite x && ltb (num x) (2 ^ 53 * den x)

-- the whole ticks of x by a rule for the size; what is not in range is declined
unfoldable pub whole_by : (Bool → ℕ → ℕ → ℕ) → Float → Option Count
unfolding in_range
whole_by size x = cond (in_range x) (Some (counted (minus_of x) (size (minus_of x) (num x) (den x)))) None

-- rounded up, as a limit is
unfoldable pub ticks_up : Float → Option Count
unfolding whole_by up_size
ticks_up x = whole_by up_size x

-- rounded to the nearest, as mean and spread are
unfoldable pub ticks_near : Float → Option Count
unfolding whole_by near_size
ticks_near x = whole_by near_size x
