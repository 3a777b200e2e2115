-- The arguments at which the quantile is shown finite, and at most 4 in size: every double from 2 ^ -20 to 2 - 2 ^ -19. Definitions only.
-- The chances' arguments are among them, from 1 / 500000 to 999999 / 500000: the first is 2 ^ -18.93, and the last as far below 2.
use Rattle.std.specs.Prelude.{◌≡◌, true, Float}
use Rattle.std.specs.Float.{binary64}
use Rattle.std.specs.Float.Ieee.{fits, of_bits, le}

-- 2 ^ -20
abbrev pub least_argument : Float
least_argument = of_bits binary64 0x3eb0_0000_0000_0000

-- 2 - 2 ^ -19
abbrev pub most_argument : Float
most_argument = of_bits binary64 0x3fff_fffe_0000_0000

pub record OrdinaryArgument (x : Float) : Type 0 where
  pub double : fits binary64 x ≡ true
  pub from : le least_argument x ≡ true
  pub to : le x most_argument ≡ true
