-- Worked cases of this crate's definitions, computed.
use mathlib.Core.Path.{◌≡◌, refl}
use mathlib.Core.Bool.{false}
use lib.Ieee.{binary64, fits, of_bits, to_bits, sub, lt, le, eq}
use Rattle.pxfm.specs.Argument.{tenth}
use Rattle.law_mirror.specs.Mirror.{flip_sign, mirror_of, mirror_bits, last_mirrored, Mirrored}

-- 1.5; the double after 1.9, for which 2 - x is below 0.1; and 2 - x at the last x, 2 ^ -52
mirrored_case : Mirrored (of_bits binary64 0x3ff8000000000000)
unfolding of_bits fits lt
mirrored_case = record { double = refl; above_one = refl; below_two = refl }

mirror_below_tenth : le tenth (mirror_of (of_bits binary64 0x3ffe666666666667)) ≡ false
unfolding of_bits lt le eq sub
mirror_below_tenth = refl

mirror_last : mirror_bits last_mirrored ≡ 0x3cb0000000000000
unfolding of_bits to_bits sub
mirror_last = refl

flip_case : flip_sign 0xbff0000000000000 ≡ 0x3ff0000000000000
unfolding flip_sign
flip_case = refl
