-- Where the numbers on the quantile's way lie, for every argument from 2 ^ -20 to 2 - 2 ^ -19; in the tails for every one from 2 ^ -52, and for
-- every one above zero. Definitions only.
-- In units of 2 ^ -1074: 1 is 2 ^ 1074. A pair has a range for its high part and one for its low part.
use Rattle.std.specs.Prelude.{ℕ, ◌+◌, ◌-◌, ◌*◌, ◌^◌, true}
use Rattle.law_bounds.specs.Interval.{Interval, between, about}

-- how far down a tail's arguments go: to 2 ^ -20, as the chances' do; to 2 ^ -52, below which no 2 - x lies; or to the smallest double
pub data Depth : Type 0 where
  usual : Depth
  deep : Depth
  every : Depth

-- the least argument, 2 ^ start d units
abbrev pub start : Depth → ℕ
start usual = 1054
start deep = 1022
start every = 0

-- what the quantile is at most there
abbrev pub greatest : Depth → ℕ
greatest usual = 4
greatest deep = 7
greatest every = 64

-- the argument: from 2 ^ -20 to 2 - 2 ^ -19
abbrev pub argument_b : Interval
argument_b = between (2 ^ 1054) (2 ^ 1075 - 2 ^ 1055)

-- the quantile: at most 4 in size; at most 7 down to 2 ^ -52
abbrev pub quantile_b : Interval
quantile_b = about true (4 * 2 ^ 1074)

abbrev pub deep_quantile_b : Interval
deep_quantile_b = about true (7 * 2 ^ 1074)

-- the pair that the quantile is the sum of: at most 4 - 2 ^ -8, the low part at most 2 ^ -9
abbrev pub result_b : Interval
result_b = about true (4 * 2 ^ 1074 - 2 ^ 1066)

abbrev pub result_low_b : Interval
result_low_b = about true (2 ^ 1065)

-- ---- `erf_core`

-- its argument: from -2 ^ -44 to 1 - 33 * 2 ^ -25, the low part at most 2 ^ -44
abbrev pub core_b : Interval
core_b = record { ok = true; lp = 0; ln = 2 ^ 1030; hp = 2 ^ 1074 - 33 * 2 ^ 1049; hn = 0 }

abbrev pub core_low_b : Interval
core_low_b = about true (2 ^ 1030)

-- up to the cut at 0.75
abbrev pub middle_b : Interval
middle_b = record { ok = true; lp = 0; ln = 2 ^ 1030; hp = 3 * 2 ^ 1072; hn = 0 }

-- the three parts of it, up to 1 / 2, from there to 11 / 16, and from there to 0.75
abbrev pub first_b : Interval
first_b = record { ok = true; lp = 0; ln = 2 ^ 1030; hp = 2 ^ 1073; hn = 0 }

abbrev pub second_b : Interval
second_b = between (2 ^ 1073) (11 * 2 ^ 1070)

abbrev pub third_b : Interval
third_b = between (11 * 2 ^ 1070) (3 * 2 ^ 1072)

-- from the cut at 0.75
abbrev pub upper_b : Interval
upper_b = between (3 * 2 ^ 1072) (2 ^ 1074 - 33 * 2 ^ 1049)

abbrev pub upper_low_b : Interval
upper_low_b = about true (2 ^ 1030)

-- ---- the logarithms

-- their argument: up to 3 / 8; the low part of 1 less a pair is at most 2 ^ -40
abbrev pub reach_b : Depth → Interval
reach_b d = between (2 ^ start d) (3 * 2 ^ 1071)

abbrev pub less_low_b : Interval
less_low_b = about true (2 ^ 1034)

-- t in the bin of index i: (i + 181) / 256 to (i + 182) / 256
abbrev pub bin_b : ℕ → Interval
bin_b i = between ((i + 181) * 2 ^ 1066) ((i + 182) * 2 ^ 1066)

-- z, r × t - 1: at most 1 / 64
abbrev pub z_b : Interval
z_b = about true (2 ^ 1068)

-- the exponent: from -20, -52 or -1074 to -1
abbrev pub exponent_b : Depth → Interval
exponent_b d = record { ok = true; lp = 0; ln = (1074 - start d) * 2 ^ 1074; hp = 0; hn = 2 ^ 1074 }

-- the table's logarithms: at most 3 / 8, the low part at most 2 ^ -50
abbrev pub entry_high_b : Interval
entry_high_b = about true (3 * 2 ^ 1071)

abbrev pub entry_low_b : Interval
entry_low_b = about true (2 ^ 1024)

-- what a pair's low part adds to its logarithm: at most 2 ^ -14
abbrev pub share_b : Interval
share_b = about true (2 ^ 1060)

-- the logarithm: from -913 / 64, -2333 / 64 or -745 to -19 / 64, the low part at most 2 ^ -10
abbrev pub log_start : Depth → ℕ
log_start usual = 913
log_start deep = 2333
log_start every = 745 * 64

abbrev pub log_b : Depth → Interval
log_b d = record { ok = true; lp = 0; ln = log_start d * 2 ^ 1068; hp = 0; hn = 19 * 2 ^ 1068 }

abbrev pub log_low_b : Interval
log_low_b = about true (2 ^ 1064)

-- ---- the tails

-- a part of zeta's range, in 32nds
abbrev pub zeta_part_b : ℕ → ℕ → Interval
zeta_part_b a b = between (a * 2 ^ 1069) (b * 2 ^ 1069)

-- zeta, the logarithm with the other sign: from 9 / 32 to 457 / 32, 1167 / 32 or 746, the low part at most 2 ^ -39
abbrev pub zeta_end : Depth → ℕ
zeta_end usual = 457
zeta_end deep = 1167
zeta_end every = 746 * 32

abbrev pub zeta_b : Depth → Interval
zeta_b d = zeta_part_b 9 (zeta_end d)

abbrev pub zeta_low_b : Interval
zeta_low_b = about true (2 ^ 1035)

-- the pair that a tail comes to: at least 2 ^ -6, and 2 ^ -8 below the greatest; the low part is that of the quantile's pair
abbrev pub tail_b : Depth → Interval
tail_b d = between (2 ^ 1068) (greatest d * 2 ^ 1074 - 2 ^ 1066)
