-- Worked examples, computed from the definitions: a log of three lines, document 01's leaf tried on it, and on one link more that is over.
-- Its limit is 100 at a chance of 500,000. And a record with three chances and three limits. Assumes nothing.
use mathlib.Core.Path.{◌≡◌, refl}
use Prim.Native.Nat.{ℕ}
use mathlib.Core.List.{List, [], ◌∷◌}
use lib.Ieee.{of_bits, of_int, lt, round}
use Rattle.journal_spec.specs.Tests.{each, same, name_good}
use Rattle.limit.specs.Times.{in_range}
use Rattle.journal_spec.specs.Log.{begin, lines_of, name_in, digits_in, digits_good, decimal_from, ticks_in, line_good}
use Rattle.journal_spec.specs.Record.{Record}
use Rattle.journal_spec.proofs.Examples.{the_record}
use Rattle.journal_trial_spec.specs.Tally.{tally}
use Rattle.journal_trial_spec.specs.Links.{Link, read, misread, link_of, log_from, log_of}
use Rattle.journal_trial_spec.specs.Trial.{is_named, is_over, links_of, overs_of, overruns, no_chance, chance, lowest_of, trial_of}

-- `A 100`, `A 101`, `B 5`, each with its newline
unfoldable pub the_log : List ℕ
the_log =
    0x41 ∷ 0x20 ∷ 0x31 ∷ 0x30 ∷ 0x30 ∷ 0x0a
    ∷ 0x41 ∷ 0x20 ∷ 0x31 ∷ 0x30 ∷ 0x31 ∷ 0x0a
    ∷ 0x42 ∷ 0x20 ∷ 0x35 ∷ 0x0a
    ∷ []

abbrev link_a : ℕ → Link
link_a t = record { name = 0x41 ∷ []; ticks = t }

abbrev link_b : Link
link_b = record { name = 0x42 ∷ []; ticks = 5 }

pub read_there : log_of the_log ≡ read (link_a 100 ∷ link_a 101 ∷ link_b ∷ [])
unfolding log_of log_from link_of lines_of begin line_good name_good name_in digits_in digits_good decimal_from ticks_in each in_range the_log
read_there = refl

-- a last line without its newline is 11 at its first byte
pub unread_there : log_of (0x41 ∷ 0x20 ∷ 0x35 ∷ 0x0a ∷ 0x42 ∷ 0x20 ∷ 0x35 ∷ []) ≡ misread 4
unfolding log_of log_from link_of lines_of begin line_good name_good name_in digits_in digits_good decimal_from ticks_in each in_range
unread_there = refl

-- 100 ticks meet the limit and are within, 101 are over: 1 × 1,000,000 does not exceed 500,000 × 2
pub within_there : trial_of the_record (link_a 100 ∷ link_a 101 ∷ link_b ∷ []) ≡ record { links = 2; overs = 1 ∷ []; lowest = no_chance }
unfolding trial_of links_of overs_of lowest_of overruns is_named is_over tally same the_record of_bits of_int lt round
within_there = refl

-- 2 × 1,000,000 exceed 500,000 × 3
pub overrun_there : trial_of the_record (link_a 100 ∷ link_a 101 ∷ link_a 1000 ∷ []) ≡ record { links = 3; overs = 2 ∷ []; lowest = chance 500_000 }
unfolding trial_of links_of overs_of lowest_of overruns is_named is_over tally same the_record of_bits of_int lt round
overrun_there = refl

-- three chances with three limits, 300, 200 and 100
unfoldable pub three_limits : Record
three_limits = record {
  form = 2;
  day = 1;
  name = 0x41 ∷ [];
  chances = 250_000 ∷ 500_000 ∷ 750_000 ∷ [];
  times = 100 ∷ 300 ∷ [];
  limits = 0x4072_c000_0000_0000 ∷ 0x4069_0000_0000_0000 ∷ 0x4059_0000_0000_0000 ∷ [];
}

-- each over is counted against its own limit: 1, 2 and 3 of 50, 150, 250 and 350 ticks, and no chance is exceeded
pub each_limit_there : trial_of three_limits (link_a 50 ∷ link_a 150 ∷ link_b ∷ link_a 250 ∷ link_a 350 ∷ [])
    ≡ record { links = 4; overs = 1 ∷ 2 ∷ 3 ∷ []; lowest = no_chance }
unfolding trial_of links_of overs_of lowest_of overruns is_named is_over tally same three_limits of_bits of_int lt round
each_limit_there = refl

-- of 150, 250, 250 and 350 ticks the second chance is the lowest that is: 1 × 1,000,000 meet 250,000 × 4, and 3 × 1,000,000 exceed 500,000 × 4
pub second_lowest_there : trial_of three_limits (link_a 150 ∷ link_a 250 ∷ link_a 250 ∷ link_a 350 ∷ [])
    ≡ record { links = 4; overs = 1 ∷ 3 ∷ 4 ∷ []; lowest = chance 500_000 }
unfolding trial_of links_of overs_of lowest_of overruns is_named is_over tally same three_limits of_bits of_int lt round
second_lowest_there = refl

-- 11 at a line with a leading zero, behind two good ones: at its first byte, whatever follows
pub bad_line_there : log_of (0x41 ∷ 0x20 ∷ 0x35 ∷ 0x0a ∷ 0x42 ∷ 0x20 ∷ 0x35 ∷ 0x0a ∷ 0x41 ∷ 0x20 ∷ 0x30 ∷ 0x35 ∷ 0x0a ∷ 0x0a ∷ []) ≡ misread 8
unfolding log_of log_from link_of lines_of begin line_good name_good name_in digits_in digits_good decimal_from ticks_in each in_range
bad_line_there = refl
