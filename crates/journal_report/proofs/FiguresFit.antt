-- How long the lines of a record's figures are: for every record that may stand, a buffer of `max_figure` bytes holds them. A limit whose exact decimal takes
-- all of its 63 bytes is below 2 ^ -7 in size and has fewer in milliseconds than the nine reckoned here: no line takes all 156. Assumes nothing.
use Prim.Native.Nat.{ℕ, ◌+◌, ◌≤◌, ◌<◌}
use mathlib.Core.Path.{subst}
use mathlib.Core.List.{List, ◌++◌}
use native.Mathlib.Omega.{arith}
use lib.ListN.{length, get_or, length-append}
use lib.Ieee.{binary64, of_bits, to_bits}
use lib.Ieee.Bits.{of_bits-fits}
use Rattle.text_digits.specs.Hex.{decimal_digits, hex_digits}
use Rattle.text_digits.proofs.Counting.{decimal_most}
use Rattle.text_digits.proofs.Writing.{length_digits}
use Rattle.limit.specs.Times.{sum_of, squares_of}
use Rattle.limit.specs.Formula.{mean_of, spread_of}
use Rattle.text_ticks.specs.Ticks.{ticks_up, ticks_near}
use Rattle.text_ticks.specs.Text.{ticks_text}
use Rattle.text_decimal.proofs.Longest.{exact_text_most}
use Rattle.journal_spec.specs.Record.{Record, Last}
use Rattle.journal_spec.specs.Ranges.{RecordRanges}
use Rattle.law_shown.specs.Shown.{max_moment, max_slot}
use Rattle.law_shown.proofs.Records.{shown_record}
use Rattle.journal_report.specs.Figures.{limit_word, chance_word, mean_word, spread_word, exact_word, up_word, near_word}
use Rattle.journal_report.specs.Figures.{double_text, limit_line, moment_line, max_figure}

double_most : (what : List ℕ) (bits : ℕ) → length (double_text what bits) ≤ length what + 89
unfolding double_text
double_most what bits =
    rw (
      length-append (what ++ hex_digits 16 bits ++ exact_word),
      length-append (what ++ hex_digits 16 bits),
      length-append what,
    )
    (omega (arith, length_digits 16 16 bits, exact_text_most (of_bits binary64 bits) (of_bits-fits binary64 bits)))

limit_line_most : (c l : ℕ) → c ≤ 999_999 → length (ticks_text (ticks_up (of_bits binary64 l))) ≤ max_slot → length (limit_line c l) ≤ max_figure
unfolding limit_line
limit_line_most c l h s =
    let first : List ℕ = limit_word ++ decimal_digits c in
    let second : List ℕ = double_text chance_word l in
    let third : List ℕ = ticks_text (ticks_up (of_bits binary64 l)) in
    rw (
      length-append (first ++ second ++ up_word ++ third),
      length-append (first ++ second ++ up_word),
      length-append (first ++ second),
      length-append first,
    )
    (omega (arith, decimal_most 6 c (omega arith) (omega arith), double_most chance_word l, s))

moment_line_most : (what : List ℕ) (b : ℕ) → length what ≤ 12 → length (ticks_text (ticks_near (of_bits binary64 b))) ≤ max_moment
    → length (moment_line what b) ≤ max_figure
unfolding moment_line
moment_line_most what b h s =
    let third : List ℕ = ticks_text (ticks_near (of_bits binary64 b)) in
    rw (
      length-append (double_text what b ++ near_word ++ third),
      length-append (double_text what b ++ near_word),
      length-append (double_text what b),
    )
    (omega (arith, double_most what b, s))

-- of a record that may stand
pub record FiguresFit (r : Record) : Type 0 where
  pub mean : length (moment_line mean_word (to_bits binary64 (mean_of (length r.times) (sum_of r.times)))) ≤ max_figure
  pub spread : length (moment_line spread_word (to_bits binary64 (spread_of r.form (length r.times) (sum_of r.times) (squares_of r.times)))) ≤ max_figure
  pub limits : (i : ℕ) → i < length r.limits → length (limit_line (get_or r.chances i 0) (get_or r.limits i 0)) ≤ max_figure

pub figures_fit : (last : Last) (r : Record) → RecordRanges last r → FiguresFit r
figures_fit last r k =
    let shown = shown_record last r k in
    record {
      mean = moment_line_most mean_word _ (omega arith) shown.mean.short;
      spread = moment_line_most spread_word _ (omega arith) shown.spread.short;
      limits = λ i h. limit_line_most _ _ (k.chances.range i (subst (λ (m : ℕ). i < m) k.limit_count h)).1 (shown.limits i h).short;
    }
