-- Mean and spread in the line of a record that stands are document 01's, under the record's own form (document 02, 2026-03).
-- Assumes nothing.
use mathlib.Core.Path.{◌≡◌, refl, sym, ◌∙◌}
use mathlib.Core.List.{[], ◌∷◌}
use mathlib.Core.Bool.{true}
use lib.ListN.{length}
use lib.Ieee.{binary64, to_bits}
use Rattle.text_digits.specs.Hex.{decimal_digits, hex_digits}
use Rattle.limit.specs.Times.{times_in_range, sum_of, squares_of}
use Rattle.limit.specs.Formula.{plain_form, sample_form, mean_of, spread_of, moments_of}
use Rattle.limit.specs.Limit.{form_known, moments_of_times}
use Rattle.limit.proofs.InRange as R
use Rattle.journal_spec.specs.Record.{Record, Last}
use Rattle.journal_spec.specs.Read.{letter_of, mark_of}
use Rattle.journal_spec.specs.Ranges.{RecordRanges}
use Rattle.journal_spec.proofs.Limits.{times_good_lem}
use Rattle.journal_spec.proofs.Ranged.{time_ranged}
use Rattle.journal_listing.specs.Listing.{line_of, mean_bits, spread_bits, quoted_limits, record_line}

pub listed_figures : (last : Last) (r : Record) → RecordRanges last r
    → record_line r
    ≡ line_of
    (r.name
    ∷ decimal_digits r.day
    ∷ (letter_of (mark_of r.times) ∷ [])
    ∷ hex_digits 16 (to_bits binary64 (mean_of (length r.times) (sum_of r.times)))
    ∷ hex_digits 16 (to_bits binary64 (spread_of r.form (length r.times) (sum_of r.times) (squares_of r.times)))
    ∷ quoted_limits r.chances r.limits)
unfolding record_line moments_of_times moments_of mean_bits spread_bits
listed_figures last r k =
    let known : form_known r.form ≡ true = unfold form_known in R.inside plain_form sample_form r.form k.form.0 k.form.1 in
    let good : times_in_range r.times ≡ true = sym (times_good_lem r.times) ∙ (time_ranged r.times).1 k.times in
    rw (known, good) refl
