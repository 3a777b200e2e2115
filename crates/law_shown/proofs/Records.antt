-- Of a record that may stand in a journal a report prints every figure: mean and spread of its times, and each of its limits. Assumes nothing.
use mathlib.Core.Path.{◌≡◌, sym, ◌∙◌, subst}
use mathlib.Core.Bool.{true}
use Prim.Native.Nat.{ℕ, ◌<◌}
use native.Mathlib.Omega.{arith}
use lib.Dec.{T}
use lib.ListN.{length, get_or}
use lib.Ieee.{Float, binary64, fits, of_bits, to_bits}
use lib.Ieee.Bits.{of_bits-to_bits}
use Rattle.limit.specs.Times.{times_in_range, sum_of, squares_of}
use Rattle.limit.specs.Formula.{mean_of, spread_of, formula_of}
use Rattle.limit.specs.Limit.{min_chance, max_chance, chance_in_range}
use Rattle.limit.proofs.InRange as R
use Rattle.journal_spec.specs.Record.{Record, Last}
use Rattle.journal_spec.specs.Model.{worked_out}
use Rattle.journal_spec.specs.Ranges.{RecordRanges}
use Rattle.journal_spec.proofs.Limits.{times_good_lem}
use Rattle.journal_spec.proofs.Ranged.{time_ranged}
use Rattle.law_shown.specs.Shown.{ShownNear, ShownUp, ShownRecord}
use Rattle.law_shown.proofs.Limits.{mean_fits_lem, spread_of_fits, formula_fits, shown_limits}

near_pattern : (x : Float) → T (fits binary64 x) → ShownNear x → ShownNear (of_bits binary64 (to_bits binary64 x))
near_pattern x f h = subst ShownNear (sym (of_bits-to_bits binary64 x f)) h

up_pattern : (x : Float) (b : ℕ) → T (fits binary64 x) → b ≡ to_bits binary64 x → ShownUp x → ShownUp (of_bits binary64 b)
up_pattern x b f e h = rw e (subst ShownUp (sym (of_bits-to_bits binary64 x f)) h)

module _ (last : Last) (r : Record) (k : RecordRanges last r) where
  good : times_in_range r.times ≡ true
  good = sym (times_good_lem r.times) ∙ (time_ranged r.times).1 k.times

  -- any chance in range serves for mean and spread
  abbrev n : ℕ
  n = length r.times

  abbrev s : ℕ
  s = sum_of r.times

  abbrev q : ℕ
  q = squares_of r.times

  some_chance : chance_in_range min_chance ≡ true
  unfolding chance_in_range
  some_chance = R.inside min_chance max_chance min_chance (omega arith) (omega arith)

  limit_shown : (i : ℕ) → i < length r.chances → ShownUp (of_bits binary64 (get_or r.limits i 0))
  unfolding chance_in_range worked_out
  limit_shown i h =
      let c = get_or r.chances i 0 in
      let g = R.inside min_chance max_chance c (k.chances.range i h).0 (k.chances.range i h).1 in
      up_pattern (formula_of r.form n s q c) (get_or r.limits i 0) (formula_fits r.form n s q c) (k.limits i h)
      (shown_limits r.form r.times c good g).limit

  pub shown_record : ShownRecord r
  shown_record =
      let z = shown_limits r.form r.times min_chance good some_chance in
      record {
        mean = near_pattern (mean_of n s) (mean_fits_lem n s) z.mean;
        spread = near_pattern (spread_of r.form n s q) (spread_of_fits r.form n s q) z.spread;
        limits = λ i h. limit_shown i (subst (λ (m : ℕ). i < m) k.limit_count h);
      }
