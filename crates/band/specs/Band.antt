-- The band around the mean with a share w of links inside (document 02, 2026-11), for every list of times and every share: both ends, or the
-- first refusal that holds, 18 before 6. Mean and spread are those of the limit, the spread under the sample divisor (form 2).
use Rattle.std.specs.Prelude.{ℕ, Bool, cond, List, length, Float}
use Rattle.std.specs.Float.{binary64}
use Rattle.std.specs.Float.Ieee.{add, sub, mul, div}
use Rattle.pxfm.specs.Inverf.{f_erfinv}
use Rattle.limit.specs.Times.{in_range, times_in_range, sum_of, squares_of}
use Rattle.limit.specs.Formula.{double, root_two, sample_form, mean_of, spread_of}
use Rattle.limit.specs.Answer.{times_refusal}
use Rattle.band.specs.declared.Ends.{Ends}
use Rattle.band.specs.Answer.{BandResult, banded, refused, share_refusal}

-- document 02's w: 1 to 999,999 in a million
abbrev pub min_share : ℕ
min_share = 1

abbrev pub max_share : ℕ
max_share = 999_999

abbrev pub million : ℕ
million = 1_000_000

-- the share is in range: what refusal 18 asks
unfoldable pub share_in_range : ℕ → Bool
share_in_range = in_range min_share max_share

-- the inverse error function at w / 1000000
unfoldable pub inverse_of : ℕ → Float
inverse_of w = f_erfinv (div binary64 (double w) (double million))

-- mean ∓ (spread × 1.4142135623730951) × e, products from the left
unfoldable pub ends_from : Float → Float → Float → Ends
ends_from mean spread e =
    let half = mul binary64 (mul binary64 spread root_two) e in
    record { low = sub binary64 mean half; high = add binary64 mean half }

-- the ends for n times with sum s and sum of squares q, at the share w
unfoldable pub ends_of : ℕ → ℕ → ℕ → ℕ → Ends
ends_of n s q w = ends_from (mean_of n s) (spread_of sample_form n s q) (inverse_of w)

-- the order of the refusals: the share, then the times
unfoldable pub judge : Bool → Bool → Ends → BandResult
judge shareGood times_good e =
    cond shareGood
    (cond times_good (banded e) (refused times_refusal))
    (refused share_refusal)

-- the band of the times at the share w
unfoldable pub band_of : List ℕ → ℕ → BandResult
band_of ts w = judge (share_in_range w) (times_in_range ts) (ends_of (length ts) (sum_of ts) (squares_of ts) w)
