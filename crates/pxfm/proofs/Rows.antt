-- No entry of the logarithms' tables is a NaN's pattern: one computed test for each column, and what it says of a row.
-- Assumes nothing.
use Rattle.std.proofs.Common.{ℕ}
use lib.Ieee.{nan_bits}
use Rattle.log_tables.specs.declared.Row.{Row}
use Rattle.log_tables.specs.PowTables.{pow_inverse}
use Rattle.log_tables.specs.LogTable.{fast_log_dd_inv_lo, fast_log_dd_inv_hi}
use Rattle.log_tables.specs.Rows.{RowAt}
use Rattle.pxfm.proofs.Tables.{Plain, plain_at}

pub plain_inverse : {i : ℕ} {r : Row} → RowAt i r → Plain r.0
unfolding pow_inverse nan_bits
plain_inverse {i} h = rw h.inverse (plain_at pow_inverse tt i)

pub plain_low : {i : ℕ} {r : Row} → RowAt i r → Plain r.1
unfolding fast_log_dd_inv_lo nan_bits
plain_low {i} h = rw h.low (plain_at fast_log_dd_inv_lo tt i)

pub plain_high : {i : ℕ} {r : Row} → RowAt i r → Plain r.2
unfolding fast_log_dd_inv_hi nan_bits
plain_high {i} h = rw h.high (plain_at fast_log_dd_inv_hi tt i)
