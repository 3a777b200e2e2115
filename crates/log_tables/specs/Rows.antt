-- A row of both tables: the entries at one place.
use Rattle.std.specs.Prelude.{ℕ, ◌≡◌, List, get_or, Float}
use Rattle.std.specs.Float.{binary64}
use Rattle.std.specs.Float.Ieee.{of_bits}
use Rattle.log_tables.specs.declared.Row.{Row}
use Rattle.log_tables.specs.PowTables.{pow_inverse}
use Rattle.log_tables.specs.LogTable.{fast_log_dd_inv_lo, fast_log_dd_inv_hi}

-- The double at a place of a table of bit patterns.
abbrev pub entry_at : List ℕ → ℕ → Float
entry_at t i = of_bits binary64 (get_or t i 0)

-- r is the row at a place of both tables.
pub record RowAt (i : ℕ) (r : Row) : Type 0 where
  pub inverse : r.0 ≡ get_or pow_inverse i 0
  pub low : r.1 ≡ get_or fast_log_dd_inv_lo i 0
  pub high : r.2 ≡ get_or fast_log_dd_inv_hi i 0
