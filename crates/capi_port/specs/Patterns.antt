-- A pair's bit patterns in an array, as the C interface passes them.
-- The comparison with the Rust reads every result so.
use Rattle.std.specs.Prelude.{ℕ, List, [], ◌∷◌}
use Rattle.pxfm.specs.declared.double_double.BitPair.{BitPair}

-- The low part's pattern, then the high part's.
abbrev pub parts_of : BitPair → List ℕ
parts_of r = r.lo ∷ r.hi ∷ []
