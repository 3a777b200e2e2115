-- The numbers that the papers give refusals: 1 to 19 without 8. Assumes nothing.
use Rattle.std.specs.Prelude.{ℕ, Bool, ◌==◌, ◌&&◌, leb}
use Rattle.std.specs.Prelude.{not}

abbrev pub is_listed : ℕ → Bool
is_listed n = leb 1 n && leb n 19 && not (n == 8)
