-- Fast2Sum (`from_exact_add`): for which addends the pair, added up once more, is the same pair (request 2026-13's two logarithms). Definitions only.
-- T. J. Dekker, A floating-point technique for extending the available precision, Numerische Mathematik 18 (1971).
use Rattle.std.specs.Prelude.{ℕ, ◌*◌, ◌^◌, ◌≤◌, ◌<◌, Bool, T, Float}
use Rattle.std.specs.Float.{binary64}
use Rattle.std.specs.Float.Ieee.{fits}
use Rattle.std.specs.Float.Ieee.Exact.{HasValue}

-- a and b are doubles of A and B smallest doubles with the signs s and t, b at most a quarter of a in size; a is neither near 0 nor near overflow
pub record Addends (a b : Float) : Type 0 where
  pub s : Bool
  pub t : Bool
  pub A : ℕ
  pub B : ℕ
  pub first : HasValue a s A (2 ^ 1074)
  pub second : HasValue b t B (2 ^ 1074)
  pub first_fits : T (fits binary64 a)
  pub second_fits : T (fits binary64 b)
  pub from : 2 ^ 200 ≤ A
  pub to : A < 2 ^ 1500
  pub small : 4 * B ≤ A
