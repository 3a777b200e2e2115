-- The first places of some, and one more.
-- Assumes nothing.
use mathlib.Core.Path.{◌≡◌}
use Prim.Native.Nat.{ℕ, ◌+◌, ◌<◌}
use mathlib.Core.List.{List, [], ◌∷◌, ◌++◌}
use native.Mathlib.Numerals.{add-one}
use lib.ListN.{length, take, get_or}
use lib.Seq.{take-suc}

pub take_more : (ps : List ℕ) (i : ℕ) → i < length ps → take (i + 1) ps ≡ take i ps ++ get_or ps i 0 ∷ []
take_more ps i h = rw add-one (take-suc ps i 0 h)
