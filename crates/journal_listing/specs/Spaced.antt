-- Words with a space before each, as the code writes those behind the first.
-- Law `spaced_rest` says that they are the rest of words by single spaces.
use Rattle.std.specs.Prelude.{ℕ, List, [], ◌∷◌, ◌++◌}
use Rattle.journal_spec.specs.Log.{space}

-- a space before each word
unfoldable pub each_spaced : List (List ℕ) → List ℕ
each_spaced [] = []
each_spaced (w ∷ ws) = (space ∷ w) ++ each_spaced ws
