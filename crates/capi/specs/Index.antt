-- The answer of making an index as the C interface gives it: three words.
-- The first says which case it is, the others hold its values, 0 where there is none.
use Rattle.std.specs.Prelude.{ℕ, List, [], ◌∷◌}
use Rattle.journal_spec.specs.MakeIndex.{IndexResult, made, declined, damaged}

-- 0 and the index's length; 1 and the number by which it is declined; or 2, the fault's number and place
unfoldable pub index_words : IndexResult → List ℕ
index_words (made n) = 0 ∷ n ∷ 0 ∷ []
index_words (declined number) = 1 ∷ number ∷ 0 ∷ []
index_words (damaged number place) = 2 ∷ number ∷ place ∷ []
