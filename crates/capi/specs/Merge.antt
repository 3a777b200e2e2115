-- The merge's answer as the C interface gives it: four words.
-- The first says which case it is, the others hold its number, its place and whose it is, 0 where there is none.
use Rattle.std.specs.Prelude.{ℕ, List, [], ◌∷◌}
use Rattle.journal_merge_spec.specs.Merge.{Whose, of_first, of_second, MergeResult, merged, damaged, declined_of, declined_at, declined}

unfoldable pub whose_word : Whose → ℕ
whose_word of_first = 1
whose_word of_second = 2

-- 0 and the result's length; 1 and 9, or 13 with its place in the result; 2 and whose fault, with number and place; 3, 16 and whose end
unfoldable pub merge_words : MergeResult → List ℕ
merge_words (merged n) = 0 ∷ n ∷ 0 ∷ 0 ∷ []
merge_words (declined n) = 1 ∷ n ∷ 0 ∷ 0 ∷ []
merge_words (declined_at n p) = 1 ∷ n ∷ p ∷ 0 ∷ []
merge_words (damaged w n p) = 2 ∷ n ∷ p ∷ whose_word w ∷ []
merge_words (declined_of w n) = 3 ∷ n ∷ 0 ∷ whose_word w ∷ []
