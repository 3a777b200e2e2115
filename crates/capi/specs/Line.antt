-- Line i of a listing (document 01, Marks and listing), counted from 0.
-- Lines follow as crate journal_listing defines them.
use Rattle.std.specs.Prelude.{ℕ, zero, suc, List, [], ◌++◌}
use Rattle.journal_spec.specs.Profile.{plain}
use Rattle.journal_listing.specs.Lines.{Position, start_of, step}

-- where a listing stands after so many lines more
unfoldable pub position_after : ℕ → Position → List ℕ → Position
position_after zero p b = p
position_after (suc i) p b = position_after i (step p b).position b

-- line i of the listing of some bytes; empty behind the line of the end state
unfoldable pub line_at : ℕ → List ℕ → List ℕ
line_at i b = (step (position_after i (start_of plain b) b) b).text

-- the lines of so many calls from line i on, end to end
unfoldable pub calls_from : ℕ → ℕ → List ℕ → List ℕ
calls_from zero i b = []
calls_from (suc n) i b = line_at i b ++ calls_from n (suc i) b
