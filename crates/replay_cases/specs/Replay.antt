-- The replay of many lines: the tally, and the buffer that they leave.
-- Assumes nothing.
use Rattle.std.specs.Prelude.{ℕ, true, false, List}
use Rattle.replay_lines.specs.Lines.{replay_of}
use Rattle.replay_lines.specs.Tally.{compared_more, malformed_more}
use Rattle.replay_lines.specs.declared.tally.Tally.{Tally}
use Rattle.replay_cases.specs.Line.{case_of}
use Rattle.replay_cases.specs.Compare.{compared_with}
use Rattle.replay_cases.specs.Store.{stored_by}
use Rattle.replay_cases.specs.declared.compare.Compared.{Compared}
use Rattle.replay_cases.specs.declared.compare.Compared.TheVariants as C

-- a tally with one line more; one that puts bytes compares nothing
unfoldable pub counted : Tally → Compared → Tally
counted t C.Stored = t
counted t C.Same = compared_more t true
counted t C.Differs = compared_more t false
counted t C.Malformed = malformed_more t

-- the tally and the buffer's bytes
pub record State : Type 0 where
  pub tally : Tally
  pub bytes : List ℕ

-- both after one line more
unfoldable pub stepped : List ℕ → State → State
stepped s x = record { tally = counted x.tally (compared_with s (case_of s) x.bytes); bytes = stored_by (case_of s) x.bytes }

-- both after all lines of some bytes
unfoldable pub replayed : List ℕ → List ℕ → Tally → State
replayed s v t = replay_of 56 stepped s (record { tally = t; bytes = v })
