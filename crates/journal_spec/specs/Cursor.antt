-- The records that a journal holds: of what was read, in a slice up to a length, in all of some bytes.
-- Assumes nothing.
use Rattle.std.specs.Prelude.{ℕ, List, [], length}
use Rattle.journal_spec.specs.Record.{Record}
use Rattle.journal_spec.specs.Profile.{plain}
use Rattle.journal_spec.specs.Scan.{records_of, Contents, standing, faulty, contents_of}

-- the records that stand, none in a damaged journal
unfoldable pub records_held : Contents → List Record
records_held (standing ps committed) = records_of ps
records_held (faulty n p) = []

-- those of the journal of a length in a slice
unfoldable pub records_upto : List ℕ → ℕ → List Record
records_upto slice len = records_held (contents_of plain slice len)

-- those of the journal that takes all of some bytes
unfoldable pub records_in : List ℕ → List Record
records_in b = records_upto b (length b)
