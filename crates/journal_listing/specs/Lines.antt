-- The listing a line at a time: where a listing stands after some of its lines, and what the next call writes and answers.
-- Defined for every position, also for those that no listing comes to.
use Rattle.std.specs.Prelude.{◌≡◌, ℕ, zero, suc, ◌≤◌, List, [], ◌∷◌, ◌++◌, Bool, true, false, cond, length}
use Rattle.text_digits.specs.Text.{Put}
use Rattle.journal_spec.specs.Reader.{Found, found, fault, short}
use Rattle.journal_spec.specs.Record.{Record}
use Rattle.journal_spec.specs.Profile.{Rule}
use Rattle.journal_spec.specs.Scan.{ScanResult, whole, torn, damaged, scan_of}
use Rattle.journal.specs.Answers.{meaning}
use Rattle.journal_listing.specs.Listing.{record_line, state_line}
use Rattle.journal_parts.specs.Plain.{plain_record_at}
use Rattle.journal_listing.specs.declared.Cursor.{Cursor}
use Rattle.journal_listing.specs.declared.Line.{Line}

-- the place of the next record, how many records are left, whether the end state's line is written, and that state
pub record Position : Type 0 where
  pub at : ℕ
  pub left : ℕ
  pub ended : Bool
  pub state : ScanResult

-- the position that a cursor stands for
unfoldable pub position_of : Cursor → Position
position_of c = record { at = c.at; left = c.left; ended = c.ended; state = meaning c.status }

-- how many records are listed: none where there is a fault
unfoldable pub listed_of : ScanResult → ℕ
listed_of (whole n committed) = n
listed_of (torn n committed) = n
listed_of (damaged n p) = 0

-- before the first line, by what the scan answers
unfoldable pub before : ScanResult → Position
before s = record { at = 0; left = listed_of s; ended = false; state = s }

-- the start of the listing of some bytes, all of them the journal, by a rule
unfoldable pub start_of : Rule → List ℕ → Position
start_of rule b = before (scan_of rule b (length b))

-- a line, and the position behind it
pub record Step : Type 0 where
  pub text : List ℕ
  pub position : Position

-- nothing more comes after this position
unfoldable pub end_of : Position → Position
end_of p = record { at = p.at; left = 0; ended = true; state = p.state }

-- no line
unfoldable pub no_line : Position → Step
no_line p = record { text = []; position = end_of p }

-- the line of the record that is found; where none is, the listing ends
unfoldable pub record_step : Position → ℕ → Found Record → Step
record_step p left (found r next rest) =
    record { text = record_line r; position = record { at = next; left = left; ended = false; state = p.state } }
record_step p left (fault n place) = no_line p
record_step p left short = no_line p

-- a record's line if records are left, else the line of the end state
unfoldable pub step_by : ℕ → Position → List ℕ → Step
step_by zero p b = record { text = state_line p.state; position = end_of p }
step_by (suc left) p b = record_step p left (plain_record_at p.at b)

-- the next line; none after the end state's
unfoldable pub step : Position → List ℕ → Step
step p b = cond p.ended (no_line p) (step_by p.left p b)

-- a line and what follows it; nothing follows where there is no line
unfoldable pub onward : List ℕ → List ℕ → List ℕ
onward [] rest = []
onward (x ∷ xs) rest = (x ∷ xs) ++ rest

-- the lines of at most so many calls from a position on, up to the first call that has none
unfoldable pub lines_from : ℕ → Position → List ℕ → List ℕ
lines_from zero p b = []
lines_from (suc more) p b = onward (step p b).text (lines_from more (step p b).position b)

-- the longest line: a name of 32 bytes, a day of 5 digits, the mark, mean and spread of 16 each, 8 pairs of a chance of 6 digits and a limit of
-- 16, and what separates them
abbrev pub max_line : ℕ
max_line = 267

-- each line of so many calls from a position on has at most `most` bytes
abbrev pub LinesWithin : ℕ → ℕ → Position → List ℕ → Type 0
LinesWithin most zero p b = Unit {0}
LinesWithin most (suc more) p b = (length (step p b).text ≤ most) × LinesWithin most more (step p b).position b

-- What a call does that writes a line into a lent buffer: the line stands from its start on, as much of it as there is room for, and no other
-- byte is changed; answered are the number of bytes written and the position behind the line.
pub record Writes (s : Step) (out : List ℕ) (line : Line) (after : List ℕ) : Type 0 where
  pub bytes : Put out 0 s.text after line.size
  pub position : position_of line.cursor ≡ s.position
