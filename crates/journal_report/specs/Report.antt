-- The planner's report of a journal: under a head a line for each name, by name, that of the name's last standing record (document 02, 2026-08). And
-- the line that an index in a buffer of any bytes leads to. Definitions only.
use Rattle.std.specs.Prelude.{◌≡◌, ℕ, zero, suc, max, Bool, true, false, List, [], ◌∷◌, ◌++◌, map, length}
use Rattle.std.proofs.Math.Option.{Option, none, some}
use Rattle.text_digits.specs.Text.{Put}
use Rattle.journal_spec.specs.Bytes.{joined}
use Rattle.journal_spec.specs.Record.{Record}
use Rattle.journal_spec.specs.Profile.{plain}
use Rattle.journal_spec.specs.Scan.{Placed, records_of, Contents, standing, faulty, contents_of}
use Rattle.journal_spec.specs.Index.{IndexEntry, index_bytes, in_front, index_of}
use Rattle.journal_entries.specs.Entries.{entries_in}
use Rattle.journal_spec.specs.Indexed.{last_named, standing_at}
use Rattle.journal_spec.specs.Log.{space, newline}
use Rattle.journal_parts.specs.Plain.{plain_record_at}
use Rattle.journal_report.specs.Slot.{column, name_column, times_width, moment_width, limit_width, slot_line, slot_of}

-- ---- the report

-- the line of a record, none where there is none
unfoldable pub line_of : Bool → ℕ → List ℕ → Option Record → List ℕ
line_of tabs width asked none = []
line_of tabs width asked (some r) = slot_line tabs width asked r

-- line k of what a journal holds, counted from 0: that of the last standing record of the k-th name by name; none where it has a fault
unfoldable pub report_line : Bool → ℕ → List ℕ → Contents → ℕ → List ℕ
report_line tabs width asked (standing ps committed) k = line_of tabs width asked (standing_at (records_of ps) (index_of ps) k)
report_line tabs width asked (faulty n p) k = []

-- all lines: for each name of the index the line of its last standing record
unfoldable pub report_lines : Bool → ℕ → List ℕ → Contents → List ℕ
report_lines tabs width asked (standing ps committed) =
    joined (map (λ (e : IndexEntry). line_of tabs width asked (last_named e.name (records_of ps))) (index_of ps))
report_lines tabs width asked (faulty n p) = []

-- the longest line, in bytes: a name of 32, a date of 10, the mark, 3 digits of the number of times, mean and spread of 8 each, 8 pairs of a chance of
-- 6 digits and a limit of 9, and what separates them
abbrev pub max_line : ℕ
max_line = 204

-- ---- the width of the names' column

-- the head of the names' column has four bytes
abbrev pub head_name : List ℕ
head_name = 0x6e ∷ 0x61 ∷ 0x6d ∷ 0x65 ∷ []

-- the widest of names, and no less than w
unfoldable pub widest : ℕ → List IndexEntry → ℕ
widest w [] = w
widest w (e ∷ es) = widest (max w (length e.name)) es

-- the width of the names' column: that of the longest name, and no less than its head's
unfoldable pub width_of : List IndexEntry → ℕ
width_of es = widest 4 es

-- ---- the head

-- `date` to the width of a date, `M`, `n`, `mean`, `spread`, `chance:limit`
abbrev pub head_date : List ℕ
head_date = 0x64 ∷ 0x61 ∷ 0x74 ∷ 0x65 ∷ space ∷ space ∷ space ∷ space ∷ space ∷ space ∷ []

abbrev pub head_mark : List ℕ
head_mark = 0x4d ∷ []

abbrev pub head_times : List ℕ
head_times = 0x6e ∷ []

abbrev pub head_mean : List ℕ
head_mean = 0x6d ∷ 0x65 ∷ 0x61 ∷ 0x6e ∷ []

abbrev pub head_spread : List ℕ
head_spread = 0x73 ∷ 0x70 ∷ 0x72 ∷ 0x65 ∷ 0x61 ∷ 0x64 ∷ []

abbrev pub head_limit : List ℕ
head_limit = 0x63 ∷ 0x68 ∷ 0x61 ∷ 0x6e ∷ 0x63 ∷ 0x65 ∷ 0x3a ∷ 0x6c ∷ 0x69 ∷ 0x6d ∷ 0x69 ∷ 0x74 ∷ []

-- `, in ms`
abbrev pub head_unit : List ℕ
head_unit = 0x2c ∷ space ∷ 0x69 ∷ 0x6e ∷ space ∷ 0x6d ∷ 0x73 ∷ []

-- the columns behind the name's
unfoldable pub head_columns : List ℕ
head_columns =
    (space ∷ head_date) ++ (space ∷ head_mark) ++ column false times_width head_times
    ++ column false moment_width head_mean ++ column false moment_width head_spread
    ++ column false limit_width head_limit ++ head_unit ++ (newline ∷ [])

-- the head above the lines, each text in a column of the lines' width
unfoldable pub head_line : ℕ → List ℕ
head_line width = name_column false width head_name ++ head_columns

-- ---- by an index in a buffer

-- the lines of n positions, from 0 on
unfoldable pub lines_to : (ℕ → List ℕ) → ℕ → List ℕ
lines_to line zero = []
lines_to line (suc n) = line 0 ++ lines_to (λ k. line (suc k)) n

-- the start that the entry at a position has, none beyond them
unfoldable pub start_at_position : List IndexEntry → ℕ → Option ℕ
start_at_position [] k = none
start_at_position (e ∷ es) zero = some e.start
start_at_position (e ∷ es) (suc k) = start_at_position es k

-- the line of what stands at a start in a journal's bytes
unfoldable pub start_line : Bool → ℕ → List ℕ → List ℕ → Option ℕ → List ℕ
start_line tabs width asked v none = []
start_line tabs width asked v (some s) = slot_of tabs width asked (plain_record_at s v)

-- ---- what is promised of the call for a position

-- a journal of a length that has no fault, and its own index in front of a buffer
pub record OwnIndex (v : List ℕ) (len : ℕ) (index : List ℕ) : Type 0 where
  pub records : List Placed
  pub committed : ℕ
  pub stands : contents_of plain v len ≡ standing records committed
  pub own : in_front (index_bytes (index_of records)) index ≡ true

-- Line k stands at the front of the buffer `out`, as much of it as there is room for, and no other byte is changed; answered is how many bytes it
-- takes. Whatever the bytes are it is the line that the index leads to; with the journal's own index it is the report's.
pub record WritesLine (tabs : Bool) (width : ℕ) (asked v index : List ℕ) (k : ℕ) (out after : List ℕ) (answer : ℕ) : Type 0 where
  pub any : Put out 0 (start_line tabs width asked v (start_at_position (entries_in index) k)) after answer
  pub own : (len : ℕ) → OwnIndex v len index → Put out 0 (report_line tabs width asked (contents_of plain v len) k) after answer
