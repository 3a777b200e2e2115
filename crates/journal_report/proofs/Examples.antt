-- Closed cases: of records B, A and B again the report's first line is A's, its second that of the later B, and there is no third; the head, and the
-- width of the names' column. Assumes nothing.
use mathlib.Core.Path.{◌≡◌, refl}
use Prim.Native.Nat.{ℕ}
use mathlib.Core.Bool.{Bool}
use mathlib.Core.List.{List, [], ◌∷◌}
use Rattle.journal_spec.specs.Tests.{same}
use Rattle.journal_spec.specs.Record.{Record}
use Rattle.journal_spec.specs.Scan.{records_of, Contents, standing}
use Rattle.journal_spec.specs.Index.{order_of, amend, entry_of, amend_all, index_of}
use Rattle.journal_spec.specs.Indexed.{last_named, standing_at}
use Rattle.journal_report.specs.Slot.{gap, fill, column, name_column, slot_line}
use Rattle.journal_report.specs.Report.{line_of, report_line, widest, width_of, head_columns, head_line}

-- a record of a name and a day
abbrev pub named : ℕ → ℕ → Record
named name day = record { form = 2; day = day; name = name ∷ []; chances = 1000 ∷ []; times = 90 ∷ 110 ∷ []; limits = 0x4061f67ac0872f3a ∷ [] }

-- three of them, end to end
abbrev pub three : Contents
three =
    standing
    (record { content = named 0x42 1; start = 0; size = 33 }
    ∷ record { content = named 0x41 2; start = 33; size = 33 }
    ∷ record { content = named 0x42 3; start = 66; size = 33 }
    ∷ [])
    99

pub record Lines (tabs : Bool) (width : ℕ) (asked : List ℕ) : Type 0 where
  pub first : report_line tabs width asked three 0 ≡ slot_line tabs width asked (named 0x41 2)
  pub second : report_line tabs width asked three 1 ≡ slot_line tabs width asked (named 0x42 3)
  pub third : report_line tabs width asked three 2 ≡ []

pub by_name : (tabs : Bool) (width : ℕ) (asked : List ℕ) → Lines tabs width asked
unfolding report_line line_of standing_at last_named records_of index_of amend_all amend entry_of order_of same
by_name tabs width asked = record { first = refl; second = refl; third = refl }

-- the head over names of six bytes: `name` and two spaces, then the other columns
pub head_six : head_line 6
    ≡ 0x6e ∷ 0x61 ∷ 0x6d ∷ 0x65 ∷ 0x20 ∷ 0x20
    ∷ 0x20 ∷ 0x64 ∷ 0x61 ∷ 0x74 ∷ 0x65 ∷ 0x20 ∷ 0x20 ∷ 0x20 ∷ 0x20 ∷ 0x20 ∷ 0x20
    ∷ 0x20 ∷ 0x4d
    ∷ 0x20 ∷ 0x20 ∷ 0x20 ∷ 0x6e
    ∷ 0x20 ∷ 0x20 ∷ 0x20 ∷ 0x20 ∷ 0x20 ∷ 0x6d ∷ 0x65 ∷ 0x61 ∷ 0x6e
    ∷ 0x20 ∷ 0x20 ∷ 0x20 ∷ 0x73 ∷ 0x70 ∷ 0x72 ∷ 0x65 ∷ 0x61 ∷ 0x64
    ∷ 0x20 ∷ 0x20 ∷ 0x20 ∷ 0x20 ∷ 0x20 ∷ 0x63 ∷ 0x68 ∷ 0x61 ∷ 0x6e ∷ 0x63 ∷ 0x65 ∷ 0x3a ∷ 0x6c ∷ 0x69 ∷ 0x6d ∷ 0x69 ∷ 0x74
    ∷ 0x2c ∷ 0x20 ∷ 0x69 ∷ 0x6e ∷ 0x20 ∷ 0x6d ∷ 0x73 ∷ 0x0a ∷ []
unfolding head_line head_columns name_column column fill gap
head_six = refl

-- names of one and of six bytes, and no name
pub record Wide : Type 0 where
  pub six : width_of (record { name = 0x41 ∷ []; start = 0 } ∷ record { name = 0x41 ∷ 0x42 ∷ 0x42 ∷ 0x42 ∷ 0x42 ∷ 0x42 ∷ []; start = 33 } ∷ []) ≡ 6
  pub least : width_of [] ≡ 4

pub widths : Wide
unfolding width_of widest
widths = record { six = refl; least = refl }
