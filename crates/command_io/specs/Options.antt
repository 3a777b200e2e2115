-- Which command a word asks for, and which option a word is. A row for each word.
-- Assumes nothing.
use Rattle.std.specs.Prelude.{ℕ, cond, List, ◌==◌, slice_index, Option, Some, None}
use Rattle.text_digits.specs.Same.{same_bytes}
use Rattle.command_io.specs.Words.{bytes_of}
use Rattle.command_io.specs.declared.options.Command.{Command}
use Rattle.command_io.specs.declared.options.Command.TheVariants as C
use Rattle.command_io.specs.declared.options.Flag.{Flag}
use Rattle.command_io.specs.declared.options.Flag.TheVariants as F

-- what is asked of the program itself
unfoldable pub asked_of : List ℕ → Option Command
asked_of w =
    cond (same_bytes w (bytes_of "-h")) (Some C.Help)
    (cond (same_bytes w (bytes_of "--help")) (Some C.Help)
    (cond (same_bytes w (bytes_of "selftest")) (Some C.Selftest)
    None))

-- commands that need no volume; pictures and pages are drawn by tools of the clone
unfoldable pub told_of : List ℕ → Option Command
told_of w =
    cond (same_bytes w (bytes_of "band")) (Some C.Band)
    (cond (same_bytes w (bytes_of "day")) (Some C.Day)
    (cond (same_bytes w (bytes_of "date")) (Some C.Date)
    (cond (same_bytes w (bytes_of "refusal")) (Some C.Refusal)
    (cond (same_bytes w (bytes_of "demo")) (Some C.Demo)
    (cond (same_bytes w (bytes_of "plot")) (Some C.Drawn)
    (cond (same_bytes w (bytes_of "page")) (Some C.Drawn)
    (asked_of w)))))))

-- the command
unfoldable pub command_of : List ℕ → Option Command
command_of w =
    cond (same_bytes w (bytes_of "append")) (Some C.Append)
    (cond (same_bytes w (bytes_of "list")) (Some C.List)
    (cond (same_bytes w (bytes_of "survey")) (Some C.Survey)
    (cond (same_bytes w (bytes_of "slots")) (Some C.Slots)
    (cond (same_bytes w (bytes_of "record")) (Some C.Record)
    (cond (same_bytes w (bytes_of "merge")) (Some C.Merge)
    (cond (same_bytes w (bytes_of "index")) (Some C.Index)
    (cond (same_bytes w (bytes_of "trial")) (Some C.Trial)
    (told_of w))))))))

-- a word that starts with a dash, or any other
abbrev pub dash_of : List ℕ → Flag
dash_of w = cond (slice_index w 0 == 0x2d) F.Dash F.Word

-- words behind which no option stands
unfoldable pub end_of : List ℕ → Flag
end_of w =
    cond (same_bytes w (bytes_of "-h")) F.Help
    (cond (same_bytes w (bytes_of "--help")) F.Help
    (cond (same_bytes w (bytes_of "--")) F.End
    (dash_of w)))

-- the option
unfoldable pub flag_of : List ℕ → Flag
flag_of w =
    cond (same_bytes w (bytes_of "--profile")) F.Profile
    (cond (same_bytes w (bytes_of "--log")) F.Log
    (cond (same_bytes w (bytes_of "--index")) F.Index
    (cond (same_bytes w (bytes_of "--wait")) F.Wait
    (cond (same_bytes w (bytes_of "--tsv")) F.Tabs
    (cond (same_bytes w (bytes_of "--ticks")) F.Ticks
    (cond (same_bytes w (bytes_of "--make")) F.Make
    (cond (same_bytes w (bytes_of "--check")) F.Check
    (end_of w))))))))
