-- `read_numbers` meets its contract. The invariant: what has been read is stored, and going on with it from a byte gives what
-- all of the text gives. Assumes nothing.
use Rattle.std.proofs.Common.{◌≡◌, ℕ, List, length, drop}
use Rattle.command_io.specs.Numbers.{Read, Reads, read_from, unread}
use Rattle.command_io.specs.declared.numbers.Reading.{Reading}
use Rattle.command_io.proofs.numbers.read_numbers.Given as goal

-- what has been read of a text up to a place, and where it is stored
pub record Going (most : ℕ) (text out : List ℕ) (s : Reading) (after : List ℕ) (i : ℕ) : Type 0 where
  pub read : Read
  pub reads : Reads out read s after
  pub same : read_from most unread text ≡ read_from most read (drop i text)

abbrev pub invariant-loop-c : goal.invariant-loop-c
invariant-loop-c l = (length l.out ≡ length l.initial.out) × Going l.most l.text l.initial.out l.reading l.out l.c-index
