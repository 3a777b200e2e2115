-- What one turn over a chunk of lines does to the tally and the buffer. Assumes nothing.
use Prim.Native.Nat.{ℕ, ◌-◌, ◌<◌}
use mathlib.Core.Path.{◌≡◌}
use mathlib.Core.List.{List}
use native.Mathlib.Omega.{arith}
use lib.ListN.{length, take, drop}
use Rattle.std.specs.Prelude.{Option}
use Rattle.replay_lines.specs.Lines.{line_end}
use Rattle.replay_lines.specs.declared.tally.Tally.{Tally}
use Rattle.replay_lines.proofs.Replay.{Replayed, replay_turn}
use Rattle.replay_cases.specs.Line.{case_of}
use Rattle.replay_cases.specs.Compare.{compared_with}
use Rattle.replay_cases.specs.Store.{stored_by}
use Rattle.replay_cases.specs.Replay.{State, counted, stepped}
use Rattle.replay_cases.specs.declared.line.Case.{Case}
use Rattle.replay_cases.specs.declared.compare.Compared.{Compared}

-- a turn's parts make the state after its line
pub line_replayed : (s : List ℕ) (start : State) (at end : ℕ) (t u : Tally) (b d : List ℕ) (a : Option Case) (c : Compared)
    → at < length s → end ≡ line_end at 56 (length s) → Replayed 56 stepped s start at (record { tally = t; bytes = b })
    → a ≡ case_of (take (end - at) (drop at s)) → c ≡ compared_with (take (end - at) (drop at s)) a b → d ≡ stored_by a b → u ≡ counted t c
    → Replayed 56 stepped s start end (record { tally = u; bytes = d })
unfolding stepped
line_replayed s start at end t u b d a c h e r asks told stored counts =
    rw (counts, stored, told, asks) (replay_turn 56 stepped s start at end (record { tally = t; bytes = b }) h e (omega arith) r)
