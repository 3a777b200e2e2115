-- `has_room` compares what is left behind the entries with what the name's would take.
-- Assumes nothing.
use mathlib.Core.Path.{refl, sym, ap}
use native.Mathlib.Omega.{arith}
use Rattle.std.specs.Prelude.{is_ok}
use Rattle.journal_entries.proofs.Amended.{room_cut, room_there, room_lacked}
use Rattle.journal_entries.proofs.amending.has_room.Goals as goal

pub returns-in_default : goal.returns-in_default
returns-in_default c = λ start. room_cut _ _ _ _ refl c.end_of.ensures (omega (arith, c.in_default.ensures))

pub returns-in-Ok : goal.returns-in-Ok
returns-in-Ok c = λ start. room_there _ _ _ _ c.find.ensures c.end_of.ensures c.in-Some.ensures.0 (ap is_ok c.in-Ok.is)

pub returns-in-Err : goal.returns-in-Err
returns-in-Err c =
    λ start.
    room_lacked _ _ _ _ c.find.ensures c.end_of.ensures (ap is_ok c.in-Err.is) _ c.in-Some.ensures.0 (sym c.in-Some.ensures.1)
