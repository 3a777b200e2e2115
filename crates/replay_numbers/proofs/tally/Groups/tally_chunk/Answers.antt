-- `tally_chunk` meets its contract: a turn of the loop is a turn of `Replayed`. Assumes nothing.
use Rattle.std.proofs.Common.{arith}
use Rattle.replay_lines.proofs.Replay.{replay_starts, replay_turn, replay_ends}
use Rattle.replay_numbers.specs.Numbers.{stepped, tallied}
use Rattle.replay_numbers.proofs.tally.Groups.tally_chunk.Goals as goal

pub loop-at-init : goal.loop-at-init
loop-at-init c = (omega arith, replay_starts 45 stepped _ _)

pub loop-at-preserved : goal.loop-at-preserved
loop-at-preserved c =
    let turn = replay_turn 45 stepped c.args.chunk.now _ c.loop-at.at c.line_end-end.result c.loop-at.tally
    (omega arith) c.line_end-end.ensures (omega arith) c.loop-at.invariant.1
    in
    (omega arith, rw (c.count-tally.ensures, c.measure-measured.ensures) turn)

pub returns : goal.returns
unfolding tallied
returns c = replay_ends 45 stepped _ _ _ _ c.loop-at-test.false c.loop-at.invariant.1
