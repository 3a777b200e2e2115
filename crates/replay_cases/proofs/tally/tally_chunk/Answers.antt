-- `tally_chunk` meets its contract: a turn of the loop is a turn of `Replayed`. Assumes nothing.
use Rattle.std.proofs.Common.{refl, ap, arith}
use Rattle.replay_lines.proofs.Replay.{replay_starts, replay_ends}
use Rattle.replay_cases.specs.Replay.{State, stepped, replayed}
use Rattle.replay_cases.proofs.Chunk.{line_replayed}
use Rattle.replay_cases.proofs.tally.tally_chunk.Goals as goal

pub loop-at-init : goal.loop-at-init
loop-at-init c = (omega arith, refl, replay_starts 56 stepped _ _)

pub loop-at-preserved : goal.loop-at-preserved
loop-at-preserved c =
    let start : State = record { tally = c.args.t; bytes = c.args.v.now } in
    let turn = line_replayed c.args.chunk.now start c.loop-at.at c.line_end-end.result c.loop-at.tally
    c.count-tally.result c.loop-at.v _ c.case_of-a.result c.compare-compared.result (omega arith)
    c.line_end-end.ensures c.loop-at.invariant.2 c.case_of-a.ensures c.compare-compared.ensures c.store.ensures
    c.count-tally.ensures
    in
    (omega arith, omega arith, turn)

pub returns : goal.returns
unfolding replayed
returns c =
    let ended = replay_ends 56 stepped _ _ _ _ c.loop-at-test.false c.loop-at.invariant.2 in
    record { value = ap (λ (x : State). x.tally) ended; v_after = ap (λ (x : State). x.bytes) ended }
