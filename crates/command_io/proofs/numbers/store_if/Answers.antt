-- `store_if` stores a number behind those that stand, where it is wanted and has room.
-- Assumes nothing.
use Rattle.command_io.proofs.Storing.{put_room, put_full, put_wanted}
use Rattle.command_io.proofs.numbers.store_if.Goals as goal

pub returns-then-at-out : goal.returns-then-at-out
returns-then-at-out c =
    let args = c.args in
    λ d ns p. put_wanted d ns _ _ args.n args.wanted c.if-not-wanted.false
    (put_room d ns args.out.now args.at args.n p c.if-at-out.true)

pub returns : goal.returns
returns c =
    let args = c.args in
    λ d ns p. put_wanted d ns _ _ args.n args.wanted c.if-not-wanted.false
    (put_full d ns args.out.now args.at args.n p c.if-at-out.false)
