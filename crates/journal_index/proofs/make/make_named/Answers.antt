-- `make_named` measures the index, looks for room, and puts it. Assumes nothing.
use native.Mathlib.Omega.{arith}
use Rattle.journal_index.proofs.Answered.{made_short, made_put}
use Rattle.journal_index.proofs.make.make_named.Goals as goal

pub returns-then-out-size : goal.returns-then-out-size
returns-then-out-size c = made_short _ _ c.index_size-size.result c.index_size-size.ensures (omega arith)

pub put_index-requires : goal.put_index-requires
put_index-requires c = (c.requires, omega (arith, c.index_size-size.ensures))

pub returns : goal.returns
returns c =
    let size = c.index_size-size in
    made_put _ _ size.result size.ensures (omega arith) _ c.put_index.ensures
