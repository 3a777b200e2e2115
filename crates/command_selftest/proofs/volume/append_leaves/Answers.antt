-- `append_leaves` compares what the append leaves, which its outcome has.
-- Assumes nothing.
use Rattle.command_selftest.proofs.Leaving.{leaves_same}
use Rattle.command_selftest.proofs.volume.append_leaves.Goals as goal

pub returns : goal.returns
returns c = leaves_same _ _ _ _ _ _ c.append_upto.ensures c.same.ensures
