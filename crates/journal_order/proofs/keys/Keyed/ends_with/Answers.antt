-- `ends_with` compares the key of the last place. Assumes nothing.
use native.Mathlib.Omega.{arith}
use Rattle.journal_order.proofs.Searching.{ends_none, ends_one}
use Rattle.journal_order.proofs.keys.Keyed.ends_with.Goals as goal

pub returns-then-n-eq0 : goal.returns-then-n-eq0
returns-then-n-eq0 c = ends_none _ _ _ _ (omega arith)

pub returns : goal.returns
returns c = ends_one _ _ _ _ _ _ _ (λ e. omega arith) c.from.ensures c.key_at.ensures c.is_below.ensures
