-- `name_at` is the key of the record by its name.
-- Assumes nothing.
use mathlib.Core.Path.{ap, ◌∙◌}
use Prim.Native.Nat.{ℕ}
use lib.ListN.{drop}
use Rattle.journal_parts.specs.Front.{record_name}
use Rattle.journal_order.specs.Keys.{key_at}
use Rattle.journal_index.proofs.make.name_at.Goals as goal

pub returns : goal.returns
unfolding key_at
returns c = c.key_at.ensures ∙ ap (λ (at : ℕ). record_name (drop at c.args.b.now)) c.from.ensures
