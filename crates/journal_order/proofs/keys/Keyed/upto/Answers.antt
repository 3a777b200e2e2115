-- `upto` is the point up to which the keys do not come after the one looked for. Assumes nothing.
use Prim.Native.Nat.{ℕ}
use mathlib.Core.Bool.{not}
use borrow.Author.Rules.{rules}
use Rattle.std.proofs.lemmas.List.Sorted.{IsPartitionPoint-from_clause}
use Rattle.journal_entries.specs.Shape.{is_below}
use Rattle.journal_order.specs.Keys.{key_at}
use Rattle.journal_order.proofs.Searching.{partitioned, split_point}
use Rattle.journal_order.proofs.keys.Keyed.upto.Goals as goal

pub returns : goal.returns
returns c =
    let s = c.args.self.now in
    split_point _ _ _ _ c.partition_point.ensures.bound
    (IsPartitionPoint-from_clause (λ (p : ℕ). not (is_below c.args.key.now (key_at s.key s.bytes.now p))) _ _
    c.partition_point.ensures.partitioned (partitioned _ _ _ c.requires) (λ a r f k. search rules))
