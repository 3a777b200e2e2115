-- `are_visible` tests each byte.
-- Assumes nothing.
use borrow.Author.Rules.{rules}
use Rattle.std.specs.Prelude.{IsTrue, ◌↔◌}
use Rattle.journal_index.proofs.Beginning.{EachVisible, visible_all}
use Rattle.journal_index.proofs.begun.are_visible.Goals as goal

pub returns : goal.returns
returns c =
    let e : IsTrue c.all.result ↔ EachVisible c.args.bytes.now = search rules in
    visible_all _ _ e
