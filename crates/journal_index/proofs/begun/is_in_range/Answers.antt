-- `is_in_range` judges the count, the name's bytes and the start.
-- Assumes nothing.
use mathlib.Core.Path.{◌≡◌, sym, ◌∙◌}
use mathlib.Core.Bool.{◌&&◌}
use borrow.Author.Rules.{rules}
use lib.Dec.{leb}
use Rattle.journal_index.proofs.Beginning.{range_few, range_named, range_start}
use Rattle.journal_index.proofs.begun.is_in_range.Goals as goal
use Rattle.journal_index.proofs.begun.is_in_range.Goals.{After-contains}

judged : (c : After-contains) → c.contains.result ≡ (leb 1 c.number_so_far.result && leb c.number_so_far.result 32)
judged c = search rules

pub returns-then-not-contains : goal.returns-then-not-contains
returns-then-not-contains c =
    range_few _ _ _ c.number_so_far.ensures (sym (judged (goal.at.returns-then-not-contains c).After-contains) ∙ c.if-not-contains.true)

pub returns-then-is_named : goal.returns-then-is_named
returns-then-is_named c =
    range_start _ _ _ c.number_so_far.ensures (sym (judged (goal.at.returns-then-is_named c).After-contains) ∙ c.if-not-contains.false) _
    c.is_named.ensures c.if-is_named.true _ c.number_so_far-then-is_named.ensures

pub returns-else-is_named : goal.returns-else-is_named
returns-else-is_named c =
    c.if-is_named.false ∙ range_named _ _ _ c.number_so_far.ensures (sym (judged (goal.at.returns-else-is_named c).After-contains) ∙ c.if-not-contains.false) _
    c.is_named.ensures c.if-is_named.false
