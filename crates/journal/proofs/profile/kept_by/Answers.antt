-- `kept_by` is its definition by the rule's two cases.
-- Assumes nothing.
use borrow.Author.Rules.{rules}
use Rattle.journal.specs.Handed.{as_rule, kept_by}
use Rattle.journal.proofs.profile.kept_by.Goals as goal

pub returns-in-Plain : goal.returns-in-Plain
unfolding kept_by as_rule
returns-in-Plain c = search rules

pub returns-in-Profile : goal.returns-in-Profile
unfolding kept_by as_rule
returns-in-Profile c = search rules
