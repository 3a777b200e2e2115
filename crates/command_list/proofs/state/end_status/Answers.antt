-- `end_status` answers each state's exit status.
-- Assumes nothing.
use mathlib.Core.Path.{ap, sym}
use Rattle.journal.specs.Answers.{meaning}
use Rattle.journal.specs.declared.Status.{Status}
use Rattle.command_list.specs.Ends.{end_status}
use Rattle.command_list.proofs.state.end_status.Goals as goal

pub returns-in-Whole : goal.returns-in-Whole
unfolding end_status meaning
returns-in-Whole c = sym (ap (λ (s : Status). end_status (meaning s)) c.in-Whole.is)

pub returns-in-Torn : goal.returns-in-Torn
unfolding end_status meaning
returns-in-Torn c = sym (ap (λ (s : Status). end_status (meaning s)) c.in-Torn.is)

pub returns-in-Damaged : goal.returns-in-Damaged
unfolding end_status meaning
returns-in-Damaged c = sym (ap (λ (s : Status). end_status (meaning s)) c.in-Damaged.is)
