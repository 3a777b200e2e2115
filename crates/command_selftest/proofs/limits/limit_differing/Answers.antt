-- `limit_differing` follows the answer: its figures, or all four where it is a refusal.
-- Assumes nothing.
use mathlib.Core.Path.{sym, ap, ◌∙◌}
use Rattle.limit.specs.Answer.{meaning}
use Rattle.command_selftest.specs.Replay.{answer_differing, limit_differing}
use Rattle.command_selftest.proofs.limits.limit_differing.Goals as goal

pub returns-in-Ok-clause-value : goal.returns-in-Ok-clause-value
unfolding limit_differing answer_differing meaning
returns-in-Ok-clause-value c = rw (sym c.limit.ensures ∙ ap meaning c.in-Ok.is) c.figures_differing.ensures.value

pub returns-in-Err-clause-value : goal.returns-in-Err-clause-value
unfolding limit_differing answer_differing meaning
returns-in-Err-clause-value c = rw (sym c.limit.ensures ∙ ap meaning c.in-Err.is)
