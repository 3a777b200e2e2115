-- `look` goes by the size of the name's record.
-- Assumes nothing.
use Rattle.std.proofs.Common.{◌∙◌, sym, arith}
use Rattle.command_index.specs.Found.{found_meaning}
use Rattle.command_index.proofs.Looking.{looked_far, looked_none, looked_some}
use Rattle.command_index.proofs.found.look.Goals as goal

pub returns-then-start-gt-MAX_LENGTH : goal.returns-then-start-gt-MAX_LENGTH
unfolding found_meaning
returns-then-start-gt-MAX_LENGTH c = looked_far _ _ _ (omega arith)

pub returns-in-None : goal.returns-in-None
unfolding found_meaning
returns-in-None c = looked_none _ _ _ (omega arith) (sym c.in-None.is ∙ c.named_size.ensures.value)

pub returns-in-Some : goal.returns-in-Some
returns-in-Some c = c.judged.ensures ∙ looked_some _ _ _ _ (omega arith) (sym c.in-Some.is ∙ c.named_size.ensures.value)
