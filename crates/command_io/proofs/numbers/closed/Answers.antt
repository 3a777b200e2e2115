-- `closed` stores the number of the word that ends, and keeps nothing as nothing.
-- Assumes nothing.
use Rattle.std.proofs.Common.{sym, ◌∙◌}
use Rattle.command_io.proofs.Storing.{closed_value, closed_nothing}
use Rattle.command_io.proofs.numbers.closed.Goals as goal

pub returns-in-Some : goal.returns-in-Some
returns-in-Some c =
    λ d a h. closed_value d a _ _ _ _ h.inside (sym h.pending ∙ c.in-Some.is)
    (c.store_if.ensures d a.numbers h.stored)

pub returns-in-None : goal.returns-in-None
returns-in-None c = λ d a h. closed_nothing d a _ _ _ h.inside (sym h.pending ∙ c.in-None.is) h.stored
