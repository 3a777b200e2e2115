-- `turn` ends a word at white space, and else goes on with it.
-- Assumes nothing.
use Rattle.std.proofs.Common.{sym, refl, ◌∙◌}
use Rattle.command_io.proofs.Storing.{turn_space, turn_other}
use Rattle.command_io.proofs.numbers.turn.Goals as goal

pub returns-then-is_space : goal.returns-then-is_space
returns-then-is_space c = λ d a h. rw (turn_space _ a _ (sym c.is_space.ensures ∙ c.if-is_space.true)) (c.closed.ensures d a h)

pub returns : goal.returns
returns c =
    let args = c.args in
    λ d a h. rw (turn_other _ a _ (sym c.is_space.ensures ∙ c.if-is_space.false))
    (record { stored = h.stored; inside = refl; pending = c.digit_after.ensures ∙ rw (h.inside, h.pending) refl })
