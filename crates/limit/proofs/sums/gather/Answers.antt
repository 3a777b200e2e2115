-- `gather` is one pass: its loop keeps the sums of the times passed, each of them in range.
-- Assumes nothing.
use mathlib.Core.Path.{◌∙◌, sym}
use Rattle.limit.proofs.Gathering.{gathering_start, gathering_step, gathering_none, gathering_stop, gathering_end}
use Rattle.limit.proofs.sums.gather.Goals as goal

pub returns-then-not-in_range : goal.returns-then-not-in_range
returns-then-not-in_range c = gathering_none _ (sym c.in_range.ensures ∙ c.if-not-in_range.true)

pub loop-t-init : goal.loop-t-init
loop-t-init c = rw c.new-s.ensures (gathering_start _ (sym c.in_range.ensures ∙ c.if-not-in_range.false))

pub returns-then-not-time_in_range : goal.returns-then-not-time_in_range
returns-then-not-time_in_range c =
    let at = c.loop-t in
    gathering_stop _ at.t-index at.s at.invariant c.loop-t-test.true (sym c.time_in_range.ensures ∙ c.if-not-time_in_range.true)

pub loop-t-preserved : goal.loop-t-preserved
loop-t-preserved c =
    let at = c.loop-t in
    rw c.add-s.ensures
    (gathering_step _ at.t-index at.s at.invariant c.loop-t-test.true (sym c.time_in_range.ensures ∙ c.if-not-time_in_range.false))

pub returns : goal.returns
returns c = let at = c.loop-t in gathering_end _ at.t-index at.s at.invariant c.loop-t-test.false
