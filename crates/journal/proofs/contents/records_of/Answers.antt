-- `records_of` reads one record a turn: its loop keeps the count, the last record and what is asked of record i.
-- The measure is what is left of the bytes, since a record takes some. Assumes nothing.
use mathlib.Core.Path.{refl}
use native.Mathlib.Omega.{arith}
use Rattle.journal.proofs.Counting.{counting_start, counting_short, counting_refused, counting_more}
use Rattle.journal.proofs.contents.records_of.Goals as goal

pub loop-e-init : goal.loop-e-init
loop-e-init c = let a = c.args in counting_start a.rule a.b.now a.i

pub shown_next-shown-requires : goal.shown_next-shown-requires
shown_next-shown-requires c = omega (arith, (counting_more _ _ _ _ _ _ _ c.loop-e.invariant _ c.in-Ok.ensures c.in-Ok.e refl).later)

pub loop-e-smaller : goal.loop-e-smaller
loop-e-smaller c = let more = counting_more _ _ _ _ _ _ _ c.loop-e.invariant _ c.in-Ok.ensures c.in-Ok.e refl in omega (arith, more.later, more.there)

pub loop-e-preserved : goal.loop-e-preserved
loop-e-preserved c = rw c.shown_next-shown.ensures (counting_more _ _ _ _ _ _ _ c.loop-e.invariant _ c.in-Ok.ensures c.in-Ok.e refl).counting

pub returns-in-Err-Short : goal.returns-in-Err-Short
returns-in-Err-Short c =
    counting_short _ _ _ _ _ _ _ c.loop-e.invariant _ (rw c.in-Err-Short.field-0-is at c.in-Err-Short.ensures) refl

pub returns-in-Err-Refused : goal.returns-in-Err-Refused
returns-in-Err-Refused c =
    rw c.in-Err-Refused.field-0-is
    (counting_refused _ _ _ _ _ _ _ c.loop-e.invariant _ (rw c.in-Err-Refused.field-0-is at c.in-Err-Refused.ensures) _ refl)
