-- `next_record` drops records until one is next. Assumes nothing.
use mathlib.Core.Path.{sym, ◌∙◌}
use native.Mathlib.Omega.{arith}
use Rattle.journal_merge.proofs.Steps.{there, first_rest, second_rest, first_record, second_record}
use Rattle.journal_merge.proofs.Steps.{stepped_done, stepped_first, stepped_second, stepped_dropped, second_inside}
use Rattle.journal_merge.proofs.stepping.next_record.Goals as goal

pub first_is_next-requires : goal.first_is_next-requires
first_is_next-requires c =
    let s = there _ _ _ c.requires.0 c.steps.at c.steps.invariant in
    (first_rest _ _ c.steps.at s, second_rest _ _ c.steps.at s)

pub record_at-record-requires : goal.record_at-record-requires
record_at-record-requires c =
    let s = there _ _ _ c.requires.0 c.steps.at c.steps.invariant in
    first_record _ _ c.steps.at s (sym c.first_is_next.ensures ∙ c.if-first_is_next.true)

pub returns-then-first_is_next : goal.returns-then-first_is_next
returns-then-first_is_next c =
    stepped_first _ _ _ c.requires.0 c.steps.at c.steps.invariant c.record_at-record.result.now
    (sym c.first_is_next.ensures ∙ c.if-first_is_next.true) c.record_at-record.ensures

pub returns-then-b-at : goal.returns-then-b-at
returns-then-b-at c =
    stepped_done _ _ _ c.requires.0 c.steps.at c.steps.invariant (sym c.first_is_next.ensures ∙ c.if-first_is_next.false) (omega arith)

pub record_at-record-requires-in-steps : goal.record_at-record-requires-in-steps
record_at-record-requires-in-steps c =
    let s = there _ _ _ c.requires.0 c.steps.at c.steps.invariant in
    second_record _ _ c.steps.at s (omega arith)

pub returns-then-not-is_among : goal.returns-then-not-is_among
returns-then-not-is_among c = λ made m.
    stepped_second _ _ _ c.requires.0 c.steps.at c.steps.invariant c.record_at-record-in-steps.result.now (sym c.first_is_next.ensures ∙ c.if-first_is_next.false) (omega arith)
    c.record_at-record-in-steps.ensures made m (sym c.is_among.ensures ∙ c.if-not-is_among.true)

pub steps-smaller : goal.steps-smaller
steps-smaller c =
    let k =
    second_inside _ _ _ c.requires.0 c.steps.at c.steps.invariant c.record_at-record-in-steps.result.now (sym c.first_is_next.ensures ∙ c.if-first_is_next.false) (omega arith)
    c.record_at-record-in-steps.ensures in
    omega (arith, k)

pub steps-preserved : goal.steps-preserved
steps-preserved c =
    stepped_dropped _ _ _ c.requires.0 c.steps.at c.steps.invariant c.record_at-record-in-steps.result.now (sym c.first_is_next.ensures ∙ c.if-first_is_next.false) (omega arith)
    c.record_at-record-in-steps.ensures (sym c.is_among.ensures ∙ c.if-not-is_among.false)
