-- `extend` appends, and works out the start of the written part from its end and the record's length.
-- Assumes nothing.
use Rattle.std.proofs.Common.{◌+◌, ◌*◌, ◌≤◌, length, refl, arith}
use Rattle.journal_spec.specs.Scan.{max_length}
use Rattle.journal_spec.specs.Request.{Offer}
use Rattle.journal.specs.Handed.{as_budget, as_rule, offer_from}
use Rattle.command_append.proofs.WrittenPart.{offered_length, extended_said, extends_record, extends_nothing}
use Rattle.command_append.proofs.extend.extend.Goals as goal

-- what is offered
offer : goal.In-Ok → Offer
offer c =
    let o = c.args.offer in
    offer_from o.day o.name.now o.chances.now o.times.now

-- the record ends at the new length, and that is inside the longest journal
fits : (c : goal.In-Ok)
    → let o = c.args.offer in
    (12 + length o.name.now + 12 * length o.chances.now + 4 * length o.times.now ≤ c.in-Ok.end) × (c.in-Ok.end ≤ max_length)
unfolding offer offer_from as_budget
fits c =
    let a = c.args in
    let x = extended_said a.v.now a.len (as_rule a.offer.rule) (offer c) _ c.append_beside.result _ _ c.append_beside.ensures.index_after _ c.in-Ok.is in
    (omega (arith, x.place, offered_length (offer c)), omega (arith, x.room))

pub returns-in-Ok : goal.returns-in-Ok
unfolding offer offer_from as_budget
returns-in-Ok c =
    let a = c.args in
    let x = extends_record a.v.now a.len (as_rule a.offer.rule) (offer c) _ c.append_beside.result _ _ c.append_beside.ensures.index_after
    _ _ c.in-Ok.is refl (omega arith) in
    record { extends = x.0; start_le_end = x.1; index_unchanged = c.append_beside.ensures.index_unchanged }

pub returns-in-Err-clause-extends : goal.returns-in-Err-clause-extends
unfolding offer_from as_budget
returns-in-Err-clause-extends c =
    let a = c.args in
    let o = a.offer in
    extends_nothing a.v.now a.len (as_rule o.rule) (offer_from o.day o.name.now o.chances.now o.times.now) _ c.append_beside.result _ _
    c.append_beside.ensures.index_after _ c.in-Err.is

pub overflow_mul-size : goal.overflow_mul-size
overflow_mul-size c = omega (arith, fits c)

pub overflow_add-size-in-Ok : goal.overflow_add-size-in-Ok
overflow_add-size-in-Ok c = omega (arith, fits c)

pub overflow_add-size-in-Ok-2 : goal.overflow_add-size-in-Ok-2
overflow_add-size-in-Ok-2 c = omega (arith, fits c)

pub overflow_sub-result : goal.overflow_sub-result
overflow_sub-result c = omega (arith, fits c)
