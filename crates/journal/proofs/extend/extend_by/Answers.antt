-- `extend_by` declines what the check refuses, and else lays the record with the limits' bits out and hands it on.
-- Assumes nothing.
use mathlib.Core.Path.{refl, ◌∙◌}
use native.Mathlib.Omega.{arith}
use lib.ListN.{length-take}
use Rattle.journal_spec.specs.Request.{gather_by, times_of, gathered_times, offer_of}
use Rattle.journal.specs.Handed.{offer_from}
use Rattle.journal.proofs.Laying.{laid_whole, record_room}
use Rattle.journal.proofs.RefusalOrder.{offer_few}
use Rattle.journal.proofs.Extending.{offer_declined, offered_record, offer_settled}
use Rattle.journal.proofs.extend.extend_by.Goals as goal

pub returns-in-Err : goal.returns-in-Err
unfolding offer_of gathered_times times_of gather_by offer_from
returns-in-Err c len ps is = offer_declined _ _ _ refl _ ps is c.in-Err.refusal c.in-Err.ensures.refusal

pub slice_bounds-bits-end : goal.slice_bounds-bits-end
unfolding offer_from
slice_bounds-bits-end c =
    let few = offer_few _ _ _ c.in_default.ensures.refusal in
    omega (arith, few.chances, c.offer_refusal.auto.bits)

pub slice_bounds-lay_record-end-2 : goal.slice_bounds-lay_record-end-2
unfolding offer_from
slice_bounds-lay_record-end-2 c =
    let few = offer_few _ _ _ c.in_default.ensures.refusal in
    rw length-take (omega (arith, few.chances, c.offer_refusal.auto.bits))

pub slice_bounds-bytes-end : goal.slice_bounds-bytes-end
unfolding offer_from
slice_bounds-bytes-end c =
    let few = offer_few _ _ _ c.in_default.ensures.refusal in
    let laid = laid_whole _ _ _ _ c.lay_record-size.ensures 652 refl
    (record_room _ _ _ _ _ few.name few.chances few.times (rw length-take (omega (arith, few.chances)))) in
    omega (arith, laid.size, laid.room)

pub slice_bounds-extend_within-end : goal.slice_bounds-extend_within-end
unfolding offer_from
slice_bounds-extend_within-end c =
    let few = offer_few _ _ _ c.in_default.ensures.refusal in
    let laid = laid_whole _ _ _ _ c.lay_record-size.ensures 652 refl
    (record_room _ _ _ _ _ few.name few.chances few.times (rw length-take (omega (arith, few.chances)))) in
    rw laid.front laid.size

pub returns : goal.returns
unfolding offer_of gathered_times times_of gather_by offer_from
returns c len ps is =
    let check = c.in_default.ensures in
    let few = offer_few _ _ _ check.refusal in
    let laid = laid_whole _ _ _ _ c.lay_record-size.ensures 652 refl
    (record_room _ _ _ _ _ few.name few.chances few.times (rw length-take (omega (arith, few.chances)))) in
    (rw laid.front at (c.extend_within.ensures len))
    ∙ offer_settled _ _ _ refl _ ps is _ check.refusal (offered_record _ _ _ _ _ (check.limits check.refusal))
