-- `rule_refusal` judges by the rule, and then has the limits worked out.
-- Assumes nothing.
use Rattle.journal.proofs.RefusalOrder.{rule_broken, rule_kept}
use mathlib.Core.Path.{ap}
use mathlib.Core.Bool.{not}
use Rattle.journal.proofs.offer.rule_refusal.Goals as goal

pub returns-then-not-kept_by : goal.returns-then-not-kept_by
returns-then-not-kept_by c =
    let here = c.offer_in_profile-in_profile in
    let kept = c.kept_by in
    rule_broken _ _ _ _ here.result kept.result here.ensures kept.ensures (ap not c.if-not-kept_by.true)

pub returns : goal.returns
returns c =
    let here = c.offer_in_profile-in_profile in
    let kept = c.kept_by in
    rule_kept _ _ _ _ here.result kept.result here.ensures kept.ensures (ap not c.if-not-kept_by.false)
    _ c.moments_of_sums-worked.ensures c.work_out.ensures
