-- `offer_refusal` asks one part of the offer after another: each return is the first refusal, in document 01's order.
-- Assumes nothing.
use mathlib.Core.Path.{refl}
use native.Mathlib.Omega.{arith}
use Rattle.std.proofs.lemmas.Result.{err_from_is_err_and}
use Rattle.journal.specs.Records.{as_last}
use Rattle.journal.specs.Handed.{as_rule, offer_from}
use Rattle.journal.proofs.RefusalOrder.{chances_few, day_refused, name_refused, chances_refused, even_refused, times_refused, rule_judged}
use Rattle.journal.proofs.offer.offer_refusal.Goals as goal

pub returns-then-day-last : goal.returns-then-day-last
unfolding offer_from as_last
returns-then-day-last c =
    let a = c.args in
    day_refused (as_rule a.rule) (as_last a.last) (offer_from a.offer.now.day a.offer.now.name.now a.offer.now.chances.now a.offer.now.times.now) a.bits.now (omega arith)

pub returns-in_err-name_refusal : goal.returns-in_err-name_refusal
unfolding offer_from as_last
returns-in_err-name_refusal c =
    let a = c.args in
    let again = c.from_residual in
    let p = err_from_is_err_and again.result again.ensures.1 in
    rw (p.1, p.2)
    (name_refused (as_rule a.rule) (as_last a.last) (offer_from a.offer.now.day a.offer.now.name.now a.offer.now.chances.now a.offer.now.times.now) a.bits.now (omega arith)
    c.in_err-name_refusal.field-0.0 c.in_err-name_refusal.ensures)

pub returns-in_err-chances_refusal : goal.returns-in_err-chances_refusal
unfolding offer_from as_last
returns-in_err-chances_refusal c =
    let a = c.args in
    let again = c.from_residual-in_err-chances_refusal in
    let p = err_from_is_err_and again.result again.ensures.1 in
    rw (p.1, p.2)
    (chances_refused (as_rule a.rule) (as_last a.last) (offer_from a.offer.now.day a.offer.now.name.now a.offer.now.chances.now a.offer.now.times.now) a.bits.now (omega arith)
    c.in_ok-name_refusal.ensures
    c.in_err-chances_refusal.field-0.0 c.in_err-chances_refusal.ensures)

pub returns-in_err-even_refusal : goal.returns-in_err-even_refusal
unfolding offer_from as_last
returns-in_err-even_refusal c =
    let a = c.args in
    let again = c.from_residual-in_err-even_refusal in
    let p = err_from_is_err_and again.result again.ensures.1 in
    rw (p.1, p.2)
    (even_refused (as_rule a.rule) (as_last a.last) (offer_from a.offer.now.day a.offer.now.name.now a.offer.now.chances.now a.offer.now.times.now) a.bits.now (omega arith)
    c.in_ok-name_refusal.ensures c.in_ok-chances_refusal.ensures
    c.in_err-even_refusal.field-0.0 c.in_err-even_refusal.ensures)

pub rule_refusal-requires : goal.rule_refusal-requires
rule_refusal-requires c =
    (chances_few c.args.offer.now.chances.now c.in_ok-chances_refusal.ensures, c.requires)

pub returns-in-Ok : goal.returns-in-Ok
unfolding offer_from as_last
returns-in-Ok c =
    let judged = c.rule_refusal in
    let a = c.args in
    rule_judged (as_rule a.rule) (as_last a.last) (offer_from a.offer.now.day a.offer.now.name.now a.offer.now.chances.now a.offer.now.times.now) _ (omega arith)
    c.in_ok-name_refusal.ensures c.in_ok-chances_refusal.ensures
    c.in_ok-even_refusal.ensures
    _ c.gather.ensures _ c.in-Ok.is _ judged.ensures

pub returns-in-Err : goal.returns-in-Err
unfolding offer_from as_last
returns-in-Err c =
    let a = c.args in
    times_refused (as_rule a.rule) (as_last a.last) (offer_from a.offer.now.day a.offer.now.name.now a.offer.now.chances.now a.offer.now.times.now) a.bits.now (omega arith)
    c.in_ok-name_refusal.ensures c.in_ok-chances_refusal.ensures
    c.in_ok-even_refusal.ensures
    _ c.gather.ensures _ c.in-Err.is
