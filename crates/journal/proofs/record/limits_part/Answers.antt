-- `limits_part` works mean and spread out, reads the limits by them and the place of the chances, and keeps what the answer needs.
-- Assumes nothing.
use mathlib.Core.Path.{refl, ap, ◌∙◌}
use Rattle.limit.specs.Answer.{MomentsResult}
use Rattle.std.proofs.lemmas.Result.{err_from_is_err_and}
use Rattle.journal.specs.Found.{limit_section_at}
use Rattle.journal.proofs.LimitsPart.{limits_part_halted, limits_part_read}
use Rattle.journal.proofs.record.limits_part.Goals as goal

pub returns : goal.returns
returns c name list times stand good total =
    let a = c.args in
    let by_moments = c.in_ok-next.ensures
    ∙ ap (λ (w : MomentsResult). limit_section_at a.n a.chances w a.at a.b.now) c.moments_of_sums-worked.ensures in
    rw c.flat_by-flat.ensures
    (limits_part_read a.b.now a.chances a.n a.head.form a.sums list times stand good total a.at a.head.day name
    _ by_moments _ refl
    _ (c.record_in_profile-in_profile.ensures list stand))

pub returns-in_err-next : goal.returns-in_err-next
returns-in_err-next c name list times stand good total =
    let a = c.args in
    let by_moments = c.in_err-next.ensures
    ∙ ap (λ (w : MomentsResult). limit_section_at a.n a.chances w a.at a.b.now) c.moments_of_sums-worked.ensures in
    let p = err_from_is_err_and c.from_residual.result c.from_residual.ensures.1 in
    rw (p.1, p.2)
    (limits_part_halted a.b.now a.chances a.n a.head.form a.sums list times stand good total a.at a.head.day name
    _ by_moments _ refl)
