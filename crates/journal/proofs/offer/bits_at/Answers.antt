-- `bits_at` answers the bits of the limit worked out.
-- Assumes nothing.
use Rattle.journal.proofs.WorkedOut.{bits_given, bits_none}
use Rattle.journal.proofs.offer.bits_at.Goals as goal

pub returns-in-Ok : goal.returns-in-Ok
returns-in-Ok c =
    let answer = c.limit_of_moments in
    bits_given answer.result _ answer.ensures c.in-Ok.f c.bits_of.result c.in-Ok.is c.bits_of.ensures

pub returns-in-Err : goal.returns-in-Err
returns-in-Err c =
    let answer = c.limit_of_moments in
    bits_none answer.result _ answer.ensures c.in-Err.field-0 c.in-Err.is
