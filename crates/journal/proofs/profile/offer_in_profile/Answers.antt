-- `offer_in_profile` tests how many chances and times there are, and then the four chances.
-- Assumes nothing.
use native.Mathlib.Omega.{arith}
use Rattle.journal.proofs.InProfile.{other_count}
use Rattle.journal.proofs.profile.offer_in_profile.Goals as goal

pub returns-then-chances-ne-PROFILE_CHANCES : goal.returns-then-chances-ne-PROFILE_CHANCES
returns-then-chances-ne-PROFILE_CHANCES c = other_count _ c.args.times (λ e. omega (arith, c.if-chances-ne-PROFILE_CHANCES.true, e))
