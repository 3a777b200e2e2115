-- `number_so_far` reads as many bytes as stand.
-- Assumes nothing.
use native.Mathlib.Omega.{arith}
use Rattle.journal_index.proofs.Beginning.{number_stood}
use Rattle.journal_index.proofs.begun.number_so_far.Goals as goal

pub returns : goal.returns
returns c = number_stood _ _ _ _ _ c.requires (omega (arith, c.min.ensures, c.saturating_sub-stands.ensures)) c.number_in.ensures
