-- `gather_lines` ends: each line leaves fewer records.
-- Assumes nothing.
use Rattle.std.proofs.Common.{◌≡◌, ℕ, ◌<◌, List, ap, arith}
use Rattle.journal_listing.specs.Lines.{Position, position_of, step}
use Rattle.journal_listing.proofs.Falling.{step_falls}
use Rattle.command_list.proofs.listing.gather_lines.Goals as goal

falls : (p : Position) (v : List ℕ) (q : Position) → q ≡ (step p v).position → 0 < p.left → q.left < p.left
falls p v q e h = let same = ap (λ (r : Position). r.left) e in let less = step_falls p v h in omega (arith, less, same)

pub loop-cursor-smaller : goal.loop-cursor-smaller
unfolding position_of
loop-cursor-smaller c = falls _ _ _ c.in_ok-printed.ensures c.loop-cursor-test.true
