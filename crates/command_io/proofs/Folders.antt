-- The folder of a path, gone over from its end: at a slash, before another byte, and where no byte is left.
-- Assumes nothing.
use Rattle.std.proofs.Common.{◌≡◌, ℕ, zero, suc, ◌-◌, ◌<◌, false, eqb, List, get_or, arith}
use Rattle.command_io.specs.Paths.{slash, folder_within}

pub folder_here : (path : List ℕ) (end : ℕ) → 0 < end → get_or path (end - 1) 0 ≡ 0x2f → folder_within path end ≡ end
unfolding folder_within slash
folder_here path zero h e = absurd (omega arith)
folder_here path (suc end) h e = let one : suc end - 1 ≡ end = omega arith in rw (rw one at e)

pub folder_before : (path : List ℕ) (end : ℕ) → 0 < end → eqb (get_or path (end - 1) 0) 0x2f ≡ false
    → folder_within path end ≡ folder_within path (end - 1)
unfolding folder_within slash
folder_before path zero h e = absurd (omega arith)
folder_before path (suc end) h e = let one : suc end - 1 ≡ end = omega arith in rw (rw one at e, one)

pub folder_none : (path : List ℕ) (end : ℕ) → end ≡ 0 → folder_within path end ≡ 0
unfolding folder_within
folder_none path end e = rw e
