-- `copy` pastes one byte a turn.
-- Assumes nothing.
use mathlib.Core.Path.{◌≡◌, refl, ◌∙◌}
use native.Mathlib.Numerals.{add-one}
use native.Mathlib.Omega.{arith}
use lib.ListN.{length-set}
use lib.Seq.{paste-zero, paste-suc}
use Rattle.text_digits.proofs.text.copy.Goals as goal

pub loop-i-init : goal.loop-i-init
loop-i-init c = (refl, paste-zero c.args.line.now c.args.place c.args.text.now)

pub loop-i-preserved : goal.loop-i-preserved
loop-i-preserved c =
    let args = c.args in
    let i = c.loop-i.i in
    let stored = paste-suc args.line.now args.place args.text.now i 0 (omega arith) (omega arith) in
    (simp length-set (omega arith), rw (c.loop-i.invariant.1, add-one) stored)

pub returns : goal.returns
returns c =
    let all : c.loop-i.i ≡ c.args.count = omega arith in
    c.loop-i.invariant.1 ∙ rw all
