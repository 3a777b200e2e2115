-- `lowest` takes one chance a turn. Assumes nothing.
use Rattle.std.proofs.Common.{◌+◌, ◌*◌, ◌≤◌, length, true, false, sym, ◌∙◌, arith}
use Rattle.journal_trial.proofs.LowestChance.{chance_is, lowest_turn, lowest_ends, lowest_start}
use Rattle.journal_trial.proofs.lowest.lowest.Goals as goal

pub loop-j-init : goal.loop-j-init
loop-j-init c = lowest_start _ _ _

pub is_overrun-requires : goal.is_overrun-requires
is_overrun-requires c =
    let here : 4 * c.loop-j.j + 4 ≤ length c.args.chances.now = omega arith in
    omega (arith, chance_is _ c.loop-j.j _ here c.number_in-chance.ensures, c.requires.each c.loop-j.j here)

pub returns-then-is_overrun : goal.returns-then-is_overrun
returns-then-is_overrun c =
    let here : 4 * c.loop-j.j + 4 ≤ length c.args.chances.now = omega arith in
    sym (c.loop-j.invariant ∙ lowest_turn _ _ _ _ _ true here (chance_is _ _ _ here c.number_in-chance.ensures) c.if-is_overrun.ensures)

pub loop-j-preserved : goal.loop-j-preserved
loop-j-preserved c =
    let here : 4 * c.loop-j.j + 4 ≤ length c.args.chances.now = omega arith in
    c.loop-j.invariant ∙ lowest_turn _ _ _ _ _ false here (chance_is _ _ _ here c.number_in-chance.ensures) c.if-is_overrun.ensures

pub returns : goal.returns
returns c = sym (c.loop-j.invariant ∙ lowest_ends _ _ _ _ (omega arith))
