-- `numbers_at` passes one number a turn: its loop keeps the least value of the next one and the sums of those passed, which fit as a record's
-- times do. Assumes nothing.
use mathlib.Core.Path.{◌≡◌, refl}
use Prim.Native.Nat.{◌+◌, ◌-◌}
use native.Mathlib.Omega.{arith}
use Rattle.std.proofs.lemmas.Result.{err_from_is_err_and}
use Rattle.refusals.specs.Refusals.{number_of}
use Rattle.journal.specs.Found.{numbers_at}
use Rattle.journal.proofs.RuleLoop.{numbering_start, numbering_end, numbering_halted, numbering_fitting, numbering_more}
use Rattle.journal.proofs.section.numbers_at.Goals as goal

pub loop-i-init : goal.loop-i-init
loop-i-init c =
    let a = c.args in
    let r = a.rule in
    let all : a.n - 0 ≡ a.n = omega arith in
    rw all (numbering_start a.b.now a.at a.n a.width r.high r.rising (number_of r.refusal) r.low c.requires.0 c.requires.3.least)

pub least_next-low-requires : goal.least_next-low-requires
least_next-low-requires c =
    let fits = numbering_fitting _ _ _ _ _ _ _ _ _ _ _ _ _ c.loop-i.invariant (omega arith) c.requires.1 c.requires.3.greatest c.requires.3.refuses _ c.in_ok-x.ensures in
    omega (arith, fits.most)

pub overflow_add-sum : goal.overflow_add-sum
overflow_add-sum c =
    let fits = numbering_fitting _ _ _ _ _ _ _ _ _ _ _ _ _ c.loop-i.invariant (omega arith) c.requires.1 c.requires.3.greatest c.requires.3.refuses _ c.in_ok-x.ensures in
    omega (arith, fits.total)

pub overflow_mul-squares : goal.overflow_mul-squares
overflow_mul-squares c =
    let fits = numbering_fitting _ _ _ _ _ _ _ _ _ _ _ _ _ c.loop-i.invariant (omega arith) c.requires.1 c.requires.3.greatest c.requires.3.refuses _ c.in_ok-x.ensures in
    omega (arith, fits.squared)

pub overflow_add-squares : goal.overflow_add-squares
overflow_add-squares c =
    let fits = numbering_fitting _ _ _ _ _ _ _ _ _ _ _ _ _ c.loop-i.invariant (omega arith) c.requires.1 c.requires.3.greatest c.requires.3.refuses _ c.in_ok-x.ensures in
    omega (arith, fits.squared)

pub loop-i-preserved : goal.loop-i-preserved
loop-i-preserved c =
    let l = c.loop-i in
    rw c.least_next-low.ensures
    (numbering_more _ _ _ _ _ _ _ _ _ _ _ _ _ l.invariant (c.args.n - (l.i + 1)) (omega arith) _ c.in_ok-x.ensures
    c.in_ok-x.x c.requires.3.refuses c.requires.3.greatest refl)

pub returns-in_err-x : goal.returns-in_err-x
unfolding numbers_at
returns-in_err-x c =
    let l = c.loop-i in
    let p = err_from_is_err_and c.from_residual.result c.from_residual.ensures.1 in
    rw (p.1, p.2) (numbering_halted _ _ _ _ _ _ _ _ _ _ _ _ _ l.invariant (c.args.n - (l.i + 1)) (omega arith) _ c.in_err-x.ensures _ refl)

pub returns : goal.returns
unfolding numbers_at
returns c = numbering_end _ _ _ _ _ _ _ _ _ _ _ _ _ c.loop-i.invariant (omega arith)
