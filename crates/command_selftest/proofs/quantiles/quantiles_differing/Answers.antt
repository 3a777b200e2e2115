-- `quantiles_differing` passes one argument a turn: those passed are counted, the rest is left.
-- Assumes nothing.
use Rattle.std.proofs.Common.{◌≡◌, ◌+◌, [], ◌∷◌, ◌++◌, length, length-append, get_or, min, arith, rules}
use Rattle.std.proofs.lemmas.Slice.Zip.{zip_turn, zip_end}
use borrow.Author.Tests.{eq-eqb, ne_eqb}
use Rattle.pxfm.specs.Inverfc.{f_erfcinv_bits}
use Rattle.command_selftest.specs.Replay.{one_if_other, quantiles_differing}
use Rattle.command_selftest.proofs.Counting.{count_starts, count_turn, count_ends}
use Rattle.command_selftest.proofs.quantiles.quantiles_differing.Goals as goal

pub returns-then-x-bits : goal.returns-then-x-bits
unfolding quantiles_differing
returns-then-x-bits c =
    let p = c.args in
    rw (ne_eqb (length p.x.now) (length p.bits.now) (λ e. omega arith))

pub loop-argument-init : goal.loop-argument-init
loop-argument-init c = (omega arith, omega arith, count_starts _ _)

pub loop-argument-preserved : goal.loop-argument-preserved
loop-argument-preserved c =
    let l = c.loop-argument in
    let p = c.args in
    let i = length l.yielded in
    let turn = zip_turn p.x.now p.bits.now l.yielded c.into_iter-argument-iterator.result l.argument-iterator c.next.new.self c.next.result (search rules) (search rules) l.yielded_by _ c.in-Some.is c.next.ensures.steps in
    let one : c.other_bits-differing.result ≡ one_if_other (f_erfcinv_bits (get_or p.x.now i 0)) (get_or p.bits.now i 0) = cc (turn.2 0, turn.3 0) in
    let next : length l.yielded + 1 ≡ length (l.yielded ++ (c.in-Some.argument, c.in-Some.answer) ∷ []) = omega (arith, length-append l.yielded ((c.in-Some.argument, c.in-Some.answer) ∷ [])) in
    let counted = count_turn p.x.now p.bits.now i turn.0 l.invariant.0 l.differing _ c.other_bits-differing.result one l.invariant.2 in
    (l.invariant.0, omega (arith, next), rw next at counted)

pub returns : goal.returns
unfolding quantiles_differing
returns c =
    let l = c.loop-argument in
    let p = c.args in
    let end : length l.yielded ≡ min (length p.x.now) (length p.bits.now) =
    zip_end p.x.now p.bits.now l.yielded c.into_iter-argument-iterator.result l.argument-iterator c.next.new.self c.next.result (search rules) (search rules) l.yielded_by c.in-None.is c.next.ensures.steps in
    rw (eq-eqb (length p.x.now) (length p.bits.now) l.invariant.0)
    (count_ends p.x.now p.bits.now (length l.yielded) l.differing _ (omega arith) l.invariant.2)
