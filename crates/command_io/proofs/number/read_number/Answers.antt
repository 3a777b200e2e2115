-- `read_number` meets its contract, by the turns of its loop.
-- Assumes nothing.
use Rattle.std.proofs.Common.{◌≡◌, ◌+◌, nat_lt, true, sym, ◌∙◌, arith, lt-ltb, eq-eqb, eqb-true}
use Rattle.std.proofs.lemmas.Bool.{both_ways}
use Rattle.command_io.proofs.Texts.{number_next, number_ends, number_empty, number_starts, number_within}
use Rattle.command_io.proofs.number.read_number.Goals as goal

pub returns-then-is_empty : goal.returns-then-is_empty
returns-then-is_empty c = record { value = sym (number_empty _ _ (eqb-true _ _ (sym c.is_empty.ensures ∙ c.if-is_empty.true))); bound = tt }

pub loop-i-preserved : goal.loop-i-preserved
loop-i-preserved c =
    let args = c.args in
    let i = c.loop-i.i in
    let behind : nat_lt 0 (i + 1) ≡ true = lt-ltb 0 (i + 1) (omega arith) in
    rw (behind, c.digit_after-number.ensures) (c.loop-i.invariant ∙ number_next args.most (nat_lt 0 i) c.loop-i.number args.text.now i (omega arith))

pub returns : goal.returns
returns c =
    let args = c.args in
    let i = c.loop-i.i in
    let starts = number_starts args.most args.text.now (λ e. both_ways c.is_empty.result c.if-is_empty.false (c.is_empty.ensures ∙ eq-eqb _ _ e)) in
    let all = starts ∙ c.loop-i.invariant ∙ number_ends args.most (nat_lt 0 i) c.loop-i.number args.text.now i (omega arith) in
    record { value = sym all; bound = rw (← all) (number_within args.most args.text.now) }
