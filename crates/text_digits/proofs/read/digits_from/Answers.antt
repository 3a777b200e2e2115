-- `text_digits::read::digits_from` meets its contract, by the invariant. Assumes nothing.
use mathlib.Core.Path.{◌≡◌, sym, ◌∙◌}
use native.Mathlib.Omega.{arith}
use lib.ListN.{get_or}
use Rattle.std.specs.Prelude.{Some, None}
use Rattle.text_digits.specs.Hex.{digit_of}
use Rattle.text_digits.proofs.Reading.{digit_below, read_next, read_refused, read_done, Grown, grown}
use Rattle.text_digits.proofs.read.digits_from.Goals as goal

-- the byte at hand is a digit, and the number with it still fits
digit : (c : goal.In-Some) → digit_of (get_or c.args.s.now c.loop-at.at 0) ≡ Some c.in-Some.d
digit c = cc

fits : (c : goal.In-Some) → Grown c.args.place c.loop-at.at c.loop-at.n c.in-Some.d
fits c = grown _ _ _ _ (omega arith) (omega arith) c.loop-at.invariant.0 (digit_below _ _ (digit c))

pub overflow_mul-n : goal.overflow_mul-n
overflow_mul-n c = let small = (fits c).small in omega arith

pub overflow_add-n : goal.overflow_add-n
overflow_add-n c = let small = (fits c).small in omega arith

pub loop-at-preserved : goal.loop-at-preserved
loop-at-preserved c = ((fits c).within, c.loop-at.invariant.1 ∙ read_next _ _ _ _ _ _ (omega arith) (digit c))

pub returns-in_default : goal.returns-in_default
returns-in_default c =
    let other : digit_of (get_or c.args.s.now c.loop-at.at 0) ≡ None = cc in
    sym (c.loop-at.invariant.1 ∙ read_refused _ _ _ _ (omega arith) other)

pub returns : goal.returns
returns c = sym (c.loop-at.invariant.1 ∙ read_done _ c.args.s.now c.loop-at.at _ (omega arith))
