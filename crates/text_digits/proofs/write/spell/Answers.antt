-- `text_digits::write::spell` meets its contract, by the invariant. Assumes nothing.
use mathlib.Core.Path.{◌∙◌}
use native.Mathlib.Omega.{arith}
use Rattle.text_digits.proofs.Writing.{digits_before, digits_done}
use Rattle.text_digits.proofs.write.spell.Goals as goal

pub loop-i-preserved : goal.loop-i-preserved
loop-i-preserved c = c.loop-i.invariant ∙ digits_before c.args.base c.loop-i.i c.loop-i.rest _ _ (omega arith) (omega arith) c.glyph.ensures

pub returns : goal.returns
returns c = digits_done c.args.base c.loop-i.i c.loop-i.rest _ _ (omega arith) c.loop-i.invariant
