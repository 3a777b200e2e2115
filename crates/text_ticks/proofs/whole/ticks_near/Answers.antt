-- `text_ticks::whole::ticks_near` meets its contract: the pattern without its sign gives the halves, and they the answer. Assumes nothing.
use mathlib.Core.Path.{◌∙◌, refl, ap}
use Prim.Native.Nat.{◌^◌}
use lib.Dec.{leb}
use Rattle.std.specs.Prelude.{Some}
use Rattle.text_ticks.specs.Ticks.{near_size, ticks_near}
use Rattle.text_ticks.proofs.Halving.{near_from, whole_by_lem, declined_by}
use Rattle.text_ticks.proofs.whole.ticks_near.Goals as goal

pub returns-in_err-h : goal.returns-in_err-h
unfolding ticks_near
returns-in_err-h c = c.from_residual.ensures ∙ declined_by near_size _ c.in_err-h.ensures

pub returns : goal.returns
unfolding ticks_near
returns c =
    let h = c.in_ok-h.ensures in
    ap Some c.counted.ensures ∙ whole_by_lem near_size _ _ _ h.0 refl (c.near_size-nearest.ensures ∙ near_from (leb (2 ^ 63) c.args.b) _ _ _ h.1)
