-- `text_ticks::whole::ticks_up` meets its contract: the pattern without its sign gives the halves, and they the answer. Assumes nothing.
use mathlib.Core.Path.{◌∙◌, refl, ap}
use Prim.Native.Nat.{◌^◌}
use lib.Dec.{leb}
use Rattle.std.specs.Prelude.{Some}
use Rattle.text_ticks.specs.Ticks.{up_size, ticks_up}
use Rattle.text_ticks.proofs.Halving.{up_from, whole_by_lem, declined_by}
use Rattle.text_ticks.proofs.whole.ticks_up.Goals as goal

pub returns-in_err-h : goal.returns-in_err-h
unfolding ticks_up
returns-in_err-h c = c.from_residual.ensures ∙ declined_by up_size _ c.in_err-h.ensures

pub returns : goal.returns
unfolding ticks_up
returns c =
    let h = c.in_ok-h.ensures in
    ap Some c.counted.ensures ∙ whole_by_lem up_size _ _ _ h.0 refl (c.up_size-least.ensures ∙ up_from (leb (2 ^ 63) c.args.b) _ _ _ h.1)
