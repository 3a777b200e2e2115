-- `text_ticks::text::put_hundredths` puts three texts one behind another. Assumes nothing.
use mathlib.Core.Path.{ap, ◌∙◌}
use Prim.Native.Nat.{ℕ, ◌/◌}
use mathlib.Core.List.{List, [], ◌∷◌, ◌++◌, append_assoc}
use Rattle.text_digits.specs.Hex.{decimal_digits}
use Rattle.text_digits.proofs.Putting.{put_put, put_as}
use Rattle.text_ticks.specs.Text.{point, hundredths}
use Rattle.text_ticks.proofs.text.put_hundredths.Goals as goal

pub returns : goal.returns
unfolding hundredths
returns c =
    let size = c.args.size in
    put_as _ _ _ _ _ _
    (append_assoc (decimal_digits (size / 100)) (point ∷ []) c.decimal_into.new.out
    ∙ ap (λ (x : List ℕ). decimal_digits (size / 100) ++ (point ∷ x)) c.decimal_into.ensures)
    (put_put _ _ _ _ _ _ _ _ (put_put _ _ _ _ _ _ _ _ c.put_decimal-p.ensures c.put-q.ensures) c.put.ensures)
