-- `put_day` puts the date of the day that stands behind the form.
-- Assumes nothing.
use mathlib.Core.Path.{ap}
use Prim.Native.Nat.{ℕ}
use mathlib.Core.List.{◌∷◌}
use native.Mathlib.Omega.{arith}
use Rattle.text_dates.specs.Iso.{iso_of}
use Rattle.text_digits.proofs.Putting.{put_put, put_as}
use Rattle.journal_report.specs.Slot.{gap}
use Rattle.journal_report.proofs.Slots.{day_is}
use Rattle.journal_report.proofs.front.put_day.Goals as goal

pub returns : goal.returns
returns c =
    let a = c.args in
    let day = day_is _ a.at a.v.now (λ k. omega (arith, c.type_inv.v k)) (omega arith)
    c.number_in-day.ensures in
    put_as _ _ _ _ _ _ (ap (λ (d : ℕ). gap a.tabs ∷ iso_of d) day) (put_put _ _ _ _ _ _ _ _ c.put_gap-p.ensures c.put_date.ensures)
