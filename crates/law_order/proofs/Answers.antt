-- The laws said of the operations' answers: an answer that is no refusal has times, form and chance in range, and is the figures worked out.
-- Assumes nothing.
use mathlib.Core.Path.{◌≡◌, refl, ap, subst}
use mathlib.Core.Bool.{Bool, true, false}
use mathlib.Core.List.{List}
use Prim.Native.Nat.{ℕ}
use native.Mathlib.Omega.{arith}
use lib.ListN.{length}
use Rattle.limit.specs.declared.Figures.{Figures}
use Rattle.limit.specs.Times.{times_in_range, sum_of, squares_of}
use Rattle.limit.specs.Formula.{figures_of}
use Rattle.limit.specs.Answer.{LimitResult, limited, refused}
use Rattle.limit.specs.Limit.{form_known, chance_in_range, judge, limit_of}
use Rattle.band.specs.declared.Ends.{Ends}
use Rattle.band.specs.Answer as band
use Rattle.band.specs.Band.{share_in_range, ends_of, band_of}
use Rattle.band.specs.Band as band_order
use Rattle.law_order.specs.Order.{AtMost, even_chance, mean_at, AnswersInOrder, BandsInOrder}
use Rattle.law_order.proofs.Limits.{even_limit, limit_follows}
use Rattle.law_order.proofs.Bands as bands
use Rattle.law_order.proofs.Sides.{limit_side, mean_inside}

-- ---- an answer that is no refusal

abbrev figures_in : Figures → LimitResult → Figures
figures_in none (limited f) = f
figures_in none (refused n) = none

abbrev is_limited : LimitResult → ℕ
is_limited (limited f) = 1
is_limited (refused n) = 0

record Judged (a b c : Bool) (f g : Figures) : Type 0 where
  times : c ≡ true
  chance : b ≡ true
  figures : f ≡ g

judged : (a b c : Bool) (f g : Figures) → judge a b c f ≡ limited g → Judged a b c f g
unfolding judge
judged true true true f g e = record { times = refl; chance = refl; figures = ap (figures_in f) e }
judged true true false f g e = let z : ◌≡◌ {A = ℕ} 0 1 = ap is_limited e in absurd (omega arith)
judged true false c f g e = let z : ◌≡◌ {A = ℕ} 0 1 = ap is_limited e in absurd (omega arith)
judged false b c f g e = let z : ◌≡◌ {A = ℕ} 0 1 = ap is_limited e in absurd (omega arith)

in_order : (a b f g : Figures) → a ≡ f → b ≡ g → (AtMost a.quantile b.quantile → AtMost a.limit b.limit)
    → AtMost f.quantile g.quantile → AtMost f.limit g.limit
in_order a b f g x y k h = rw (← x, ← y) (k (rw (x, y) h))

module _ (form : ℕ) (ts : List ℕ) where
  abbrev figures : ℕ → Figures
  figures c = figures_of form (length ts) (sum_of ts) (squares_of ts) c

  answered : (c : ℕ) (f : Figures) → limit_of form ts c ≡ limited f → Judged (form_known form) (chance_in_range c) (times_in_range ts) (figures c) f
  unfolding limit_of
  answered c f e = judged (form_known form) (chance_in_range c) (times_in_range ts) (figures c) f e

  pub answers_in_order : AnswersInOrder form ts
  unfolding figures_of
  answers_in_order =
      record {
        even = λ f e. let j = answered even_chance f e in rw (← j.figures) (even_limit form ts j.times).bits;
        above = λ c f e h. let j = answered c f e in rw (← j.figures) ((limit_side form ts c j.times j.chance).above h);
        below = λ c f e h. let j = answered c f e in rw (← j.figures) ((limit_side form ts c j.times j.chance).below h);
        order = λ d c f g x y h.
            let i = answered d f x in
            let j = answered c g y in
            in_order (figures d) (figures c) f g i.figures j.figures (limit_follows form ts d c i.times i.chance j.chance).follows h;
      }

-- ---- the same of a band

abbrev ends_in : Ends → band.BandResult → Ends
ends_in none (band.banded e) = e
ends_in none (band.refused n) = none

abbrev is_banded : band.BandResult → ℕ
is_banded (band.banded e) = 1
is_banded (band.refused n) = 0

record JudgedBand (a b : Bool) (f g : Ends) : Type 0 where
  share : a ≡ true
  times : b ≡ true
  ends : f ≡ g

judged_band : (a b : Bool) (f g : Ends) → band_order.judge a b f ≡ band.banded g → JudgedBand a b f g
unfolding band_order.judge
judged_band true true f g e = record { share = refl; times = refl; ends = ap (ends_in f) e }
judged_band true false f g e = let z : ◌≡◌ {A = ℕ} 0 1 = ap is_banded e in absurd (omega arith)
judged_band false b f g e = let z : ◌≡◌ {A = ℕ} 0 1 = ap is_banded e in absurd (omega arith)

both_in_order : (a b d e : Ends) → a ≡ d → b ≡ e → AtMost b.low a.low × AtMost a.high b.high → AtMost e.low d.low × AtMost d.high e.high
both_in_order a b d e x y k = rw (← x, ← y) k

module _ (ts : List ℕ) where
  abbrev ends : ℕ → Ends
  ends w = ends_of (length ts) (sum_of ts) (squares_of ts) w

  answered_band : (w : ℕ) (e : Ends) → band_of ts w ≡ band.banded e → JudgedBand (share_in_range w) (times_in_range ts) (ends w) e
  unfolding band_of
  answered_band w e h = judged_band (share_in_range w) (times_in_range ts) (ends w) e h

  pub bands_in_order : BandsInOrder ts
  bands_in_order =
      record {
        low = λ w e h.
            let j = answered_band w e h in
            subst (λ (z : Ends). AtMost z.low (mean_at ts)) j.ends (mean_inside ts w j.times j.share).low;
        high = λ w e h.
            let j = answered_band w e h in
            subst (λ (z : Ends). AtMost (mean_at ts) z.high) j.ends (mean_inside ts w j.times j.share).high;
        order = λ v w d e x y h.
            let i = answered_band v d x in
            let j = answered_band w e y in
            let k = bands.band_order ts v w i.times i.share j.share in
            both_in_order (ends v) (ends w) d e i.ends j.ends (k.low h, k.high h);
      }
