-- A list that is made of two, each in its own sequence, sorted by day, the first list's first on equal days, is the one that `by_day` gives:
-- the request's sentence determines the result. Assumes nothing.
use mathlib.Core.Path.{◌≡◌, refl, sym, ap, ap₂, ◌∙◌}
use Prim.Native.Nat.{ℕ, ◌≤◌}
use mathlib.Core.List.{List, [], ◌∷◌, ◌++◌}
use mathlib.Core.Bool.{Bool, true, false, cond, not}
use native.Mathlib.Omega.{arith}
use lib.ListN.{length}
use Rattle.journal_spec.specs.Record.{Record}
use Rattle.journal_merge_spec.specs.Records.{by_day}
use Rattle.journal_merge_spec.proofs.ByDay.{HeadFrom, DaysFrom, AllAbove, FirstOnTies, marked, Stable, step_first, step_second}

-- days that never fall from e on never fall from an earlier day on
pub lowered : (d e : ℕ) (rs : List Record) → d ≤ e → DaysFrom e rs → DaysFrom d rs
lowered d e [] h f = tt
lowered d e (r ∷ rs) h f = (omega arith, f.1)

-- so do those of some of the records
marked_head : (m : Bool) (bs : List Bool) (rs : List Record) (d : ℕ) → DaysFrom d rs → HeadFrom d (marked m bs rs)
unfolding marked
marked_head m [] rs d f = tt
marked_head m (b ∷ bs) [] d f = tt
marked_head m (b ∷ bs) (r ∷ rs) d f = go (cond m b (not b)) (marked_head m bs rs d (lowered d r.day rs f.0 f.1))
  where
    go : (t : Bool) → HeadFrom d (marked m bs rs) → HeadFrom d (cond t (r ∷ []) [] ++ marked m bs rs)
    go true h = f.0
    go false h = h

-- a record of the second list is next where all of the first are of a later day
second_next : (xs : List Record) (y : Record) (ys : List Record) → AllAbove y.day xs → by_day xs (y ∷ ys) ≡ y ∷ by_day xs ys
second_next [] y ys h = unfold by_day in refl
second_next (x ∷ xs) y ys h = step_second x xs y ys h.0

by_marks : (bs : List Bool) (zs : List Record) (d : ℕ) → length bs ≡ length zs → FirstOnTies bs zs → DaysFrom d zs
    → zs ≡ by_day (marked true bs zs) (marked false bs zs)
unfolding marked by_day
by_marks [] [] d n t f = refl
by_marks [] (z ∷ zs) d n t f = absurd (omega arith)
by_marks (b ∷ bs) [] d n t f = absurd (omega arith)
by_marks (true ∷ bs) (z ∷ zs) d n t f =
    ap (λ (l : List Record). z ∷ l) (by_marks bs zs z.day (omega arith) t f.1)
    ∙ sym (step_first z (marked true bs zs) (marked false bs zs) (marked_head false bs zs z.day f.1))
by_marks (false ∷ bs) (z ∷ zs) d n t f =
    ap (λ (l : List Record). z ∷ l) (by_marks bs zs z.day (omega arith) t.1 f.1)
    ∙ sym (second_next (marked true bs zs) z (marked false bs zs) t.0)

pub only : (xs ys zs : List Record) (d : ℕ) → Stable xs ys zs → DaysFrom d zs → zs ≡ by_day xs ys
only xs ys zs d s f = by_marks s.marks zs d s.each s.ties f ∙ ap₂ by_day s.firsts s.seconds
