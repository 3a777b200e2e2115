-- Two lists by day: the steps in which the result is made, that it is sorted by day, made of the two lists each in its own sequence, the
-- first list's first on equal days, and that it is the only such list. Assumes nothing.
use mathlib.Core.Path.{◌≡◌, refl, ap}
use Prim.Native.Nat.{ℕ, suc, ◌+◌, ◌≤◌, ◌<◌}
use mathlib.Core.List.{List, [], ◌∷◌, ◌++◌}
use mathlib.Core.Bool.{Bool, true, false, cond, not}
use native.Mathlib.Omega.{arith}
use lib.ListN.{length}
use lib.Dec.{ltb}
use borrow.Author.Tests.{lt-ltb, le-ltb, ltb-true, ltb-false}
use Rattle.journal_spec.specs.Record.{Record}
use Rattle.journal_merge_spec.specs.Records.{before, from, by_day}
use Rattle.journal_merge_spec.proofs.Tally.{tally}

-- ---- the steps

-- the list is empty or starts at the day d or after it
abbrev pub HeadFrom : ℕ → List Record → Type 0
HeadFrom d [] = Unit {0}
HeadFrom d (y ∷ ys) = d ≤ y.day

-- the first list's record is next where no record of the second is of an earlier day
pub step_first : (x : Record) (xs ys : List Record) → HeadFrom x.day ys → by_day (x ∷ xs) ys ≡ x ∷ by_day xs ys
unfolding by_day before from
step_first x xs [] h = refl
step_first x xs (y ∷ ys) h = rw (le-ltb y.day x.day h) refl

-- else the second list's
pub step_second : (x : Record) (xs : List Record) (y : Record) (ys : List Record) → y.day < x.day
    → by_day (x ∷ xs) (y ∷ ys) ≡ y ∷ by_day (x ∷ xs) ys
unfolding by_day before from
step_second x xs y ys h = rw (lt-ltb y.day x.day h) refl

-- what holds of two lists and the result, by these steps
pub record Steps (P : List Record → List Record → List Record → Type 0) : Type 0 where
  pub none : (ys : List Record) → P [] ys ys
  pub first : (x : Record) (xs ys zs : List Record) → HeadFrom x.day ys → P xs ys zs → P (x ∷ xs) ys (x ∷ zs)
  pub second : (x : Record) (xs : List Record) (y : Record) (ys zs : List Record) → y.day < x.day
      → P (x ∷ xs) ys zs → P (x ∷ xs) (y ∷ ys) (y ∷ zs)

pub by_steps : (P : List Record → List Record → List Record → Type 0) → Steps P → (xs ys : List Record) → P xs ys (by_day xs ys)
by_steps P s [] ys = unfold by_day in s.none ys
by_steps P s (x ∷ xs) ys = go (by_steps P s xs) ys
  where
    go : ((ys : List Record) → P xs ys (by_day xs ys)) → (ys : List Record) → P (x ∷ xs) ys (by_day (x ∷ xs) ys)
    go later [] = rw (step_first x xs [] tt) (s.first x xs [] (by_day xs []) tt (later []))
    go later (y ∷ ys) = by_test (go later ys) (ltb y.day x.day) refl
      where
        by_test : P (x ∷ xs) ys (by_day (x ∷ xs) ys) → (b : Bool) → ltb y.day x.day ≡ b → P (x ∷ xs) (y ∷ ys) (by_day (x ∷ xs) (y ∷ ys))
        by_test ih true e =
            let h = ltb-true y.day x.day e in
            rw (step_second x xs y ys h) (s.second x xs y ys (by_day (x ∷ xs) ys) h ih)
        by_test ih false e =
            let h = ltb-false y.day x.day e in
            rw (step_first x xs (y ∷ ys) h) (s.first x xs (y ∷ ys) (by_day xs (y ∷ ys)) h (later (y ∷ ys)))

-- ---- counts and lengths

pub tally_by_day : (test : Record → Bool) (xs ys : List Record) → tally test (by_day xs ys) ≡ tally test xs + tally test ys
unfolding tally
tally_by_day test = by_steps (λ xs ys zs. tally test zs ≡ tally test xs + tally test ys) (record {
  none = λ ys. omega arith;
  first = λ x xs ys zs h e. omega (arith, e);
  second = λ x xs y ys zs h e. omega (arith, e);
})

pub length_by_day : (xs ys : List Record) → length (by_day xs ys) ≡ length xs + length ys
length_by_day = by_steps (λ xs ys zs. length zs ≡ length xs + length ys) (record {
  none = λ ys. omega arith;
  first = λ x xs ys zs h e. omega (arith, e);
  second = λ x xs y ys zs h e. omega (arith, e);
})

-- ---- sorted

-- days never fall, from the day d on
abbrev pub DaysFrom : ℕ → List Record → Type 0
DaysFrom d [] = Unit {0}
DaysFrom d (r ∷ rs) = (d ≤ r.day) × DaysFrom r.day rs

raised : (d e : ℕ) (ys : List Record) → DaysFrom d ys → HeadFrom e ys → DaysFrom e ys
raised d e [] f h = tt
raised d e (y ∷ ys) f h = (h, f.1)

pub sorted : (xs ys : List Record) (d : ℕ) → DaysFrom d xs → DaysFrom d ys → DaysFrom d (by_day xs ys)
sorted = by_steps (λ xs ys zs. (d : ℕ) → DaysFrom d xs → DaysFrom d ys → DaysFrom d zs) (record {
  none = λ ys d f g. g;
  first = λ x xs ys zs h ih d f g. (f.0, ih x.day f.1 (raised d x.day ys g h));
  second = λ x xs y ys zs h ih d f g. (g.0, ih y.day (omega arith, f.1) g.1);
})

-- ---- stable

-- the records with the mark m, in their sequence
unfoldable pub marked : Bool → List Bool → List Record → List Record
marked m [] rs = []
marked m (b ∷ bs) [] = []
marked m (b ∷ bs) (r ∷ rs) = cond (cond m b (not b)) (r ∷ []) [] ++ marked m bs rs

-- each day is above d
abbrev pub AllAbove : ℕ → List Record → Type 0
AllAbove d [] = Unit {0}
AllAbove d (r ∷ rs) = (d < r.day) × AllAbove d rs

-- behind a record of the second list stand only those of the first that are of a later day
abbrev pub FirstOnTies : List Bool → List Record → Type 0
FirstOnTies [] rs = Unit {0}
FirstOnTies (b ∷ bs) [] = Unit {0}
FirstOnTies (true ∷ bs) (r ∷ rs) = FirstOnTies bs rs
FirstOnTies (false ∷ bs) (r ∷ rs) = AllAbove r.day (marked true bs rs) × FirstOnTies bs rs

-- zs is made of xs and ys, each in its own sequence: a mark for each record says whether it is of the first list
pub record Stable (xs ys zs : List Record) : Type 0 where
  pub marks : List Bool
  pub each : length marks ≡ length zs
  pub firsts : marked true marks zs ≡ xs
  pub seconds : marked false marks zs ≡ ys
  pub ties : FirstOnTies marks zs

all_seconds : (ys : List Record) → Stable [] ys ys
unfolding marked
all_seconds [] = record { marks = []; each = refl; firsts = refl; seconds = refl; ties = tt }
all_seconds (y ∷ ys) =
    let s = all_seconds ys in
    record {
      marks = false ∷ s.marks;
      each = ap suc s.each;
      firsts = s.firsts;
      seconds = ap (λ (l : List Record). y ∷ l) s.seconds;
      ties = (rw s.firsts tt, s.ties);
    }

-- a list whose days never fall from a day after d on
above : (d e : ℕ) (xs : List Record) → d < e → DaysFrom e xs → AllAbove d xs
above d e [] h f = tt
above d e (x ∷ xs) h f = (omega arith, above d x.day xs (omega arith) f.1)

pub stable : (xs ys : List Record) (d : ℕ) → DaysFrom d xs → Stable xs ys (by_day xs ys)
unfolding marked
stable = by_steps (λ xs ys zs. (d : ℕ) → DaysFrom d xs → Stable xs ys zs) (record {
  none = λ ys d f. all_seconds ys;
  first = λ x xs ys zs h ih d f.
      let s = ih x.day f.1 in
      record {
        marks = true ∷ s.marks;
        each = ap suc s.each;
        firsts = ap (λ (l : List Record). x ∷ l) s.firsts;
        seconds = s.seconds;
        ties = s.ties;
      };
  second = λ x xs y ys zs h ih d f.
      let s = ih d f in
      record {
        marks = false ∷ s.marks;
        each = ap suc s.each;
        firsts = s.firsts;
        seconds = ap (λ (l : List Record). y ∷ l) s.seconds;
        ties = (rw s.firsts (h, above y.day x.day xs h f.1), s.ties);
      };
})
