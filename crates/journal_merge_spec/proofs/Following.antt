-- Records that nothing refuses after some record, whose days and forms never fall, may stand end to end in a journal.
-- `good_after` alone knows what a record's refusals take from the record before it. Assumes nothing.
use mathlib.Core.Path.{◌≡◌}
use Prim.Native.Nat.{ℕ, ◌≤◌}
use mathlib.Core.List.{List, [], ◌∷◌, ◌++◌}
use mathlib.Core.Bool.{Bool, true, false, cond}
use Rattle.journal_spec.specs.Record.{Record, Last, last_of}
use Rattle.journal_spec.specs.Ranges.{RecordRanges, AllRanges}
use Rattle.journal_spec.proofs.Scanning.{last_of_snoc}
use Rattle.journal_spec.proofs.Cursor.{AllGood}
use Rattle.journal_merge_spec.specs.Records.{select, by_day}
use Rattle.journal_merge_spec.proofs.ByDay.{DaysFrom, by_steps}
use Rattle.journal_merge_spec.proofs.Only.{lowered}

-- forms never fall, from the form f on
abbrev pub FormsFrom : ℕ → List Record → Type 0
FormsFrom f [] = Unit {0}
FormsFrom f (r ∷ rs) = (f ≤ r.form) × FormsFrom r.form rs

-- a good record is good after every record that has no higher form and no later day
good_after : (last next : Last) (r : Record) → RecordRanges last r → next.form ≤ r.form → next.day ≤ r.day → RecordRanges next r
good_after last next r g f d = record {
  form = g.form;
  forms = f;
  day = d;
  day_fits = g.day_fits;
  name = g.name;
  chances = g.chances;
  times = g.times;
  limit_count = g.limit_count;
  limits = g.limits;
}

-- ---- what following gives

pub follow_days : (before rs : List Record) → AllRanges before rs → DaysFrom (last_of before).day rs
follow_days before [] f = tt
follow_days before (r ∷ rs) f =
    let l : last_of (before ++ r ∷ []) ≡ record { form = r.form; day = r.day } = last_of_snoc before r in
    (f.0.day, rw l at (follow_days (before ++ r ∷ []) rs f.1))

-- ---- what it takes

pub following : (before rs : List Record) → AllGood rs → DaysFrom (last_of before).day rs → FormsFrom (last_of before).form rs → AllRanges before rs
following before [] g d f = tt
following before (r ∷ rs) g d f =
    let l : last_of (before ++ r ∷ []) ≡ record { form = r.form; day = r.day } = last_of_snoc before r in (
      good_after g.0.last (last_of before) r g.0.good f.0 d.0,
      following (before ++ r ∷ []) rs g.1 (rw l d.1) (rw l f.1),
    )

-- ---- some of the records, and the records of two lists by day

pub select_good : (test : Record → Bool) (rs : List Record) → AllGood rs → AllGood (select test rs)
unfolding select
select_good test [] g = tt
select_good test (r ∷ rs) g = go (test r) (select_good test rs g.1)
  where
    go : (b : Bool) → AllGood (select test rs) → AllGood (cond b (r ∷ []) [] ++ select test rs)
    go true h = (g.0, h)
    go false h = h

pub select_days : (test : Record → Bool) (rs : List Record) (d : ℕ) → DaysFrom d rs → DaysFrom d (select test rs)
unfolding select
select_days test [] d f = tt
select_days test (r ∷ rs) d f = go (test r) (select_days test rs r.day f.1)
  where
    go : (b : Bool) → DaysFrom r.day (select test rs) → DaysFrom d (cond b (r ∷ []) [] ++ select test rs)
    go true h = (f.0, h)
    go false h = lowered d r.day (select test rs) f.0 h

pub by_day_good : (xs ys : List Record) → AllGood xs → AllGood ys → AllGood (by_day xs ys)
by_day_good = by_steps (λ xs ys zs. AllGood xs → AllGood ys → AllGood zs) (record {
  none = λ ys g h. h;
  first = λ x xs ys zs below ih g h. (g.0, ih g.1 h);
  second = λ x xs y ys zs below ih g h. (h.0, ih g h.1);
})
