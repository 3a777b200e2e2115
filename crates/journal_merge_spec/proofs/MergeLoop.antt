-- For code that merges with two cursors: what each turn makes of what is to come; and what the two passes keep of the records made so far,
-- their length and where forms fall in them, and their bytes. Assumes nothing.
use mathlib.Core.Path.{◌≡◌, refl, sym, ap, ◌∙◌}
use Prim.Native.Nat.{ℕ, ◌+◌, ◌≤◌, ◌<◌}
use mathlib.Core.List.{List, [], ◌∷◌, ◌++◌}
use mathlib.Core.Bool.{true, false, not}
use native.Mathlib.Omega.{arith}
use mathlib.Core.Option.{none, some}
use lib.ListN.{length}
use Rattle.journal_spec.specs.Bytes.{joined}
use Rattle.journal_spec.specs.Record.{Record, record_bytes, records_bytes}
use Rattle.journal_spec.specs.Append.{written}
use Rattle.journal_spec.specs.Model.{lengths_of}
use Rattle.journal_spec.proofs.Placing.{lengths_are, lengths_snoc}
use Rattle.journal_spec.proofs.Scanning.{records_snoc}
use Rattle.journal_spec.proofs.Writing.{written_two, written_nil}
use Rattle.journal_merge_spec.specs.Records.{is_twin, select, undropped, by_day, fall_from}
use Rattle.journal_merge_spec.proofs.ByDay.{HeadFrom, DaysFrom, step_first, step_second}
use Rattle.journal_merge_spec.proofs.Following.{FormsFrom, select_days}
use Rattle.journal_merge_spec.proofs.Falls.{last_form, none_falls, fall_behind}

-- ---- a turn

-- the list is empty or starts after the day d
abbrev pub HeadAfter : ℕ → List Record → Type 0
HeadAfter d [] = Unit {0}
HeadAfter d (x ∷ xs) = d < x.day

-- what is to come of the result, where xs are left of the first journal and ys of the second
abbrev pub coming : List Record → List Record → List Record → List Record
coming first xs ys = by_day xs (undropped first ys)

pub coming_none : (first : List Record) → coming first [] [] ≡ []
unfolding by_day undropped select
coming_none first = refl

module _ (first : List Record) where
  undropped_head : (d e : ℕ) (ys : List Record) → HeadFrom d ys → DaysFrom e ys → HeadFrom d (undropped first ys)
  undropped_head d e [] h f = unfold undropped select in tt
  undropped_head d e (y ∷ ys) h f =
      unfold undropped in head_of (select (λ (r : Record). not (is_twin first r)) (y ∷ ys)) (select_days _ (y ∷ ys) d (h, f.1))
    where
      head_of : (zs : List Record) → DaysFrom d zs → HeadFrom d zs
      head_of [] g = tt
      head_of (z ∷ zs) g = g.0

  -- the first journal's record is next: the second has none left, or its next is not of an earlier day. Whether that one is dropped need
  -- not be known yet, since days do not fall.
  pub turn_first : (e : ℕ) (x : Record) (xs ys : List Record) → HeadFrom x.day ys → DaysFrom e ys → coming first (x ∷ xs) ys ≡ x ∷ coming first xs ys
  turn_first e x xs ys h f = step_first x xs (undropped first ys) (undropped_head x.day e ys h f)

  -- the second's is next, and has the same bytes as some record of the first
  pub turn_dropped : (xs : List Record) (y : Record) (ys : List Record) → is_twin first y ≡ true → coming first xs (y ∷ ys) ≡ coming first xs ys
  unfolding undropped select
  turn_dropped xs y ys a = rw a refl

  -- the second's is next, and is kept
  pub turn_second : (xs : List Record) (y : Record) (ys : List Record) → is_twin first y ≡ false → HeadAfter y.day xs
      → coming first xs (y ∷ ys) ≡ y ∷ coming first xs ys
  unfolding undropped select
  turn_second xs y ys a h = rw a (second_next xs h)
    where
      second_next : (xs : List Record) → HeadAfter y.day xs → by_day xs (y ∷ undropped first ys) ≡ y ∷ by_day xs (undropped first ys)
      second_next [] h = unfold by_day in refl
      second_next (x ∷ xs) h = step_second x xs y (undropped first ys) h

-- ---- the first pass: the length, and where forms fall

-- n is the length of what is made, and `form` the form of its last record; no form has fallen yet
pub record Measured (made : List Record) (n form : ℕ) : Type 0 where
  pub length' : n ≡ lengths_of made
  pub form' : form ≡ last_form 0 made
  pub rises : FormsFrom 0 made

pub measured_start : Measured [] 0 0
unfolding lengths_of
measured_start = record { length' = refl; form' = refl; rises = tt }

last_snoc : (f : ℕ) (made : List Record) (r : Record) → last_form f (made ++ r ∷ []) ≡ r.form
last_snoc f [] r = refl
last_snoc f (s ∷ made) r = last_snoc s.form made r

rises_snoc : (f : ℕ) (made : List Record) (r : Record) → FormsFrom f made → last_form f made ≤ r.form → FormsFrom f (made ++ r ∷ [])
rises_snoc f [] r g h = (h, tt)
rises_snoc f (s ∷ made) r g h = (g.0, rises_snoc s.form made r g.1 h)

-- one record more whose form is not below
pub measured_next : (made : List Record) (n form : ℕ) (r : Record) → Measured made n form → form ≤ r.form
    → Measured (made ++ r ∷ []) (n + length (record_bytes r)) r.form
measured_next made n form r m h = record {
  length' = omega (arith, m.length', lengths_snoc made r);
  form' = sym (last_snoc 0 made r);
  rises = rises_snoc 0 made r m.rises (omega (arith, m.form'));
}

-- one whose form is below: 13, at the length made so far
pub measured_falls : (made : List Record) (n form : ℕ) (r : Record) (rest : List Record) → Measured made n form → r.form < form
    → fall_from 0 0 (made ++ r ∷ rest) ≡ some n
measured_falls made n form r rest m h =
    fall_behind 0 0 made r rest m.rises (omega (arith, m.form')) ∙ ap some (omega (arith, m.length'))

-- at the end
pub measured_end : (made : List Record) (n form : ℕ) → Measured made n form → (fall_from 0 0 made ≡ none) × (n ≡ lengths_of made)
measured_end made n form m = (none_falls 0 0 made m.rises, m.length')

-- ---- the second pass: the bytes

-- what is made stands at the buffer's front
pub record Copied (buffer : List ℕ) (made : List Record) (n : ℕ) (after : List ℕ) : Type 0 where
  pub length' : n ≡ lengths_of made
  pub bytes : after ≡ written buffer 0 (records_bytes made)

pub copied_start : (buffer : List ℕ) → Copied buffer [] 0 buffer
unfolding lengths_of records_bytes joined
copied_start buffer = record { length' = refl; bytes = sym (written_nil buffer 0) }

-- one record's bytes more, behind it
pub copied_next : (buffer : List ℕ) (made : List Record) (n : ℕ) (after : List ℕ) (r : Record) → Copied buffer made n after
    → Copied buffer (made ++ r ∷ []) (n + length (record_bytes r)) (written after n (record_bytes r))
copied_next buffer made n after r c =
    let place : n ≡ 0 + length (records_bytes made) = omega (arith, c.length', lengths_are made) in
    record {
      length' = omega (arith, c.length', lengths_snoc made r);
      bytes =
          ap (λ (l : List ℕ). written l n (record_bytes r)) c.bytes
          ∙ ap (λ (k : ℕ). written (written buffer 0 (records_bytes made)) k (record_bytes r)) place
          ∙ written_two buffer 0 (records_bytes made) (record_bytes r) (omega arith)
          ∙ ap (written buffer 0) (sym (records_snoc made r));
    }
