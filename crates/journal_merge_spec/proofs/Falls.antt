-- Where forms fall in a list of records: nowhere, or at the first record whose form is below that of the record before it, with its place;
-- of good records it is form 1 after form 2. Assumes nothing.
use mathlib.Core.Path.{◌≡◌, refl, sym, ap, ◌∙◌}
use Prim.Native.Nat.{ℕ, ◌+◌, ◌≤◌, ◌<◌}
use mathlib.Core.List.{List, [], ◌∷◌, ◌++◌}
use mathlib.Core.Bool.{Bool, true, false}
use native.Mathlib.Omega.{arith}
use mathlib.Core.Option.{Option, none, some}
use lib.ListN.{length, length-append}
use lib.Dec.{ltb}
use borrow.Author.Tests.{ltb-true, ltb-false, lt-ltb, le-ltb}
use Rattle.limit.specs.Formula.{plain_form, sample_form}
use Rattle.journal_spec.specs.Bytes.{joined}
use Rattle.journal_spec.specs.Record.{Record, record_bytes, records_bytes}
use Rattle.journal_spec.specs.Model.{lengths_of}
use Rattle.journal_spec.proofs.Placing.{lengths_are}
use Rattle.journal_spec.proofs.Cursor.{GoodSomewhere, AllGood}
use Rattle.journal_merge_spec.specs.Records.{fall_from}
use Rattle.journal_merge_spec.proofs.Following.{FormsFrom}

fall_not_none : {p : ℕ} → ◌≡◌ {A = Option ℕ} (some p) none → ⊥
fall_not_none h = let z : ◌≡◌ {A = ℕ} 0 1 = cc in omega arith

pub no_fall : (form at : ℕ) (rs : List Record) → fall_from form at rs ≡ none → FormsFrom form rs
unfolding fall_from
no_fall form at [] h = tt
no_fall form at (r ∷ rs) h = go (ltb r.form form) refl (no_fall r.form (at + length (record_bytes r)) rs)
  where
    go : (b : Bool) → ltb r.form form ≡ b → (fall_from r.form (at + length (record_bytes r)) rs ≡ none → FormsFrom r.form rs)
        → FormsFrom form (r ∷ rs)
    go true e later = absurd (fall_not_none (rw e at h))
    go false e later = (ltb-false r.form form e, later (rw e at h))

pub none_falls : (form at : ℕ) (rs : List Record) → FormsFrom form rs → fall_from form at rs ≡ none
unfolding fall_from
none_falls form at [] f = refl
none_falls form at (r ∷ rs) f = rw (le-ltb r.form form f.0) (none_falls r.form (at + length (record_bytes r)) rs f.1)

-- the form of the last record, `form` where there is none
abbrev pub last_form : ℕ → List Record → ℕ
last_form form [] = form
last_form form (r ∷ rs) = last_form r.form rs

-- the first fall: before it forms never fall, and its place is behind those records
pub record FirstFall (form at : ℕ) (rs : List Record) (p : ℕ) : Type 0 where
  pub front : List Record
  pub falling : Record
  pub others : List Record
  pub parts : rs ≡ front ++ falling ∷ others
  pub rises : FormsFrom form front
  pub below : falling.form < last_form form front
  pub place : p ≡ at + length (records_bytes front)

at_is : {a b : ℕ} → some a ≡ some b → a ≡ b
at_is h = cc

pub first_fall : (form at : ℕ) (rs : List Record) (p : ℕ) → fall_from form at rs ≡ some p → FirstFall form at rs p
unfolding fall_from records_bytes joined
first_fall form at [] p h = absurd (fall_not_none (sym h))
first_fall form at (r ∷ rs) p h = go (ltb r.form form) refl (first_fall r.form (at + length (record_bytes r)) rs p)
  where
    go : (b : Bool) → ltb r.form form ≡ b
        → (fall_from r.form (at + length (record_bytes r)) rs ≡ some p → FirstFall r.form (at + length (record_bytes r)) rs p)
        → FirstFall form at (r ∷ rs) p
    go true e later = record {
      front = [];
      falling = r;
      others = rs;
      parts = refl;
      rises = tt;
      below = ltb-true r.form form e;
      place = omega (arith, at_is (rw e at h));
    }
    go false e later =
        let x = later (rw e at h) in
        record {
          front = r ∷ x.front;
          falling = x.falling;
          others = x.others;
          parts = ap (λ (l : List Record). r ∷ l) x.parts;
          rises = (ltb-false r.form form e, x.rises);
          below = x.below;
          place = x.place ∙ rw length-append (omega arith);
        }

-- behind records whose forms do not fall, one whose form is below: its place is behind their bytes
pub fall_behind : (f at : ℕ) (made : List Record) (r : Record) (rest : List Record) → FormsFrom f made → r.form < last_form f made
    → fall_from f at (made ++ r ∷ rest) ≡ some (at + lengths_of made)
unfolding fall_from lengths_of
fall_behind f at [] r rest g h = rw (lt-ltb r.form f h) (ap some (omega arith))
fall_behind f at (s ∷ made) r rest g h =
    rw (le-ltb s.form f g.0)
    (fall_behind s.form (at + length (record_bytes s)) made r rest g.1 h ∙ ap some (omega arith))

-- so that a place is found exactly where the first fall is
pub fall_first : (form at : ℕ) (rs : List Record) (p : ℕ) → FirstFall form at rs p → fall_from form at rs ≡ some p
fall_first form at rs p x =
    ap (fall_from form at) x.parts
    ∙ fall_behind form at x.front x.falling x.others x.rises x.below
    ∙ ap some (omega (arith, x.place, lengths_are x.front))

-- ---- forms of good records

last_most : (form : ℕ) (rs : List Record) → form ≤ sample_form → AllGood rs → last_form form rs ≤ sample_form
last_most form [] h g = h
last_most form (r ∷ rs) h g = last_most r.form rs g.0.good.form.1 g.1

good_parts : (front : List Record) (r : Record) (others : List Record) → AllGood (front ++ r ∷ others) → AllGood front × GoodSomewhere r
good_parts [] r others g = (tt, g.0)
good_parts (s ∷ front) r others g = let p = good_parts front r others g.1 in ((g.0, p.0), p.1)

-- the first fall is form 1 after form 2
pub fall_forms : (rs : List Record) (p : ℕ) → AllGood rs → (e : fall_from 0 0 rs ≡ some p)
    → let x = first_fall 0 0 rs p e in (x.falling.form ≡ plain_form) × (last_form 0 x.front ≡ sample_form)
fall_forms rs p g e =
    let x = first_fall 0 0 rs p e in
    let both = good_parts x.front x.falling x.others (rw x.parts at g) in
    let most = last_most 0 x.front (omega arith) both.0 in
    let range = both.1.good.form in
    (omega (arith, x.below, most, range.0), omega (arith, x.below, most, range.0))
