-- A place in bytes that hold good records end to end, and the records from it on: the first one's bytes, and the next record's place behind it.
-- Assumes nothing.
use mathlib.Core.Path.{◌≡◌, refl, sym, ap, ◌∙◌}
use Prim.Native.Nat.{ℕ, ◌+◌, ◌≤◌, ◌<◌}
use mathlib.Core.List.{List, [], ◌∷◌, ◌++◌}
use native.Mathlib.Omega.{arith}
use lib.ListN.{length, take, drop, length-append, length-drop}
use lib.Seq.{take_at, drop_at, drop-drop}
use Rattle.journal_spec.specs.Bytes.{joined}
use Rattle.journal_spec.specs.Record.{Record, Last, last_of, record_bytes, records_bytes}
use Rattle.journal_spec.specs.Ranges.{RecordRanges, AllRanges}
use Rattle.journal_spec.proofs.Ranged.{encoding_length}

-- ---- good records

-- nothing refuses the record, after some record
pub record GoodSomewhere (r : Record) : Type 0 where
  pub last : Last
  pub good : RecordRanges last r

abbrev pub AllGood : List Record → Type 0
AllGood [] = Unit {0}
AllGood (r ∷ rs) = GoodSomewhere r × AllGood rs

pub follow_good : (before rs : List Record) → AllRanges before rs → AllGood rs
follow_good before [] f = tt
follow_good before (r ∷ rs) f = (record { last = last_of before; good = f.0 }, follow_good (before ++ r ∷ []) rs f.1)

-- ---- the cursor

-- the records rs stand from the place `at` of the bytes b on, to their end
pub record Cursor (b : List ℕ) (at : ℕ) (rs : List Record) : Type 0 where
  pub inside : at ≤ length b
  pub bytes : drop at b ≡ records_bytes rs
  pub good : AllGood rs

pub cursor_start : (b : List ℕ) (rs : List Record) → b ≡ records_bytes rs → AllGood rs → Cursor b 0 rs
cursor_start b rs e g = record { inside = omega arith; bytes = e; good = g }

-- at the end there is no record, before it there is one
pub cursor_none : (b : List ℕ) (at : ℕ) (rs : List Record) → Cursor b at rs → length b ≤ at → rs ≡ []
unfolding records_bytes joined
cursor_none b at [] c h = refl
cursor_none b at (r ∷ rs) c h =
    let z : length (drop at b) ≡ 0 = length-drop at b ∙ omega arith in
    let n = encoding_length c.good.0.last r c.good.0.good in
    absurd (omega (arith, z, ap length c.bytes, length-append (record_bytes r) (records_bytes rs), n))

pub cursor_some : (b : List ℕ) (at : ℕ) → Cursor b at [] → at < length b → ⊥
unfolding records_bytes joined
cursor_some b at c h = omega (arith, ap length c.bytes, length-drop at b)

module _ (b : List ℕ) (at : ℕ) (r : Record) (rs : List Record) (c : Cursor b at (r ∷ rs)) where
  there : drop at b ≡ record_bytes r ++ records_bytes rs
  unfolding records_bytes joined
  there = c.bytes

  abbrev last : Last
  last = c.good.0.last

  good : RecordRanges last r
  good = c.good.0.good

  -- its bytes
  pub cursor_part : take (length (record_bytes r)) (drop at b) ≡ record_bytes r
  cursor_part = ap (take (length (record_bytes r))) there ∙ take_at (record_bytes r) (records_bytes rs) (length (record_bytes r)) refl

  -- the bytes from it on, taken by themselves
  pub cursor_front : Cursor (drop at b) 0 (r ∷ rs)
  cursor_front = record { inside = omega arith; bytes = c.bytes; good = c.good }

  -- the next record's place
  pub cursor_next : Cursor b (at + length (record_bytes r)) rs
  cursor_next = record {
    inside = omega (arith, ap length there, length-append (record_bytes r) (records_bytes rs), length-drop at b, c.inside, encoding_length last r good);
    bytes = sym (drop-drop (length (record_bytes r)) at b) ∙ ap (drop (length (record_bytes r))) there
        ∙ drop_at (record_bytes r) (records_bytes rs) (length (record_bytes r)) refl;
    good = c.good.1;
  }
