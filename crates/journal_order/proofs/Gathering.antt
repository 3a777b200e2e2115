-- A journal's records passed one after the other, each entered by its key.
-- Assumes nothing.
use mathlib.Core.Path.{◌≡◌, refl, sym, ap, subst, ◌∙◌}
use Prim.Native.Nat.{ℕ, ◌+◌, ◌*◌, ◌≤◌, ◌<◌}
use mathlib.Core.List.{List, [], ◌∷◌, ◌++◌, append-nil}
use native.Mathlib.Omega.{arith}
use lib.ListN.{length, take, drop, length-append}
use lib.Seq.{append_snoc}
use Rattle.journal_spec.specs.Record.{Record, record_bytes}
use Rattle.journal_spec.specs.Cursor.{records_in}
use Rattle.journal_spec.proofs.Cursor.{Cursor, cursor_none, cursor_some, cursor_next}
use Rattle.journal_spec.proofs.Ranged.{encoding_length}
use Rattle.journal_spec.proofs.Whole.{WholeBytes}
use Rattle.journal_parts.specs.Front.{record_size}
use Rattle.journal_parts.proofs.Front.{front_size}
use Rattle.journal_order.specs.Starts.{starts_from, starts_in, most_records}
use Rattle.journal_order.specs.Sorted.{LatestOf}
use Rattle.journal_order.proofs.Entering.{latest_none, latest_more}

-- the records before the place `at` are passed
pub record Passing (b : List ℕ) (at : ℕ) (passed : List ℕ) : Type 0 where
  pub left : List Record
  pub cursor : Cursor b at left
  pub starts : starts_in b ≡ passed ++ starts_from at left
  pub few : 33 * length passed ≤ at

pub passing_start : (b : List ℕ) → WholeBytes b → Passing b 0 []
unfolding starts_in
passing_start b w = record { left = records_in b; cursor = w.cursor; starts = refl; few = omega arith }

-- one more
pub record Passed (b : List ℕ) (at : ℕ) (passed : List ℕ) : Type 0 where
  pub inside : at + record_size (drop at b) ≤ length b
  pub least : 33 ≤ record_size (drop at b)
  pub next : Passing b (at + record_size (drop at b)) (passed ++ at ∷ [])

pub passing_turn : (b : List ℕ) (at : ℕ) (passed : List ℕ) → Passing b at passed → at < length b → Passed b at passed
passing_turn b at passed v h = go v.left v.cursor v.starts
  where
    go : (left : List Record) → Cursor b at left → starts_in b ≡ passed ++ starts_from at left → Passed b at passed
    go [] c e = absurd (cursor_some b at c h)
    go (r ∷ rs) c e = unfold starts_from in
        let size = front_size b at r rs c in
        let n = encoding_length c.good.0.last r c.good.0.good in
        let after = cursor_next b at r rs c in
        record {
          inside = omega (arith, size, after.inside);
          least = omega (arith, size, n);
          next = rw size (record {
            left = rs;
            cursor = after;
            starts = e ∙ sym (append_snoc passed at (starts_from (at + length (record_bytes r)) rs));
            few = omega (arith, v.few, n, length-append passed (at ∷ []));
          });
        }

-- all are passed
pub passing_end : (b : List ℕ) (at : ℕ) (passed : List ℕ) → Passing b at passed → length b ≤ at → starts_in b ≡ passed
unfolding starts_from
passing_end b at passed v h =
    v.starts ∙ ap (λ (rs : List Record). passed ++ starts_from at rs) (cursor_none b at v.left v.cursor h) ∙ append-nil passed

-- ---- the last place of each key

pub record Gathering (key : ℕ → List ℕ) (b before places : List ℕ) (count at : ℕ) : Type 0 where
  pub passed : List ℕ
  pub passing : Passing b at passed
  pub count' : count ≤ length passed
  pub long : length places ≡ length before
  pub latest : LatestOf key passed (take count places)

pub gathering_start : (key : ℕ → List ℕ) (b before : List ℕ) → WholeBytes b → Gathering key b before before 0 0
gathering_start key b before w = record {
  passed = [];
  passing = passing_start b w;
  count' = omega arith;
  long = refl;
  latest = latest_none key;
}

module _ (key : ℕ → List ℕ) (b before places : List ℕ) (count at : ℕ) (v : Gathering key b before places count at) (short : length b ≤ 65_536)
    (room : most_records ≤ length before) where
  module _ (h : at < length b) where
    abbrev turn : Passed b at v.passed
    turn = passing_turn b at v.passed v.passing h

    pub gathering_room : count < length places
    gathering_room = omega (arith, v.count', v.passing.few, turn.inside, turn.least, v.long)

    pub gathering_inside : (at + record_size (drop at b) ≤ length b) × (33 ≤ record_size (drop at b))
    gathering_inside = (turn.inside, turn.least)

    pub gathering_next : (after : List ℕ) (more : ℕ) → LatestOf key (take count places ++ at ∷ []) (take more after) → more ≤ count + 1
        → length after ≡ length places → Gathering key b before after more (at + record_size (drop at b))
    gathering_next after more l m n = record {
      passed = v.passed ++ at ∷ [];
      passing = turn.next;
      count' = omega (arith, m, v.count', length-append v.passed (at ∷ []));
      long = n ∙ v.long;
      latest = latest_more key v.passed (take count places) (take more after) at v.latest l;
    }

  pub gathering_end : length b ≤ at → LatestOf key (starts_in b) (take count places)
  gathering_end h = subst (λ (l : List ℕ). LatestOf key l (take count places)) (sym (passing_end b at v.passed v.passing h)) v.latest

  pub gathering_count : count ≤ length before
  gathering_count = omega (arith, v.count', v.passing.few, v.passing.cursor.inside)
