-- For the loop that tells an index: the entries left decide, from the place reached and the last name on; and what a turn comes to.
-- Assumes nothing.
use mathlib.Core.Path.{◌≡◌, refl, sym, ap, ◌∙◌}
use Prim.Native.Nat.{ℕ, zero, suc, ◌+◌, ◌-◌, ◌≤◌, ◌<◌}
use mathlib.Core.List.{List, []}
use mathlib.Core.Bool.{Bool, true, false, ◌&&◌}
use native.Mathlib.Omega.{arith}
use lib.ListN.{length}
use lib.Dec.{leb}
use borrow.Author.Tests.{le-leb, lt-leb}
use Rattle.journal_spec.specs.Bytes.{number_at}
use Rattle.journal_parts.specs.Numbers.{number_in}
use Rattle.journal_parts.proofs.NumberStands.{number_stands}
use Rattle.journal_entries.specs.Entries.{EntryIs, name_at, behind_entry, size_at}
use Rattle.journal_entries.specs.Shape.{is_below, stand_from, is_index}
use Rattle.journal_entries.proofs.ByCounts.{size_gone, entry_here}

-- `left` entries are left from the place on, and decide
pub record Telling (b : List ℕ) (left : ℕ) (low : List ℕ) (at : ℕ) : Type 0 where
  pub same : is_index b ≡ stand_from b left at low

pub telling_short : (b : List ℕ) → length b < 2 → is_index b ≡ false
unfolding is_index
telling_short b h = rw (lt-leb 2 (length b) h) refl

pub telling_start : (b : List ℕ) (left : ℕ) → 2 ≤ length b → left ≡ number_in 2 0 b → Telling b left [] 2
unfolding is_index
telling_start b left h e =
    let n : left ≡ number_at 2 0 b = e ∙ number_stands 2 0 b (omega arith) (omega arith) in
    record { same = rw (le-leb 2 (length b) h) (ap (λ (k : ℕ). stand_from b k 2 []) (sym n)) }

stand_turn : (b : List ℕ) (n at : ℕ) (low : List ℕ) → 0 < n
    → stand_from b n at low ≡ (leb (behind_entry b at) (length b) && (is_below low (name_at b at) && stand_from b (n - 1) (behind_entry b at) (name_at b at)))
unfolding stand_from
stand_turn b zero at low h = absurd (omega arith)
stand_turn b (suc n) at low h = let e : suc n - 1 ≡ n = omega arith in rw e refl

module _ (b : List ℕ) (left : ℕ) (low : List ℕ) (at : ℕ) (t : Telling b left low at) (h : 0 < left) where
  turn : is_index b ≡ (leb (behind_entry b at) (length b) && (is_below low (name_at b at) && stand_from b (left - 1) (behind_entry b at) (name_at b at)))
  turn = t.same ∙ stand_turn b left at low h

  -- no entry stands there
  pub telling_room : size_at b at ≡ 0 → is_index b ≡ false
  telling_room z = turn ∙ rw (size_gone b at (sym z)) refl

  -- by whether its name is above the last one
  module _ (name : List ℕ) (start : ℕ) (x : EntryIs b at name start) (below : Bool) (f : below ≡ is_below low name) where
    judged : is_below low (name_at b at) ≡ below
    judged = sym (f ∙ ap (is_below low) x.name_is)

    pub telling_order : below ≡ false → is_index b ≡ false
    telling_order g = turn ∙ rw ((entry_here b at name start x).stands, judged ∙ g) refl

    pub telling_goes : (rest behind : ℕ) → rest ≡ left - 1 → behind ≡ at + (length name + 6) → below ≡ true → Telling b rest name behind
    telling_goes rest behind r p g =
        let y = entry_here b at name start x in
        let q : behind_entry b at ≡ behind = y.behind ∙ sym p in
        record { same = turn ∙ rw (y.stands, judged ∙ g, r, q, x.name_is) refl }

pub telling_ends : (b : List ℕ) (left : ℕ) (low : List ℕ) (at : ℕ) → Telling b left low at → left ≡ 0 → is_index b ≡ true
unfolding stand_from
telling_ends b left low at t e = t.same ∙ rw e refl
