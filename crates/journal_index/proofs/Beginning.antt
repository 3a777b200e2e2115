-- For the loop that tells whether an index is begun: the entries left decide, from the place reached and the last name on; and what a turn comes
-- to. Assumes nothing.
use mathlib.Core.Path.{◌≡◌, refl, sym, ap, ◌∙◌}
use Prim.Native.Nat.{ℕ, zero, suc, ◌+◌, ◌-◌, ◌≤◌, ◌<◌, min}
use mathlib.Core.List.{List, [], ◌∷◌}
use mathlib.Core.Bool.{Bool, true, false, ◌&&◌, ◌||◌}
use native.Mathlib.Omega.{arith}
use lib.ListN.{length, take, drop, get_or, length-drop, drop_of_length-le}
use lib.Seq.{take_all}
use lib.Dec.{leb, ltb}
use borrow.Author.Tests.{le-leb, lt-leb, lt-ltb, le-ltb, leb-true, leb-false}
use Rattle.facts.proofs.Orders.{by_order}
use Rattle.facts.proofs.Tests.{by_test_lem, both_hold, refuted, true_not_false}
use Rattle.std.specs.Prelude.{IsTrue, ◌↔◌, EachIndex}
use Rattle.limit.specs.Times.{in_range}
use Rattle.journal_spec.specs.Bytes.{value_of, number_at}
use Rattle.journal_spec.specs.Record.{min_name, max_name, min_byte, max_byte}
use Rattle.journal_spec.specs.Scan.{max_length}
use Rattle.journal_spec.specs.Tests.{each}
use Rattle.journal_parts.specs.Numbers.{number_in}
use Rattle.journal_parts.proofs.NumberStands.{number_stands}
use Rattle.journal_entries.specs.Entries.{EntryIs, name_at, start_at, behind_entry, size_at}
use Rattle.journal_entries.specs.Shape.{is_below}
use Rattle.journal_entries.proofs.ByCounts.{Here, size_gone, entry_here}
use Rattle.journal_index.specs.Begun.{max_index, max_entries, entry_ranges, begun_from, is_begun}

-- ---- a number, as far as its bytes stand

pub number_gone : (w at : ℕ) (b : List ℕ) → length b < at → 0 ≡ number_at w at b
unfolding number_at value_of
number_gone zero at b h = refl
number_gone (suc w) at b h = rw (drop_of_length-le b {i = at} (omega arith)) refl

-- so many bytes as stand are read
pub number_stood : (w at n k : ℕ) (b : List ℕ) → w ≤ 8 → k ≡ min w (length b - at) → n ≡ number_in k at b → n ≡ number_at w at b
number_stood w at n k b narrow m e =
    by_order at (length b)
    (λ h. by_order w (length b - at)
    (λ l. let s : k ≡ w = omega (arith, m, l) in e ∙ ap (λ (x : ℕ). number_in x at b) s ∙ number_stands w at b narrow (omega arith))
    (λ l. let s : k ≡ length b - at = omega (arith, m, l) in e ∙ ap (λ (x : ℕ). number_in x at b) s ∙ cut h l))
    (λ h. let s : k ≡ 0 = omega (arith, m) in e ∙ ap (λ (x : ℕ). number_in x at b) s ∙ none h ∙ number_gone w at b h)
  where
    cut : at ≤ length b → length b - at < w → number_in (length b - at) at b ≡ number_at w at b
    cut h l = unfold number_at in
        let size : length (drop at b) ≡ length b - at = length-drop at b in
        number_stands (length b - at) at b (omega arith) (omega arith)
        ∙ ap value_of (take_all (length b - at) (drop at b) (omega (arith, size)) ∙ sym (take_all w (drop at b) (omega (arith, size))))

    none : length b < at → number_in 0 at b ≡ 0
    none h = unfold number_in in rw (lt-leb (at + 0) (length b) (omega arith)) refl

-- ---- a name, as far as its bytes stand

abbrev visible : List ℕ → Bool
visible = each (in_range min_byte max_byte)

-- each byte is one of a name's
abbrev pub EachVisible : List ℕ → Type 0
EachVisible bytes = EachIndex bytes (λ k. (33 ≤ get_or bytes k 0) × (get_or bytes k 0 ≤ 126))

visible_each : (bytes : List ℕ) → EachVisible bytes → visible bytes ≡ true
unfolding each in_range
visible_each [] h = refl
visible_each (x ∷ xs) h =
    let k = h 0 (omega arith) in
    rw (le-leb 33 x k.0, le-leb x 126 k.1) (visible_each xs (λ i l. h (suc i) (omega arith)))

each_visible : (bytes : List ℕ) → visible bytes ≡ true → EachVisible bytes
unfolding each in_range
each_visible [] h i l = absurd (omega arith)
each_visible (x ∷ xs) h zero l =
    let b = both_hold (leb 33 x) (leb x 126) (both_hold (leb 33 x && leb x 126) (visible xs) h).0 in
    (leb-true 33 x b.0, leb-true x 126 b.1)
each_visible (x ∷ xs) h (suc i) l = each_visible xs (both_hold (leb 33 x && leb x 126) (visible xs) h).1 i (omega arith)

pub visible_all : (r : Bool) (bytes : List ℕ) → IsTrue r ↔ EachVisible bytes → r ≡ visible bytes
visible_all r bytes h =
    by_test_lem r
    (λ t. t ∙ sym (visible_each bytes (h.0 t)))
    (λ f. f ∙ sym (refuted (visible bytes) (λ t. true_not_false (sym (h.1 (each_visible bytes t)) ∙ f))))

-- ---- an entry in range

module _ (b : List ℕ) (at count : ℕ) (is : count ≡ number_at 2 at b) where
  pub range_few : (leb 1 count && leb count 32) ≡ false → false ≡ entry_ranges b at
  unfolding entry_ranges in_range
  range_few h = rw (← is, h) refl

  module _ (k : (leb 1 count && leb count 32) ≡ true) (named : Bool) (e : named ≡ visible (take count (drop (at + 2) b))) where
    counted : in_range min_name max_name (number_at 2 at b) ≡ true
    unfolding in_range
    counted = rw (← is) k

    name_is : visible (name_at b at) ≡ named
    unfolding name_at
    name_is = sym (e ∙ ap (λ (n : ℕ). visible (take n (drop (at + 2) b))) is)

    pub range_named : named ≡ false → false ≡ entry_ranges b at
    unfolding entry_ranges
    range_named f = rw (counted, name_is ∙ f) refl

    pub range_start : named ≡ true → (start : ℕ) → start ≡ number_at 4 (at + 2 + count) b → ltb start max_length ≡ entry_ranges b at
    unfolding entry_ranges start_at
    range_start t start s = rw (counted, name_is ∙ t, ← is) (rw s refl)

-- ---- the entries

-- `left` entries are left from the place on, and decide
pub record Beginning (b : List ℕ) (left : ℕ) (low : List ℕ) (at : ℕ) : Type 0 where
  pub same : is_begun b ≡ begun_from b left at low

pub begun_long : (b : List ℕ) → max_index < length b → is_begun b ≡ false
unfolding is_begun
begun_long b h = rw (lt-leb (length b) max_index h) refl

module _ (b : List ℕ) (count : ℕ) (short : length b ≤ max_index) (is : count ≡ number_at 2 0 b) where
  pub begun_many : max_entries < count → is_begun b ≡ false
  unfolding is_begun
  begun_many h = rw (le-leb (length b) max_index short, lt-leb (number_at 2 0 b) max_entries (omega (arith, is))) refl

  pub begun_start : (left : ℕ) → left ≡ count → count ≤ max_entries → Beginning b left [] 2
  unfolding is_begun
  begun_start left e h = record {
    same =
        rw (le-leb (length b) max_index short, le-leb (number_at 2 0 b) max_entries (omega (arith, is)))
        (ap (λ (k : ℕ). begun_from b k 2 []) (sym (e ∙ is)));
  }

module _ (b : List ℕ) (left : ℕ) (low : List ℕ) (at : ℕ) (t : Beginning b left low at) where
  -- the bytes end there
  pub begun_ends : length b ≤ at → is_begun b ≡ true
  begun_ends h = t.same ∙ go left
    where
      go : (n : ℕ) → begun_from b n at low ≡ true
      go zero = unfold begun_from in le-leb (length b) at h
      go (suc n) = unfold begun_from in rw (le-leb (length b) at h) refl

  -- no entry is left
  pub begun_behind : left ≡ 0 → is_begun b ≡ leb (length b) at
  unfolding begun_from
  begun_behind e = t.same ∙ rw e refl

  module _ (k : at < length b) (h : 0 < left) where
    turn : is_begun b
        ≡ (entry_ranges b at
        && (ltb (length b) (behind_entry b at) || (is_below low (name_at b at) && begun_from b (left - 1) (behind_entry b at) (name_at b at))))
    turn = t.same ∙ go left h
      where
        go : (n : ℕ) → 0 < n
            → begun_from b n at low
            ≡ (entry_ranges b at
            && (ltb (length b) (behind_entry b at) || (is_below low (name_at b at) && begun_from b (n - 1) (behind_entry b at) (name_at b at))))
        go zero z = absurd (omega arith)
        go (suc n) z = unfold begun_from in let e : suc n - 1 ≡ n = omega arith in rw (lt-leb (length b) at k, e) refl

    module _ (ranged : Bool) (is : ranged ≡ entry_ranges b at) where
      pub begun_range : ranged ≡ false → is_begun b ≡ false
      begun_range f = turn ∙ rw (sym is ∙ f) refl

      module _ (r : ranged ≡ true) where
        pub begun_cut : size_at b at ≡ 0 → is_begun b ≡ true
        begun_cut z = turn ∙ rw (sym is ∙ r, beyond) refl
          where
            beyond : ltb (length b) (behind_entry b at) ≡ true
            beyond = lt-ltb (length b) (behind_entry b at) (leb-false (behind_entry b at) (length b) (size_gone b at (sym z)))

        module _ (name : List ℕ) (start : ℕ) (x : EntryIs b at name start) (below : Bool) (f : below ≡ is_below low name) where
          stood : Here b at (length name + 6)
          stood = entry_here b at name start x

          whole : ltb (length b) (behind_entry b at) ≡ false
          whole = le-ltb (length b) (behind_entry b at) (omega (arith, stood.behind, stood.inside))

          judged : is_below low (name_at b at) ≡ below
          judged = sym (f ∙ ap (is_below low) x.name_is)

          pub begun_order : below ≡ false → is_begun b ≡ false
          begun_order g = turn ∙ rw (sym is ∙ r, whole, judged ∙ g) refl

          pub begun_goes : (rest behind : ℕ) → rest ≡ left - 1 → behind ≡ at + (length name + 6) → below ≡ true → Beginning b rest name behind
          begun_goes rest behind l p g =
              let q : behind_entry b at ≡ behind = stood.behind ∙ sym p in
              record { same = turn ∙ rw (sym is ∙ r, whole, judged ∙ g, l, q, x.name_is) refl }
