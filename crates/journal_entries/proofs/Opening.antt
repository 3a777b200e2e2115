-- Bytes of a buffer moved up, the last one first: what is moved is written further on, and every other byte stays.
-- Assumes nothing.
use mathlib.Core.Path.{◌≡◌, refl, sym, ap, ap₂, ◌∙◌}
use Prim.Native.Nat.{ℕ, suc, ◌+◌, ◌-◌, ◌≤◌, ◌<◌}
use mathlib.Core.List.{List, [], ◌∷◌, ◌++◌, append_assoc}
use mathlib.Core.Bool.{true, false}
use native.Mathlib.Omega.{arith}
use mathlib.Core.Logic.{◌⊎◌, inl, inr}
use lib.ListN.{length, take, drop, get_or, set, length-drop, length-set, get_or-append}
use lib.Seq.{take-suc, drop-cons, set_at, get_or-take, length-take-le}
use Rattle.std.specs.Prelude.{Result, Ok, Err, is_ok}
use Rattle.std.specs.List.{copy_within}
use Rattle.facts.proofs.Tests.{true_not_false}
use Rattle.journal_spec.specs.Append.{written}
use Rattle.journal_spec.proofs.Writing.{written_nil}
use Rattle.journal_entries.specs.Amending.{Opened}
use Rattle.journal_entries.specs.Places.{place_of}
use Rattle.journal_entries.specs.declared.walking.End.{End}

-- what is copied within a buffer is written there
pub copied_written : (b : List ℕ) (from to at : ℕ) → from ≤ to → to ≤ length b → copy_within b from to at ≡ written b at (take (to - from) (drop from b))
unfolding written
copied_written b from to at h k =
    let n : length (take (to - from) (drop from b)) ≡ to - from = length-take-le (to - from) (drop from b) (rw length-drop (omega arith)) in
    append_assoc (take at b) (take (to - from) (drop from b)) (drop (at + (to - from)) b)
    ∙ ap (λ (m : ℕ). take at b ++ (take (to - from) (drop from b) ++ drop (at + m) b)) (sym n)

-- a byte before what is written
pub set_before : (d : List ℕ) (at x : ℕ) (xs : List ℕ) → at + 1 + length xs ≤ length d → set (written d (at + 1) xs) at x ≡ written d at (x ∷ xs)
unfolding written
set_before d at x xs h =
    let t : take (at + 1) d ≡ take at d ++ get_or d at 0 ∷ [] = ap (λ (k : ℕ). take k d) next ∙ take-suc d at 0 (omega arith) in
    let rest : List ℕ = drop (at + 1 + length xs) d in
    let e : at + 1 + length xs ≡ at + suc (length xs) = omega arith in
    let whole : take (at + 1) d ++ (xs ++ rest) ≡ take at d ++ get_or d at 0 ∷ (xs ++ rest) =
    ap (λ (l : List ℕ). l ++ (xs ++ rest)) t ∙ append_assoc (take at d) (get_or d at 0 ∷ []) (xs ++ rest) in
    ap (λ (l : List ℕ). set l at x) whole
    ∙ set_at (take at d) (get_or d at 0) (xs ++ rest) x at (length-take-le at d (omega arith))
    ∙ ap (λ (k : ℕ). take at d ++ x ∷ (xs ++ drop k d)) e
  where
    next : at + 1 ≡ suc at
    next = omega arith

-- a byte before it is as it was
get_before : (d : List ℕ) (at : ℕ) (xs : List ℕ) (i : ℕ) → i < at → at ≤ length d → get_or (written d at xs) i 0 ≡ get_or d i 0
unfolding written
get_before d at xs i h k =
    get_or-append (take at d) (xs ++ drop (at + length xs) d) 0 i (rw (length-take-le at d k) h) ∙ get_or-take at d i 0 h

-- ---- the loop

-- the bytes from the place i to the last one are moved
pub record Moving (b : List ℕ) (from to size : ℕ) (after : List ℕ) (i : ℕ) : Type 0 where
  pub above : from ≤ i
  pub below : i ≤ to
  pub bytes : after ≡ written b (i + size) (take (to - i) (drop i b))
  pub long : length after ≡ length b

module _ (b : List ℕ) (from to size : ℕ) (order : from ≤ to) (room : to + size ≤ length b) where
  pub moving_start : Moving b from to size b to
  moving_start = record {
    above = order;
    below = omega arith;
    bytes = sym (ap (λ (k : ℕ). written b (to + size) (take k (drop to b))) none ∙ written_nil b (to + size));
    long = refl;
  }
    where
      none : to - to ≡ 0
      none = omega arith

  moved : (after : List ℕ) (i : ℕ) → i < to → after ≡ written b (i + 1 + size) (take (to - (i + 1)) (drop (i + 1) b))
      → set after (i + size) (get_or after i 0) ≡ written b (i + size) (take (to - i) (drop i b))
  moved after i h e =
      let rest : List ℕ = take (to - (i + 1)) (drop (i + 1) b) in
      let n : length rest ≡ to - (i + 1) = length-take-le (to - (i + 1)) (drop (i + 1) b) (rw length-drop (omega arith)) in
      let p : i + 1 + size ≡ i + size + 1 = omega arith in
      let f : after ≡ written b (i + size + 1) rest = e ∙ ap (λ (k : ℕ). written b k rest) p in
      let g : get_or after i 0 ≡ get_or b i 0 = ap (λ (l : List ℕ). get_or l i 0) f ∙ get_before b (i + size + 1) rest i (omega arith) (omega arith) in
      let part : get_or b i 0 ∷ rest ≡ take (to - i) (drop i b) = sym (first i h) in
      ap₂ (λ (l : List ℕ) (x : ℕ). set l (i + size) x) f g
      ∙ set_before b (i + size) (get_or b i 0) rest (omega (arith, n))
      ∙ ap (written b (i + size)) part
    where
      first : (i : ℕ) → i < to → take (to - i) (drop i b) ≡ get_or b i 0 ∷ take (to - (i + 1)) (drop (i + 1) b)
      first i h =
          let k : to - i ≡ suc (to - (i + 1)) = omega arith in
          let one : i + 1 ≡ suc i = omega arith in
          rw k (ap (take (suc (to - (i + 1)))) (drop-cons b i 0 (omega arith)) ∙ ap (λ (l : ℕ). get_or b i 0 ∷ take (to - (i + 1)) (drop l b)) (sym one))

  pub moving_next : (after : List ℕ) (i : ℕ) → Moving b from to size after i → from < i
      → Moving b from to size (set after (i - 1 + size) (get_or after (i - 1) 0)) (i - 1)
  moving_next after i m h = record {
    above = omega arith;
    below = omega (arith, m.below);
    bytes = moved after (i - 1) (omega (arith, m.below)) (m.bytes ∙ ap (λ (k : ℕ). written b (k + size) (take (to - k) (drop k b))) back);
    long = length-set after (i - 1 + size) (get_or after (i - 1) 0) ∙ m.long;
  }
    where
      back : i ≡ i - 1 + 1
      back = omega arith

  pub moving_done : (after : List ℕ) (i : ℕ) → Moving b from to size after i → i ≤ from → after ≡ written b (from + size) (take (to - from) (drop from b))
  moving_done after i m h =
      let e : i ≡ from = omega (arith, m.above) in m.bytes ∙ ap (λ (k : ℕ). written b (k + size) (take (to - k) (drop k b))) e

-- ---- where the name has an entry nothing is moved

pub open_kept : (b : List ℕ) (f : Result ℕ ℕ) (end : End) (size place : ℕ) → f ≡ Ok place → Opened b f end size end.count b
open_kept b f end size place t =
    let e : is_ok f ≡ true = ap is_ok t in
    record { kept = λ h. (refl, refl); moved = λ h. absurd (true_not_false (sym e ∙ h)) }

pub place_either : (f : Result ℕ ℕ) (place : ℕ) → (f ≡ Ok place) ⊎ (f ≡ Err place) → place_of f ≡ place
unfolding place_of
place_either f place (inl t) = ap place_of t
place_either f place (inr t) = ap place_of t

pub place_in : (f : Result ℕ ℕ) (place end : ℕ) → f ≡ Err place → place_of f ≤ end → place ≤ end
unfolding place_of
place_in f place end t h = rw t at h

pub room_in : (f : Result ℕ ℕ) (place : ℕ) (P : Type 0) → f ≡ Err place → (is_ok f ≡ false → P) → P
room_in f place P t h = h (ap is_ok t)

pub open_moved : (b : List ℕ) (f : Result ℕ ℕ) (end : End) (size place : ℕ) (after : List ℕ) → f ≡ Err place → place ≤ end.place → end.place ≤ length b
    → after ≡ copy_within b place end.place (place + size) → Opened b f end size (end.count + 1) after
open_moved b f end size place after t h' k e =
    let g : is_ok f ≡ false = ap is_ok t in
    let p : place_of f ≡ place = ap place_of t ∙ unfold place_of in refl in
    record {
      kept = λ h. absurd (true_not_false (sym h ∙ g));
      moved = λ h. (rw p (e ∙ copied_written b place end.place (place + size) h' k), refl);
    }
