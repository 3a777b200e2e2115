-- A run of steps: none, one more, one run after another.
-- Assumes nothing.
use mathlib.Core.Path.{◌≡◌, refl, sym, ap, ap₂, ◌∙◌}
use Prim.Native.Nat.{ℕ, ◌+◌, ◌-◌, ◌≤◌, ◌<◌}
use mathlib.Core.List.{List, [], ◌∷◌, ◌++◌}
use native.Mathlib.Omega.{arith}
use native.Mathlib.Numerals.{add-one}
use lib.ListN.{length, take, drop, get_or, set, length-append, length-drop}
use lib.Seq.{length-take-le, take-add, drop-drop, set_split, drop-cons}
use Rattle.journal_spec.specs.Append.{written}
use Rattle.journal_spec.proofs.Writing.{written_nil, written_two}
use Rattle.journal.specs.Stepped.{Front, Stepped, Filled}

pub filled_none : (new d : List ℕ) (p : ℕ) → p ≤ length d → p ≤ length new → Front new p d → Filled new d p p d
filled_none new d p h k f =
    let z : p - p ≡ 0 = omega arith in
    record { onward = omega arith; inside = h; known = k; bytes = rw z (sym (written_nil d p)); front = f }

pub filled_length : (new d : List ℕ) (p r : ℕ) (d' : List ℕ) → Filled new d p r d' → length d' ≡ length d
unfolding written
filled_length new d p r d' f =
    let n : length (take (r - p) (drop p new)) ≡ r - p = length-take-le (r - p) (drop p new) (rw length-drop (omega (arith, f.known))) in
    let m : length (take p d) ≡ p = length-take-le p d (omega (arith, f.onward, f.inside)) in
    ap length f.bytes ∙ rw (length-append, length-append, n, m, length-drop) (omega (arith, f.onward, f.inside))

-- one run after another
pub filled_two : (new d : List ℕ) (p q r : ℕ) (d₁ d₂ : List ℕ) → Filled new d p q d₁ → Filled new d₁ q r d₂ → Filled new d p r d₂
filled_two new d p q r d₁ d₂ f g =
    let a : List ℕ = take (q - p) (drop p new) in
    let b : List ℕ = take (r - q) (drop q new) in
    let n : length a ≡ q - p = length-take-le (q - p) (drop p new) (rw length-drop (omega (arith, f.known))) in
    let m : p + length a ≡ q = omega (arith, n, f.onward) in
    let s : q - p + (r - q) ≡ r - p = omega (arith, f.onward, g.onward) in
    let t : p + (q - p) ≡ q = omega (arith, f.onward) in
    let e : a ++ b ≡ take (r - p) (drop p new) =
    ap (λ (k : ℕ). a ++ take (r - q) (drop k new)) (sym t)
    ∙ ap (λ (x : List ℕ). a ++ take (r - q) x) (sym (drop-drop (q - p) p new))
    ∙ sym (take-add (q - p) (r - q) (drop p new))
    ∙ ap (λ (k : ℕ). take k (drop p new)) s in
    record {
      onward = omega (arith, f.onward, g.onward);
      inside = omega (arith, g.inside, filled_length new d p q d₁ f);
      known = g.known;
      bytes = g.bytes
          ∙ ap₂ (λ (x : List ℕ) (k : ℕ). written x k b) f.bytes (sym m)
          ∙ written_two d p a b (omega (arith, f.onward, f.inside))
          ∙ ap (written d p) e;
      front = g.front;
    }

-- a step is a run to the next place
filled_one : (new d : List ℕ) (p : ℕ) → p < length d → p < length new → Front new (p + 1) (set d p (get_or new p 0))
    → Filled new d p (p + 1) (set d p (get_or new p 0))
unfolding written
filled_one new d p h k f =
    let one : p + 1 - p ≡ 1 = omega arith in
    let e : take 1 (drop p new) ≡ get_or new p 0 ∷ [] = ap (take 1) (drop-cons new p 0 k) in
    record {
      onward = omega arith;
      inside = omega arith;
      known = omega arith;
      bytes = set_split d p (get_or new p 0) h ∙ rw (one, e, add-one) refl;
      front = f;
    }

pub filled_more : (new d : List ℕ) (p q : ℕ) (d₁ : List ℕ) (r : ℕ) (d₂ : List ℕ) → Filled new d p q d₁ → q < length d → q < length new
    → Stepped new d₁ q r d₂ → Filled new d p r d₂
filled_more new d p q d₁ r d₂ f h k s =
    filled_two new d p q r d₁ d₂ f
    (rw (s.place, s.bytes) (filled_one new d₁ q (omega (arith, filled_length new d p q d₁ f)) k (rw (s.place, s.bytes) at s.front)))
