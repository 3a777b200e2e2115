-- Sorted places split at a key: those before the split have one that does not come after it, those from it on one that does.
-- The last of the places before the split decides whether the key is there. Assumes nothing.
use mathlib.Core.Path.{◌≡◌, sym, ap, subst, ◌∙◌}
use Prim.Native.Nat.{ℕ, suc, ◌+◌, ◌-◌, ◌≤◌, ◌<◌}
use mathlib.Core.List.{List, [], ◌∷◌, ◌++◌, append-nil}
use mathlib.Core.Bool.{Bool, true, false, not}
use borrow.Author.Tests.{not-true, not-false}
use Rattle.std.proofs.lemmas.Bool.{not_from_false}
use Rattle.std.proofs.lemmas.List.{get_or_default}
use Rattle.std.specs.List.Sorted.{IsPartitionedBy, IsPartitionPoint}
use mathlib.Core.Option.{none, some}
use native.Mathlib.Omega.{arith}
use lib.ListN.{length, take, drop, get_or, take-append-drop, length-take, length-drop}
use lib.Seq.{take-suc, get_or-take, get_or-drop}
use Rattle.facts.proofs.Tests.{true_not_false}
use Rattle.facts.proofs.Orders.{by_order}
use Rattle.journal_spec.specs.Index.{equal, order_of}
use Rattle.journal_spec.proofs.NameOrder.{order_self}
use Rattle.journal_entries.specs.Shape.{is_below}
use Rattle.journal_order.specs.Sorted.{having, last_in, last_having, Rises, Split, EndsWith, place_meaning}
use Rattle.std.specs.Prelude.{Some, None}
use Rattle.journal_order.proofs.Below.{upto_below, upto_upto, neither_below, below_not_equal, above_not_equal}
use Rattle.journal_order.proofs.Having.{having_append, having_none, having_one, last_one}

module _ (key : ℕ → List ℕ) (k ps : List ℕ) where
  -- where the places rise, those with a key that does not come after k stand in front
  pub partitioned : Rises key ps → IsPartitionedBy (λ p. not (is_below k (key p))) ps
  partitioned r i j d h l t =
      let a : get_or ps i d ≡ get_or ps i 0 = get_or_default ps i d 0 (omega arith) in
      let b : get_or ps j d ≡ get_or ps j 0 = get_or_default ps j d 0 l in
      let f : is_below k (key (get_or ps j 0)) ≡ false = rw b at (not-true (is_below k (key (get_or ps j d))) t) in
      not_from_false (is_below k (key (get_or ps i d)))
      (rw a (by_order j i
      (λ e. subst (λ (m : ℕ). is_below k (key (get_or ps m 0)) ≡ false) (same i j h e) f)
      (λ g. upto_upto (key (get_or ps i 0)) (key (get_or ps j 0)) k (r.rising i j g l) f)))
    where
      same : (i j : ℕ) → i ≤ j → j ≤ i → j ≡ i
      same i j h e = omega arith

  -- the split is where they end
  pub split_point : (n : ℕ) → n ≤ length ps
      → IsPartitionPoint (λ p. not (is_below k (key p)) ≡ true) (λ p. not (is_below k (key p)) ≡ false) ps n → Split key k ps n
  split_point n w p = record {
    within = w;
    upto = λ i h. not-true (is_below k (key (get_or ps i 0))) (p.0 i 0 (omega arith) h);
    above = λ i h l. not-false (is_below k (key (get_or ps i 0))) (p.1 i 0 h l);
  }

-- ---- what the split says

module _ (key : ℕ → List ℕ) (k ps : List ℕ) (n : ℕ) (s : Split key k ps n) where
  -- none behind it has the key
  pub none_above : having key k (drop n ps) ≡ []
  none_above = having_none key k (drop n ps) (λ i h. above_it i (omega (arith, length-drop n ps)))
    where
      above_it : (i : ℕ) → n + i < length ps → order_of k (key (get_or (drop n ps) i 0)) ≡ equal → ⊥
      above_it i h = rw get_or-drop (below_not_equal k (key (get_or ps (n + i) 0)) (s.above (n + i) (omega arith) h))

  -- so that all stand before it
  pub having_front : having key k ps ≡ having key k (take n ps)
  having_front =
      ap (having key k) (sym (take-append-drop n ps))
      ∙ having_append key k (take n ps) (drop n ps)
      ∙ ap (λ (l : List ℕ). having key k (take n ps) ++ l) none_above
      ∙ append-nil (having key k (take n ps))

  -- the last before it, where there is one, has a key that comes before: so do all
  pub all_lower : Rises key ps → (0 < n → is_below (key (get_or ps (n - 1) 0)) k ≡ true) → (i : ℕ) → i < n → is_below (key (get_or ps i 0)) k ≡ true
  all_lower rises t i l =
      by_order (n - 1) i
      (λ e. subst (λ (x : ℕ). is_below (key (get_or ps x 0)) k ≡ true) (last_is e) (t (omega arith)))
      (λ g. upto_below (key (get_or ps i 0)) (key (get_or ps (n - 1) 0)) k (rises.rising i (n - 1) g (omega (arith, s.within))) (t (omega arith)))
    where
      last_is : n - 1 ≤ i → n - 1 ≡ i
      last_is e = omega arith

  -- and none has the key
  pub found_none : Rises key ps → (0 < n → is_below (key (get_or ps (n - 1) 0)) k ≡ true) → last_having key k ps ≡ none
  unfolding last_having last_in
  found_none rises t =
      ap last_in (having_front ∙ having_none key k (take n ps) (λ i l. lower_all i (omega (arith, length-take n ps))))
    where
      lower_all : (i : ℕ) → i < n → order_of k (key (get_or (take n ps) i 0)) ≡ equal → ⊥
      lower_all i l = rw (get_or-take n ps i 0 l) (above_not_equal k (key (get_or ps i 0)) (all_lower rises t i l))

  -- it has the key
  pub found_last : 0 < n → is_below (key (get_or ps (n - 1) 0)) k ≡ false → last_having key k ps ≡ some (get_or ps (n - 1) 0)
  unfolding last_having
  found_last h f =
      let p : ℕ = get_or ps (n - 1) 0 in
      let e : order_of k (key p) ≡ equal = ap (order_of k) (sym (neither_below k (key p) (s.upto (n - 1) (omega arith)) f)) ∙ order_self k in
      let t : take n ps ≡ take (n - 1) ps ++ p ∷ [] = ap (λ (m : ℕ). take m ps) back ∙ take-suc ps (n - 1) 0 (omega (arith, s.within)) in
      ap last_in (having_front ∙ ap (having key k) t ∙ having_append key k (take (n - 1) ps) (p ∷ [])
      ∙ ap (λ (l : List ℕ). having key k (take (n - 1) ps) ++ l) (having_one key k p e))
      ∙ last_one (having key k (take (n - 1) ps)) p
    where
      back : n ≡ suc (n - 1)
      back = omega arith

-- ---- the last before it

pub ends_none : (key : ℕ → List ℕ) (k ps : List ℕ) (n : ℕ) → n ≡ 0 → EndsWith key k ps n false
ends_none key k ps n e = record { there = λ h. absurd (true_not_false (sym h)); absent = λ h l. absurd (omega arith) }

pub ends_one : (key : ℕ → List ℕ) (k ps : List ℕ) (n at : ℕ) (last : List ℕ) (t : Bool) → (n ≡ 0 → ⊥) → at ≡ get_or ps (n - 1) 0 → last ≡ key at
    → t ≡ is_below last k → EndsWith key k ps n (not t)
ends_one key k ps n at last t d place own told =
    let e : is_below (key (get_or ps (n - 1) 0)) k ≡ t = ap (λ (x : ℕ). is_below (key x) k) (sym place) ∙ ap (λ (x : List ℕ). is_below x k) (sym own) ∙ sym told in
    record {
      there = λ h. (omega arith, e ∙ not-true t h);
      absent = λ h l. e ∙ not-false t h;
    }

module _ (key : ℕ → List ℕ) (k ps : List ℕ) (n : ℕ) (s : Split key k ps n) (r : Bool) (e : EndsWith key k ps n r) where
  pub looked_none : Rises key ps → r ≡ false → place_meaning None ≡ last_having key k ps
  unfolding place_meaning
  looked_none rises f = sym (found_none key k ps n s rises (e.absent f))

  pub looked_one : (at : ℕ) → r ≡ true → at ≡ get_or ps (n - 1) 0 → place_meaning (Some at) ≡ last_having key k ps
  unfolding place_meaning
  looked_one at t place = ap some place ∙ sym (found_last key k ps n s (e.there t).0 (e.there t).1)
