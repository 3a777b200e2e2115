-- A place entered among the last ones of each key: in its key's position, or in place of the one that has its key.
-- Assumes nothing.
use mathlib.Core.Path.{◌≡◌, refl, sym, ap, subst, ◌∙◌}
use Prim.Native.Nat.{ℕ, suc, ◌+◌, ◌-◌, ◌≤◌, ◌<◌}
use mathlib.Core.List.{List, [], ◌∷◌, ◌++◌, append-nil}
use mathlib.Core.Bool.{Bool, true, false}
use native.Mathlib.Omega.{arith}
use lib.ListN.{length, take, drop, get_or, set, length-set}
use lib.Seq.{get_or-set_same, get_or-set_other, set_split, split_at, take-set-lt, length-take-le, get_or-take}
use Rattle.facts.proofs.Orders.{by_order}
use Rattle.journal_spec.specs.Index.{equal, order_of}
use Rattle.journal_spec.proofs.NameOrder.{order_equal}
use Rattle.journal_entries.specs.Shape.{is_below}
use Rattle.journal_order.specs.Sorted.{having, last_in, last_having, Rises, Climbs, LatestOf, Split, EndsWith, insert_at, Inserted}
use Rattle.journal_order.proofs.Below.{by_three, below_turned, neither_below}
use Rattle.journal_order.proofs.Having.{having_append, having_one, having_not, last_append, last_one}
use Rattle.journal_order.proofs.Searching.{none_above, all_lower}
use Rattle.journal_order.proofs.Inserting.{insert_climbs, insert_having}

-- what climbs rises
pub climbs_rises : (key : ℕ → List ℕ) (ps : List ℕ) → Climbs key ps → Rises key ps
climbs_rises key ps c = record { rising = λ i j l m. below_turned (key (get_or ps i 0)) (key (get_or ps j 0)) (c.climbing i j l m) }

-- ---- a new key

module _ (key : ℕ → List ℕ) (ps : List ℕ) (n p : ℕ) (climbs : Climbs key ps) (s : Split key (key p) ps n) where
  pub enter_new : (0 < n → is_below (key (get_or ps (n - 1) 0)) (key p) ≡ true) → LatestOf key (ps ++ p ∷ []) (insert_at n p ps)
  unfolding last_having
  enter_new t = record {
    climbs = insert_climbs key n p ps s climbs (all_lower key (key p) ps n s (climbs_rises key ps climbs) t);
    last = λ k. ap last_in (insert_having key n p ps s k);
  }

  -- ---- a key that is there

  pub enter_own : 0 < n → is_below (key (get_or ps (n - 1) 0)) (key p) ≡ false → LatestOf key (ps ++ p ∷ []) (set ps (n - 1) p)
  unfolding last_having
  enter_own h f = record { climbs = record { climbing = still }; last = λ k. last_there k }
    where
      old : ℕ
      old = get_or ps (n - 1) 0

      same_key : key p ≡ key (get_or ps (n - 1) 0)
      same_key = neither_below (key p) (key (get_or ps (n - 1) 0)) (s.upto (n - 1) (omega arith)) f

      inside : n - 1 < length ps
      inside = omega (arith, s.within)

      key_at_lem : (i : ℕ) → key (get_or (set ps (n - 1) p) i 0) ≡ key (get_or ps i 0)
      key_at_lem i = by_order i (n - 1)
          (λ a. by_order (n - 1) i (λ b. there (omega arith)) (λ b. ap key (get_or-set_other ps (n - 1) i p 0 (λ e. omega arith))))
          (λ a. ap key (get_or-set_other ps (n - 1) i p 0 (λ e. omega arith)))
        where
          there : i ≡ n - 1 → key (get_or (set ps (n - 1) p) i 0) ≡ key (get_or ps i 0)
          there e =
              ap (λ (j : ℕ). key (get_or (set ps (n - 1) p) j 0)) e ∙ ap key (get_or-set_same ps (n - 1) p 0 inside)
              ∙ same_key ∙ ap (λ (j : ℕ). key (get_or ps j 0)) (sym e)

      still : (i j : ℕ) → i < j → j < length (set ps (n - 1) p) → is_below (key (get_or (set ps (n - 1) p) i 0)) (key (get_or (set ps (n - 1) p) j 0)) ≡ true
      still i j l m = rw (key_at_lem i, key_at_lem j) (climbs.climbing i j l (omega (arith, length-set ps (n - 1) p)))

      back : suc (n - 1) ≡ n
      back = omega arith

      parts : (k : List ℕ) (q : ℕ) → having key k (take (n - 1) ps ++ q ∷ drop (suc (n - 1)) ps)
          ≡ having key k (take (n - 1) ps) ++ (having key k (q ∷ []) ++ having key k (drop n ps))
      parts k q =
          ap (λ (m : ℕ). having key k (take (n - 1) ps ++ q ∷ drop m ps)) back
          ∙ having_append key k (take (n - 1) ps) (q ∷ drop n ps)
          ∙ ap (λ (l : List ℕ). having key k (take (n - 1) ps) ++ l) (having_append key k (q ∷ []) (drop n ps))

      now_parts : (k : List ℕ) → having key k (set ps (n - 1) p)
          ≡ having key k (take (n - 1) ps) ++ (having key k (p ∷ []) ++ having key k (drop n ps))
      now_parts k = ap (having key k) (set_split ps (n - 1) p inside) ∙ parts k p

      other : (k : List ℕ) → (order_of k (key p) ≡ equal → ⊥) → last_in (having key k (set ps (n - 1) p)) ≡ last_in (having key k (ps ++ p ∷ []))
      other k d =
          let d' : order_of k (key (get_or ps (n - 1) 0)) ≡ equal → ⊥ = λ e. d (ap (order_of k) same_key ∙ e) in
          let e : having key k (p ∷ []) ≡ having key k (get_or ps (n - 1) 0 ∷ []) = having_not key k p d ∙ sym (having_not key k (get_or ps (n - 1) 0) d') in
          ap last_in (now_parts k
          ∙ ap (λ (l : List ℕ). having key k (take (n - 1) ps) ++ (l ++ having key k (drop n ps))) e
          ∙ sym (parts k (get_or ps (n - 1) 0))
          ∙ ap (having key k) (sym (split_at ps (n - 1) 0 inside))
          ∙ sym (append-nil (having key k ps))
          ∙ ap (λ (l : List ℕ). having key k ps ++ l) (sym (having_not key k p d))
          ∙ sym (having_append key k ps (p ∷ [])))

      own : (k : List ℕ) → order_of k (key p) ≡ equal → last_in (having key k (set ps (n - 1) p)) ≡ last_in (having key k (ps ++ p ∷ []))
      own k e =
          let none : having key k (drop n ps) ≡ [] = subst (λ (x : List ℕ). having key x (drop n ps) ≡ []) (sym (order_equal k (key p) e))
          (none_above key (key p) ps n s) in
          let one : having key k (p ∷ []) ≡ p ∷ [] = having_one key k p e in
          ap last_in (now_parts k
          ∙ ap (λ (l : List ℕ). having key k (take (n - 1) ps) ++ (having key k (p ∷ []) ++ l)) none
          ∙ ap (λ (l : List ℕ). having key k (take (n - 1) ps) ++ (l ++ [])) one)
          ∙ last_one (having key k (take (n - 1) ps)) p
          ∙ sym (ap last_in (having_append key k ps (p ∷ []) ∙ ap (λ (l : List ℕ). having key k ps ++ l) one) ∙ last_one (having key k ps) p)

      last_there : (k : List ℕ) → last_in (having key k (set ps (n - 1) p)) ≡ last_in (having key k (ps ++ p ∷ []))
      last_there k =
          by_three (order_of k (key p))
          (λ e. other k (λ d. let z : ◌≡◌ {A = ℕ} 0 1 = cc in omega arith))
          (own k)
          (λ e. other k (λ d. let z : ◌≡◌ {A = ℕ} 0 1 = cc in omega arith))

-- ---- in an array

module _ (key : ℕ → List ℕ) (before : List ℕ) (count n p : ℕ) (k : List ℕ) (inside : count < length before) (own : k ≡ key p)
    (climbs : Climbs key (take count before)) (s : Split key k (take count before) n) (r : Bool) (e : EndsWith key k before n r) where
  split : Split key (key p) (take count before) n
  split = subst (λ (x : List ℕ). Split key x (take count before) n) own s

  pub entered_within : n ≤ count
  entered_within = omega (arith, s.within, length-take-le count before (omega arith))

  -- the last before it
  last_key : 0 < n → get_or (take count before) (n - 1) 0 ≡ get_or before (n - 1) 0
  last_key h = get_or-take count before (n - 1) 0 (omega (arith, entered_within))

  pub entered_own : r ≡ true → LatestOf key (take count before ++ p ∷ []) (take count (set before (n - 1) p))
  entered_own t =
      let h : 0 < n = (e.there t).0 in
      let f : is_below (key (get_or (take count before) (n - 1) 0)) (key p) ≡ false =
      ap (λ (x : ℕ). is_below (key x) (key p)) (last_key h) ∙ ap (is_below (key (get_or before (n - 1) 0))) (sym own) ∙ (e.there t).1 in
      rw (take-set-lt count before (n - 1) p (omega (arith, entered_within))) (enter_own key (take count before) n p climbs split h f)

  pub entered_new : r ≡ false → (after : List ℕ) → Inserted n count p before after → LatestOf key (take count before ++ p ∷ []) (take (count + 1) after)
  entered_new f after put = rw put.front (enter_new key (take count before) n p climbs split lower_last)
    where
      lower_last : 0 < n → is_below (key (get_or (take count before) (n - 1) 0)) (key p) ≡ true
      lower_last h =
          ap (λ (x : ℕ). is_below (key x) (key p)) (last_key h) ∙ ap (is_below (key (get_or before (n - 1) 0))) (sym own) ∙ e.absent f h

-- ---- one after the other

pub latest_none : (key : ℕ → List ℕ) → LatestOf key [] []
latest_none key = record { climbs = record { climbing = λ i j l m. absurd (omega arith) }; last = λ k. refl }

-- of some places, and then of one more
pub latest_more : (key : ℕ → List ℕ) (before ps after : List ℕ) (p : ℕ) → LatestOf key before ps → LatestOf key (ps ++ p ∷ []) after
    → LatestOf key (before ++ p ∷ []) after
unfolding last_having
latest_more key before ps after p a b = record {
  climbs = b.climbs;
  last = λ k.
      b.last k ∙ ap last_in (having_append key k ps (p ∷ []))
      ∙ last_append (having key k ps) (having key k before) (having key k (p ∷ [])) (a.last k)
      ∙ ap last_in (sym (having_append key k before (p ∷ [])));
}
