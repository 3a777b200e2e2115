-- A place put among sorted ones, behind those whose key does not come after its own: they stay sorted, and it is the last of those with its key.
-- Assumes nothing.
use mathlib.Core.Path.{◌≡◌, sym, ap, ap₂, subst, ◌∙◌}
use Prim.Native.Nat.{ℕ, suc, ◌+◌, ◌-◌, ◌≤◌, ◌<◌}
use mathlib.Core.List.{List, [], ◌∷◌, ◌++◌, append_assoc, append-nil}
use mathlib.Core.Bool.{true}
use native.Mathlib.Omega.{arith}
use lib.ListN.{length, take, drop, get_or, set, length-append, length-drop, take-append-drop, get_or-append}
use lib.Seq.{get_or-take, get_or-drop, get_or_at, set_at, take-suc, get_or-append-add, length-take-le, take-take, take_at, drop_at}
use Rattle.facts.proofs.Orders.{by_order}
use Rattle.journal_spec.specs.Index.{equal, order_of}
use Rattle.journal_spec.specs.Append.{written}
use Rattle.journal_spec.proofs.Reading.{drop_take}
use Rattle.journal_spec.proofs.NameOrder.{order_equal}
use Rattle.journal_entries.specs.Shape.{is_below}
use Rattle.journal_entries.proofs.Opening.{copied_written}
use Rattle.std.specs.List.{copy_within}
use Rattle.journal_order.specs.Sorted.{having, Climbs, Split, insert_at, Inserted}
use Rattle.journal_order.proofs.Below.{by_three}
use Rattle.journal_order.proofs.Having.{having_append, having_not}
use Rattle.journal_order.proofs.Searching.{none_above}

-- ---- where each place stands then

module _ (n p : ℕ) (ps : List ℕ) (h : n ≤ length ps) where
  pub insert_length : length (insert_at n p ps) ≡ suc (length ps)
  unfolding insert_at
  insert_length =
      length-append (take n ps) (p ∷ drop n ps) ∙ omega (arith, length-take-le n ps h, length-drop n ps)

  pub insert_before : (i : ℕ) → i < n → get_or (insert_at n p ps) i 0 ≡ get_or ps i 0
  unfolding insert_at
  insert_before i l =
      get_or-append (take n ps) (p ∷ drop n ps) 0 i (omega (arith, length-take-le n ps h)) ∙ get_or-take n ps i 0 l

  pub insert_here : get_or (insert_at n p ps) n 0 ≡ p
  unfolding insert_at
  insert_here = get_or_at (take n ps) p (drop n ps) 0 n (length-take-le n ps h)

  pub insert_behind : (i : ℕ) → n ≤ i → get_or (insert_at n p ps) (suc i) 0 ≡ get_or ps i 0
  unfolding insert_at
  insert_behind i l =
      let e : suc i ≡ length (take n ps) + suc (i - n) = omega (arith, length-take-le n ps h) in
      let d : n + (i - n) ≡ i = omega arith in
      ap (λ (j : ℕ). get_or (take n ps ++ p ∷ drop n ps) j 0) e
      ∙ get_or-append-add (take n ps) (p ∷ drop n ps) (suc (i - n)) 0
      ∙ get_or-drop n ps (i - n) 0
      ∙ ap (λ (j : ℕ). get_or ps j 0) d

-- ---- sorted as before

-- a position before the new one, its own, or behind it
by_position {ℓ} : {X : Type ℓ} (n i : ℕ) → (i < n → X) → (i ≡ n → X) → ((j : ℕ) → i ≡ suc j → n ≤ j → X) → X
by_position n i f g k = by_order n i (λ h. by_order i n (λ l. g (omega arith)) (λ l. k (i - 1) (omega arith) (omega arith))) f

module _ (key : ℕ → List ℕ) (n p : ℕ) (ps : List ℕ) (s : Split key (key p) ps n) where
  -- the keys at two positions
  at_positions : (Holds : List ℕ → List ℕ → Type 0)
      → ((i j : ℕ) → i < j → j < length ps → Holds (key (get_or ps i 0)) (key (get_or ps j 0)))
      → ((i : ℕ) → i < n → Holds (key (get_or ps i 0)) (key p))
      → ((i : ℕ) → n ≤ i → i < length ps → Holds (key p) (key (get_or ps i 0)))
      → (i j : ℕ) → i < j → j < suc (length ps)
      → Holds (key (get_or (insert_at n p ps) i 0)) (key (get_or (insert_at n p ps) j 0))
  at_positions Holds both before behind i j l m =
      by_position n j
      (λ a. subst₂' (sym (was i (omega arith))) (sym (was j a)) (both i j l (omega (arith, s.within))))
      (λ e. subst₂' (sym (was i (omega arith))) (sym (new j e)) (before i (omega arith)))
      (λ j' e b. by_position n i
      (λ a. subst₂' (sym (was i a)) (sym (moved j j' e b)) (both i j' (omega arith) (omega arith)))
      (λ d. subst₂' (sym (new i d)) (sym (moved j j' e b)) (behind j' b (omega arith)))
      (λ i' d c. subst₂' (sym (moved i i' d c)) (sym (moved j j' e b)) (both i' j' (omega arith) (omega arith))))
    where
      was : (i : ℕ) → i < n → get_or (insert_at n p ps) i 0 ≡ get_or ps i 0
      was i a = insert_before n p ps s.within i a

      new : (i : ℕ) → i ≡ n → get_or (insert_at n p ps) i 0 ≡ p
      new i e = ap (λ (x : ℕ). get_or (insert_at n p ps) x 0) e ∙ insert_here n p ps s.within

      moved : (i j : ℕ) → i ≡ suc j → n ≤ j → get_or (insert_at n p ps) i 0 ≡ get_or ps j 0
      moved i j e b = ap (λ (x : ℕ). get_or (insert_at n p ps) x 0) e ∙ insert_behind n p ps s.within j b

      subst₂' : {a b c d : ℕ} → a ≡ b → c ≡ d → Holds (key a) (key c) → Holds (key b) (key d)
      subst₂' {a} {b} {c} {d} e f h =
          subst (λ (x : ℕ). Holds (key b) (key x)) f (subst (λ (x : ℕ). Holds (key x) (key c)) e h)

  -- they rise strictly, where the one before it has another key
  pub insert_climbs : Climbs key ps → ((i : ℕ) → i < n → is_below (key (get_or ps i 0)) (key p) ≡ true) → Climbs key (insert_at n p ps)
  insert_climbs r f = record {
    climbing = λ i j l m. at_positions (λ a b. is_below a b ≡ true) r.climbing f s.above i j l (omega (arith, insert_length n p ps s.within));
  }

  -- ---- the places of each key

  -- where it has the key none of those behind it does
  moves_back : (k : List ℕ) → having key k (p ∷ drop n ps) ≡ having key k (drop n ps) ++ having key k (p ∷ [])
  moves_back k =
      by_three (order_of k (key p))
      (λ e. other (λ d. let z : ◌≡◌ {A = ℕ} 0 1 = cc in omega arith))
      own
      (λ e. other (λ d. let z : ◌≡◌ {A = ℕ} 0 1 = cc in omega arith))
    where
      ahead : having key k (p ∷ drop n ps) ≡ having key k (p ∷ []) ++ having key k (drop n ps)
      ahead = having_append key k (p ∷ []) (drop n ps)

      other : (order_of k (key p) ≡ equal → ⊥) → having key k (p ∷ drop n ps) ≡ having key k (drop n ps) ++ having key k (p ∷ [])
      other d =
          ahead ∙ ap (λ (l : List ℕ). l ++ having key k (drop n ps)) (having_not key k p d)
          ∙ sym (append-nil (having key k (drop n ps)))
          ∙ ap (λ (l : List ℕ). having key k (drop n ps) ++ l) (sym (having_not key k p d))

      own : order_of k (key p) ≡ equal → having key k (p ∷ drop n ps) ≡ having key k (drop n ps) ++ having key k (p ∷ [])
      own e =
          let none : having key k (drop n ps) ≡ [] = subst (λ (x : List ℕ). having key x (drop n ps) ≡ []) (sym (order_equal k (key p) e))
          (none_above key (key p) ps n s) in
          ahead ∙ ap (λ (l : List ℕ). having key k (p ∷ []) ++ l) none
          ∙ append-nil (having key k (p ∷ []))
          ∙ ap (λ (l : List ℕ). l ++ having key k (p ∷ [])) (sym none)

  -- it is the last of those with its key
  pub insert_having : (k : List ℕ) → having key k (insert_at n p ps) ≡ having key k (ps ++ p ∷ [])
  unfolding insert_at
  insert_having k =
      having_append key k (take n ps) (p ∷ drop n ps)
      ∙ ap (λ (l : List ℕ). having key k (take n ps) ++ l) (moves_back k)
      ∙ sym (append_assoc (having key k (take n ps)) (having key k (drop n ps)) (having key k (p ∷ [])))
      ∙ ap (λ (l : List ℕ). l ++ having key k (p ∷ [])) (sym (having_append key k (take n ps) (drop n ps)))
      ∙ ap (λ (l : List ℕ). having key k l ++ having key k (p ∷ [])) (take-append-drop n ps)
      ∙ sym (having_append key k ps (p ∷ []))

-- ---- in an array

-- a place before what is written
set_before : (d : List ℕ) (at x : ℕ) (xs : List ℕ) → at + 1 + length xs ≤ length d → set (written d (at + 1) xs) at x ≡ written d at (x ∷ xs)
unfolding written
set_before d at x xs h =
    let t : take (at + 1) d ≡ take at d ++ get_or d at 0 ∷ [] = ap (λ (k : ℕ). take k d) next ∙ take-suc d at 0 (omega arith) in
    let rest : List ℕ = drop (at + 1 + length xs) d in
    let e : at + 1 + length xs ≡ at + suc (length xs) = omega arith in
    let whole : take (at + 1) d ++ (xs ++ rest) ≡ take at d ++ get_or d at 0 ∷ (xs ++ rest) =
    ap (λ (l : List ℕ). l ++ (xs ++ rest)) t ∙ append_assoc (take at d) (get_or d at 0 ∷ []) (xs ++ rest) in
    ap (λ (l : List ℕ). set l at x) whole
    ∙ set_at (take at d) (get_or d at 0) (xs ++ rest) x at (length-take-le at d (omega arith))
    ∙ ap (λ (k : ℕ). take at d ++ x ∷ (xs ++ drop k d)) e
  where
    next : at + 1 ≡ suc at
    next = omega arith

module _ (before after : List ℕ) (n i p : ℕ) (order : n ≤ i) (room : i < length before) (copied : after ≡ copy_within before n i (n + 1)) where
  moved : after ≡ written before (n + 1) (take (i - n) (drop n before))
  moved = copied ∙ copied_written before n i (n + 1) order (omega arith)

  part_length : length (take (i - n) (drop n before)) ≡ i - n
  part_length = length-take-le (i - n) (drop n before) (rw length-drop (omega arith))

  front : List ℕ
  front = take n before ++ p ∷ take (i - n) (drop n before)

  front_length : length front ≡ i + 1
  unfolding front
  front_length =
      length-append (take n before) (p ∷ take (i - n) (drop n before)) ∙ omega (arith, length-take-le n before (omega arith), part_length)

  parts : set after n p ≡ front ++ drop (i + 1) before
  unfolding written front
  parts =
      let d : n + suc (length (take (i - n) (drop n before))) ≡ i + 1 = omega (arith, part_length) in
      ap (λ (l : List ℕ). set l n p) moved
      ∙ set_before before n p (take (i - n) (drop n before)) (omega (arith, part_length))
      ∙ ap (λ (x : ℕ). take n before ++ (p ∷ take (i - n) (drop n before) ++ drop x before)) d
      ∙ sym (append_assoc (take n before) (p ∷ take (i - n) (drop n before)) (drop (i + 1) before))

  front_is : front ≡ insert_at n p (take i before)
  unfolding front insert_at
  front_is =
      ap₂ (λ (a b : List ℕ). a ++ p ∷ b) (sym (take-take n i before order)) (sym (drop_take n i before (omega arith) order))

  pub inserted : Inserted n i p before (set after n p)
  inserted = record {
    front = ap (take (i + 1)) parts ∙ take_at front (drop (i + 1) before) (i + 1) front_length ∙ front_is;
    back = ap (drop (i + 1)) parts ∙ drop_at front (drop (i + 1) before) (i + 1) front_length;
    long = ap length parts ∙ length-append front (drop (i + 1) before) ∙ omega (arith, front_length, length-drop (i + 1) before);
  }
