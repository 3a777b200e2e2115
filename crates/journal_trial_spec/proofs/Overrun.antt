-- The lowest chance that was overrun: it is one of the chances, it was overrun, no lower one was, and none is reported exactly if none was.
-- The test in whole numbers, without a product that a u64 cannot hold. Assumes nothing.
use mathlib.Core.Path.{◌≡◌, refl, sym, ap, ◌∙◌}
use mathlib.Core.Logic.{◌↔◌}
use Prim.Native.Nat.{ℕ, zero, suc, ◌+◌, ◌-◌, ◌*◌, ◌/◌, ◌%◌, ◌≤◌, ◌<◌}
use mathlib.Core.List.{List, [], ◌∷◌}
use mathlib.Core.Bool.{Bool, true, false, cond}
use native.Mathlib.Omega.{arith}
use native.Mathlib.Nat.{mul-add, mul_assoc, mul-le-mul, le_refl}
use lib.ListN.{length, get_or}
use lib.Dec.{ltb}
use borrow.Author.Tests.{ltb-true, lt-ltb, le-ltb}
use Rattle.facts.proofs.Tests.{true_not_false}
use Rattle.facts.proofs.Orders.{by_order}
use Rattle.journal_trial_spec.specs.Trial.{million, overruns, no_chance, chance, lowest_of}

-- ---- the test

-- a chance was overrun exactly where overs × 1,000,000 exceed chance × links
pub overruns_exactly : (links c o : ℕ) → (overruns links c o ≡ true) ↔ (c * links < o * 1_000_000)
unfolding overruns
overruns_exactly links c o = (ltb-true (c * links) (o * million), lt-ltb (c * links) (o * million))

-- ---- the lowest chance

-- the i-th chance was overrun
abbrev pub OverrunAt : ℕ → List ℕ → List ℕ → ℕ → Type 0
OverrunAt links chances overs i = overruns links (get_or chances i 0) (get_or overs i 0) ≡ true

-- the chance c is the i-th, it was overrun, and none before it was
pub record FirstOverrun (links : ℕ) (chances overs : List ℕ) (c : ℕ) : Type 0 where
  pub at : ℕ
  pub inside : at < length chances
  pub is : get_or chances at 0 ≡ c
  pub overrun : OverrunAt links chances overs at
  pub before : (j : ℕ) → j < at → OverrunAt links chances overs j → ⊥

none_not_chance : {c : ℕ} → no_chance ≡ chance c → ⊥
none_not_chance h = let z : ◌≡◌ {A = ℕ} 0 1 = cc in omega arith

chance_same : {c d : ℕ} → chance c ≡ chance d → c ≡ d
chance_same h = cc

pub lowest_first : (links : ℕ) (chances overs : List ℕ) (c : ℕ) → length overs ≡ length chances → lowest_of links chances overs ≡ chance c
    → FirstOverrun links chances overs c
unfolding lowest_of
lowest_first links [] overs c n h = absurd (none_not_chance h)
lowest_first links (d ∷ ds) [] c n h = absurd (omega arith)
lowest_first links (d ∷ ds) (o ∷ os) c n h = go (lowest_first links ds os c (omega arith)) (overruns links d o) refl h
  where
    shifted : overruns links d o ≡ false → (f : FirstOverrun links ds os c) → (j : ℕ) → j < suc f.at → OverrunAt links (d ∷ ds) (o ∷ os) j → ⊥
    shifted e f zero k x = true_not_false (sym x ∙ e)
    shifted e f (suc j) k x = f.before j (omega arith) x

    go : (lowest_of links ds os ≡ chance c → FirstOverrun links ds os c) → (b : Bool) → overruns links d o ≡ b
        → cond b (chance d) (lowest_of links ds os) ≡ chance c → FirstOverrun links (d ∷ ds) (o ∷ os) c
    go later true e h = record { at = 0; inside = omega arith; is = chance_same h; overrun = e; before = λ j k x. omega arith }
    go later false e h =
        let f = later h in
        record { at = suc f.at; inside = omega (arith, f.inside); is = f.is; overrun = f.overrun; before = shifted e f }

none_to : (links : ℕ) (chances overs : List ℕ) → length overs ≡ length chances → lowest_of links chances overs ≡ no_chance
    → (i : ℕ) → i < length chances → overruns links (get_or chances i 0) (get_or overs i 0) ≡ false
unfolding lowest_of
none_to links [] overs n h i k = absurd (omega arith)
none_to links (d ∷ ds) [] n h i k = absurd (omega arith)
none_to links (d ∷ ds) (o ∷ os) n h i k = go (none_to links ds os (omega arith)) (overruns links d o) refl h i k
  where
    go : (lowest_of links ds os ≡ no_chance → (i : ℕ) → i < length ds → overruns links (get_or ds i 0) (get_or os i 0) ≡ false)
        → (b : Bool) → overruns links d o ≡ b → cond b (chance d) (lowest_of links ds os) ≡ no_chance
        → (i : ℕ) → i < suc (length ds) → overruns links (get_or (d ∷ ds) i 0) (get_or (o ∷ os) i 0) ≡ false
    go later true e h i k = absurd (none_not_chance (sym h))
    go later false e h zero k = e
    go later false e h (suc i) k = later h i (omega arith)

none_back : (links : ℕ) (chances overs : List ℕ) → length overs ≡ length chances
    → ((i : ℕ) → i < length chances → overruns links (get_or chances i 0) (get_or overs i 0) ≡ false) → lowest_of links chances overs ≡ no_chance
unfolding lowest_of
none_back links [] overs n h = refl
none_back links (d ∷ ds) [] n h = refl
none_back links (d ∷ ds) (o ∷ os) n h = rw (h 0 (omega arith)) (none_back links ds os (omega arith) (λ i k. h (suc i) (omega arith)))

-- none is reported exactly if no chance was overrun
pub none_overrun : (links : ℕ) (chances overs : List ℕ) → length overs ≡ length chances
    → (lowest_of links chances overs ≡ no_chance) ↔ ((i : ℕ) → i < length chances → overruns links (get_or chances i 0) (get_or overs i 0) ≡ false)
none_overrun links chances overs n = (none_to links chances overs n, none_back links chances overs n)

-- chances that rise: the i-th is at most each later one
rising_at : (chances : List ℕ) → ((i : ℕ) → suc i < length chances → get_or chances i 0 < get_or chances (suc i) 0)
    → (i d : ℕ) → i + d < length chances → get_or chances i 0 ≤ get_or chances (i + d) 0
rising_at chances r i zero k = let z : i + 0 ≡ i = omega arith in rw z (omega arith)
rising_at chances r i (suc d) k =
    let z : i + suc d ≡ suc (i + d) = omega arith in
    rw z (omega (arith, rising_at chances r i d (omega arith), r (i + d) (omega arith)))

-- so that the chance reported is the lowest that was overrun
pub lowest_least : (links : ℕ) (chances overs : List ℕ) (c : ℕ) → length overs ≡ length chances
    → ((i : ℕ) → suc i < length chances → get_or chances i 0 < get_or chances (suc i) 0)
    → lowest_of links chances overs ≡ chance c → (j : ℕ) → j < length chances → OverrunAt links chances overs j → c ≤ get_or chances j 0
lowest_least links chances overs c n r h j k x =
    let f = lowest_first links chances overs c n h in
    by_order f.at j
    (λ l.
    let z : f.at + (j - f.at) ≡ j = omega arith in
    omega (arith, f.is, rw z at (rising_at chances r f.at (j - f.at) (omega arith))))
    (λ l. absurd (f.before j l x))

-- ---- the test without large products

-- chance × links, by the millions in links
product : (links c : ℕ) → c * links ≡ c * (links / million) * million + c * (links % million)
product links c =
    let e : links ≡ links / million * million + links % million = omega arith in
    ap (λ (n : ℕ). c * n) e ∙ mul-add c (links / million * million) (links % million)
    ∙ ap (λ (n : ℕ). n + c * (links % million)) (sym (mul_assoc c (links / million) million))

-- overs × 1,000,000 > chance × links exactly where this sum is below the overs
pub overruns_by_parts : (links c o : ℕ) → overruns links c o ≡ ltb (c * (links / million) + c * (links % million) / million) o
unfolding overruns
overruns_by_parts links c o =
    let p = product links c in
    by_order o (c * (links / million) + c * (links % million) / million)
    (λ h. le-ltb (c * links) (o * million) (omega (arith, p)) ∙ sym (le-ltb (c * (links / million) + c * (links % million) / million) o h))
    (λ h. lt-ltb (c * links) (o * million) (omega (arith, p)) ∙ sym (lt-ltb (c * (links / million) + c * (links % million) / million) o h))

-- and the sum is at most the links, its second product below 10 ^ 12
pub parts_small : (links c : ℕ) → c ≤ million → (c * (links / million) + c * (links % million) / million ≤ links) × (c * (links % million) ≤ million * million)
parts_small links c h =
    let p = product links c in
    let k : c * links ≤ million * links = mul-le-mul h (le_refl links) in
    let l : c * (links % million) ≤ million * million = mul-le-mul {m₂ = million} h (omega arith) in
    (omega (arith, p, k), l)
