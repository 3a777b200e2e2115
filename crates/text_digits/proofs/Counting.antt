-- Laws of the number of decimal digits: it is the fewest that hold the number, and what the loop that counts keeps.
-- Assumes nothing.
use Prim.Native.Nat.{ℕ, zero, suc, ◌+◌, ◌*◌, ◌/◌, ◌^◌, ◌≤◌, ◌<◌}
use mathlib.Core.Path.{◌≡◌, refl, sym, ◌∙◌}
use native.Mathlib.Nat.{pow-suc, pow-le-pow_right}
use native.Mathlib.Omega.{arith}
use borrow.Author.Tests.{lt-ltb, le-ltb}
use lib.ListN.{length}
use Rattle.facts.proofs.Orders.{by_order}
use Rattle.text_digits.specs.Hex.{or_more, places_in, places_of, decimal_digits}
use Rattle.text_digits.proofs.Writing.{length_digits}

-- a number below the base has one digit, whatever bound is given
pub places_one : (b most n : ℕ) → n < b → places_in b most n ≡ 1
unfolding places_in or_more
places_one b zero n h = refl
places_one b (suc most) n h = rw (lt-ltb n b h)

-- a turn that counts
pub places_turn : (b most n : ℕ) → b ≤ n → places_in b (suc most) n ≡ suc (places_in b most (n / b))
unfolding places_in or_more
places_turn b most n h = rw (le-ltb n b h)

-- so many digits hold the number
pub places_hold : (most n : ℕ) → n ≤ most → n < 10 ^ places_in 10 most n
places_hold zero n h = rw (places_one 10 zero n (omega arith)) (omega arith)
places_hold (suc most) n h =
    by_order 10 n
    (λ a.
    let held = places_hold most (n / 10) (omega arith) in
    let power = pow-suc 10 (places_in 10 most (n / 10)) in
    rw (places_turn 10 most n a) (omega arith))
    (λ a. rw (places_one 10 (suc most) n a) (omega arith))

-- and one fewer do not, but for 0, which has a digit too
pub places_least : (most n : ℕ) → n ≤ most → 0 < n → (p : ℕ) → places_in 10 most n ≡ suc p → 10 ^ p ≤ n
places_least zero n h l p e = absurd (omega arith)
places_least (suc most) n h l p e =
    by_order 10 n
    (λ a. below a (places_least most (n / 10) (omega arith) (omega arith)) (places_in 10 most (n / 10)) refl (sym (places_turn 10 most n a) ∙ e))
    (λ a. let one = places_one 10 (suc most) n a in let none : p ≡ 0 = omega arith in rw none (omega arith))
  where
    below : 10 ≤ n → ((q : ℕ) → places_in 10 most (n / 10) ≡ suc q → 10 ^ q ≤ n / 10)
        → (q : ℕ) → places_in 10 most (n / 10) ≡ q → suc (places_in 10 most (n / 10)) ≡ suc p → 10 ^ p ≤ n
    below a rest zero t w = let none : p ≡ 0 = omega arith in rw none (omega arith)
    below a rest (suc q) t w =
        let held = rest q t in
        let power = pow-suc 10 q in
        let more : p ≡ suc q = omega arith in
        rw more (omega arith)

-- a number below 10^k has at most k digits
places_most : (k n : ℕ) → 0 < k → n < 10 ^ k → places_of n ≤ k
unfolding places_of
places_most k n pos h = go (places_in 10 n n) refl
  where
    go : (d : ℕ) → places_in 10 n n ≡ d → places_in 10 n n ≤ k
    go zero e = omega arith
    go (suc d) e =
        by_order (suc d) k
        (λ few. omega arith)
        (λ many.
        by_order 1 n
        (λ some.
        let least : 10 ^ d ≤ n = places_least n n (omega arith) (omega arith) d e in
        let power : 10 ^ k ≤ 10 ^ d = pow-le-pow_right {n = 10} (omega arith) (omega arith) in
        absurd (omega arith))
        (λ none. omega (arith, places_one 10 n n (omega arith))))

pub decimal_most : (k n : ℕ) → 0 < k → n < 10 ^ k → length (decimal_digits n) ≤ k
unfolding decimal_digits
decimal_most k n pos h = omega (arith, length_digits 10 (places_of n) n, places_most k n pos h)

-- what the loop that counts keeps: the count so far with the places of the rest is one too many, and the rest fits the
-- places that are left of twenty
pub record Counting (n count rest : ℕ) : Type 0 where
  pub most : ℕ
  pub spare : ℕ
  pub bounded : rest ≤ most
  pub told : places_of n + 1 ≡ count + places_in 10 most rest
  pub sum : count + spare ≡ 20
  pub size : rest < 10 ^ suc spare

pub counting_starts : (n : ℕ) → n < 2 ^ 64 → Counting n 1 n
unfolding places_of
counting_starts n h =
    record { most = n; spare = 19; bounded = omega arith; told = omega arith; sum = refl; size = omega arith }

pub counting_turn : (n count rest : ℕ) → 10 ≤ rest → Counting n count rest → Counting n (count + 1) (rest / 10)
counting_turn n count rest h k = go k.most k.spare k.bounded k.told k.sum k.size
  where
    go : (most spare : ℕ) → rest ≤ most → places_of n + 1 ≡ count + places_in 10 most rest → count + spare ≡ 20
        → rest < 10 ^ suc spare → Counting n (count + 1) (rest / 10)
    go zero spare b t s z = absurd (omega arith)
    go (suc most) zero b t s z = absurd (omega arith)
    go (suc most) (suc spare) b t s z =
        let power : 10 ^ suc (suc spare) ≡ 10 ^ suc spare * 10 = pow-suc 10 (suc spare) in
        record {
          most = most;
          spare = spare;
          bounded = omega arith;
          told = t ∙ rw (places_turn 10 most rest h) (omega arith);
          sum = omega arith;
          size = omega arith;
        }

pub counting_ends : (n count rest : ℕ) → rest < 10 → Counting n count rest → (count ≡ places_of n) × (count ≤ 20)
counting_ends n count rest h k =
    let one = places_one 10 k.most rest h in
    let told = k.told in
    let sum = k.sum in
    (omega arith, omega arith)
