-- How long the text of whole ticks is. Of a number that is at most k in size there are at most k, which have so many digits behind a sign. Of every
-- double they are at most 2 ^ 53, so that 18 bytes hold the text, and some need them (`longest`, Examples). Assumes nothing.
use mathlib.Core.Path.{◌≡◌, refl}
use mathlib.Core.Bool.{Bool, true, false, ◌&&◌, cond}
use mathlib.Core.List.{[], ◌∷◌, ◌++◌}
use Prim.Native.Nat.{ℕ, ◌+◌, ◌-◌, ◌*◌, ◌/◌, ◌%◌, ◌^◌, ◌≤◌, ◌<◌}
use native.Mathlib.Nat.{le_of_lt, div-lt_iff_lt-mul}
use native.Mathlib.Omega.{arith}
use lib.Dec.{ltb}
use lib.ListN.{length, length-append}
use lib.Ieee.{Float}
use lib.Ieee.Positive.{num, den, den_pos}
use lib.Ieee.Scale.{finite}
use borrow.Author.Tests.{ltb-true}
use Rattle.text_digits.specs.Hex.{digits, decimal_digits}
use Rattle.text_digits.proofs.Counting.{decimal_most}
use Rattle.text_digits.proofs.Writing.{length_digits}
use Rattle.std.specs.Prelude.{Some, None}
use Rattle.text_ticks.specs.Ticks.{counted, minus_of, up_size, near_size, in_range, whole_by, ticks_up, ticks_near}
use Rattle.text_ticks.specs.Text.{minus_sign, point, hundredths, count_text, ticks_text, max_text}

-- the place that a minus sign takes
abbrev pub sign_place : Bool → ℕ
sign_place s = cond s 1 0

pub sign_place_lem : (s : Bool) → sign_place s ≤ 1
sign_place_lem true = omega arith
sign_place_lem false = omega arith

-- n ticks, with at most j digits of whole milliseconds
hundredths_most : (n j : ℕ) → 0 < j → n / 100 < 10 ^ j → length (hundredths n) ≤ j + 3
unfolding hundredths
hundredths_most n j pos h =
    rw (length-append (decimal_digits (n / 100)) (point ∷ digits 10 2 (n % 100)))
    (omega (arith, decimal_most j (n / 100) pos h, length_digits 10 2 (n % 100)))

count_most : (s : Bool) (n j : ℕ) → 0 < j → n / 100 < 10 ^ j → length (count_text (counted s n)) ≤ sign_place s + (j + 3)
unfolding count_text
count_most false n j pos h = omega (arith, hundredths_most n j pos h)
count_most true n j pos h = go (ltb 0 n)
  where
    go : (below : Bool) → length (cond below (minus_sign ∷ []) [] ++ hundredths n) ≤ 1 + (j + 3)
    go true = omega (arith, hundredths_most n j pos h)
    go false = omega (arith, hundredths_most n j pos h)

-- the text of whole ticks by a rule for the size that keeps to k
by_most : (size : Bool → ℕ → ℕ → ℕ) (x : Float) (k j : ℕ) → 0 < j → k / 100 < 10 ^ j
    → ((s : Bool) → num x < 2 ^ 53 * den x → size s (num x) (den x) ≤ k) → length (ticks_text (whole_by size x)) ≤ sign_place (minus_of x) + (j + 3)
unfolding whole_by ticks_text in_range
by_most size x k j pos h few = go (finite x) (ltb (num x) (2 ^ 53 * den x)) refl
  where
    go : (f l : Bool) → ltb (num x) (2 ^ 53 * den x) ≡ l
        → length (ticks_text (cond (f && l) (Some (counted (minus_of x) (size (minus_of x) (num x) (den x)))) None)) ≤ sign_place (minus_of x) + (j + 3)
    go true true e =
        let n = size (minus_of x) (num x) (den x) in
        count_most (minus_of x) n j pos (omega (arith, few (minus_of x) (ltb-true (num x) (2 ^ 53 * den x) e)))
    go true false e = omega arith
    go false l e = omega arith

-- ---- the rules

up_few : (a c k : ℕ) (s : Bool) → 0 < c → a ≤ k * c → up_size s a c ≤ k
unfolding up_size
up_few a c k true h l = let less : a / c < k + 1 = (div-lt_iff_lt-mul h).1 (omega arith) in omega arith
up_few a c k false h l = let less : (a + (c - 1)) / c < k + 1 = (div-lt_iff_lt-mul h).1 (omega arith) in omega arith

near_few : (a c k : ℕ) (s : Bool) → 0 < c → a ≤ k * c → near_size s a c ≤ k
unfolding near_size
near_few a c k true h l =
    let pos : 0 < 2 * c = omega arith in
    let less : (2 * a + (c - 1)) / (2 * c) < k + 1 = (div-lt_iff_lt-mul pos).1 (omega arith) in
    omega arith
near_few a c k false h l =
    let pos : 0 < 2 * c = omega arith in
    let less : (2 * a + c) / (2 * c) < k + 1 = (div-lt_iff_lt-mul pos).1 (omega arith) in
    omega arith

-- ---- a number of at most k in size, where k ticks have at most j digits of whole milliseconds

module _ (x : Float) (k j : ℕ) (pos : 0 < j) (few : k / 100 < 10 ^ j) (h : num x ≤ k * den x) where
  pub up_text_within : length (ticks_text (ticks_up x)) ≤ sign_place (minus_of x) + (j + 3)
  unfolding ticks_up
  up_text_within = by_most up_size x k j pos few (λ s l. up_few (num x) (den x) k s (den_pos x) h)

  pub near_text_within : length (ticks_text (ticks_near x)) ≤ sign_place (minus_of x) + (j + 3)
  unfolding ticks_near
  near_text_within = by_most near_size x k j pos few (λ s l. near_few (num x) (den x) k s (den_pos x) h)

-- ---- every double

pub up_text_most : (x : Float) → length (ticks_text (ticks_up x)) ≤ max_text
unfolding ticks_up
up_text_most x =
    omega (
      arith,
      sign_place_lem (minus_of x),
      by_most up_size x (2 ^ 53) 14 (omega arith) (omega arith) (λ s h. up_few (num x) (den x) (2 ^ 53) s (den_pos x) (le_of_lt h)),
    )

pub near_text_most : (x : Float) → length (ticks_text (ticks_near x)) ≤ max_text
unfolding ticks_near
near_text_most x =
    omega (
      arith,
      sign_place_lem (minus_of x),
      by_most near_size x (2 ^ 53) 14 (omega arith) (omega arith) (λ s h. near_few (num x) (den x) (2 ^ 53) s (den_pos x) (le_of_lt h)),
    )
