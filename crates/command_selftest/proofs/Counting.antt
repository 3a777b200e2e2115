-- A count of what differs goes on from any place: those before it are counted, those behind it are left.
-- Assumes nothing.
use Prim.Native.Nat.{ℕ, suc, ◌+◌, ◌≤◌, ◌<◌}
use mathlib.Core.Path.{◌≡◌, refl}
use mathlib.Core.List.{List}
use native.Mathlib.Omega.{arith}
use native.Mathlib.Numerals.{add-one}
use lib.ListN.{length, drop, get_or, drop_of_length-le}
use lib.Seq.{drop-cons}
use Rattle.pxfm.specs.Inverfc.{f_erfcinv_bits}
use Rattle.command_selftest.specs.Replay.{one_if_other, others_among}

module _ (xs bs : List ℕ) (i : ℕ) (left : i < length xs) (lengths : length xs ≡ length bs) where
  -- one element of each stands before the rest
  stands : others_among (drop i xs) (drop i bs) ≡ one_if_other (f_erfcinv_bits (get_or xs i 0)) (get_or bs i 0) + others_among (drop (suc i) xs) (drop (suc i) bs)
  unfolding others_among
  stands = rw (drop-cons xs i 0 left, drop-cons bs i 0 (omega arith)) refl

  -- and is counted once
  pub count_turn : (n all one : ℕ) → one ≡ one_if_other (f_erfcinv_bits (get_or xs i 0)) (get_or bs i 0)
      → n + others_among (drop i xs) (drop i bs) ≡ all
      → (n + one) + others_among (drop (i + 1) xs) (drop (i + 1) bs) ≡ all
  count_turn n all one e h = let s = stands in rw add-one (omega (arith, s, e, h))

-- before the first element nothing is counted
pub count_starts : (xs bs : List ℕ) → 0 + others_among (drop 0 xs) (drop 0 bs) ≡ others_among xs bs
count_starts xs bs = omega arith

-- behind the last element nothing is left
pub count_ends : (xs bs : List ℕ) (i n all : ℕ) → length xs ≤ i → n + others_among (drop i xs) (drop i bs) ≡ all → n ≡ all
unfolding others_among
count_ends xs bs i n all h e =
    let none : others_among (drop i xs) (drop i bs) ≡ 0 = rw (drop_of_length-le xs h) refl in
    omega (arith, none, e)
