-- Numbers in bytes: a number at its place, the j-th of numbers end to end, and a name's bytes.
-- Assumes nothing.
use mathlib.Core.Path.{◌≡◌, refl, sym, ap, ap₂, ◌∙◌}
use Prim.Native.Nat.{ℕ, zero, suc, ◌+◌, ◌*◌, ◌%◌, ◌^◌, ◌<◌}
use mathlib.Core.List.{List, [], ◌∷◌, ◌++◌}
use native.Mathlib.Omega.{arith}
use lib.ListN.{length, take, drop, get_or}
use lib.Seq.{take_at, drop_at, drop-drop}
use Rattle.journal_spec.specs.Bytes.{bytes_of, value_of, number_at}
use Rattle.journal_spec.specs.Section.{number_bytes}
use Rattle.journal_spec.specs.Record.{min_byte, max_byte}
use Rattle.journal_spec.specs.Ranges.{Each}
use Rattle.journal_spec.proofs.Numbers.{length_bytes, value_bytes}

pub number_at_lem : (w at : ℕ) (b : List ℕ) (n : ℕ) (rest : List ℕ) → drop at b ≡ bytes_of w n ++ rest → n < 256 ^ w → number_at w at b ≡ n
unfolding number_at
number_at_lem w at b n rest e h = rw (e, take_at (bytes_of w n) rest w (length_bytes w n)) (value_bytes w n h)

-- behind other bytes
number_behind : (w n at : ℕ) (front b : List ℕ) → length front ≡ n → number_at w (n + at) (front ++ b) ≡ number_at w at b
unfolding number_at
number_behind w n at front b h =
    ap (λ (l : List ℕ). value_of (take w l)) (sym (drop-drop at n (front ++ b)) ∙ ap (drop at) (drop_at front b n h))

-- the j-th of numbers of w bytes
pub number_of_lem : (w : ℕ) (xs : List ℕ) (j : ℕ) → ((i : ℕ) → get_or xs i 0 < 256 ^ w) → j < length xs → number_at w (w * j) (number_bytes w xs) ≡ get_or xs j 0
unfolding number_bytes
number_of_lem w [] j h k = absurd (omega arith)
number_of_lem w (x ∷ xs) zero h k = let z : w * 0 ≡ 0 = omega arith in rw z (number_at_lem w 0 (bytes_of w x ++ number_bytes w xs) x (number_bytes w xs) refl (h 0))
number_of_lem w (x ∷ xs) (suc j) h k =
    let z : w * suc j ≡ w + w * j = omega arith in
    rw z (number_behind w w (w * j) (bytes_of w x) (number_bytes w xs) (length_bytes w x) ∙ number_of_lem w xs j (λ i. h (suc i)) (omega arith))

-- a name's bytes are numbers of one byte
pub name_bytes : (xs : List ℕ) → Each min_byte max_byte xs → number_bytes 1 xs ≡ xs
unfolding number_bytes bytes_of
name_bytes [] h = refl
name_bytes (x ∷ xs) h =
    let e : x % 256 ≡ x = omega (arith, (h 0 (omega arith)).1) in
    ap₂ (λ (y : ℕ) (ys : List ℕ). y ∷ ys) e (name_bytes xs (λ i k. h (suc i) (omega arith)))
