-- A field that holds a number was read, and the number fits its digits; what a field leads to, case by case. Assumes nothing.
use Prim.Native.Nat.{ℕ, ◌^◌, ◌<◌}
use mathlib.Core.Path.{◌≡◌}
use mathlib.Core.List.{List}
use Rattle.text_digits.specs.Hex.{read_hex}
use Rattle.std.specs.Prelude.{Option, None, Some, Result, Ok, Err}
use Rattle.text_digits.specs.declared.read.HexError.{HexError}
use Rattle.text_digits.proofs.Reading.{read_hex_below}
use Rattle.replay_lines.specs.Lines.{field_of, after_field, after_three}

-- a field holds a number only where reading found it
pub field_read_lem : (r : Result ℕ HexError) (v : ℕ) → field_of r ≡ Some v → r ≡ Ok v
unfolding field_of
field_read_lem (Ok n) v e = cc
field_read_lem (Err x) v e = cc

-- the number of a field fits its digits
pub field_below : (s : List ℕ) (place width v : ℕ) → field_of (read_hex s place width) ≡ Some v → v < 16 ^ width
field_below s place width v e = read_hex_below s place width v (field_read_lem (read_hex s place width) v e)

-- a field that holds a number goes on with it
pub field_good : {A : Type 0} (none : A) (f : Option ℕ) (n : ℕ) (next : ℕ → A) → f ≡ Some n → next n ≡ after_field none f next
unfolding after_field
field_good none f n next e = rw (e, after_field)

-- a field that holds none leads to the answer without a number
pub field_bad : {A : Type 0} (none : A) (f : Option ℕ) (next : ℕ → A) → f ≡ None → none ≡ after_field none f next
unfolding after_field
field_bad none f next e = rw (e, after_field)

module _ {A : Type 0} (none : A) (f g h : Option ℕ) (next : ℕ → ℕ → ℕ → A) where
  -- three fields that hold numbers go on with them
  pub three_read : (x y z : ℕ) → f ≡ Some x → g ≡ Some y → h ≡ Some z → next x y z ≡ after_three none f g h next
  unfolding after_field after_three
  three_read x y z e i j = rw (e, i, j)

  -- the third holds none
  pub third_missing : (x y : ℕ) → f ≡ Some x → g ≡ Some y → h ≡ None → none ≡ after_three none f g h next
  unfolding after_field after_three
  third_missing x y e i j = rw (e, i, j)

  -- the second holds none
  pub second_missing : (x : ℕ) → f ≡ Some x → g ≡ None → none ≡ after_three none f g h next
  unfolding after_field after_three
  second_missing x e i = rw (e, i)

  -- the first holds none
  pub first_missing : f ≡ None → none ≡ after_three none f g h next
  unfolding after_field after_three
  first_missing e = rw e
