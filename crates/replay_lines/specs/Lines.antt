-- Lines of fixed length: where one ends, a number in it, a count of them, and what they make of a state one after another.
-- Assumes nothing.
use Rattle.std.specs.Prelude.{ℕ, zero, suc, ◌+◌, ◌-◌, ◌^◌, min, cond, List, ltb, eqb, length, take, drop, Option, None, Some, Result, Ok, Err}
use Rattle.text_digits.specs.declared.read.HexError.{HexError}

-- what reading found: the number, or none
unfoldable pub field_of : Result ℕ HexError → Option ℕ
field_of (Ok n) = Some n
field_of (Err e) = None

-- a field's number goes on; where there is none, the answer is the first argument
unfoldable pub after_field : {A : Type 0} → A → Option ℕ → (ℕ → A) → A
after_field none (Some n) next = next n
after_field none None next = none

-- the numbers of three fields go on together; where one holds none, the answer is the first argument
unfoldable pub after_three : {A : Type 0} → A → Option ℕ → Option ℕ → Option ℕ → (ℕ → ℕ → ℕ → A) → A
after_three none f g h next = after_field none f (λ x. after_field none g (λ y. after_field none h (λ z. next x y z)))

-- the end of a line of so many bytes from a place on, or of the bytes
abbrev pub line_end : ℕ → ℕ → ℕ → ℕ
line_end at width len = at + min width (len - at)

-- one more, of a count that stays at the largest u64
unfoldable pub one_more : ℕ → ℕ
one_more n = cond (ltb n (2 ^ 64 - 1)) (n + 1) n

-- a state after the lines of some bytes, at most so many; a last line may be cut short
unfoldable pub replay_in : {A : Type 0} → ℕ → (List ℕ → A → A) → ℕ → List ℕ → A → A
replay_in width step zero s x = x
replay_in width step (suc most) s x = cond (eqb (length s) 0) x (replay_in width step most (drop width s) (step (take width s) x))

-- the same after all lines of some bytes
unfoldable pub replay_of : {A : Type 0} → ℕ → (List ℕ → A → A) → List ℕ → A → A
replay_of width step s x = replay_in width step (length s) s x
