-- An interval of doubles, and what it is to lie in it. Definitions only.
use Rattle.std.specs.Prelude.{ℕ, ◌+◌, ◌*◌, ◌^◌, ◌≤◌, Bool, true, cond, T, Float}
use Rattle.std.specs.Float.Ieee.Exact.{HasValue}
use Rattle.std.specs.Float.Ieee.Positive.{num, den}
use Rattle.std.specs.Float.Ieee.Scale.{finite}

-- From lp - ln to hp - hn, in units of the smallest double, 2 ^ -1074. `ok` says that no step to it overflows or divides by zero.
pub record Interval : Type 0 where
  pub ok : Bool
  pub lp : ℕ
  pub ln : ℕ
  pub hp : ℕ
  pub hn : ℕ

-- the number ±m, with the minus sign where s is true, is P s m - N s m
abbrev pub P : Bool → ℕ → ℕ
P s m = cond s 0 m

abbrev pub N : Bool → ℕ → ℕ
N s m = cond s m 0

-- the interval holds ±m
pub record Holds (b : Interval) (s : Bool) (m : ℕ) : Type 0 where
  pub low : b.lp + N s m ≤ P s m + b.ln
  pub high : P s m + b.hn ≤ b.hp + N s m

-- x is finite, and ±m units lie in the interval
pub record Inside (x : Float) (b : Interval) : Type 0 where
  pub s : Bool
  pub m : ℕ
  pub val : HasValue x s m (2 ^ 1074)
  pub holds : Holds b s m

-- so it is where the interval is ok
pub record In (x : Float) (b : Interval) : Type 0 where
  pub at : T b.ok → Inside x b

-- from l to h
abbrev pub ranged : Bool → ℕ → ℕ → Interval
ranged o l h = record { ok = o; lp = l; ln = 0; hp = h; hn = 0 }

abbrev pub between : ℕ → ℕ → Interval
between l h = ranged true l h

-- at most h in size
abbrev pub about : Bool → ℕ → Interval
about o h = record { ok = o; lp = 0; ln = h; hp = h; hn = 0 }

-- x is finite, and at most k in size
pub record SizeAtMost (x : Float) (k : ℕ) : Type 0 where
  pub is_finite : T (finite x)
  pub size : num x ≤ k * den x
