-- What one turn over a chunk of lines does to a state, over the width of a line and any step. Assumes nothing.
use Prim.Native.Nat.{ℕ, zero, suc, ◌-◌, ◌≤◌, ◌<◌}
use mathlib.Core.Path.{◌≡◌, refl, sym, ◌∙◌}
use mathlib.Core.Bool.{true, false}
use mathlib.Core.List.{List}
use native.Mathlib.Omega.{arith}
use borrow.Author.Tests.{eq-eqb, ne_eqb}
use lib.Dec.{eqb}
use lib.ListN.{length, take, drop, length-drop}
use Rattle.replay_lines.specs.Lines.{line_end, replay_in, replay_of}
use Rattle.replay_lines.proofs.Chunk.{line_part, line_rest}

-- what a loop over lines keeps: the lines that are left, replayed on from here, make the state after them all
pub record Replayed {A : Type 0} (width : ℕ) (step : List ℕ → A → A) (s : List ℕ) (start : A) (at : ℕ) (x : A) : Type 0 where
  pub most : ℕ
  pub bounded : length s - at ≤ most
  pub told : replay_of width step s start ≡ replay_in width step most (drop at s) x

-- before the first line
pub replay_starts : {A : Type 0} (width : ℕ) (step : List ℕ → A → A) (s : List ℕ) (start : A) → Replayed width step s start 0 start
unfolding replay_of
replay_starts width step s start = record { most = length s; bounded = omega arith; told = refl }

-- a turn takes one line's step
pub replay_turn : {A : Type 0} (width : ℕ) (step : List ℕ → A → A) (s : List ℕ) (start : A) (at end : ℕ) (x : A) → at < length s
    → end ≡ line_end at width (length s) → 0 < width → Replayed width step s start at x
    → Replayed width step s start end (step (take (end - at) (drop at s)) x)
unfolding replay_in
replay_turn {A} width step s start at end x h e wide r = go r.most r.bounded r.told
  where
    go : (most : ℕ) → length s - at ≤ most → replay_of width step s start ≡ replay_in width step most (drop at s) x
        → Replayed width step s start end (step (take (end - at) (drop at s)) x)
    go zero b told = absurd (omega arith)
    go (suc most) b told =
        let some : eqb (length (drop at s)) 0 ≡ false = ne_eqb (length (drop at s)) 0 (λ z. omega (arith, length-drop at s)) in
        record { most = most; bounded = omega arith; told = told ∙ rw (some, line_part width s at end e, line_rest width s at end e) }

-- behind the last line the state is the one after them all
pub replay_ends : {A : Type 0} (width : ℕ) (step : List ℕ → A → A) (s : List ℕ) (start : A) (at : ℕ) (x : A) → length s ≤ at
    → Replayed width step s start at x → x ≡ replay_of width step s start
unfolding replay_in
replay_ends {A} width step s start at x h r = sym (go r.most r.told)
  where
    go : (most : ℕ) → replay_of width step s start ≡ replay_in width step most (drop at s) x → replay_of width step s start ≡ x
    go zero told = told
    go (suc most) told =
        let none : eqb (length (drop at s)) 0 ≡ true = eq-eqb (length (drop at s)) 0 (omega (arith, length-drop at s)) in
        told ∙ rw none
