-- A listing followed line by line, and behind its last line.
-- Assumes nothing.
use mathlib.Core.Path.{◌≡◌, sym, ap, ◌∙◌}
use mathlib.Core.Bool.{true}
use Prim.Native.Nat.{ℕ, zero, suc, ◌-◌, ◌<◌}
use mathlib.Core.List.{List, []}
use native.Mathlib.Omega.{arith}
use Rattle.journal_spec.specs.Profile.{plain}
use Rattle.journal_listing.specs.Lines.{Position, end_of, no_line, step, start_of}
use Rattle.capi.specs.Line.{position_after, line_at}

-- one line more
pub after_next : (left : ℕ) (p : Position) (b : List ℕ) → 0 < left
    → position_after left p b ≡ position_after (left - 1) (step p b).position b
unfolding position_after
after_next zero p b h = absurd (omega arith)
after_next (suc k) p b h = let one : suc k - 1 ≡ k = omega arith in rw one

-- behind the last line there is none, however far one goes
pub none_after : (k : ℕ) (p : Position) (b : List ℕ) → p.ended ≡ true → (step (position_after k p b) b).text ≡ []
unfolding position_after step no_line end_of
none_after zero p b e = rw e
none_after (suc k) p b e = none_after k (step p b).position b (rw e)

-- the line that all of i lines lead to, where `left` of them are left
pub record Going (i : ℕ) (b : List ℕ) (left : ℕ) (p : Position) : Type 0 where
  pub same : position_after i (start_of plain b) b ≡ position_after left p b

pub going_next : (i : ℕ) (b : List ℕ) (left : ℕ) (p q : Position) → 0 < left → q ≡ (step p b).position → Going i b left p → Going i b (left - 1) q
going_next i b left p q h e g = record { same = g.same ∙ after_next left p b h ∙ ap (λ (x : Position). position_after (left - 1) x b) (sym e) }

pub going_ended : (i : ℕ) (b : List ℕ) (left : ℕ) (p : Position) → p.ended ≡ true → Going i b left p → (step p b).text ≡ line_at i b
unfolding line_at position_after
going_ended i b left p e g =
    none_after 0 p b e ∙ sym (ap (λ (x : Position). (step x b).text) g.same ∙ none_after left p b e)

pub going_there : (i : ℕ) (b : List ℕ) (left : ℕ) (p : Position) → left ≡ 0 → Going i b left p → (step p b).text ≡ line_at i b
unfolding line_at position_after
going_there i b left p z g =
    sym (ap (λ (x : Position). (step x b).text) (g.same ∙ ap (λ (k : ℕ). position_after k p b) z))
