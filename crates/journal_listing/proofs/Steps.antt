-- What a call of `next_line` writes and answers, by the way it goes: no line, the end state's, or a record's.
-- Assumes nothing.
use mathlib.Core.Path.{◌≡◌, refl, ap, ◌∙◌}
use Prim.Native.Nat.{ℕ, zero, suc, ◌-◌, ◌<◌}
use mathlib.Core.List.{List}
use mathlib.Core.Bool.{Bool, true, false, cond}
use native.Mathlib.Omega.{arith}
use Rattle.journal.specs.Answers.{meaning}
use Rattle.journal_listing.specs.Listing.{record_line, state_line}
use Rattle.journal_parts.specs.Plain.{plain_record_at}
use Rattle.journal_parts.specs.Spans.{spans_at, all_of, record_in}
use Rattle.journal_listing.specs.Lines.{Position, position_of, end_of, no_line, record_step, step_by, step, Writes}
use Rattle.std.specs.Prelude.{Some, None}
use Rattle.journal_parts.specs.declared.spans.Sections.{Sections}
use Rattle.journal_listing.specs.declared.Cursor.{Cursor}
use Rattle.journal_listing.specs.declared.Line.{Line}
use Rattle.journal_listing.proofs.Putting.{put_nothing}
use Rattle.journal_parts.proofs.Reached.{record_stands, record_short}

-- no line
pub writes_none : (p : Position) (out : List ℕ) (l : Line) → l.size ≡ 0 → position_of l.cursor ≡ end_of p → Writes (no_line p) out l out
unfolding no_line
writes_none p out l z e = record { bytes = rw z (put_nothing out 0); position = e }

module _ (p : Position) (left at : ℕ) (b : List ℕ) where
  -- no record stands there
  pub step_short : all_of (spans_at at b) ≡ None → record_step p left (plain_record_at at b) ≡ no_line p
  unfolding record_step
  step_short h = rw (record_short at b h) refl

  -- the record that stands there
  pub step_stands : (s : Sections) → all_of (spans_at at b) ≡ Some s → record_step p left (plain_record_at at b)
      ≡ record { text = record_line (record_in at s b); position = record { at = s.limits.next; left = left; ended = false; state = p.state } }
  unfolding record_step
  step_stands s h = rw (record_stands at b s h) refl

-- the listing goes on
pub step_on : (p : Position) (b : List ℕ) → p.ended ≡ false → step p b ≡ step_by p.left p b
unfolding step
step_on p b h = ap (λ (t : Bool). cond t (no_line p) (step_by p.left p b)) h

module _ (c : Cursor) (b : List ℕ) where
  -- the listing has ended
  pub step_ended : c.ended ≡ true → step (position_of c) b ≡ no_line (position_of c)
  unfolding step position_of
  step_ended h = rw h refl

  -- no record is left
  pub step_state : c.ended ≡ false → c.left ≡ 0
      → step (position_of c) b ≡ record { text = state_line (meaning c.status); position = end_of (position_of c) }
  unfolding step step_by position_of
  step_state h z = rw (h, z) refl

  -- records are left
  pub step_record : c.ended ≡ false → 0 < c.left
      → step (position_of c) b ≡ record_step (position_of c) (c.left - 1) (plain_record_at c.at b)
  unfolding position_of
  step_record h pos = step_on (position_of c) b h ∙ go c.left pos
    where
      go : (k : ℕ) → 0 < k → step_by k (position_of c) b ≡ record_step (position_of c) (k - 1) (plain_record_at c.at b)
      go zero pos = absurd (omega arith)
      go (suc k) pos = let z : suc k - 1 ≡ k = omega arith in rw z (unfold step_by in refl)
