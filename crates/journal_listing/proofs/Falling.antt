-- For programs that print a listing: each call leaves fewer records while some are left, and never writes beyond the buffer.
-- Assumes nothing.
use mathlib.Core.Path.{◌≡◌, ap, ◌∙◌}
use Prim.Native.Nat.{ℕ, zero, suc, ◌-◌, ◌≤◌, ◌<◌, min}
use mathlib.Core.List.{List}
use mathlib.Core.Bool.{Bool, true, false, cond}
use native.Mathlib.Omega.{arith}
use lib.ListN.{length}
use lib.Seq.{length-paste}
use Rattle.text_digits.specs.Text.{room_for}
use Rattle.journal_spec.specs.Reader.{Found, found, fault, short}
use Rattle.journal_spec.specs.Record.{Record}
use Rattle.journal_parts.specs.Plain.{plain_record_at}
use Rattle.journal_listing.specs.Lines.{Position, Step, end_of, no_line, record_step, step_by, step, Writes}
use Rattle.journal_listing.specs.declared.Line.{Line}

record_falls : (p : Position) (left : ℕ) (f : Found Record) → (record_step p left f).position.left < suc left
unfolding record_step no_line end_of
record_falls p left (found r next rest) = omega arith
record_falls p left (fault n place) = omega arith
record_falls p left short = omega arith

pub step_falls : (p : Position) (b : List ℕ) → 0 < p.left → (step p b).position.left < p.left
unfolding step step_by no_line end_of
step_falls p b pos = go p.ended p.left pos
  where
    go : (t : Bool) (k : ℕ) → 0 < k → (cond t (no_line p) (step_by k p b)).position.left < k
    go t zero pos = absurd (omega arith)
    go true (suc k) pos = omega arith
    go false (suc k) pos = record_falls p k (plain_record_at p.at b)

pub line_inside : (s : Step) (out : List ℕ) (line : Line) (after : List ℕ) → Writes s out line after → line.size ≤ length after
unfolding room_for
line_inside s out line after w =
    let n : ℕ = min (length s.text) (length out - 0) in
    let size : length after ≡ length out = ap length w.bytes.bytes ∙ length-paste out 0 s.text n (omega arith) (omega arith) in
    omega (arith, w.bytes.end)
