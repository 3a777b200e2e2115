-- What a look-up finds, in the order of the code's tests.
-- Assumes nothing.
use Rattle.std.proofs.Common.{◌≡◌, ℕ, ◌+◌, ◌≤◌, ◌<◌, List, Some, None, length, take, refl, sym, ap, ◌∙◌, arith, take_all}
use borrow.Author.Tests.{le-leb, lt-leb}
use Rattle.journal_spec.specs.Profile.{plain}
use Rattle.journal_spec.specs.Scan.{max_length, scan_of}
use Rattle.journal.specs.declared.Fault.{Fault}
use Rattle.journal.specs.declared.Status.{Status}
use Rattle.journal.specs.declared.Status.TheVariants as S
use Rattle.journal.specs.Answers.{meaning}
use Rattle.journal_listing.specs.Lines.{Position, position_of, start_of, step}
use Rattle.journal_listing.specs.declared.Cursor.{Cursor}
use Rattle.journal_listing.proofs.Faults.{scan_place}
use Rattle.refusals.specs.Refusals.{number_of}
use Rattle.command_index.specs.Found.{shown, other, broken, first_line, judged_by, judged_alone, named_size, looked_by, looked_at}

-- ---- what stands there

pub looked_far : (name b : List ℕ) (start : ℕ) → max_length < start → other ≡ looked_at name start b
unfolding looked_at
looked_far name b start h = rw (lt-leb start max_length h) refl

pub looked_none : (name b : List ℕ) (start : ℕ) → start ≤ max_length → None ≡ named_size name b → other ≡ looked_at name start b
unfolding looked_at looked_by
looked_none name b start h e = rw (le-leb start max_length h, ← e) refl

pub looked_some : (name b : List ℕ) (start size : ℕ) → start ≤ max_length → Some size ≡ named_size name b
    → judged_alone start (take size b) ≡ looked_at name start b
unfolding looked_at looked_by
looked_some name b start size h e = rw (le-leb start max_length h, ← e) refl

-- by what the scan of the record alone answers
module _ (start : ℕ) (one : List ℕ) (s : Status) (e : meaning s ≡ scan_of plain one (length one)) where
  judged_is : judged_by start (length one) (meaning s) ≡ judged_alone start one
  unfolding judged_alone
  judged_is = ap (judged_by start (length one)) e

  pub judged_whole : (n m : ℕ) → s ≡ S.Whole n m → shown (length one) ≡ judged_alone start one
  unfolding judged_by meaning
  judged_whole n m d = (let x : shown (length one) ≡ judged_by start (length one) (meaning s) = rw d refl in x) ∙ judged_is

  pub judged_torn : (n m : ℕ) → s ≡ S.Torn n m → shown (length one) ≡ judged_alone start one
  unfolding judged_by meaning
  judged_torn n m d = (let x : shown (length one) ≡ judged_by start (length one) (meaning s) = rw d refl in x) ∙ judged_is

  pub judged_damaged : (f : Fault) → s ≡ S.Damaged f → broken (number_of f.refusal) (start + f.place) ≡ judged_alone start one
  unfolding judged_by meaning
  judged_damaged f d =
      let x : broken (number_of f.refusal) (start + f.place) ≡ judged_by start (length one) (meaning s) = rw d refl in
      x ∙ judged_is

  -- a fault's place is inside the longest volume
  pub fault_inside : (f : Fault) → s ≡ S.Damaged f → f.place ≤ max_length
  unfolding meaning
  fault_inside f d = scan_place plain one (number_of f.refusal) f.place (sym e ∙ rw d refl)

-- ---- the line

pub first_text : (b : List ℕ) (c : Cursor) → position_of c ≡ start_of plain b → (step (position_of c) b).text ≡ first_line b
unfolding first_line
first_text b c e = ap (λ (p : Position). (step p b).text) e

pub all_shown : (b : List ℕ) (size : ℕ) → length b < size → first_line b ≡ first_line (take size b)
all_shown b size h = ap first_line (sym (take_all size b (omega arith)))
