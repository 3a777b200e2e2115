-- Every line that a listing comes to has at most `max_line` bytes, so that a buffer of so many holds it whole.
-- Assumes nothing.
use mathlib.Core.Path.{◌≡◌, refl, sym, ◌∙◌}
use Prim.Native.Nat.{ℕ, zero, suc}
use mathlib.Core.List.{List, [], ◌∷◌, ◌++◌, append_assoc}
use native.Mathlib.Omega.{arith}
use lib.ListN.{length}
use Rattle.journal_spec.specs.Bytes.{joined, AreBytes}
use Rattle.journal_spec.specs.Record.{Record, last_of, record_bytes, records_bytes}
use Rattle.journal_spec.specs.Profile.{Rule}
use Rattle.journal_spec.specs.Scan.{ScanResult, scan_of}
use Rattle.journal_spec.specs.Ranges.{AllRanges}
use Rattle.journal_listing.specs.Lines.{Position, start_of, end_of, no_line, step_by, step, max_line, LinesWithin}
use Rattle.journal_listing.proofs.Starting.{leaving, step_next, starting}
use Rattle.journal_listing.proofs.Longest.{Numbered, record_fits, state_fits}
use Rattle.journal_listing.proofs.Faults.{scan_numbered}

within_end : (k : ℕ) (p : Position) (b : List ℕ) → LinesWithin max_line k (end_of p) b
unfolding step end_of no_line
within_end zero p b = tt
within_end (suc k) p b = (omega arith, within_end k p b)

-- the records that are left, and then the end state
within_left : (rs : List Record) (earlier : List Record) (pre tail b : List ℕ) (state : ScanResult) (k : ℕ)
    → AllRanges earlier rs → b ≡ pre ++ (records_bytes rs ++ tail) → Numbered state → LinesWithin max_line k (leaving pre rs state) b
unfolding records_bytes joined
within_left rs earlier pre tail b state zero f e h = tt
within_left [] earlier pre tail b state (suc k) f e h = unfold step step_by in (state_fits state h, within_end k _ b)
within_left (r ∷ rs) earlier pre tail b state (suc k) f e h =
    let more : List ℕ = records_bytes rs ++ tail in
    let bytes : b ≡ pre ++ (record_bytes r ++ more) = e ∙ rw append_assoc refl in
    rw (step_next (last_of earlier) r rs pre more b state f.0 bytes) (
      record_fits (last_of earlier) r f.0,
      within_left rs (earlier ++ r ∷ []) (pre ++ record_bytes r) tail b state k f.1 (bytes ∙ sym (append_assoc pre (record_bytes r) more)) h,
    )

-- Any number of calls from the start on writes lines of at most `max_line` bytes.
pub lines_fit : (rule : Rule) (b : List ℕ) → AreBytes b → (calls : ℕ) → LinesWithin max_line calls (start_of rule b) b
lines_fit rule b are calls =
    let s = starting rule b are in
    rw s.start (within_left s.records [] [] s.tail b (scan_of rule b (length b)) calls s.follow s.bytes (scan_numbered rule b are))
