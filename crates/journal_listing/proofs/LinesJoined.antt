-- The theorem of the listing: the lines of the calls from the start on, up to the first call that has none, are the listing of the journal.
-- Assumes nothing.
use mathlib.Core.Path.{◌≡◌, refl, sym, ◌∙◌}
use Prim.Native.Nat.{ℕ, zero, suc, ◌<◌}
use mathlib.Core.List.{List, [], ◌∷◌, ◌++◌, append_assoc, append-nil, map}
use native.Mathlib.Omega.{arith}
use lib.ListN.{length}
use Rattle.journal_spec.specs.Bytes.{joined, AreBytes}
use Rattle.journal_spec.specs.Record.{Record, last_of, record_bytes, records_bytes}
use Rattle.journal_spec.specs.Profile.{Rule}
use Rattle.journal_spec.specs.Scan.{ScanResult, whole, torn, damaged, scan_of}
use Rattle.journal_spec.specs.Ranges.{AllRanges}
use Rattle.journal_spec.specs.Log.{newline}
use Rattle.journal_listing.specs.Listing.{spaced, line_of, record_line, state_line, listing_of}
use Rattle.journal_listing.specs.Lines.{Position, listed_of, start_of, end_of, no_line, step_by, step, onward, lines_from}
use Rattle.journal_listing.proofs.Starting.{leaving, step_next, starting}

-- a line that ends with its last byte is none that ends the listing
onward_line : (s : List ℕ) (x : ℕ) (rest : List ℕ) → onward (s ++ (x ∷ [])) rest ≡ (s ++ (x ∷ [])) ++ rest
unfolding onward
onward_line [] x rest = refl
onward_line (y ∷ s) x rest = refl

onward_words : (ws : List (List ℕ)) (rest : List ℕ) → onward (line_of ws) rest ≡ line_of ws ++ rest
unfolding line_of
onward_words ws rest = onward_line (spaced ws) newline rest

onward_record : (r : Record) (rest : List ℕ) → onward (record_line r) rest ≡ record_line r ++ rest
unfolding record_line
onward_record r rest = onward_words _ rest

onward_state : (s : ScanResult) (rest : List ℕ) → onward (state_line s) rest ≡ state_line s ++ rest
unfolding state_line
onward_state (whole n c) rest = onward_words _ rest
onward_state (torn n c) rest = onward_words _ rest
onward_state (damaged n p) rest = onward_words _ rest

-- after the end there is no line
lines_end : (k : ℕ) (p : Position) (b : List ℕ) → lines_from k (end_of p) b ≡ []
unfolding lines_from step end_of no_line onward
lines_end zero p b = refl
lines_end (suc k) p b = refl

-- the records that are left, and then the end state
lines_left : (rs : List Record) (earlier : List Record) (pre tail b : List ℕ) (state : ScanResult) (k : ℕ)
    → AllRanges earlier rs → b ≡ pre ++ (records_bytes rs ++ tail) → length rs < k
    → lines_from k (leaving pre rs state) b ≡ joined (map record_line rs) ++ state_line state
unfolding records_bytes joined lines_from
lines_left [] earlier pre tail b state zero f e h = absurd (omega arith)
lines_left (r ∷ rs) earlier pre tail b state zero f e h = absurd (omega arith)
lines_left [] earlier pre tail b state (suc k) f e h =
    unfold step step_by in onward_state state _ ∙ rw (lines_end k, append-nil) refl
lines_left (r ∷ rs) earlier pre tail b state (suc k) f e h =
    let more : List ℕ = records_bytes rs ++ tail in
    let bytes : b ≡ pre ++ (record_bytes r ++ more) = e ∙ rw append_assoc refl in
    let later = lines_left rs (earlier ++ r ∷ []) (pre ++ record_bytes r) tail b state k f.1
    (bytes ∙ sym (append_assoc pre (record_bytes r) more)) (omega arith) in
    rw (step_next (last_of earlier) r rs pre more b state f.0 bytes) (onward_record r _ ∙ rw (later, append_assoc) refl)

-- Any number of calls above the number of the records listed writes the listing.
pub lines_joined : (rule : Rule) (b : List ℕ) → AreBytes b → (calls : ℕ) → listed_of (scan_of rule b (length b)) < calls
    → lines_from calls (start_of rule b) b ≡ listing_of rule b
lines_joined rule b are calls h =
    let s = starting rule b are in
    rw (s.start, s.text) (lines_left s.records [] [] s.tail b (scan_of rule b (length b)) calls s.follow s.bytes (omega (arith, s.count)))
