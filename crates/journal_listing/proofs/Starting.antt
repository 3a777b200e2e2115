-- Where a listing of some bytes starts: the records that it lists, one behind another, and what they make of its text. Where there is a fault
-- no record is listed. `starting` and `step_next` carry both theorems of the listing, that its lines are the text and that they fit.
-- Assumes nothing.
use mathlib.Core.Path.{◌≡◌, refl, sym, ap, ◌∙◌}
use Prim.Native.Nat.{ℕ, ◌+◌}
use mathlib.Core.List.{List, [], ◌∷◌, ◌++◌, map}
use mathlib.Core.Bool.{Bool, true, false, cond}
use lib.ListN.{length, length-append}
use lib.Seq.{take-length}
use lib.Dec.{eqb}
use Rattle.journal_spec.specs.Bytes.{joined, AreBytes}
use Rattle.journal_spec.specs.Reader.{found}
use Rattle.journal_spec.specs.Record.{Record, Last, record_bytes, records_bytes}
use Rattle.journal_spec.specs.Profile.{Rule}
use Rattle.journal_spec.specs.Scan.{Placed, records_of, Contents, standing, faulty, contents_of, ScanResult, whole, torn, status_of, scan_of}
use Rattle.journal_spec.specs.Ranges.{RecordRanges, AllRanges}
use Rattle.journal_spec.proofs.Places.{records_of_placed, length_placed}
use Rattle.journal_spec.proofs.Explained.{holding}
use Rattle.journal_spec.proofs.Profiles.{rule_then_plain}
use Rattle.journal_listing.specs.Listing.{record_line, record_lines, state_line, listing_of}
use Rattle.journal_parts.specs.Plain.{plain_record_at}
use Rattle.journal_listing.specs.Lines.{Position, listed_of, before, start_of, record_step, step_by, step}
use Rattle.journal_parts.proofs.Parts.{record_there}

-- ---- a record in its place

-- a position before some records that are left
abbrev pub leaving : List ℕ → List Record → ScanResult → Position
leaving pre rs state = record { at = length pre; left = length rs; ended = false; state = state }

-- the line of the first of them, and the position behind it
pub step_next : (last : Last) (r : Record) (rs : List Record) (pre more b : List ℕ) (state : ScanResult) → RecordRanges last r
    → b ≡ pre ++ (record_bytes r ++ more)
    → step (leaving pre (r ∷ rs) state) b ≡ record { text = record_line r; position = leaving (pre ++ record_bytes r) rs state }
unfolding step step_by record_step
step_next last r rs pre more b state good e =
    let there : plain_record_at (length pre) b ≡ found r (length pre + length (record_bytes r)) more =
    ap (plain_record_at (length pre)) e ∙ record_there last r pre more good in
    rw (there, record_step) (rw length-append refl)

-- ---- the start

-- how many records are listed, by what the journal holds
listed_standing : (len : ℕ) (ps : List Placed) (committed : ℕ) → listed_of (status_of len (standing ps committed)) ≡ length ps
unfolding status_of listed_of
listed_standing len ps committed = go (eqb committed len)
  where
    go : (t : Bool) → listed_of (cond t (whole (length ps) committed) (torn (length ps) committed)) ≡ length ps
    go true = refl
    go false = refl

-- the records of a listing and where they stand
pub record Starting (rule : Rule) (b : List ℕ) : Type 0 where
  pub records : List Record
  pub tail : List ℕ
  pub bytes : b ≡ records_bytes records ++ tail
  pub follow : AllRanges [] records
  pub count : listed_of (scan_of rule b (length b)) ≡ length records
  pub start : start_of rule b ≡ leaving [] records (scan_of rule b (length b))
  pub text : listing_of rule b ≡ joined (map record_line records) ++ state_line (scan_of rule b (length b))

pub starting : (rule : Rule) (b : List ℕ) → AreBytes b → Starting rule b
unfolding scan_of start_of before listing_of record_lines records_bytes joined listed_of status_of
starting rule b are = go (contents_of rule b (length b)) refl
  where
    go : (c : Contents) → contents_of rule b (length b) ≡ c → Starting rule b
    go (faulty n p) e = record { records = []; tail = b; bytes = refl; follow = tt; count = rw e refl; start = rw e refl; text = rw e refl }
    go (standing ps committed) e =
        let x = holding b (length b) ps committed are (rule_then_plain rule b (length b) ps committed e).0 in
        let count = listed_standing (length b) ps committed ∙ ap length x.places ∙ length_placed 0 x.records in
        let same : records_of ps ≡ x.records = ap records_of x.places ∙ records_of_placed 0 x.records in
        record {
          records = x.records;
          tail = x.tail;
          bytes = sym (take-length b) ∙ x.bytes;
          follow = x.follow;
          count = rw e count;
          start = rw e (rw count refl);
          text = rw e (rw same refl);
        }
