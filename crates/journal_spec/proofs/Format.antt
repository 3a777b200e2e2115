-- The laws of the format, by name: decoding an encoding, whole journals, every cut, and that what scan accepts is explained.
-- Records are those that keep document 01's ranges, as `Ranges` spells them. Assumes nothing.
use mathlib.Core.Path.{◌≡◌, refl, sym, ap, ◌∙◌}
use Prim.Native.Nat.{ℕ, ◌+◌, ◌≤◌, ◌<◌}
use mathlib.Core.List.{List, [], ◌++◌, append-nil}
use native.Mathlib.Omega.{arith}
use lib.ListN.{length, take, length-append}
use lib.Seq.{length-take-le}
use borrow.Author.Tests.{eq-eqb, ne_eqb}
use Rattle.journal_spec.specs.Bytes.{AreBytes}
use Rattle.journal_spec.specs.Reader.{found, short, run}
use Rattle.journal_spec.specs.Record.{Record, Last, last_of, record_reader, record_bytes, records_bytes}
use Rattle.journal_spec.specs.Profile.{plain}
use Rattle.journal_spec.specs.Scan.{max_length, whole, torn, status_of, scan_of}
use Rattle.journal_spec.specs.Ranges.{RecordRanges, AllRanges}
use Rattle.journal_spec.proofs.Reading.{reads_cut}
use Rattle.journal_spec.proofs.Ranged.{reads_back}
use Rattle.journal_spec.proofs.Scanning.{Torn, torn_none, plain_contents}
use Rattle.journal_spec.proofs.Places.{length_placed}
use Rattle.journal_spec.proofs.Explained.{whole_explained, torn_explained}

-- ---- one record

module _ (last : Last) (r : Record) (keeps : RecordRanges last r) where
  -- decoding the encoding gives the record back, and leaves what follows it
  pub decode_encode : (at : ℕ) (post : List ℕ) → run (record_reader last) at (record_bytes r ++ post) ≡ found r (at + length (record_bytes r)) post
  decode_encode = (reads_back last r keeps).on

  -- a cut before its last byte is short
  pub encoding_cut : (at k : ℕ) → k < length (record_bytes r) → run (record_reader last) at (take k (record_bytes r)) ≡ short
  encoding_cut = reads_cut (record_reader last) (record_bytes r) r (reads_back last r keeps)

-- ---- journals

-- records end to end are whole, with their number and their length
pub whole_scan : (slice : List ℕ) (len : ℕ) (rs : List Record) → AllRanges [] rs → len ≤ length slice → len ≤ max_length
    → take len slice ≡ records_bytes rs → scan_of plain slice len ≡ whole (length rs) (length (records_bytes rs))
unfolding scan_of status_of
whole_scan slice len rs keeps fits most bytes =
    let n : len ≡ length (records_bytes rs) = sym (length-take-le len slice fits) ∙ ap length bytes in
    let c = plain_contents slice len rs [] fits most (bytes ∙ sym (append-nil (records_bytes rs))) (n ∙ rw append-nil refl) keeps (torn_none rs) in
    rw (c, length_placed, eq-eqb (length (records_bytes rs)) len (sym n)) refl

-- the first k bytes of one more record, neither none nor all, leave the journal torn with the records before and their length
pub torn_scan : (slice : List ℕ) (len : ℕ) (rs : List Record) (r : Record) (k : ℕ) → AllRanges [] rs → RecordRanges (last_of rs) r
    → 0 < k → k < length (record_bytes r) → len ≤ length slice → len ≤ max_length
    → take len slice ≡ records_bytes rs ++ take k (record_bytes r) → scan_of plain slice len ≡ torn (length rs) (length (records_bytes rs))
unfolding scan_of status_of
torn_scan slice len rs r k keeps one pos less fits most bytes =
    let n : len ≡ length (records_bytes rs ++ take k (record_bytes r)) = sym (length-take-le len slice fits) ∙ ap length bytes in
    let m : length (take k (record_bytes r)) ≡ k = length-take-le k (record_bytes r) (omega arith) in
    let t : Torn rs (take k (record_bytes r)) = record { runs_out = λ at. encoding_cut (last_of rs) r one at k less } in
    let c = plain_contents slice len rs (take k (record_bytes r)) fits most bytes n keeps t in
    let differs : length (records_bytes rs) ≡ len → ⊥ =
    λ e. omega (arith, e, n, length-append (records_bytes rs) (take k (record_bytes r)), m) in
    rw (c, length_placed, ne_eqb (length (records_bytes rs)) len differs) refl

-- scan says whole: every byte up to the length belongs to one of so many records, which keep the ranges
pub record WholeMeans (slice : List ℕ) (len n committed : ℕ) : Type 0 where
  pub records : List Record
  pub keeps : AllRanges [] records
  pub number : n ≡ length records
  pub bytes : take len slice ≡ records_bytes records
  pub all : committed ≡ len

pub whole_means : (slice : List ℕ) (len n committed : ℕ) → AreBytes slice → scan_of plain slice len ≡ whole n committed → WholeMeans slice len n committed
whole_means slice len n committed b h =
    let w = whole_explained slice len n committed b h in
    record {
      records = w.0.records;
      keeps = w.0.follow;
      number = w.0.number;
      bytes = w.0.bytes ∙ append-nil (records_bytes w.0.records);
      all = w.1;
    }

-- scan says torn: so many records, then a tail of one or more bytes in which no field that stands is refused and no record is whole
pub record TornMeans (slice : List ℕ) (len n committed : ℕ) : Type 0 where
  pub records : List Record
  pub tail : List ℕ
  pub keeps : AllRanges [] records
  pub number : n ≡ length records
  pub upto : committed ≡ length (records_bytes records)
  pub bytes : take len slice ≡ records_bytes records ++ tail
  pub some : 0 < length tail
  pub runs_out : (at : ℕ) → run (record_reader (last_of records)) at tail ≡ short

pub torn_means : (slice : List ℕ) (len n committed : ℕ) → AreBytes slice → scan_of plain slice len ≡ torn n committed → TornMeans slice len n committed
torn_means slice len n committed b h =
    let w = torn_explained slice len n committed b h in
    record {
      records = w.2.records;
      tail = w.0;
      keeps = w.2.follow;
      number = w.2.number;
      upto = w.2.upto;
      bytes = w.2.bytes;
      some = w.1;
      runs_out = w.2.torn.runs_out;
    }
