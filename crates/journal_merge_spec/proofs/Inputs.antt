-- A whole journal, by its scan's answer: its records end to end and nothing else, also where its bytes stand alone. Assumes nothing.
use mathlib.Core.Path.{◌≡◌, refl, sym, ap, ◌∙◌}
use Prim.Native.Nat.{ℕ, ◌≤◌, min}
use mathlib.Core.List.{List, [], append-nil}
use native.Mathlib.Omega.{arith}
use lib.ListN.{length, take}
use lib.Seq.{length-take-le, take-length}
use borrow.Author.Tests.{eq-eqb}
use Rattle.facts.proofs.Orders.{by_order}
use Rattle.journal_spec.specs.Bytes.{AreBytes}
use Rattle.journal_spec.specs.Refusals.{length_refusal}
use Rattle.journal_spec.specs.Record.{Record, records_bytes}
use Rattle.journal_spec.specs.Profile.{plain}
use Rattle.journal_spec.specs.Scan.{max_length, faulty, whole, status_of, scan_of}
use Rattle.journal_spec.specs.Model.{lengths_of}
use Rattle.journal_spec.specs.Cursor.{records_upto, records_in}
use Rattle.journal_spec.specs.Ranges.{AllRanges}
use Rattle.journal_spec.proofs.Scanning.{contents_long}
use Rattle.journal_spec.proofs.Places.{length_placed}
use Rattle.journal_spec.proofs.Explained.{whole_explained}
use Rattle.journal_spec.proofs.Whole.{whole_length, whole_contents, whole_records_lem}
use Rattle.journal_spec.proofs.Placing.{lengths_are}

pub record Whole (slice : List ℕ) (len : ℕ) : Type 0 where
  pub fits : len ≤ min (length slice) max_length
  pub bytes : take len slice ≡ records_bytes (records_upto slice len)
  pub length' : len ≡ lengths_of (records_upto slice len)
  pub follow : AllRanges [] (records_upto slice len)
  pub scan : scan_of plain slice len ≡ whole (length (records_upto slice len)) len

-- records end to end, and nothing else
module _ (slice : List ℕ) (len : ℕ) (fits : len ≤ min (length slice) max_length) (rs : List Record) (bytes : take len slice ≡ records_bytes rs)
    (follow : AllRanges [] rs) where
  records : records_upto slice len ≡ rs
  records = whole_records_lem slice len fits rs bytes follow

  pub whole_of : Whole slice len
  unfolding scan_of status_of
  whole_of = record {
    fits = fits;
    bytes = rw records bytes;
    length' = rw records (whole_length slice len fits rs bytes follow ∙ sym (lengths_are rs));
    follow = rw records follow;
    scan = rw (records, whole_contents slice len fits rs bytes follow) (rw (eq-eqb len len refl, length_placed 0 rs) refl);
  }

-- a journal that scan accepts is no longer than its slice and the longest journal
not_long : (slice : List ℕ) (len n c : ℕ) → scan_of plain slice len ≡ whole n c → len ≤ min (length slice) max_length
unfolding scan_of status_of
not_long slice len n c h =
    by_order len (min (length slice) max_length) (λ k. k)
    (λ k.
    let e : status_of len (faulty length_refusal 0) ≡ whole n c = ap (status_of len) (sym (contents_long plain slice len k)) ∙ h in
    let z : ◌≡◌ {A = ℕ} 0 1 = cc in absurd (omega arith))

pub whole_scanned : (slice : List ℕ) (len n c : ℕ) → AreBytes slice → scan_of plain slice len ≡ whole n c → Whole slice len
whole_scanned slice len n c b h =
    let a = (whole_explained slice len n c b h).0 in
    whole_of slice len (not_long slice len n c h) a.records (a.bytes ∙ append-nil (records_bytes a.records)) a.follow

-- its bytes alone hold the same records
pub whole_alone : (slice : List ℕ) (len : ℕ) → Whole slice len → records_in (take len slice) ≡ records_upto slice len
unfolding records_in
whole_alone slice len w =
    let b : List ℕ = take len slice in
    let n : length b ≡ len = length-take-le len slice (omega (arith, w.fits)) in
    whole_records_lem b (length b) (omega (arith, n, w.fits)) (records_upto slice len) (take-length b ∙ w.bytes) w.follow
