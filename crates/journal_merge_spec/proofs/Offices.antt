-- The merge of two volumes of one leaf each, from their bytes: document 01's leaf, and the same as form 2. Merged it is 33 bytes; form 2 before form 1
-- is 13 behind 33 bytes; and a third buffer of 32 bytes is 9. Assumes nothing.
use mathlib.Core.Path.{◌≡◌, refl, sym, ap, ◌∙◌}
use Prim.Native.Nat.{ℕ, zero, suc, ◌≤◌, ◌<◌}
use mathlib.Core.List.{List, [], ◌∷◌, append-nil}
use mathlib.Core.Logic.{inl}
use native.Mathlib.Omega.{arith}
use lib.ListN.{length, take, get_or, replicate}
use lib.Seq.{take-length}
use lib.Ieee.{binary64, of_int, of_bits, to_bits, is_nan, eq, lt, add, mul, div}
use Rattle.sqrt.specs.Sqrt.{sqrt_in}
use Rattle.pxfm.specs.Inverfc.{f_erfcinv}
use Rattle.limit.specs.Times.{sum_of, squares_of}
use Rattle.limit.specs.Formula.{sample_form, divisor_of, mean_of, spread_by, spread_of, quantile_of, limit_from, formula_of}
use Rattle.text_digits.specs.Same.{same_bytes}
use Rattle.journal_spec.specs.Bytes.{bytes_of, joined}
use Rattle.journal_spec.specs.Section.{number_bytes, section_bytes}
use Rattle.journal_spec.specs.Record.{Record, last_of, record_bytes, records_bytes}
use Rattle.journal_spec.specs.Ranges.{RecordRanges}
use Rattle.journal_spec.specs.Profile.{plain}
use Rattle.journal_spec.specs.Scan.{whole, scan_of}
use Rattle.journal_spec.specs.Model.{lengths_of, worked_out}
use Rattle.journal_spec.specs.Cursor.{records_upto}
use Rattle.journal_spec.proofs.EvenChance.{worked_plain}
use Rattle.journal_spec.proofs.Format.{whole_scan}
use Rattle.journal_spec.proofs.Whole.{whole_records_lem}
use Rattle.journal_merge_spec.specs.Records.{is_among, select, undropped, before, from, by_day, merged_of}
use Rattle.journal_merge_spec.specs.Merge.{merged, declined_at, declined, merge_of}
use Rattle.journal_merge_spec.proofs.Falls.{FirstFall}
use Rattle.journal_merge_spec.proofs.Rows.{refused}
use Rattle.journal_merge_spec.proofs.Answers.{answered_exactly, forms_fall, too_long}

-- document 01's leaf under a form
unfoldable pub example_of : ℕ → Record
example_of f = record {
  form = f;
  day = 1;
  name = 0x41 ∷ [];
  chances = 500_000 ∷ [];
  times = 100 ∷ 100 ∷ [];
  limits = 0x4059_0000_0000_0000 ∷ [];
}

-- its limit is 100 under form 2 too
worked_sample : worked_out sample_form (100 ∷ 100 ∷ []) 500_000 ≡ of_bits binary64 0x4059_0000_0000_0000
unfolding worked_out formula_of divisor_of mean_of spread_by spread_of quantile_of limit_from sum_of squares_of
    of_int of_bits to_bits is_nan eq lt add mul div sqrt_in f_erfcinv
worked_sample = refl

hundred_bits : to_bits binary64 (of_bits binary64 0x4059_0000_0000_0000) ≡ 0x4059_0000_0000_0000
unfolding of_bits to_bits
hundred_bits = refl

in_range_lem : (f : ℕ) → 1 ≤ f → f ≤ 2 → worked_out f (100 ∷ 100 ∷ []) 500_000 ≡ of_bits binary64 0x4059_0000_0000_0000 → RecordRanges (last_of []) (example_of f)
unfolding example_of last_of
in_range_lem f low high worked = record {
  form = (low, high);
  forms = omega arith;
  day = omega arith;
  day_fits = omega arith;
  name = record { least = omega arith; most = omega arith; bytes = λ i k. letter i k };
  chances = record { least = omega arith; most = omega arith; range = λ i k. chance i k; rising = λ i k. absurd (omega arith) };
  times = record { least = omega arith; most = omega arith; range = λ i k. time i k };
  limit_count = refl;
  limits = λ i k. bits i k;
}
  where
    letter : (i : ℕ) → i < 1 → (0x21 ≤ get_or (0x41 ∷ []) i 0) × (get_or (0x41 ∷ []) i 0 ≤ 0x7e)
    letter zero k = (omega arith, omega arith)
    letter (suc i) k = absurd (omega arith)

    chance : (i : ℕ) → i < 1 → (1 ≤ get_or (500_000 ∷ []) i 0) × (get_or (500_000 ∷ []) i 0 ≤ 999_999)
    chance zero k = (omega arith, omega arith)
    chance (suc i) k = absurd (omega arith)

    time : (i : ℕ) → i < 2 → (1 ≤ get_or (100 ∷ 100 ∷ []) i 0) × (get_or (100 ∷ 100 ∷ []) i 0 ≤ 1_048_575)
    time zero k = (omega arith, omega arith)
    time (suc zero) k = (omega arith, omega arith)
    time (suc (suc i)) k = absurd (omega arith)

    bits : (i : ℕ) → i < 1
        → get_or (0x4059_0000_0000_0000 ∷ []) i 0 ≡ to_bits binary64 (worked_out f (100 ∷ 100 ∷ []) (get_or (500_000 ∷ []) i 0))
    bits zero k = sym (ap (to_bits binary64) worked ∙ hundred_bits)
    bits (suc i) k = absurd (omega arith)

-- a volume of that leaf
record Volume (f : ℕ) : Type 0 where
  scan : scan_of plain (record_bytes (example_of f)) 33 ≡ whole 1 33
  records : records_upto (record_bytes (example_of f)) 33 ≡ example_of f ∷ []

size : (f : ℕ) → length (record_bytes (example_of f)) ≡ 33
unfolding example_of record_bytes joined section_bytes number_bytes bytes_of
size f = refl

volume : (f : ℕ) → RecordRanges (last_of []) (example_of f) → Volume f
unfolding records_bytes joined
volume f g =
    let n = size f in
    let one : records_bytes (example_of f ∷ []) ≡ record_bytes (example_of f) = append-nil (record_bytes (example_of f)) in
    let bytes : take 33 (record_bytes (example_of f)) ≡ records_bytes (example_of f ∷ []) =
    ap (λ (k : ℕ). take k (record_bytes (example_of f))) (sym n) ∙ take-length (record_bytes (example_of f)) ∙ sym one in
    record {
      scan =
          whole_scan (record_bytes (example_of f)) 33 (example_of f ∷ []) (g, tt) (omega arith) (omega arith) bytes ∙ ap (whole 1) (ap length one ∙ n);
      records = whole_records_lem (record_bytes (example_of f)) 33 (omega arith) (example_of f ∷ []) bytes (g, tt);
    }

old : Volume 1
old = volume 1 (in_range_lem 1 (omega arith) (omega arith) worked_plain)

new : Volume 2
new = volume 2 (in_range_lem 2 (omega arith) (omega arith) worked_sample)

-- ---- the merges

abbrev office : ℕ → List ℕ
office f = record_bytes (example_of f)

in_turn : merged_of (example_of 2 ∷ []) (example_of 1 ∷ []) ≡ example_of 2 ∷ example_of 1 ∷ []
unfolding merged_of by_day before from undropped select is_among same_bytes record_bytes joined bytes_of section_bytes number_bytes example_of
in_turn = refl

only_once : merged_of (example_of 1 ∷ []) (example_of 1 ∷ []) ≡ example_of 1 ∷ []
unfolding merged_of by_day before from undropped select is_among same_bytes record_bytes joined bytes_of section_bytes number_bytes example_of
only_once = refl

one_length : lengths_of (example_of 1 ∷ []) ≡ 33
unfolding lengths_of
one_length = omega (arith, size 1)

the_fall : FirstFall 0 0 (example_of 2 ∷ example_of 1 ∷ []) 33
unfolding example_of records_bytes joined
the_fall = record {
  front = example_of 2 ∷ [];
  falling = example_of 1;
  others = [];
  parts = refl;
  rises = (omega arith, tt);
  below = omega arith;
  place = omega (arith, ap length (append-nil (record_bytes (example_of 2))), size 2);
}

-- form 2 in the first volume and form 1 in the second: 13 behind 33 bytes, and nothing is written
pub fall_there : (buffer : List ℕ) → merge_of (office 2) 33 (office 1) 33 buffer ≡ refused (declined_at 13 33) buffer
fall_there buffer =
    forms_fall (office 2) 33 (office 1) 33 buffer 1 33 1 33 new.scan old.scan 33 (rw (new.records, old.records, in_turn) the_fall)

-- 33 bytes into a third buffer of 32: 9, and nothing is written
pub no_room_there : merge_of (office 1) 33 (office 1) 33 (replicate 32 0) ≡ refused (declined 9) (replicate 32 0)
unfolding example_of
no_room_there =
    too_long (office 1) 33 (office 1) 33 (replicate 32 0) 1 33 1 33 old.scan old.scan
    (rw (old.records, only_once) (omega arith, tt)) (rw (old.records, only_once) (inl (omega (arith, one_length))))

-- into 33 or more: the leaf once, and its length is answered
pub once_there : (buffer : List ℕ) → 33 ≤ length buffer → (merge_of (office 1) 33 (office 1) 33 buffer).answer ≡ merged 33
unfolding example_of
once_there buffer h =
    (answered_exactly (office 1) 33 (office 1) 33 buffer (merged 33)).1
    (rw (old.records, only_once)
    (sym one_length, (1, 33, old.scan), (1, 33, old.scan), (omega arith, tt), (omega (arith, one_length), omega (arith, one_length))))
