-- Worked examples, computed from the definitions: document 01's leaf merged with itself, with itself twice, and with the same leaf as form 2 on
-- either side; and the merge of its 33 bytes, of which one volume is cut or has a fault, with whose it is and the papers' number. Assumes nothing.
use mathlib.Core.Path.{◌≡◌, refl}
use Prim.Native.Nat.{ℕ}
use mathlib.Core.List.{List, [], ◌∷◌}
use mathlib.Core.Option.{some}
use native.Mathlib.Omega.{arith}
use lib.ListN.{set}
use Rattle.text_digits.specs.Same.{same_bytes}
use Rattle.journal_spec.specs.Bytes.{bytes_of, joined}
use Rattle.journal_spec.specs.Section.{number_bytes, section_bytes}
use Rattle.journal_spec.specs.Record.{Record, record_bytes}
use Rattle.journal_spec.proofs.Examples.{the_record, the_bytes, whole_example, cut_example, faults}
use Rattle.journal_spec.specs.Profile.{plain}
use Rattle.journal_spec.specs.Scan.{scan_of}
use Rattle.journal_spec.specs.Scan as Scan
use Rattle.journal_merge_spec.specs.Merge.{of_first, of_second, damaged, declined_of, merge_of}
use Rattle.journal_merge_spec.proofs.Rows.{refused}
use Rattle.journal_merge_spec.proofs.Answers.{first_fault, second_fault, first_ends_torn, second_ends_torn}
use Rattle.journal_merge_spec.specs.Records.{is_among, select, undropped, before, from, by_day, merged_of, fall_from}

-- the same leaf as form 2
unfoldable pub new_record : Record
unfolding the_record
new_record = record {
  form = 2;
  day = the_record.day;
  name = the_record.name;
  chances = the_record.chances;
  times = the_record.times;
  limits = the_record.limits;
}

-- what both journals hold is merged once
pub with_itself : merged_of (the_record ∷ []) (the_record ∷ the_record ∷ []) ≡ the_record ∷ []
unfolding merged_of by_day before from undropped select is_among same_bytes record_bytes joined bytes_of section_bytes number_bytes the_record
with_itself = refl

-- what the first holds twice stays twice
pub twice_in_first : merged_of (the_record ∷ the_record ∷ []) (the_record ∷ []) ≡ the_record ∷ the_record ∷ []
unfolding merged_of by_day before from undropped select is_among same_bytes record_bytes joined bytes_of section_bytes number_bytes the_record
twice_in_first = refl

-- on equal days the first journal's comes first: form 1 and then form 2
pub first_first : merged_of (the_record ∷ []) (new_record ∷ []) ≡ the_record ∷ new_record ∷ []
unfolding merged_of by_day before from undropped select is_among same_bytes record_bytes joined bytes_of section_bytes number_bytes the_record new_record
first_first = refl

-- with the journals exchanged 13 stands behind 33 bytes
pub falls_there : fall_from 0 0 (merged_of (new_record ∷ []) (the_record ∷ [])) ≡ some 33
unfolding merged_of by_day before from undropped select is_among fall_from same_bytes record_bytes joined bytes_of section_bytes number_bytes the_record new_record
falls_there = refl

-- ---- the merge of bytes

whole_faultless : (n p : ℕ) → scan_of plain the_bytes 33 ≡ Scan.damaged n p → ⊥
whole_faultless n p h = let e = whole_example in let z : ◌≡◌ {A = ℕ} 0 1 = cc in omega arith

cut_faultless : (n p : ℕ) → scan_of plain the_bytes 32 ≡ Scan.damaged n p → ⊥
cut_faultless n p h = let e = cut_example in let z : ◌≡◌ {A = ℕ} 0 1 = cc in omega arith

-- the leaf's 33 bytes, cut to 32 in the first volume, in the second, in both
pub record CutInputs (buffer : List ℕ) : Type 0 where
  pub first : merge_of the_bytes 32 the_bytes 33 buffer ≡ refused (declined_of of_first 16) buffer
  pub second : merge_of the_bytes 33 the_bytes 32 buffer ≡ refused (declined_of of_second 16) buffer
  pub both : merge_of the_bytes 32 the_bytes 32 buffer ≡ refused (declined_of of_first 16) buffer

pub cut_inputs : (buffer : List ℕ) → CutInputs buffer
cut_inputs buffer = record {
  first = first_ends_torn the_bytes 32 the_bytes 33 buffer 0 0 cut_example whole_faultless;
  second = second_ends_torn the_bytes 33 the_bytes 32 buffer 1 33 0 0 whole_example cut_example;
  both = first_ends_torn the_bytes 32 the_bytes 32 buffer 0 0 cut_example cut_faultless;
}

-- a form 3 in the first volume, a name's byte 20 in the second, and both; a fault of the second comes before the first's torn end
pub record FaultyInputs (buffer : List ℕ) : Type 0 where
  pub first : merge_of (set the_bytes 0 3) 33 the_bytes 32 buffer ≡ refused (damaged of_first 2 0) buffer
  pub second : merge_of the_bytes 33 (set the_bytes 6 0x20) 33 buffer ≡ refused (damaged of_second 4 6) buffer
  pub both : merge_of (set the_bytes 0 3) 33 (set the_bytes 6 0x20) 33 buffer ≡ refused (damaged of_first 2 0) buffer
  pub before_torn : merge_of the_bytes 32 (set the_bytes 6 0x20) 33 buffer ≡ refused (damaged of_second 4 6) buffer

pub faulty_inputs : (buffer : List ℕ) → FaultyInputs buffer
unfolding the_bytes
faulty_inputs buffer = record {
  first = first_fault (set the_bytes 0 3) 33 the_bytes 32 buffer 2 0 faults.form;
  second = second_fault the_bytes 33 (set the_bytes 6 0x20) 33 buffer 4 6 whole_faultless faults.name_byte;
  both = first_fault (set the_bytes 0 3) 33 (set the_bytes 6 0x20) 33 buffer 2 0 faults.form;
  before_torn = second_fault the_bytes 32 (set the_bytes 6 0x20) 33 buffer 4 6 cut_faultless faults.name_byte;
}
