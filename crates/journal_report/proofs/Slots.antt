-- Parts of a line as the code puts them one behind another, and those of the definition that they make up. Assumes nothing.
use mathlib.Core.Path.{◌≡◌, refl, sym, ap, ap₂, ◌∙◌}
use Prim.Native.Nat.{ℕ, ◌+◌, ◌-◌, ◌*◌, ◌%◌, ◌^◌, ◌≤◌, ◌<◌}
use mathlib.Core.Bool.{Bool}
use mathlib.Core.List.{List, [], ◌∷◌, ◌++◌, append_assoc}
use native.Mathlib.Omega.{arith}
use native.Mathlib.Nat.{add-sub_cancel_left}
use lib.ListN.{length, take, drop, get_or, length-append}
use lib.Ieee.{binary64, of_bits}
use Rattle.text_digits.specs.Hex.{decimal_digits}
use Rattle.text_digits.proofs.Counting.{decimal_most}
use Rattle.std.specs.Prelude.{Option, Some, None}
use Rattle.text_ticks.specs.declared.whole.Count.{Count}
use Rattle.text_ticks.specs.Ticks.{ticks_up}
use Rattle.text_ticks.specs.Text.{ticks_text, max_text}
use Rattle.text_ticks.proofs.Longest.{up_text_most, near_text_most}
use Rattle.limit.specs.Answer.{MomentsResult}
use Rattle.limit.specs.Limit.{moments_of_times}
use Rattle.journal_spec.specs.Bytes.{number_at, numbers_in}
use Rattle.journal_parts.specs.Numbers.{number_in}
use Rattle.journal_parts.proofs.NumberStands.{number_stands}
use Rattle.journal.proofs.Heads.{number_below}
use Rattle.journal.proofs.Equal.{length_numbers}
use Rattle.journal_listing.specs.Listing.{mean_bits, spread_bits}
use Rattle.journal_listing.specs.MomentsIn.{moments_in}
use Rattle.journal_parts.specs.Plain.{plain_record_at}
use Rattle.journal_parts.specs.Spans.{all_of, spans_at, numbers_of, record_in}
use Rattle.journal_parts.specs.declared.spans.Sections.{Sections}
use Rattle.journal_parts.proofs.Reached.{record_stands, record_short}
use Rattle.journal_listing.proofs.Texts.{bytes_in_lem}
use Rattle.journal_listing.proofs.There.{moments_there}
use Rattle.journal_report.specs.Slot.{fill, column, name_column, near_text, slot_text, times_width, moment_width, figure_columns, slot_line, slot_of}

-- a record's day is what its two bytes say
pub day_is : (x at : ℕ) (b : List ℕ) → ((k : ℕ) → get_or b k 0 < 256) → at + 4 ≤ length b → x ≡ number_in 2 (at + 2) b
    → x % 65536 ≡ number_at 2 (at + 2) b
day_is x at b bytes h e =
    let stands = e ∙ number_stands 2 (at + 2) b (omega arith) (omega arith) in
    omega (arith, stands, number_below 2 (at + 2) b bytes)

-- `chance:limit`
pub slot_parts : (c l : ℕ) (t : Option Count) → t ≡ ticks_up (of_bits binary64 l) → (decimal_digits c ++ (0x3a ∷ [])) ++ ticks_text t ≡ slot_text c l
unfolding slot_text
slot_parts c l t e = append_assoc (decimal_digits c) (0x3a ∷ []) (ticks_text t) ∙ ap (λ (x : Option Count). decimal_digits c ++ (0x3a ∷ ticks_text x)) e

-- of whatever chance and limit it fits 39 bytes: 20 digits, a colon and the ticks; a number fits 20
pub slot_fits : (c l : ℕ) → c < 2 ^ 64 → length (slot_text c l) ≤ 39
unfolding slot_text
slot_fits c l h =
    rw (length-append (decimal_digits c) (0x3a ∷ ticks_text (ticks_up (of_bits binary64 l))))
    (omega (arith, decimal_most 20 c (omega arith) (omega arith), up_text_most (of_bits binary64 l)))

pub near_fits : (bits : ℕ) → length (near_text bits) ≤ max_text
unfolding near_text
near_fits bits = near_text_most (of_bits binary64 bits)

pub times_fit : (n : ℕ) → n < 2 ^ 64 → length (decimal_digits n) ≤ 20
times_fit n h = decimal_most 20 n (omega arith) (omega arith)

-- the name and what fills its column
pub name_parts : (tabs : Bool) (w f n : ℕ) (b : List ℕ) → f + n * 1 ≤ length b
    → take (f + n - f) (drop f b) ++ fill tabs w n ≡ name_column tabs w (numbers_in 1 n f b)
unfolding name_column
name_parts tabs w f n b h = rw (add-sub_cancel_left f n, length_numbers 1 n f b, bytes_in_lem n f b h) refl

-- number of times, mean and spread of a record that stands
pub figure_parts : (tabs : Bool) (at : ℕ) (b : List ℕ) (s : Sections) (m p : ℕ) → all_of (spans_at at b) ≡ Some s
    → m ≡ mean_bits (moments_in at b) → p ≡ spread_bits (moments_in at b)
    → (column tabs times_width (decimal_digits s.times.count) ++ column tabs moment_width (near_text m)) ++ column tabs moment_width (near_text p)
    ≡ figure_columns tabs (record_in at s b)
unfolding figure_columns record_in numbers_of
figure_parts tabs at b s m p e em ep =
    let count : s.times.count ≡ length (numbers_of 4 s.times b) = sym (length_numbers 4 s.times.count s.times.first b) in
    let moments : moments_in at b ≡ moments_of_times (number_at 2 at b) (numbers_of 4 s.times b) = sym (moments_there at b s e) in
    rw (em, ep)
    (ap₂
    (λ (n : ℕ) (x : MomentsResult).
    (column tabs times_width (decimal_digits n) ++ column tabs moment_width (near_text (mean_bits x))) ++ column tabs moment_width (near_text (spread_bits x)))
    count moments)

-- the line of what stands at a place
module _ (tabs : Bool) (w : ℕ) (asked : List ℕ) (at : ℕ) (b : List ℕ) where
  pub slot_none : all_of (spans_at at b) ≡ None → [] ≡ slot_of tabs w asked (plain_record_at at b)
  unfolding slot_of
  slot_none t = rw (record_short at b t) refl

  pub slot_there : (s : Sections) → all_of (spans_at at b) ≡ Some s
      → slot_line tabs w asked (record_in at s b) ≡ slot_of tabs w asked (plain_record_at at b)
  unfolding slot_of
  slot_there s t = rw (record_stands at b s t) refl
