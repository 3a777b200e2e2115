-- How long a line is: that of a record in document 01's ranges takes at most `max_line` bytes, and so does that of an end state whose numbers have
-- at most 20 digits, as those of a u64 do. A buffer of `max_line` bytes holds every line of a listing. Assumes nothing.
use mathlib.Core.Path.{◌≡◌}
use Prim.Native.Nat.{ℕ, suc, ◌*◌, ◌^◌, ◌≤◌, ◌<◌}
use mathlib.Core.List.{List, [], ◌∷◌, ◌++◌}
use native.Mathlib.Omega.{arith}
use lib.ListN.{length, length-append}
use Rattle.text_digits.specs.Hex.{decimal_digits, hex_digits}
use Rattle.text_digits.proofs.Writing.{length_digits}
use Rattle.text_digits.proofs.Counting.{decimal_most}
use Rattle.limit.specs.Answer.{MomentsResult}
use Rattle.limit.specs.Limit.{moments_of_times}
use Rattle.journal_spec.specs.Record.{Record, Last}
use Rattle.journal_spec.specs.Read.{letter_of, mark_of}
use Rattle.journal_spec.specs.Ranges.{Each, RecordRanges}
use Rattle.journal_spec.specs.Scan.{ScanResult, whole, torn, damaged}
use Rattle.journal_spec.specs.Log.{space}
use Rattle.journal_listing.specs.Listing.{line_of, mean_bits, spread_bits, quoted_limit, quoted_limits}
use Rattle.journal_listing.specs.Listing.{word_whole, word_torn, word_damaged, record_line, state_line}
use Rattle.journal_listing.specs.Spaced.{each_spaced}
use Rattle.journal_listing.specs.Lines.{max_line}
use Rattle.journal_listing.proofs.Texts.{moments_part, record_line_lem, words_line}

-- a space, a chance of six digits, a colon and a limit, so many times
pairs_most : (cs ls : List ℕ) → Each 1 999_999 cs → length (each_spaced (quoted_limits cs ls)) ≤ 24 * length cs
unfolding each_spaced quoted_limits quoted_limit
pairs_most [] ls h = omega arith
pairs_most (c ∷ cs) [] h = omega arith
pairs_most (c ∷ cs) (l ∷ ls) h =
    let digits : length (decimal_digits c) ≤ 6 = decimal_most 6 c (omega arith) (omega (arith, h 0 (omega arith))) in
    let rest = pairs_most cs ls (λ i k. h (suc i) (omega arith)) in
    rw (length-append (decimal_digits c ++ (0x3a ∷ _)) (each_spaced (quoted_limits cs ls)), length-append (decimal_digits c))
    (omega (arith, length_digits 16 16 l))

-- two spaces and twice 16 digits
moments_length : (r : Record) → length (moments_part r) ≡ 34
moments_length r =
    let moments : MomentsResult = moments_of_times r.form r.times in
    rw (length-append (space ∷ hex_digits 16 (mean_bits moments)) (space ∷ hex_digits 16 (spread_bits moments)))
    (omega (arith, length_digits 16 16 (mean_bits moments), length_digits 16 16 (spread_bits moments)))

pub record_fits : (last : Last) (r : Record) → RecordRanges last r → length (record_line r) ≤ max_line
record_fits last r k =
    let day : length (decimal_digits r.day) ≤ 5 = decimal_most 5 r.day (omega arith) (omega (arith, k.day_fits)) in
    let pairs = pairs_most r.chances r.limits k.chances.range in
    rw (
      ← record_line_lem r,
      length-append (r.name ++ (space ∷ decimal_digits r.day) ++ (space ∷ letter_of (mark_of r.times) ∷ [])
          ++ moments_part r ++ each_spaced (quoted_limits r.chances r.limits)),
      length-append (r.name ++ (space ∷ decimal_digits r.day) ++ (space ∷ letter_of (mark_of r.times) ∷ []) ++ moments_part r),
      length-append (r.name ++ (space ∷ decimal_digits r.day) ++ (space ∷ letter_of (mark_of r.times) ∷ [])),
      length-append (r.name ++ (space ∷ decimal_digits r.day)),
      length-append r.name,
    )
    (omega (arith, day, moments_length r, pairs, k.name.most, k.chances.most))

-- a word of at most seven bytes and two numbers
words_fit : (w : List ℕ) (n m : ℕ) → length w ≤ 7 → n < 10 ^ 20 → m < 10 ^ 20 → length (line_of (w ∷ decimal_digits n ∷ decimal_digits m ∷ [])) ≤ max_line
words_fit w n m h a b =
    let first = decimal_most 20 n (omega arith) a in
    let second = decimal_most 20 m (omega arith) b in
    rw (
      ← words_line w (decimal_digits n) (decimal_digits m),
      length-append (w ++ (space ∷ decimal_digits n) ++ (space ∷ decimal_digits m)),
      length-append (w ++ (space ∷ decimal_digits n)),
      length-append w,
    )
    (omega (arith, first, second))

-- the numbers of an end state have at most 20 digits
abbrev pub Numbered : ScanResult → Type 0
Numbered (whole n committed) = (n < 10 ^ 20) × (committed < 10 ^ 20)
Numbered (torn n committed) = (n < 10 ^ 20) × (committed < 10 ^ 20)
Numbered (damaged n p) = (n < 10 ^ 20) × (p < 10 ^ 20)

pub state_fits : (s : ScanResult) → Numbered s → length (state_line s) ≤ max_line
unfolding state_line word_whole word_torn word_damaged
state_fits (whole n c) k = words_fit word_whole n c (omega arith) k.0 k.1
state_fits (torn n c) k = words_fit word_torn n c (omega arith) k.0 k.1
state_fits (damaged n p) k = words_fit word_damaged n p (omega arith) k.0 k.1
