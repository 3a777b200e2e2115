-- Parts of lines as the code puts them one behind another, and the lines of the definition that they make up.
-- Assumes nothing.
use mathlib.Core.Path.{◌≡◌, refl, sym, ap, ◌∙◌}
use Prim.Native.Nat.{ℕ, zero, suc, ◌+◌, ◌*◌, ◌-◌, ◌/◌, ◌≤◌, min}
use mathlib.Core.List.{List, [], ◌∷◌, ◌++◌, append_assoc, append-nil}
use native.Mathlib.Omega.{arith}
use native.Mathlib.Nat.{zero-min, min-zero, suc-min-suc, suc-mul, add_assoc, add-zero}
use native.Mathlib.Numerals.{add-one}
use lib.ListN.{length, take, drop, get_or, length-take, length-drop}
use lib.Seq.{drop-cons, take-take, drop-drop}
use Rattle.text_digits.specs.Hex.{decimal_digits, hex_digits}
use Rattle.limit.specs.Limit.{moments_of_times}
use Rattle.journal_spec.specs.Bytes.{value_of, number_at, numbers_in}
use Rattle.journal_spec.specs.Record.{Record}
use Rattle.journal_spec.specs.Read.{letter_of, mark_of, times_in}
use Rattle.journal_spec.proofs.Reading.{drop_take}
use Rattle.journal_spec.specs.Log.{space, newline}
use Rattle.journal_listing.specs.Listing.{spaced, line_of, mean_bits, spread_bits, quoted_limits, record_line}
use Rattle.journal_listing.specs.Spaced.{each_spaced}

-- numbers of one byte are the bytes themselves
pub bytes_in_lem : (n at : ℕ) (b : List ℕ) → at + n * 1 ≤ length b → numbers_in 1 n at b ≡ take n (drop at b)
unfolding numbers_in number_at value_of
bytes_in_lem zero at b h = refl
bytes_in_lem (suc n) at b h =
    let first : drop at b ≡ get_or b at 0 ∷ drop (suc at) b = drop-cons b at 0 (omega arith) in
    let rest : numbers_in 1 n (at + 1) b ≡ take n (drop (suc at) b) = bytes_in_lem n (at + 1) b (omega arith) ∙ rw add-one refl in
    rw (first, rest) (ap (λ (x : ℕ). x ∷ take n (drop (suc at) b)) (omega arith))

-- numbers that stand in a part of the bytes stand behind its start
numbers_part : (w n at from size : ℕ) (b : List ℕ) → at + n * w ≤ size → from + size ≤ length b
    → numbers_in w n at (take size (drop from b)) ≡ numbers_in w n (from + at) b
unfolding numbers_in number_at
numbers_part w zero at from size b h k = refl
numbers_part w (suc n) at from size b h k =
    let more : suc n * w ≡ w + n * w = rw (suc-mul n w) (omega arith) in
    let start = drop_take at size (drop from b) (rw length-drop (omega arith)) (omega arith) in
    let here : take w (drop at (take size (drop from b))) ≡ take w (drop (from + at) b) =
    ap (take w) start ∙ take-take w (size - at) (drop at (drop from b)) (omega arith) ∙ ap (take w) (drop-drop at from b) in
    rw (here, numbers_part w n (at + w) from size b (omega arith) k, add_assoc) refl

-- the times of a section are those that its part of the bytes holds
pub times_part : (n from : ℕ) (b : List ℕ) → from + n * 4 ≤ length b → times_in (take (n * 4) (drop from b)) ≡ numbers_in 4 n from b
unfolding times_in
times_part n from b h =
    let count : length (take (n * 4) (drop from b)) / 4 ≡ n = rw (length-take, length-drop) (omega arith) in
    rw count (numbers_part 4 n 0 from (n * 4) b (omega arith) h ∙ rw add-zero refl)

-- pairs of n chances and m limits: as many as the fewer of them
pub pairs_fewer : (b : List ℕ) (n m c l : ℕ)
    → quoted_limits (numbers_in 4 n c b) (numbers_in 8 m l b) ≡ quoted_limits (numbers_in 4 (min n m) c b) (numbers_in 8 (min n m) l b)
unfolding quoted_limits numbers_in
pairs_fewer b zero m c l = rw zero-min refl
pairs_fewer b (suc n) zero c l = rw min-zero refl
pairs_fewer b (suc n) (suc m) c l = rw (suc-min-suc, pairs_fewer b n m (c + 4) (l + 8)) refl

-- words by single spaces: the first, and then each behind a space
pub spaced_rest : (w : List ℕ) (ws : List (List ℕ)) → spaced (w ∷ ws) ≡ w ++ each_spaced ws
unfolding spaced each_spaced
spaced_rest w [] = rw append-nil refl
spaced_rest w (v ∷ ws) = ap (λ (x : List ℕ). w ++ (space ∷ x)) (spaced_rest v ws)

-- a word and a number
pub word_line : (w n : List ℕ) → w ++ (space ∷ n) ++ (newline ∷ []) ≡ line_of (w ∷ n ∷ [])
unfolding line_of spaced
word_line w n = refl

-- and two
pub words_line : (w n m : List ℕ) → w ++ (space ∷ n) ++ (space ∷ m) ++ (newline ∷ []) ≡ line_of (w ∷ n ∷ m ∷ [])
unfolding line_of spaced
words_line w n m = ap (λ (x : List ℕ). x ++ (newline ∷ [])) (append_assoc w (space ∷ n) (space ∷ m))

-- mean and spread of a record, a space before each
abbrev pub moments_part : Record → List ℕ
moments_part r =
    let moments = moments_of_times r.form r.times in
    (space ∷ hex_digits 16 (mean_bits moments)) ++ (space ∷ hex_digits 16 (spread_bits moments))

-- the parts of a record's line
pub record_line_lem : (r : Record) → r.name ++ (space ∷ decimal_digits r.day) ++ (space ∷ letter_of (mark_of r.times) ∷ [])
    ++ moments_part r ++ each_spaced (quoted_limits r.chances r.limits) ++ (newline ∷ []) ≡ record_line r
unfolding record_line line_of each_spaced
record_line_lem r =
    let day : List ℕ = decimal_digits r.day in
    let mark : List ℕ = letter_of (mark_of r.times) ∷ [] in
    let mean : List ℕ = hex_digits 16 (mean_bits (moments_of_times r.form r.times)) in
    let spread : List ℕ = hex_digits 16 (spread_bits (moments_of_times r.form r.times)) in
    let pairs : List (List ℕ) = quoted_limits r.chances r.limits in
    let rest : List ℕ = (space ∷ mean) ++ ((space ∷ spread) ++ each_spaced pairs) in
    ap (λ (x : List ℕ). x ++ (newline ∷ []))
    (append_assoc (r.name ++ (space ∷ day) ++ (space ∷ mark)) ((space ∷ mean) ++ (space ∷ spread)) (each_spaced pairs)
    ∙ ap (λ (x : List ℕ). (r.name ++ (space ∷ day) ++ (space ∷ mark)) ++ x) (append_assoc (space ∷ mean) (space ∷ spread) (each_spaced pairs))
    ∙ append_assoc (r.name ++ (space ∷ day)) (space ∷ mark) rest
    ∙ append_assoc r.name (space ∷ day) ((space ∷ mark) ++ rest)
    ∙ sym (spaced_rest r.name (day ∷ mark ∷ mean ∷ spread ∷ pairs)))
