-- A record's bytes laid out one part behind another: a number's bytes, a section number by number, and the sections of a record.
-- Assumes nothing.
use mathlib.Core.Path.{◌≡◌, refl, sym, ap, ◌∙◌}
use Prim.Native.Nat.{ℕ, zero, suc, ◌+◌, ◌-◌, ◌/◌, ◌%◌, ◌≤◌, ◌<◌, min}
use mathlib.Core.List.{List, [], ◌∷◌, ◌++◌, append_assoc, append-nil}
use native.Mathlib.Omega.{arith}
use Rattle.std.specs.Int.{to_le_bytes, w64}
use lib.ListN.{length, take, drop, get_or}
use lib.Seq.{paste, paste-zero, length-paste, take_at, take-length}
use Rattle.facts.proofs.Orders.{by_order}
use Rattle.text_digits.specs.Text.{room_for, Put}
use Rattle.text_digits.proofs.Putting.{put_nothing, put_put, put_as, put_whole}
use Rattle.limit.specs.Formula.{sample_form}
use Rattle.journal_spec.specs.Bytes.{bytes_of, joined, AreBytes}
use Rattle.journal_spec.specs.Section.{number_bytes, section_bytes}
use Rattle.limit.specs.Times.{max_count}
use Rattle.journal_spec.specs.Record.{max_name, max_chances, record_bytes}
use Rattle.journal_spec.proofs.Records.{length_record}
use Rattle.journal.specs.Handed.{record_from, bytes_from}

-- ---- a number

pub eight_bytes : (x : ℕ) → to_le_bytes w64 x ≡ bytes_of 8 x
unfolding bytes_of
eight_bytes x =
    let third : x / 256 / 256 ≡ x / 65_536 = omega arith in
    let fourth : x / 65_536 / 256 ≡ x / 16_777_216 = omega arith in
    let fifth : x / 16_777_216 / 256 ≡ x / 4_294_967_296 = omega arith in
    let sixth : x / 4_294_967_296 / 256 ≡ x / 1_099_511_627_776 = omega arith in
    let seventh : x / 1_099_511_627_776 / 256 ≡ x / 281_474_976_710_656 = omega arith in
    let eighth : x / 281_474_976_710_656 / 256 ≡ x / 72_057_594_037_927_936 = omega arith in
    rw (third, fourth, fifth, sixth, seventh, eighth) refl

pub take_bytes : (w n x : ℕ) → w ≤ n → take w (bytes_of n x) ≡ bytes_of w x
unfolding bytes_of
take_bytes zero n x h = refl
take_bytes (suc w) zero x h = absurd (omega arith)
take_bytes (suc w) (suc n) x h = ap (λ (bs : List ℕ). x % 256 ∷ bs) (take_bytes w n (x / 256) (omega arith))

-- what is put changes no length
pub put_length : (d : List ℕ) (p : ℕ) (s d₁ : List ℕ) (q : ℕ) → Put d p s d₁ q → length d₁ ≡ length d
unfolding room_for
put_length d p s d₁ q w =
    by_order p (length d)
    (λ inside. ap length w.bytes ∙ length-paste d p s (min (length s) (length d - p)) (omega arith) (omega arith))
    (λ beyond.
    let none : min (length s) (length d - p) ≡ 0 = omega arith in
    let same : paste d p s (min (length s) (length d - p)) ≡ d = rw none (sym (paste-zero d p s)) in
    ap length (w.bytes ∙ same))

-- ---- a section, its first i numbers

pub record Laid (d : List ℕ) (at w : ℕ) (xs : List ℕ) (i : ℕ) (d₁ : List ℕ) (p : ℕ) : Type 0 where
  pub few : i ≤ length xs
  pub put : Put d at (number_bytes w (take i xs)) d₁ p

numbers_next : (w : ℕ) (xs : List ℕ) (i : ℕ) → i < length xs
    → number_bytes w (take i xs) ++ bytes_of w (get_or xs i 0) ≡ number_bytes w (take (suc i) xs)
unfolding number_bytes
numbers_next w [] i h = absurd (omega arith)
numbers_next w (x ∷ xs) zero h = sym (append-nil (bytes_of w x))
numbers_next w (x ∷ xs) (suc i) h =
    append_assoc (bytes_of w x) (number_bytes w (take i xs)) (bytes_of w (get_or xs i 0)) ∙ ap (λ (bs : List ℕ). bytes_of w x ++ bs) (numbers_next w xs i (omega arith))

module _ (d : List ℕ) (at w : ℕ) (xs : List ℕ) where
  pub laid_none : Laid d at w xs 0 d at
  unfolding number_bytes
  laid_none = record { few = omega arith; put = put_nothing d at }

  pub laid_next : (i : ℕ) (d₁ : List ℕ) (p x : ℕ) (d₂ : List ℕ) (q : ℕ) → Laid d at w xs i d₁ p → i < length xs → x ≡ get_or xs i 0
      → Put d₁ p (bytes_of w x) d₂ q → Laid d at w xs (i + 1) d₂ q
  laid_next i d₁ p x d₂ q l h e put =
      let next : i + 1 ≡ suc i = omega arith in
      let text : number_bytes w (take i xs) ++ bytes_of w x ≡ number_bytes w (take (i + 1) xs) = rw (e, next) (numbers_next w xs i h) in
      record { few = omega arith; put = put_as _ _ _ _ _ _ text (put_put _ _ _ _ _ _ _ _ l.put put) }

  -- behind the section's count
  module _ (before : List ℕ) (start : ℕ) (count : Put before start (bytes_of 2 (length xs)) d at) (i : ℕ) (d₁ : List ℕ) (p : ℕ)
      (l : Laid d at w xs i d₁ p) where
    pub laid_all : length xs ≤ i → Put before start (section_bytes w xs) d₁ p
    unfolding section_bytes
    laid_all h =
        let all : i ≡ length xs = omega (arith, l.few) in
        let text : take i xs ≡ xs = rw all (take-length xs) in
        put_as _ _ _ _ _ _ (ap (λ (ys : List ℕ). bytes_of 2 (length xs) ++ number_bytes w ys) text) (put_put _ _ _ _ _ _ _ _ count l.put)

-- bytes are their own numbers of one byte
bytes_alone : (xs : List ℕ) → AreBytes xs → number_bytes 1 xs ≡ xs
unfolding number_bytes bytes_of
bytes_alone [] h = refl
bytes_alone (x ∷ xs) h =
    let low : x % 256 ≡ x = omega (arith, h.0) in
    rw (low, bytes_alone xs h.1) refl

pub bytes_section : (xs : List ℕ) → AreBytes xs → bytes_of 2 (length xs) ++ xs ≡ section_bytes 1 xs
unfolding section_bytes
bytes_section xs h = ap (λ (bs : List ℕ). bytes_of 2 (length xs) ++ bs) (sym (bytes_alone xs h))

-- ---- the record

-- its parts end to end
parts_joined : (a b c d e f : List ℕ) → ((((a ++ b) ++ c) ++ d) ++ e) ++ f ≡ joined (a ∷ b ∷ c ∷ d ∷ e ∷ f ∷ [])
unfolding joined
parts_joined a b c d e f =
    rw (
      append-nil f,
      append_assoc (((a ++ b) ++ c) ++ d) e f,
      append_assoc ((a ++ b) ++ c) d (e ++ f),
      append_assoc (a ++ b) c (d ++ (e ++ f)),
      append_assoc a b (c ++ (d ++ (e ++ f))),
    )
    refl

pub record_parts : (day : ℕ) (name chances times limits : List ℕ)
    → ((((bytes_of 2 sample_form ++ bytes_of 2 day) ++ section_bytes 1 name) ++ section_bytes 4 chances) ++ section_bytes 4 times) ++ section_bytes 8 limits
    ≡ bytes_from day name chances times limits
unfolding record_bytes record_from
record_parts day name chances times limits =
    parts_joined (bytes_of 2 sample_form) (bytes_of 2 day) (section_bytes 1 name) (section_bytes 4 chances) (section_bytes 4 times) (section_bytes 8 limits)

pub record_room : (day : ℕ) (name chances times limits : List ℕ) → length name ≤ max_name → length chances ≤ max_chances → length times ≤ max_count
    → length limits ≤ max_chances → length (bytes_from day name chances times limits) ≤ 652
unfolding record_from
record_room day name chances times limits n c t l = omega (arith, length_record (record_from day name chances times limits))

-- a record that has room is the front of the array
pub record LaidWhole (new d₁ : List ℕ) (q : ℕ) : Type 0 where
  pub size : q ≡ length new
  pub front : take q d₁ ≡ new
  pub room : length new ≤ length d₁

pub laid_whole : (d new d₁ : List ℕ) (q : ℕ) → Put d 0 new d₁ q → (room : ℕ) → length d ≡ room → length new ≤ room → LaidWhole new d₁ q
laid_whole d new d₁ q h room is fits =
    let w = put_whole d 0 new d₁ q h (omega arith) in
    let n : q ≡ length new = omega (arith, w.end) in
    record {
      size = n;
      front = rw (w.bytes, n) (take_at new (drop (0 + length new) d) (length new) refl);
      room = omega (arith, w.size);
    }
