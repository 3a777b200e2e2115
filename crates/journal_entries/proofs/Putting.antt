-- The parts of an entry, one behind the other, are the entry; and bytes put where there is room are written there.
-- Assumes nothing.
use mathlib.Core.Path.{◌≡◌, refl, sym, ap, ap₂, ◌∙◌}
use Prim.Native.Nat.{ℕ, ◌+◌, ◌-◌, ◌/◌, ◌≤◌}
use native.Mathlib.Omega.{arith}
use mathlib.Core.List.{List, ◌++◌}
use lib.ListN.{length, take}
use Rattle.std.specs.Int.{to_le_bytes}
use Rattle.std.proofs.Common.{w64}
use Rattle.text_digits.specs.Text.{Put}
use Rattle.text_digits.proofs.Putting.{put_whole}
use Rattle.journal_spec.specs.Bytes.{AreBytes, bytes_of}
use Rattle.journal_spec.specs.Section.{section_bytes}
use Rattle.journal_spec.specs.Index.{entry_bytes}
use Rattle.journal_spec.specs.Append.{written}
use Rattle.journal_entries.proofs.Parsed.{one_byte}

-- the lowest bytes of a number
two_are : (n : ℕ) → take 2 (to_le_bytes w64 n) ≡ bytes_of 2 n
unfolding bytes_of
two_are n = refl

pub two_low : (bytes : List ℕ) (n : ℕ) → bytes ≡ to_le_bytes w64 n → take (2 - 0) bytes ≡ bytes_of 2 n
two_low bytes n e = ap (take 2) e ∙ two_are n

four_are : (n : ℕ) → take 4 (to_le_bytes w64 n) ≡ bytes_of 4 n
unfolding bytes_of
four_are n =
    let a : n / 65_536 ≡ n / 256 / 256 = omega arith in
    let b : n / 16_777_216 ≡ n / 256 / 256 / 256 = omega arith in
    rw (a, b) refl

pub four_low : (bytes : List ℕ) (n : ℕ) → bytes ≡ to_le_bytes w64 n → take (4 - 0) bytes ≡ bytes_of 4 n
four_low bytes n e = ap (take 4) e ∙ four_are n

-- a name's count, the name, and a start
pub entry_parts : (name : List ℕ) (start : ℕ) (count bytes : List ℕ) → AreBytes name → count ≡ bytes_of 2 (length name) → bytes ≡ bytes_of 4 start
    → (count ++ name) ++ bytes ≡ entry_bytes (record { name = name; start = start })
unfolding entry_bytes section_bytes
entry_parts name start count bytes a c s = ap₂ (λ (f g : List ℕ). f ++ g) (ap₂ (λ (f g : List ℕ). f ++ g) c (sym (one_byte name a))) s

-- a text that has room is written
pub put_written : (line : List ℕ) (place : ℕ) (text after : List ℕ) (next : ℕ) → Put line place text after next → place + length text ≤ length line
    → after ≡ written line place text
unfolding written
put_written line place text after next p h = (put_whole line place text after next p h).bytes
