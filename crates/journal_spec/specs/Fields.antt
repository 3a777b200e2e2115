-- Document 01's leaf field by field, written from the paper beside the record's reader: the width of each field, and what is asked of its number,
-- with the refusal that is named where that fails. The law `same_fields` says that the reader judges so.
use Rattle.std.specs.Prelude.{◌≡◌, ℕ, zero, suc, ◌+◌, ◌≤◌, ◌<◌, List, [], ◌∷◌, ◌++◌, length, get_or}
use Rattle.std.specs.Float.{binary64}
use Rattle.std.specs.Float.Ieee.{to_bits}
use Rattle.journal_spec.specs.Bytes.{number_at}
use Rattle.journal_spec.specs.Record.{Last}
use Rattle.journal_spec.specs.Model.{worked_out}
use Rattle.journal_spec.specs.Ranges.{Asked, end, ask, AllHold, FirstNamed}

-- ---- fields

-- no more fields; or one number of some bytes, with what is asked of it, and the fields behind it, by its value
pub data Fields : Type 1 where
  no_more : Fields
  number : ℕ → (ℕ → Asked) → (ℕ → Fields) → Fields

-- n numbers of w bytes, of each of which something is asked by those before it, and what follows, by all of them
unfoldable pub numbers : ℕ → (List ℕ → ℕ → Asked) → (List ℕ → Fields) → ℕ → List ℕ → Fields
numbers w asked following zero before = following before
numbers w asked following (suc n) before = number w (asked before) (λ x. numbers w asked following n (before ++ x ∷ []))

-- a section: a u16 count, and so many numbers of w bytes
unfoldable pub counted : (ℕ → Asked) → ℕ → (List ℕ → ℕ → Asked) → (List ℕ → Fields) → Fields
counted count w asked following = number 2 count (λ n. numbers w asked following n [])

-- the number is one of low, low + 1, .., high, else n
abbrev pub between : ℕ → ℕ → ℕ → ℕ → Asked
between n low high x = ask n ((low ≤ x) × (x ≤ high)) end

-- ---- the record

-- a chance: 1 to 999,999, and above the one before it
abbrev pub asked_chance : List ℕ → ℕ → Asked
asked_chance before c = ask 5 ((1 ≤ c) × (c ≤ 999_999) × ((i : ℕ) → length before ≡ suc i → get_or before i 0 < c)) end

-- the fields of a record that stands after the record `last`
unfoldable pub record_fields : Last → Fields
record_fields last =
    number 2 (λ form. ask 2 ((1 ≤ form) × (form ≤ 2)) (ask 13 (last.form ≤ form) end)) λ form.
    number 2 (λ day. ask 3 (last.day ≤ day) end) λ day.
    counted (between 4 1 32) 1 (λ before. between 4 0x21 0x7e) λ name.
    counted (between 5 1 8) 4 asked_chance λ chances.
    counted (between 6 2 128) 4 (λ before. between 6 1 1_048_575) λ times.
    counted (λ n. ask 7 (n ≡ length chances) end) 8
    (λ before bits. ask 7 (bits ≡ to_bits binary64 (worked_out form times (get_or chances (length before) 0))) end) λ limits.
    no_more

-- ---- a field that is refused, or cut

-- the fields f from a place of the bytes b on come to the fields g at a place: every field between the two stands in b and is as is asked
pub data Comes (b : List ℕ) : Fields → ℕ → Fields → ℕ → Type 1 where
  here : {f : Fields} {at : ℕ} → Comes b f at f at
  good : {w : ℕ} {asked : ℕ → Asked} {next : ℕ → Fields} {at : ℕ} {g : Fields} {p : ℕ} → at + w ≤ length b → AllHold (asked (number_at w at b))
      → Comes b (next (number_at w at b)) (at + w) g p → Comes b (number w asked next) at g p

-- of the fields f from a place of the bytes b on, the one at the place p stands in b and is refused by n, and every field before it is good
pub record FieldRefused (b : List ℕ) (f : Fields) (at n p : ℕ) : Type 1 where
  pub width : ℕ
  pub asked : ℕ → Asked
  pub next : ℕ → Fields
  pub comes : Comes b f at (number width asked next) p
  pub stands : p + width ≤ length b
  pub refused : FirstNamed (asked (number_at width p b)) n

-- of the fields f from a place of the bytes b on, the bytes run out in one, and every field before it is good
pub record RunsOut (b : List ℕ) (f : Fields) (at : ℕ) : Type 1 where
  pub width : ℕ
  pub asked : ℕ → Asked
  pub next : ℕ → Fields
  pub place : ℕ
  pub comes : Comes b f at (number width asked next) place
  pub less : length b < place + width
