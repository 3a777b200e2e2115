-- Decimal numbers separated by white space: those of a text, up to the first word that is no number, and how they are stored.
-- Assumes nothing.
use Rattle.std.specs.Prelude.{◌≡◌, ℕ, Bool, true, false, cond, List, [], ◌∷◌, ◌++◌, Option, Some, None, Result, Ok, Err, is_ok, is_some}
use Rattle.text_digits.specs.Text.{Put}
use Rattle.command_io.specs.Arguments.{is_space, digit_after}
use Rattle.command_io.specs.declared.numbers.Malformed.{Malformed}
use Rattle.command_io.specs.declared.numbers.Reading.{Reading}

-- the numbers of the words read, whether a word is being read, and what its bytes have come to: nothing from the first word on that is no number
pub record Read : Type 0 where
  pub numbers : List ℕ
  pub inside : Bool
  pub pending : Option ℕ

-- the same where a word may have ended, by what it has come to
unfoldable pub closed_by : List ℕ → Bool → Option ℕ → Read
closed_by ns inside (Some n) = record { numbers = ns ++ cond inside (n ∷ []) []; inside = false; pending = Some 0 }
closed_by ns inside None = record { numbers = ns; inside = inside; pending = None }

-- a word's end, if one is being read: its number joins the others
unfoldable pub closed_of : Read → Read
closed_of a = closed_by a.numbers a.inside a.pending

-- one byte more
unfoldable pub turn_of : ℕ → Read → ℕ → Read
turn_of most a c =
    cond (is_space c) (closed_of a) (record { numbers = a.numbers; inside = true; pending = digit_after most a.inside a.pending c })

-- all bytes of a text more
unfoldable pub read_from : ℕ → Read → List ℕ → Read
read_from most a [] = a
read_from most a (c ∷ cs) = read_from most (turn_of most a c) cs

-- before the first byte
unfoldable pub unread : Read
unread = record { numbers = []; inside = false; pending = Some 0 }

-- the numbers of a text, each at most `most`, with its end as the end of a word
unfoldable pub numbers_of : ℕ → List ℕ → Read
numbers_of most text = closed_of (read_from most unread text)

-- `after` is the buffer with the numbers stored from its start on, as many as there is room for; `r` says how many, and the rest as `a` does
pub record Reads (out : List ℕ) (a : Read) (r : Reading) (after : List ℕ) : Type 0 where
  pub stored : Put out 0 a.numbers after r.count
  pub inside : r.inside ≡ a.inside
  pub pending : r.pending ≡ a.pending

-- how many numbers a reading answers, all of a text or those before the first word that is none
unfoldable pub count_of : Result ℕ Malformed → ℕ
count_of (Ok n) = n
count_of (Err e) = e.before

-- `after` is the buffer with the numbers stored from its start on, as many as there is room for; `r` says how many, and whether every word is one
pub record Stores (out : List ℕ) (a : Read) (r : Result ℕ Malformed) (after : List ℕ) : Type 0 where
  pub stored : Put out 0 a.numbers after (count_of r)
  pub whole : is_ok r ≡ is_some a.pending
