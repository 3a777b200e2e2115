-- Bytes put into a lent line from a place on: as many as there is room for.
-- Assumes nothing.
use Rattle.std.specs.Prelude.{ℕ, ◌+◌, ◌-◌, min, ◌≡◌, List, length}
use Rattle.std.proofs.Math.Seq.{paste}

-- how many bytes of a text have room in a line from a place on
unfoldable pub room_for : List ℕ → ℕ → List ℕ → ℕ
room_for line place text = min (length text) (length line - place)

-- `after` is the line with the text put in from a place on, and `next` the place behind it; the rest of the line stays
pub record Put (line : List ℕ) (place : ℕ) (text after : List ℕ) (next : ℕ) : Type 0 where
  pub bytes : after ≡ paste line place text (room_for line place text)
  pub end : next ≡ place + room_for line place text
