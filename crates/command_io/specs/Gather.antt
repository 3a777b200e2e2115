-- Output gathered in a room of bytes and written in pieces: where a text goes, and what is written before it.
-- Assumes nothing.
use Rattle.std.specs.Prelude.{◌≡◌, ℕ, ◌+◌, Bool, true, cond, ◌&&◌, List, [], ◌∷◌, ◌++◌, length, take, nat_le, Option, is_some, IfSome}
use Rattle.std.proofs.Math.Seq.{paste}

-- The room once a text is gathered, how many of its first bytes wait, and the pieces that were written on the way.
pub record Gather : Type 0 where
  pub pieces : List (List ℕ)
  pub room : List ℕ
  pub waiting : ℕ

-- whether a text has place in a room behind its first bytes
abbrev pub fits_behind : List ℕ → ℕ → List ℕ → Bool
fits_behind room waiting text = nat_le (waiting + length text) (length room)

-- a text put at a place of the room, after some pieces
unfoldable pub placed : List (List ℕ) → List ℕ → ℕ → List ℕ → Gather
placed pieces room place text = record { pieces = pieces; room = paste room place text (length text); waiting = place + length text }

-- A text goes behind what waits, where it has place. Else what waits is written; the text then goes to the room's start, or is written too,
-- where it is longer than the room. `written` says whether the writes succeed; if not, nothing waits any more.
unfoldable pub gather_of : Bool → List ℕ → ℕ → List ℕ → Gather
unfolding placed
gather_of written room waiting text =
    cond (fits_behind room waiting text) (placed [] room waiting text)
    (cond (written && fits_behind room 0 text) (placed (take waiting room ∷ []) room 0 text)
    (record { pieces = take waiting room ∷ text ∷ []; room = room; waiting = 0 }))

-- `after` is the room with the text gathered, and r how much waits, none where a write failed: every byte of the room, for either answer of the
-- writes. Where the text has place behind what waits nothing is written, and so no write fails.
pub record Gathers (room : List ℕ) (waiting : ℕ) (text : List ℕ) (r : Option ℕ) (after : List ℕ) : Type 0 where
  pub bytes : after ≡ (gather_of (is_some r) room waiting text).room
  pub end : IfSome r (λ n. n ≡ (gather_of true room waiting text).waiting)
  pub kept : fits_behind room waiting text ≡ true → is_some r ≡ true

-- texts one after another, where every write succeeds: all pieces, and the room at the end
unfoldable pub gather_all : List ℕ → ℕ → List (List ℕ) → Gather
unfolding gather_of
gather_all room waiting [] = record { pieces = []; room = room; waiting = waiting }
gather_all room waiting (text ∷ texts) =
    let g = gather_of true room waiting text in
    let rest = gather_all g.room g.waiting texts in
    record { pieces = g.pieces ++ rest.pieces; room = rest.room; waiting = rest.waiting }

-- pieces one after another
unfoldable pub in_order : List (List ℕ) → List ℕ
in_order [] = []
in_order (piece ∷ pieces) = piece ++ in_order pieces
