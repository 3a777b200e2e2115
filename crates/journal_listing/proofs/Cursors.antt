-- Two cursors that stand for one position are the same cursor: the equations of `start` and `next_line` leave nothing free.
-- Assumes nothing.
use mathlib.Core.Path.{◌≡◌, refl, ap}
use mathlib.Core.Bool.{Bool}
use Prim.Native.Nat.{ℕ}
use Rattle.journal.specs.declared.Status.{Status}
use Rattle.journal.proofs.Meaning.{meaning_injective}
use Rattle.journal_listing.specs.declared.Cursor.{Cursor}
use Rattle.journal_listing.specs.Lines.{Position, position_of}

same : (at at' left left' : ℕ) (ended ended' : Bool) (status status' : Status) → at ≡ at' → left ≡ left' → ended ≡ ended' → status ≡ status'
    → ◌≡◌ {A = Cursor} (record { at = at; left = left; ended = ended; status = status })
    (record { at = at'; left = left'; ended = ended'; status = status' })
same at at' left left' ended ended' status status' e f g h = rw (e, f, g, h) refl

pub position_injective : (a b : Cursor) → position_of a ≡ position_of b → a ≡ b
unfolding position_of
position_injective a b e =
    same a.at b.at a.left b.left a.ended b.ended a.status b.status
    (ap (λ (p : Position). p.at) e)
    (ap (λ (p : Position). p.left) e)
    (ap (λ (p : Position). p.ended) e)
    (meaning_injective a.status b.status (ap (λ (p : Position). p.state) e))
