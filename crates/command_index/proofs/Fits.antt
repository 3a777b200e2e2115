-- An index that is made has room in its buffer.
-- Assumes nothing.
use mathlib.Core.Path.{◌≡◌, refl, sym, subst}
use Prim.Native.Nat.{ℕ, zero, suc, ◌≤◌}
use mathlib.Core.List.{List}
use Rattle.std.specs.Prelude.{Result, Ok, Err, IfOk}
use native.Mathlib.Omega.{arith}
use borrow.Author.Tests.{leb-true}
use lib.Dec.{leb}
use lib.ListN.{length}
use Rattle.journal_spec.specs.Profile.{plain}
use Rattle.journal_spec.specs.Scan.{Contents, standing, faulty, contents_of}
use Rattle.journal_spec.specs.Request.{Journal}
use Rattle.journal_spec.specs.Index.{IndexEntry, index_bytes, index_of}
use Rattle.journal_spec.specs.Append.{judge_index_room}
use Rattle.journal_spec.specs.MakeIndex.{Made, IndexResult, made, declined, damaged, make_unless, make_from, make_index_of}
use Rattle.journal_spec.proofs.Judging.{unless_none}
use Rattle.journal_spec.proofs.Placing.{written_length}
use Rattle.journal_index.specs.declared.IndexError.{IndexError}
use Rattle.journal_index.specs.Made.{made_meaning, made_outcome}

-- how many bytes an index takes that is made
unfoldable size_of : IndexResult → ℕ
size_of (made n) = n
size_of (declined n) = 0
size_of (damaged n p) = 0

-- the made size is within the buffer after the call
abbrev Fits : Made → Type 0
Fits m = size_of m.answer ≤ length m.buffer

unless_fits : (n : ℕ) (es : List IndexEntry) (b : List ℕ) → judge_index_room es b ≡ n → Fits (make_unless n es b)
unfolding make_unless size_of judge_index_room
unless_fits zero es b h =
    let room : length (index_bytes es) ≤ length b = leb-true _ _ (unless_none (leb (length (index_bytes es)) (length b)) 14 h) in
    omega (arith, room, written_length b 0 (index_bytes es) (omega (arith, room)))
unless_fits (suc n) es b h = omega arith

from_fits : (x : Contents) (b : List ℕ) → Fits (make_from x b)
unfolding make_from size_of
from_fits (faulty n p) b = omega arith
from_fits (standing ps committed) b = unless_fits (judge_index_room (index_of ps) b) (index_of ps) b refl

answer_fits : (j : Journal) (b after : List ℕ) (r : Result ℕ IndexError) → made_outcome r after ≡ make_index_of j b
    → size_of (made_meaning r) ≤ length after
unfolding made_outcome make_index_of
answer_fits j b after r e = subst Fits (sym e) (from_fits (contents_of plain j.slice j.len) b)

pub size_fits : (j : Journal) (b after : List ℕ) (r : Result ℕ IndexError) → made_outcome r after ≡ make_index_of j b
    → IfOk r (λ size. size ≤ length after)
unfolding size_of made_meaning
size_fits j b after (Ok n) e = answer_fits j b after (Ok n) e
size_fits j b after (Err error) e = tt
