-- The rows of an index that is handed, as the code finds them: 14, 15, or none; and what amending it in its buffer comes to where there is none.
-- Assumes nothing.
use mathlib.Core.Path.{◌≡◌, refl, sym, ◌∙◌}
use Prim.Native.Nat.{ℕ, ◌<◌}
use mathlib.Core.List.{List, [], ◌∷◌}
use mathlib.Core.Bool.{Bool, true, false, not}
use native.Mathlib.Omega.{arith}
use lib.ListN.{length}
use lib.Dec.{leb}
use borrow.Author.Tests.{not-true, not-false}
use Rattle.journal_spec.specs.Refusals.{index_refusal, index_room_refusal, first_of}
use Rattle.journal_spec.specs.Index.{IndexEntry, index_bytes, in_front, amend}
use Rattle.journal_spec.specs.Append.{judge_index, judge_index_room, written}
use Rattle.journal_spec.proofs.Judging.{unless_none, unless_true, unless_false, first_none}
use Rattle.journal_spec.proofs.Whole.{WholeBytes}
use Rattle.journal.proofs.Checking.{first_this, first_later, first_alone}
use Rattle.journal_entries.specs.Amending.{next_bytes, amended_in}
use Rattle.journal_index.specs.Standing.{index_in}
use Rattle.journal_index.proofs.OwnPass.{own_entries}

abbrev entry : List ℕ → ℕ → IndexEntry
entry name start = record { name = name; start = start }

-- ---- the rows

-- 14, then 15: of the bytes b, behind which a record of the name is to start
abbrev pub rows_of : List ℕ → List ℕ → List ℕ → ℕ → List ℕ
rows_of b name index start = judge_index (index_in b) index ∷ judge_index_room (amend (entry name start) (index_in b)) index ∷ []

module _ (b name index : List ℕ) (whole : WholeBytes b) (start : ℕ) where
  abbrev rows : List ℕ
  rows = rows_of b name index start

  module _ (own : Bool) (is : own ≡ in_front (index_bytes (index_in b)) index) where
    pub not_own : not own ≡ true → (index_refusal ≡ first_of rows) × (0 < first_of rows)
    unfolding judge_index
    not_own h =
        let e : index_refusal ≡ first_of rows =
        first_this index_refusal _ _ (omega arith) (sym (unless_false _ index_refusal (sym is ∙ not-true own h))) in
        (e, omega (arith, e))

    module _ (h : not own ≡ false) (room : Bool) (by : room ≡ leb (length (next_bytes (entry name start) index)) (length index)) where
      front : in_front (index_bytes (index_in b)) index ≡ true
      front = sym is ∙ not-false own h

      second : first_of rows ≡ judge_index_room (amend (entry name start) (index_in b)) index
      unfolding judge_index
      second = first_later _ _ (unless_true _ index_refusal front) ∙ first_alone _

      -- the entries that the buffer is read as are those of the index
      told : room ≡ leb (length (index_bytes (amend (entry name start) (index_in b)))) (length index)
      unfolding next_bytes
      told = rw (own_entries b index whole front) at by

      pub no_room : not room ≡ true → (index_room_refusal ≡ first_of rows) × (0 < first_of rows)
      unfolding judge_index_room
      no_room n =
          let e : index_room_refusal ≡ first_of rows = sym (second ∙ unless_false _ index_room_refusal (sym told ∙ not-true room n)) in
          (e, omega (arith, e))

      pub some_room : not room ≡ false → first_of rows ≡ 0
      unfolding judge_index_room
      some_room n = second ∙ unless_true _ index_room_refusal (sym told ∙ not-false room n)

  -- where neither holds, the index amended is in the buffer
  pub amended_in_lem : first_of rows ≡ 0 → amended_in (entry name start) index ≡ written index 0 (index_bytes (amend (entry name start) (index_in b)))
  unfolding amended_in next_bytes judge_index judge_index_room
  amended_in_lem z =
      let front = unless_none _ 13 (first_none _ _ z).0 in
      let fits = unless_none _ 14 (first_none _ _ (first_none _ _ z).1).0 in
      rw (own_entries b index whole front) (rw fits refl)
