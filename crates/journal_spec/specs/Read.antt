-- Reading record i of a journal, by two calls: one answers its part of the slice, the other its mark.
-- Both refuse as scan does, and then an i that is not below the number of records.
use Rattle.std.specs.Prelude.{ℕ, zero, suc, ◌/◌, List, [], ◌∷◌, Bool, true, cond, ◌&&◌, length, take, drop, ltb, eqb}
use Rattle.journal_spec.specs.Bytes.{numbers_in}
use Rattle.journal_spec.specs.Refusals.{absent_refusal}
use Rattle.journal_spec.specs.Profile.{Rule}
use Rattle.journal_spec.specs.Scan.{Placed, Contents, standing, faulty, contents_of}

-- ---- the part

-- a part of the slice: the place of its first byte, and its bytes' number
pub record Part : Type 0 where
  pub start : ℕ
  pub size : ℕ

-- the empty part, where reading is refused
unfoldable pub no_part : Part
no_part = record { start = 0; size = 0 }

-- the part of the i-th of some records, empty where there is none
unfoldable pub part_at : List Placed → ℕ → Part
part_at [] i = no_part
part_at (p ∷ ps) zero = record { start = p.start; size = p.size }
part_at (p ∷ ps) (suc i) = part_at ps i

-- the same by what the journal holds
unfoldable pub part_of : Contents → ℕ → Part
part_of (standing ps committed) i = part_at ps i
part_of (faulty n p) i = no_part

-- where record i stands
unfoldable pub part_place : Rule → List ℕ → ℕ → ℕ → Part
part_place rule slice len i = part_of (contents_of rule slice len) i

-- the bytes of a part
unfoldable pub part_bytes : List ℕ → Part → List ℕ
part_bytes slice p = take p.size (drop p.start slice)

-- reading's first call: the bytes of record i, empty where refused
unfoldable pub read_part : Rule → List ℕ → ℕ → ℕ → List ℕ
read_part rule slice len i = part_bytes slice (part_place rule slice len i)

-- ---- the mark

-- document 01's mark: F, S or N
pub data Mark : Type 0 where
  flat : Mark
  few : Mark
  normal : Mark

-- the letter's byte
unfoldable pub letter_of : Mark → ℕ
letter_of flat = 0x46
letter_of few = 0x53
letter_of normal = 0x4e

-- below so many times the mark is S
abbrev pub few_times : ℕ
few_times = 8

-- each number is x
unfoldable pub all_equal : ℕ → List ℕ → Bool
all_equal x [] = true
all_equal x (y ∷ ys) = eqb x y && all_equal x ys

-- all numbers are equal
unfoldable pub are_equal : List ℕ → Bool
are_equal [] = true
are_equal (x ∷ xs) = all_equal x xs

-- the mark of so many times, by whether they are all equal: S if there are fewer than 8, else F if they are, else N (document 02, 2026-07)
unfoldable pub mark_from : Bool → ℕ → Mark
mark_from equal times = cond (ltb times few_times) few (cond equal flat normal)

-- the mark of a set of times
unfoldable pub mark_of : List ℕ → Mark
mark_of times = mark_from (are_equal times) (length times)

-- the times that some bytes hold, each a u32; bytes behind the last whole one are none
unfoldable pub times_in : List ℕ → List ℕ
times_in bytes = numbers_in 4 (length bytes / 4) 0 bytes

-- the mark, or the refusal's number
pub data MarkResult : Type 0 where
  marked : Mark → MarkResult
  unmarked : ℕ → MarkResult

-- the mark of the i-th of some records, or that there is no such record
unfoldable pub mark_at : List Placed → ℕ → MarkResult
mark_at [] i = unmarked absent_refusal
mark_at (p ∷ ps) zero = marked (mark_of p.content.times)
mark_at (p ∷ ps) (suc i) = mark_at ps i

-- the same by what the journal holds: scan's refusal comes first
unfoldable pub mark_in : Contents → ℕ → MarkResult
mark_in (standing ps committed) i = mark_at ps i
mark_in (faulty n p) i = unmarked n

-- reading's second call: the mark of record i, or the refusal's number
unfoldable pub read_mark : Rule → List ℕ → ℕ → ℕ → MarkResult
read_mark rule slice len i = mark_in (contents_of rule slice len) i
