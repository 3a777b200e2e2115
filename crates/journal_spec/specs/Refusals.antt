-- Document 01's table of refusals: the numbers that crate `limit` does not define, and how a refusal is found.
-- A refusal is its number, from 1 up; 0 stands for none. 2, 5 and 6 are `form_refusal`, `chance_refusal` and `times_refusal` of `limit`.
-- 8, a limit not finite, is none any more and is not used again (document 02, 2026-06): `finite_limits`, crate law_finite.
use Rattle.std.specs.Prelude.{ℕ, zero, suc, List, [], ◌∷◌, Bool, false, cond, ◌||◌, eqb}
use Rattle.limit.specs.Times.{in_range}

-- 1: length beyond the slice or the longest journal
abbrev pub length_refusal : ℕ
length_refusal = 1

-- 3: day below that of the record before
abbrev pub day_refusal : ℕ
day_refusal = 3

-- 4: name count or byte
abbrev pub name_refusal : ℕ
name_refusal = 4

-- 7: limit count, or a limit's bits
abbrev pub limit_refusal : ℕ
limit_refusal = 7

-- 9: no room for the record
abbrev pub room_refusal : ℕ
room_refusal = 9

-- 10: no such record
abbrev pub absent_refusal : ℕ
absent_refusal = 10

-- 11: a line of the log not of its shape or range
abbrev pub line_refusal : ℕ
line_refusal = 11

-- 12: a 129th line of the name
abbrev pub many_refusal : ℕ
many_refusal = 12

-- 13: form 1 after a record of form 2
abbrev pub old_form_refusal : ℕ
old_form_refusal = 13

-- 14: the index handed is not the journal's
abbrev pub index_refusal : ℕ
index_refusal = 14

-- 15: its buffer cannot hold the index with the record finished
abbrev pub index_room_refusal : ℕ
index_room_refusal = 15

-- 17: an offered chance above 500,000
abbrev pub even_refusal : ℕ
even_refusal = 17

-- 19: a record breaks the profile
abbrev pub profile_refusal : ℕ
profile_refusal = 19

-- none where the test holds, else n
unfoldable pub unless : Bool → ℕ → ℕ
unless good n = cond good 0 n

-- the refusal n of a number that is not low, low + 1, .., high
unfoldable pub outside : ℕ → ℕ → ℕ → ℕ → ℕ
outside low high n x = unless (in_range low high x) n

-- the number is one of a table's
unfoldable pub among : List ℕ → ℕ → Bool
among [] n = false
among (m ∷ ms) n = eqb m n || among ms n

-- the first that is a refusal, or none
unfoldable pub first_of : List ℕ → ℕ
first_of [] = 0
first_of (zero ∷ ns) = first_of ns
first_of (suc n ∷ ns) = suc n
