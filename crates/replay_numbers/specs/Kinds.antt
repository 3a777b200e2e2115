-- What a line tells of, by its letter: the function, the double that its answer is measured from, and the place of the group.
-- Assumes nothing.
use Rattle.std.specs.Prelude.{ℕ, cond, Option, None, Some, ◌==◌}
use Rattle.pxfm.specs.Inverf.{f_erfinv_bits}
use Rattle.pxfm.specs.Inverfc.{f_erfcinv_bits}
use Rattle.law_mirror.specs.Mirror.{flip_sign}
use Rattle.replay_numbers.specs.declared.kind.Kind.{Kind}
use Rattle.replay_numbers.specs.declared.kind.Kind.TheVariants.{Answers, Mirror, Far, Small, Others, Chances, Inverse}

-- the letters: q, m, f, s, o, c, i
unfoldable pub kind_of : ℕ → Option Kind
kind_of letter =
    cond (letter == 113) (Some Answers)
    (cond (letter == 109) (Some Mirror)
    (cond (letter == 102) (Some Far)
    (cond (letter == 115) (Some Small)
    (cond (letter == 111) (Some Others)
    (cond (letter == 99) (Some Chances)
    (cond (letter == 105) (Some Inverse) None))))))

-- the place of a kind's group
abbrev pub place_of : Kind → ℕ
place_of Answers = 0
place_of Mirror = 1
place_of Far = 2
place_of Small = 3
place_of Others = 4
place_of Chances = 5
place_of Inverse = 6

-- the kind's function at x: the inverse error function, and of all other kinds the quantile
abbrev pub answer_of : Kind → ℕ → ℕ
answer_of Inverse x = f_erfinv_bits x
answer_of kind x = f_erfcinv_bits x

-- the double that an answer is measured from: of the mirror the quantile at the line's own with the sign bit flipped, of all others that itself
abbrev pub value_of : Kind → ℕ → ℕ
value_of Mirror double = flip_sign (f_erfcinv_bits double)
value_of kind double = double
