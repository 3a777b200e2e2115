-- A stored line of the journal's cases: what it asks, and the words that it expects.
-- Assumes nothing.
use Rattle.std.specs.Prelude.{ℕ, Bool, false, cond, ◌&&◌, List, ltb, eqb, length, get_or, Option, None, Some}
use Rattle.text_digits.specs.Hex.{read_hex}
use Rattle.journal_spec.specs.Profile.{Rule, plain, profile}
use Rattle.replay_lines.specs.Lines.{field_of, after_field, after_three}
use Rattle.replay_cases.specs.declared.line.Case.{Case}
use Rattle.replay_cases.specs.declared.line.Case.TheVariants as A

-- b puts bytes, s asks for a scan, p for a part, m for a mark; S, P and M ask for the same by the profile
unfoldable pub case_kind : ℕ → ℕ → ℕ → ℕ → Option Case
case_kind letter place n i =
    cond (eqb letter 98) (Some (A.Bytes place n))
    (cond (eqb letter 115) (Some (A.Scan place n))
    (cond (eqb letter 112) (Some (A.Part place n i))
    (cond (eqb letter 109) (Some (A.Mark place n i))
    (cond (eqb letter 83) (Some (A.Scan place n))
    (cond (eqb letter 80) (Some (A.Part place n i))
    (cond (eqb letter 77) (Some (A.Mark place n i))
    None))))))

-- the three numbers behind a letter: 5, 16 and 16 digits
unfoldable pub case_numbers : List ℕ → ℕ → Option Case
case_numbers s letter =
    after_three None (field_of (read_hex s 2 5)) (field_of (read_hex s 8 16)) (field_of (read_hex s 25 16)) (case_kind letter)

-- a line: 56 bytes, the last one a line end; none where it has another form
unfoldable pub case_of : List ℕ → Option Case
case_of s =
    cond (eqb (length s) 56)
    (cond (eqb (get_or s 55 0) 10) (case_numbers s (get_or s 0 0)) None)
    None

-- the rule that a line asks by: a capital letter is the profile's
unfoldable pub rule_by : List ℕ → Rule
rule_by s = cond (ltb (get_or s 0 0) 97) profile plain

-- whether a number stands in so many digits at a place
unfoldable pub stands : List ℕ → ℕ → ℕ → ℕ → Bool
stands s place width n = after_field false (field_of (read_hex s place width)) (λ x. eqb x n)

-- whether a line expects these three words: 1, 5 and 5 digits
unfoldable pub agrees : List ℕ → ℕ → ℕ → ℕ → Bool
agrees s a b c = stands s 42 1 a && (stands s 44 5 b && stands s 50 5 c)
