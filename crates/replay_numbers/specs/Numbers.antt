-- Stored numbers against f_erfcinv and f_erfinv: the answer's distance from a line's value, and the groups of many lines.
-- Assumes nothing.
use Rattle.std.specs.Prelude.{◌≡◌, ℕ, ◌+◌, ◌-◌, ◌*◌, ◌/◌, ◌^◌, ◌≤◌, max, cond, Option, None, Some, List, [], ◌∷◌, length, ◌==◌, nat_le, nat_lt, slice_index, slice_index_or, slice_set}
use Rattle.text_digits.specs.Hex.{read_hex}
use Rattle.replay_lines.specs.Lines.{field_of, after_three, one_more, replay_of}
use Rattle.law_mirror.specs.Mirror.{mirror_bits, first_mirrored, last_mirrored}
use Rattle.replay_numbers.specs.declared.kind.Kind.{Kind}
use Rattle.replay_numbers.specs.declared.kind.Kind.TheVariants.{Mirror}
use Rattle.replay_numbers.specs.declared.line.Measured.{Measured}
use Rattle.replay_numbers.specs.declared.group.Group.{Group}
use Rattle.replay_numbers.specs.declared.tally.Groups.{Groups}
use Rattle.replay_numbers.specs.Kinds.{answer_of, value_of, place_of, kind_of}

-- ---- distances, 2^32 to a unit of the last place

-- what stands for a result of the other sign, or 2^31 doubles away and more
abbrev pub too_far : ℕ
too_far = 2 ^ 64 - 1

-- a result so many doubles nearer to zero than the double below the true value
unfoldable pub steps_below : ℕ → ℕ → ℕ
steps_below steps part = cond (nat_lt steps (2 ^ 31)) (steps * 2 ^ 32 + part) too_far

-- a result so many doubles farther from zero; of the two differences one is 0
unfoldable pub steps_above : ℕ → ℕ → ℕ
steps_above steps part = cond (nat_lt steps (2 ^ 31)) ((steps * 2 ^ 32 - part) + (part - steps * 2 ^ 32)) too_far

-- the distance of a result from the true value part / 2^32 of the way from the double with the bits `below` to the next
unfoldable pub distance_of : ℕ → ℕ → ℕ → ℕ
distance_of got below part =
    cond (got / 2 ^ 63 == below / 2 ^ 63)
    (cond (nat_lt got below) (steps_below (below - got) part) (steps_above (got - below) part))
    too_far

-- a distance in ten-thousandths of a unit, rounded up
unfoldable pub ten_thousandths : ℕ → ℕ
ten_thousandths distance = (distance * 10000 + (2 ^ 32 - 1)) / 2 ^ 32

-- ---- one line

-- the answer at x against the value so far behind the double
unfoldable pub measured_at : Kind → ℕ → ℕ → ℕ → Measured
measured_at kind x double part =
    record { kind = kind; x = x; distance = distance_of (answer_of kind x) (value_of kind double) part }

-- at no x strictly between 1 and 2 does the quantile differ from its mirror (document 02, 2026-13, which leaves those with 2 - x below 0.1 to this program)
pub record NeverDiffers (x : ℕ) : Type 0 where
  pub same : first_mirrored ≤ x → x ≤ last_mirrored → (measured_at Mirror x (mirror_bits x) 0).distance ≡ 0

-- the three numbers behind a letter: x, a double and the rest of the way
unfoldable pub measured_numbers : List ℕ → Kind → Option Measured
measured_numbers s kind =
    after_three None (field_of (read_hex s 2 16)) (field_of (read_hex s 19 16)) (field_of (read_hex s 36 8))
    (λ x double part. Some (measured_at kind x double part))

-- the same behind a letter that stands for a kind
unfoldable pub measured_kind : List ℕ → Option Kind → Option Measured
measured_kind s None = None
measured_kind s (Some kind) = measured_numbers s kind

-- a line: 45 bytes, the last one a line end, behind the letter of a kind; none where it has another form
unfoldable pub measured_line : List ℕ → Option Measured
measured_line s =
    cond (length s == 45)
    (cond (slice_index s 44 == 10) (measured_kind s (kind_of (slice_index s 0))) None)
    None

-- ---- the groups

-- a group with no line yet, and its bound in ten-thousandths of a unit
abbrev pub empty_group : ℕ → Group
empty_group bound = record { count = 0; nearest = 0; greatest = 0; at = 0; bound = bound; beyond = 0 }

-- no line yet: all bits are compared of q and m; no bound of f, below 1e-20; 1.1 units of s, from 1e-20 up; 0.53 of o, from 1.4e-11 up, of the
-- chances c and of the inverse error function i
abbrev pub no_lines : Groups
no_lines =
    record {
      all =
          empty_group 0
          ∷ (empty_group 0 ∷ (empty_group (2 ^ 64 - 1) ∷ (empty_group 11000 ∷ (empty_group 5300 ∷ (empty_group 5300 ∷ (empty_group 5300 ∷ []))))));
      malformed = 0;
    }

-- a group with one distance more: how many, how many within half a unit, the greatest and where, how many beyond the bound
unfoldable pub grouped : Group → ℕ → ℕ → Group
grouped g x distance =
    record {
      count = one_more g.count;
      nearest = cond (nat_le distance (2 ^ 31)) (one_more g.nearest) g.nearest;
      greatest = max g.greatest distance;
      at = cond (nat_lt g.greatest distance) x g.at;
      bound = g.bound;
      beyond = cond (nat_lt g.bound (ten_thousandths distance)) (one_more g.beyond) g.beyond;
    }

-- the groups with one line more, in that of its kind, or malformed
unfoldable pub counted : Groups → Option Measured → Groups
counted t None = record { all = t.all; malformed = one_more t.malformed }
counted t (Some m) =
    let place = place_of m.kind in
    record { all = slice_set t.all place (grouped (slice_index_or t.all place (empty_group 0)) m.x m.distance); malformed = t.malformed }

-- the same from the line's bytes
abbrev pub stepped : List ℕ → Groups → Groups
stepped s t = counted t (measured_line s)

-- the groups with all lines of some bytes more
unfoldable pub tallied : List ℕ → Groups → Groups
tallied s t = replay_of 45 stepped s t
