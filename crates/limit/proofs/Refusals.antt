-- The refusals at the ends of the ranges, their order and the papers' numbers, and that the ends themselves are taken, computed from the definition.
-- Assumes nothing.
use mathlib.Core.Path.{◌≡◌, refl}
use mathlib.Core.List.{List, [], ◌∷◌}
use Prim.Native.Nat.{ℕ}
use lib.ListN.{length, replicate}
use Rattle.limit.specs.Times.{in_range, time_in_range, all_in_range, times_in_range, sum_of, squares_of}
use Rattle.limit.specs.Formula.{plain_form, sample_form, figures_of}
use Rattle.limit.specs.Answer.{limited, refused}
use Rattle.limit.specs.Limit.{form_known, chance_in_range, judge, limit_of}

-- under both forms
abbrev refuses : List ℕ → ℕ → ℕ → Type 0
refuses ts c n = (limit_of plain_form ts c ≡ refused n) × (limit_of sample_form ts c ≡ refused n)

-- a form that there is not, where nothing else is wrong
abbrev no_form : ℕ → Type 0
no_form form = limit_of form (100 ∷ 100 ∷ []) 1 ≡ refused 2

pub record EndsOfRanges : Type 0 where
  pub form_zero : no_form 0
  pub form_three : no_form 3
  pub form_two_bytes : no_form 258
  pub form_last : no_form 65_535
  pub form_first : limit_of 3 [] 0 ≡ refused 2
  pub chance_zero : refuses (100 ∷ 100 ∷ []) 0 5
  pub chance_million : refuses (100 ∷ 100 ∷ []) 1_000_000 5
  pub no_times : refuses [] 1 6
  pub one_time : refuses (100 ∷ []) 1 6
  pub many_times : refuses (replicate 129 100) 1 6
  pub time_zero : refuses (100 ∷ 0 ∷ []) 1 6
  pub time_beyond : refuses (1_048_576 ∷ 100 ∷ []) 1 6
  pub chance_first : refuses [] 0 5

pub ends_of_ranges : EndsOfRanges
unfolding limit_of judge form_known chance_in_range times_in_range all_in_range time_in_range in_range
ends_of_ranges =
    record {
      form_zero = refl;
      form_three = refl;
      form_two_bytes = refl;
      form_last = refl;
      form_first = refl;
      chance_zero = (refl, refl);
      chance_million = (refl, refl);
      no_times = (refl, refl);
      one_time = (refl, refl);
      many_times = (refl, refl);
      time_zero = (refl, refl);
      time_beyond = (refl, refl);
      chance_first = (refl, refl);
    }

-- one thing wrong at a time: its number
pub record RefusalNumbers : Type 0 where
  pub form : no_form 3
  pub chance : refuses (100 ∷ 100 ∷ []) 0 5
  pub times : refuses (100 ∷ []) 1 6

pub refusal_numbers : RefusalNumbers
unfolding limit_of judge form_known chance_in_range times_in_range all_in_range time_in_range in_range
refusal_numbers = record { form = refl; chance = (refl, refl); times = (refl, refl) }

-- the formula's figures are answered, under both forms
abbrev taken : ℕ → List ℕ → ℕ → Type 0
taken form ts c = limit_of form ts c ≡ limited (figures_of form (length ts) (sum_of ts) (squares_of ts) c)

abbrev takes : List ℕ → ℕ → Type 0
takes ts c = taken plain_form ts c × taken sample_form ts c

-- the fewest and least times and the least chance, and the most and greatest times and the greatest chance
pub record EndsTaken : Type 0 where
  pub least : takes (1 ∷ 1 ∷ []) 1
  pub greatest : takes (replicate 128 1_048_575) 999_999

pub ends_taken : EndsTaken
unfolding limit_of judge form_known chance_in_range times_in_range all_in_range time_in_range in_range
ends_taken = record { least = (refl, refl); greatest = (refl, refl) }
