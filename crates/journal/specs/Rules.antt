-- A section's rule as the code holds it, by value, and the section of the journal's format that it stands for.
-- A number that has to rise is judged by its range alone: its least value is the one above the number before it.
use Rattle.std.specs.Prelude.{ℕ, suc, ◌≤◌, ◌<◌, List, [], ◌∷◌, Bool, true, false, cond}
use Rattle.limit.specs.Times.{min_ticks, max_ticks, min_count, max_count}
use Rattle.limit.specs.Limit.{min_chance, max_chance}
use Rattle.refusals.specs.declared.Refusal.TheVariants as R
use Rattle.refusals.specs.Refusals.{number_of}
use Rattle.journal_spec.specs.Refusals.{outside}
use Rattle.journal_spec.specs.Section.{Section}
use Rattle.journal_spec.specs.Record.{min_name, max_name, min_byte, max_byte, min_chances, max_chances}
use Rattle.journal.specs.declared.section.SectionRule.{SectionRule}

-- the least number that may follow x
unfoldable pub least_next : Bool → ℕ → ℕ → ℕ
least_next rising low x = cond rising (suc x) low

-- the least number that may follow some numbers
unfoldable pub least_after : Bool → ℕ → List ℕ → ℕ
least_after rising low [] = low
least_after rising low (x ∷ xs) = least_after rising (least_next rising low x) xs

-- the refusal of a number, by those before it
unfoldable pub item_refusal : Bool → ℕ → ℕ → ℕ → List ℕ → ℕ → ℕ
item_refusal rising low high n before = outside (least_after rising low before) high n

-- the section that a rule stands for, with numbers of w bytes
unfoldable pub ruled : ℕ → SectionRule → Section
ruled w r = record {
  width = w;
  count = outside r.least r.most (number_of r.refusal);
  item = item_refusal r.rising r.low r.high (number_of r.refusal);
}

-- What every rule here keeps: its numbers are in the range of times and no more than there are times, so that their sums are exact.
pub record RuleFits (r : SectionRule) : Type 0 where
  pub refuses : 0 < number_of r.refusal
  pub few : r.most ≤ max_count
  pub least : min_ticks ≤ r.low
  pub greatest : r.high ≤ max_ticks

-- ---- the rules of the format's sections

-- the name: 1 to 32 bytes, each 21 to 7e
unfoldable pub name_rule : SectionRule
name_rule = record {
  least = min_name;
  most = max_name;
  low = min_byte;
  high = max_byte;
  rising = false;
  refusal = R.Name;
}

-- the chances: 1 to 8, in range, rising strictly
unfoldable pub chance_rule : SectionRule
chance_rule = record {
  least = min_chances;
  most = max_chances;
  low = min_chance;
  high = max_chance;
  rising = true;
  refusal = R.Chance;
}

-- the times: 2 to 128, in range
unfoldable pub time_rule : SectionRule
time_rule = record {
  least = min_count;
  most = max_count;
  low = min_ticks;
  high = max_ticks;
  rising = false;
  refusal = R.Times;
}
