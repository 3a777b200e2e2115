-- A section by the answer of its count: so many numbers after it, or the count's own end.
-- The three rules are the name's, the chances' and the times' sections of the format. Assumes nothing.
use mathlib.Core.Path.{◌≡◌, refl, sym, ap, ◌∙◌, fun_ext}
use Prim.Native.Nat.{ℕ, suc, ◌+◌}
use mathlib.Core.List.{List, [], ◌∷◌}
use mathlib.Core.Bool.{true, false}
use lib.ListN.{drop}
use Rattle.std.specs.Prelude.{Result, Ok, Err}
use Rattle.refusals.specs.Refusals.{number_of}
use Rattle.limit.specs.Times.{min_ticks, max_ticks, min_count, max_count}
use Rattle.limit.specs.Limit.{max_chance}
use Rattle.limit.specs.Answer.{chance_refusal, times_refusal}
use Rattle.journal_spec.specs.Refusals.{outside, name_refusal}
use Rattle.journal_spec.specs.Reader.{run}
use Rattle.journal_spec.specs.Section.{Section, section, items}
use Rattle.journal_spec.specs.Record.{min_name, max_name, min_byte, max_byte, min_chances, max_chances, last_chance}
use Rattle.journal_spec.specs.Record.{name_section, chance_section, time_section}
use Rattle.journal.specs.Told.{Stopped}
use Rattle.journal.specs.declared.section.SectionRule.{SectionRule}
use Rattle.journal.specs.Rules.{least_next, least_after, item_refusal, ruled, name_rule, chance_rule, time_rule}
use Rattle.journal.specs.Found.{field_at, section_kept, numbers_at, section_at}
use Rattle.journal.proofs.Ranges.{chance_agrees}
use Rattle.journal.proofs.Fields.{after_field, by_field}
use Rattle.journal.proofs.Stopping.{halted_kept}

-- ---- by the count

module _ (w : ℕ) (r : SectionRule) (at : ℕ) (b : List ℕ) (f : Result ℕ Stopped)
    (read : f ≡ field_at 2 r.least r.most (number_of r.refusal) at b) where
  -- what the section's reader finds, by the answer of its count
  by_count : run (section (ruled w r)) at (drop at b)
      ≡ after_field (λ n. items w (item_refusal r.rising r.low r.high (number_of r.refusal)) n []) 2 at b f
  unfolding section ruled
  by_count =
      by_field 2 (outside r.least r.most (number_of r.refusal))
      (λ n. items w (item_refusal r.rising r.low r.high (number_of r.refusal)) n []) at b
      ∙ rw (← read) refl

  pub section_numbers : (n : ℕ) → f ≡ Ok n → numbers_at w r n (at + 2) b ≡ section_at w r at b
  unfolding numbers_at section_at after_field
  section_numbers n told = rw by_count (rw told refl)

  pub section_halted : (e : Stopped) → f ≡ Err e → Err e ≡ section_at w r at b
  unfolding section_at after_field
  section_halted e told = rw by_count (rw told (halted_kept section_kept e))

-- ---- the rules

least_same : (low : ℕ) (xs : List ℕ) → least_after false low xs ≡ low
unfolding least_after least_next
least_same low [] = refl
least_same low (x ∷ xs) = least_same low xs

least_rising : (xs : List ℕ) → least_after true 1 xs ≡ suc (last_chance xs)
unfolding least_after least_next last_chance
least_rising [] = refl
least_rising (x ∷ []) = refl
least_rising (x ∷ y ∷ xs) = after x y xs
  where
    after : (x y : ℕ) (xs : List ℕ) → least_after true (suc x) (y ∷ xs) ≡ suc (last_chance (y ∷ xs))
    after x y [] = refl
    after x y (z ∷ xs) = after y z xs

-- the name's section
pub name_ruled : ruled 1 name_rule ≡ name_section
unfolding ruled name_rule name_section item_refusal
name_ruled =
    let build : (List ℕ → ℕ → ℕ) → Section = λ item. record { width = 1; count = outside min_name max_name name_refusal; item = item } in
    ap build (fun_ext (λ before. ap (λ (low : ℕ). outside low max_byte name_refusal) (least_same min_byte before)))

-- the chances' section
pub chance_ruled : ruled 4 chance_rule ≡ chance_section
unfolding ruled chance_rule chance_section item_refusal
chance_ruled =
    let build : (List ℕ → ℕ → ℕ) → Section = λ item. record { width = 4; count = outside min_chances max_chances chance_refusal; item = item } in
    ap build
    (fun_ext (λ before.
    ap (λ (low : ℕ). outside low max_chance chance_refusal) (least_rising before) ∙ fun_ext (λ c. sym (chance_agrees before c))))

-- the times' section
pub time_ruled : ruled 4 time_rule ≡ time_section
unfolding ruled time_rule time_section item_refusal
time_ruled =
    let build : (List ℕ → ℕ → ℕ) → Section = λ item. record { width = 4; count = outside min_count max_count times_refusal; item = item } in
    ap build (fun_ext (λ before. ap (λ (low : ℕ). outside low max_ticks times_refusal) (least_same min_ticks before)))
