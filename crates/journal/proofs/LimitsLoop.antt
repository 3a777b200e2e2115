-- The loop over a record's limits: each limit's field judges its bits by the limit worked out for its chance.
-- One limit, the start, one limit more, the two ways to end, and the section around the loop. Assumes nothing.
use mathlib.Core.Path.{◌≡◌, refl, sym, ap, ◌∙◌}
use Prim.Native.Nat.{ℕ, suc, ◌+◌, ◌*◌, ◌-◌, ◌≤◌}
use mathlib.Core.List.{List, [], ◌∷◌, ◌++◌}
use native.Mathlib.Omega.{arith}
use Rattle.std.specs.Prelude.{Result, Ok, Err}
use lib.ListN.{length, drop, length-append}
use lib.Dec.{eqb}
use lib.Ieee.{Float, binary64, to_bits}
use Rattle.refusals.specs.declared.Refusal.{Refusal}
use Rattle.refusals.specs.Refusals.{number_of}
use Rattle.limit.specs.declared.Figures.{Figures}
use Rattle.limit.specs.Answer.{meaning, limited, refused, MomentsResult}
use Rattle.limit.specs.Formula.{quantile_of}
use Rattle.limit.specs.Limit.{limit_of_moments, limit_of_quantile}
use Rattle.journal_spec.specs.Bytes.{number_at}
use Rattle.journal_spec.specs.Refusals.{limit_refusal, unless, outside}
use Rattle.journal_spec.specs.Reader.{run}
use Rattle.journal_spec.specs.Section.{items, section}
use Rattle.journal_spec.specs.Record.{judge_limit}
use Rattle.journal_spec.proofs.FieldAt.{Items, items_end}
use Rattle.journal.specs.Told.{Stopped, kept_of}
use Rattle.journal.specs.Found.{field_by, field_at, limit_refusal_at, limit_item, limits_at, limits_by, limit_section_at}
use Rattle.journal.proofs.Ranges.{one_alone, none_inside}
use Rattle.journal.proofs.Fields.{after_field, by_field, same_field, field_value}
use Rattle.journal.proofs.Items.{items_answer, items_more}
use Rattle.journal.proofs.Stopping.{halted_kept}

-- ---- one limit

-- the limit by a quantile is the one at the chance whose quantile that is
pub limit_known : (w : MomentsResult) (c : ℕ) (e : Float) (answer : Result Figures Refusal)
    → meaning answer ≡ limit_of_quantile w c e → e ≡ quantile_of c → meaning answer ≡ limit_of_moments w c
unfolding limit_of_moments
limit_known w c e answer is own = is ∙ ap (limit_of_quantile w c) own

module _ (b : List ℕ) (w : MomentsResult) (chance at c : ℕ) (answer : Result Figures Refusal)
    (is : meaning answer ≡ limit_of_moments w c) (read : c ≡ number_at 4 chance b) where
  -- its bits are those of the limit worked out
  pub limit_given : (f : Figures) (bits : ℕ) → answer ≡ Ok f → bits ≡ to_bits binary64 f.limit
      → field_at 8 bits bits limit_refusal at b ≡ field_by 8 (limit_refusal_at b w chance) at b
  unfolding meaning limit_refusal_at judge_limit
  limit_given f bits told e =
      let known : limit_of_moments w (number_at 4 chance b) ≡ limited f = ap (limit_of_moments w) (sym read) ∙ sym is ∙ ap meaning told in
      same_field 8 (outside bits bits limit_refusal) (limit_refusal_at b w chance) at b
      (rw known (sym (one_alone bits limit_refusal (number_at 8 at b)) ∙ rw e refl))

  -- no bits are right where the limit worked out is refused
  pub limit_refused : (n : Refusal) → answer ≡ Err n → field_at 8 1 0 limit_refusal at b ≡ field_by 8 (limit_refusal_at b w chance) at b
  unfolding meaning limit_refusal_at judge_limit
  limit_refused n told =
      let known : limit_of_moments w (number_at 4 chance b) ≡ refused (number_of n) = ap (limit_of_moments w) (sym read) ∙ sym is ∙ ap meaning told in
      same_field 8 (outside 1 0 limit_refusal) (limit_refusal_at b w chance) at b (rw known (sym (none_inside limit_refusal (number_at 8 at b))))

-- ---- the loop

-- `left` of n limits are still to be read from the place p on; the chance of the next one stands at its own place
pub record Limiting (b : List ℕ) (at n chances : ℕ) (w : MomentsResult) (p chance left : ℕ) : Type 0 where
  pub before : List ℕ
  pub passed : Items 8 (limit_item b chances w) n at b left before p
  pub place : chance ≡ chances + length before * 4

module _ (b : List ℕ) (at n chances : ℕ) (w : MomentsResult) where
  module _ (p chance left : ℕ) (g : Limiting b at n chances w p chance left) where
    -- no limit is left
    pub limiting_end : left ≡ 0 → Ok p ≡ limits_at n chances w at b
    unfolding limits_at kept_of
    limiting_end e = rw (items_end 8 (limit_item b chances w) n at b left g.before p g.passed e)

    module _ (more : ℕ) (less : left ≡ suc more) (f : Result ℕ Stopped) (read : f ≡ field_by 8 (limit_refusal_at b w chance) p b) where
      same : f ≡ field_by 8 (limit_item b chances w g.before) p b
      unfolding limit_item
      same = read ∙ ap (λ (c : ℕ). field_by 8 (limit_refusal_at b w c) p b) g.place

      pub limiting_halted : (e : Stopped) → f ≡ Err e → Err e ≡ limits_at n chances w at b
      unfolding limits_at after_field
      limiting_halted e told =
          rw (items_answer 8 (limit_item b chances w) n at b left more g.before p g.passed less (Err e) (sym told ∙ same))
          (halted_kept (λ (xs : List ℕ) (q : ℕ). q) e)

      pub limiting_more : (x : ℕ) → f ≡ Ok x → Limiting b at n chances w (p + 8) (chance + 4) more
      limiting_more x told = record {
        before = g.before ++ x ∷ [];
        passed = items_more 8 (limit_item b chances w) n at b left more g.before p g.passed less x (sym told ∙ same);
        place = rw length-append (omega (arith, g.place));
      }

-- ---- the section, by the answer of its count

module _ (b : List ℕ) (at n chances : ℕ) (w : MomentsResult) (f : Result ℕ Stopped) (read : f ≡ field_at 2 n n limit_refusal at b) where
  by_count : run (section (limits_by b n chances w)) at (drop at b) ≡ after_field (λ k. items 8 (limit_item b chances w) k []) 2 at b f
  unfolding section limits_by
  by_count =
      by_field 2 (λ k. unless (eqb k n) limit_refusal) (λ k. items 8 (limit_item b chances w) k []) at b
      ∙ ap (after_field (λ k. items 8 (limit_item b chances w) k []) 2 at b)
      (same_field 2 (λ k. unless (eqb k n) limit_refusal) (outside n n limit_refusal) at b (one_alone n limit_refusal (number_at 2 at b)) ∙ sym read)

  -- the count that stands is n
  pub count_there : (k : ℕ) → f ≡ Ok k → (k ≡ n) × (2 ≤ length b - at)
  count_there k told =
      let v = field_value 2 n n limit_refusal at b (omega arith) f read k told in
      (omega (arith, v.least, v.most), v.there)

  pub section_limits : (k : ℕ) → f ≡ Ok k → limits_at n chances w (at + 2) b ≡ limit_section_at n chances w at b
  unfolding limits_at limit_section_at after_field
  section_limits k told = rw by_count (rw told (rw (count_there k told).0 refl))

  pub limits_halted : (e : Stopped) → f ≡ Err e → Err e ≡ limit_section_at n chances w at b
  unfolding limit_section_at after_field
  limits_halted e told = rw by_count (rw told (halted_kept (λ (xs : List ℕ) (q : ℕ). q) e))
