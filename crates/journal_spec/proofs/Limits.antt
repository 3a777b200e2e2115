-- The limits of a record: worked out by `limit_of` they are the formula's values, and each fits 8 bytes.
-- Assumes nothing.
use mathlib.Core.Path.{◌≡◌, refl, sym, ap, ap₂, ◌∙◌}
use Prim.Native.Nat.{ℕ, ◌*◌, ◌^◌, ◌<◌}
use mathlib.Core.List.{List, [], ◌∷◌, ◌++◌, map}
use mathlib.Core.Bool.{Bool, true, false}
use native.Mathlib.Omega.{arith}
use lib.ListN.{length, get_or, length-append}
use lib.Seq.{append_snoc, get_or_at}
use lib.Dec.{T, eqb}
use lib.Ieee.{binary64, to_bits, fits, top}
use lib.Ieee.Fits.{add-fits}
use lib.Ieee.Bits.{to_bits-lt}
use borrow.Author.Tests.{eqb-true, eq-eqb}
use Rattle.limit.specs.Times.{in_range, times_in_range, sum_of, squares_of}
use Rattle.limit.specs.declared.Figures.{Figures}
use Rattle.limit.specs.Formula.{sample_form, limit_from, formula_of, figures_of}
use Rattle.limit.specs.Answer.{LimitResult, limited}
use Rattle.limit.specs.Limit.{min_chance, max_chance, form_known, chance_in_range, judge, limit_of}
use Rattle.facts.proofs.Tests as tests
use Rattle.journal_spec.specs.Refusals.{limit_refusal, unless, first_of}
use Rattle.journal_spec.specs.Section.{items_refusal}
use Rattle.journal_spec.specs.Record.{judge_limit}
use Rattle.journal_spec.specs.Append.{limit_bits, limits_of}
use Rattle.journal_spec.specs.Tests.{each}
use Rattle.journal_spec.specs.Model.{worked_out, times_good}
use Rattle.journal_spec.proofs.Judging.{unless_none, unless_true, first_none, none_first}
use Rattle.journal_spec.proofs.Each.{each_time}

-- the formula's bits, one for each chance
unfoldable pub formula_bits : ℕ → List ℕ → List ℕ → List ℕ
formula_bits form times chances = map (λ (c : ℕ). to_bits binary64 (worked_out form times c)) chances

pub times_good_lem : (times : List ℕ) → times_good times ≡ times_in_range times
unfolding times_good times_in_range
times_good_lem times = rw (each_time times) refl

pub sample_known : form_known sample_form ≡ true
unfolding form_known in_range
sample_known = refl

-- ---- one limit

-- the four figures of the times at a chance; the last is the formula's value
abbrev pub figures_at : ℕ → List ℕ → ℕ → Figures
figures_at form times c = figures_of form (length times) (sum_of times) (squares_of times) c

limit_at_lem : (form : ℕ) (times : List ℕ) (c : ℕ) → (figures_at form times c).limit ≡ worked_out form times c
unfolding figures_of worked_out
limit_at_lem form times c = refl

pub limit_worked : (form : ℕ) (times : List ℕ) (c : ℕ) → form_known form ≡ true → times_in_range times ≡ true → in_range min_chance max_chance c ≡ true
    → limit_of form times c ≡ limited (figures_at form times c)
unfolding limit_of judge chance_in_range
limit_worked form times c f t e = rw (f, e, t) refl

judge_own : (f : Figures) → judge_limit (limited f) (to_bits binary64 f.limit) ≡ 0
unfolding judge_limit
judge_own f = unless_true _ limit_refusal (eq-eqb (to_bits binary64 f.limit) (to_bits binary64 f.limit) refl)

-- bits that are not refused are the limit's
judge_none : (f : Figures) (bits : ℕ) → judge_limit (limited f) bits ≡ 0 → bits ≡ to_bits binary64 f.limit
unfolding judge_limit
judge_none f bits h = eqb-true bits (to_bits binary64 f.limit) (unless_none _ 6 h)

-- a limit's bits are judged as document 01 says: 7 where they are not those of the limit worked out
pub limit_judged : (form : ℕ) (times : List ℕ) (c bits : ℕ) → form_known form ≡ true → times_in_range times ≡ true
    → in_range min_chance max_chance c ≡ true → judge_limit (limit_of form times c) bits ≡ unless (eqb bits (to_bits binary64 (worked_out form times c))) 7
unfolding judge_limit figures_of worked_out
limit_judged form times c bits k t e = ap (λ (r : LimitResult). judge_limit r bits) (limit_worked form times c k t e)

-- ---- what fits 8 bytes

-- a limit worked out is a double
pub formula_fits : (form : ℕ) (times : List ℕ) (c : ℕ) → T (fits binary64 (worked_out form times c))
unfolding worked_out formula_of limit_from
formula_fits form times c = add-fits binary64 _ _

judged_fits : (k a b : Bool) (x : Figures) (bits : ℕ) → T (fits binary64 x.limit) → judge_limit (judge k a b x) bits ≡ 0 → bits < 256 ^ 8
unfolding judge judge_limit
judged_fits false a b x bits f h = absurd (omega arith)
judged_fits true false b x bits f h = absurd (omega arith)
judged_fits true true false x bits f h = absurd (omega arith)
judged_fits true true true x bits f h =
    let same = eqb-true bits (to_bits binary64 x.limit) (unless_none _ 6 h) in
    let size : 2 * top binary64 ≡ 256 ^ 8 = refl in
    rw (same, ← size) (to_bits-lt binary64 x.limit f)

pub limit_fits : (form : ℕ) (times : List ℕ) (c bits : ℕ) → judge_limit (limit_of form times c) bits ≡ 0 → bits < 256 ^ 8
unfolding limit_of
limit_fits form times c bits h =
    judged_fits (form_known form) (chance_in_range c) (times_in_range times) (figures_at form times c) bits
    (rw (limit_at_lem form times c) (formula_fits form times c)) h

-- ---- the limits of an offer

module _ (times : List ℕ) (t : times_in_range times ≡ true) where
  pub limits_are : (cs : List ℕ) → each (in_range min_chance max_chance) cs ≡ true → limits_of times cs ≡ formula_bits sample_form times cs
  unfolding limit_bits limits_of formula_bits each
  limits_are [] h = refl
  limits_are (c ∷ cs) h =
      let e = limit_worked sample_form times c sample_known t (tests.first_of_lem _ (each (in_range min_chance max_chance) cs) h) in
      ap₂ (λ (x : ℕ) (xs : List ℕ). x ∷ xs) (ap limit_bits e ∙ ap (to_bits binary64) (limit_at_lem sample_form times c))
      (limits_are cs (tests.second_of_lem (in_range min_chance max_chance c) _ h))

-- ---- the limits of a record, by its reader's rules

module _ (form : ℕ) (f : form_known form ≡ true) (times : List ℕ) (t : times_in_range times ≡ true) where
  -- what the rule of limit i asks, after the limits `before`, of the chances `done ++ cs`
  abbrev pub rule : List ℕ → List ℕ → ℕ → ℕ
  rule all before = judge_limit (limit_of form times (get_or all (length before) 0))

  pub limits_good : (all done cs before : List ℕ) → all ≡ done ++ cs → length before ≡ length done
      → each (in_range min_chance max_chance) cs ≡ true → items_refusal (rule all) before (formula_bits form times cs) ≡ 0
  unfolding items_refusal formula_bits each
  limits_good all done [] before e n h = refl
  limits_good all done (c ∷ cs) before e n h =
      let x : ℕ = to_bits binary64 (worked_out form times c) in
      let this : get_or all (length before) 0 ≡ c = ap (λ (l : List ℕ). get_or l (length before) 0) e ∙ get_or_at done c cs 0 (length before) (sym n) in
      let own : rule all before x ≡ 0 =
      ap (λ (d : ℕ). judge_limit (limit_of form times d) x) this
      ∙ ap (λ (r : LimitResult). judge_limit r x) (limit_worked form times c f t (tests.first_of_lem _ (each (in_range min_chance max_chance) cs) h))
      ∙ rw (← limit_at_lem form times c) (judge_own (figures_at form times c)) in
      let more : length (before ++ x ∷ []) ≡ length (done ++ c ∷ []) = rw (length-append before, length-append done, n) refl in
      let rest = limits_good all (done ++ c ∷ []) cs (before ++ x ∷ []) (e ∙ sym (append_snoc done c cs)) more
      (tests.second_of_lem (in_range min_chance max_chance c) _ h) in
      none_first (rule all before x) _ own (none_first _ [] rest (unfold first_of in refl))

  -- limits that nothing refuses, as many as the chances, are the formula's
  pub limits_exact : (all done cs before ls : List ℕ) → all ≡ done ++ cs → length before ≡ length done → length ls ≡ length cs
      → each (in_range min_chance max_chance) cs ≡ true → items_refusal (rule all) before ls ≡ 0 → ls ≡ formula_bits form times cs
  unfolding items_refusal formula_bits each
  limits_exact all done [] before [] e n l h k = refl
  limits_exact all done [] before (x ∷ ls) e n l h k = absurd (omega arith)
  limits_exact all done (c ∷ cs) before [] e n l h k = absurd (omega arith)
  limits_exact all done (c ∷ cs) before (x ∷ ls) e n l h k =
      let z = first_none (rule all before x) (items_refusal (rule all) (before ++ x ∷ []) ls ∷ []) k in
      let this : get_or all (length before) 0 ≡ c = ap (λ (l : List ℕ). get_or l (length before) 0) e ∙ get_or_at done c cs 0 (length before) (sym n) in
      let own = judge_none (figures_at form times c) x
      (sym (ap (λ (d : ℕ). judge_limit (limit_of form times d) x) this
      ∙ ap (λ (r : LimitResult). judge_limit r x) (limit_worked form times c f t (tests.first_of_lem _ (each (in_range min_chance max_chance) cs) h)))
      ∙ z.0) in
      let more : length (before ++ x ∷ []) ≡ length (done ++ c ∷ []) = rw (length-append before, length-append done, n) refl in
      let rest = limits_exact all (done ++ c ∷ []) cs (before ++ x ∷ []) ls (e ∙ sym (append_snoc done c cs)) more (omega arith)
      (tests.second_of_lem (in_range min_chance max_chance c) _ h)
      (first_none (items_refusal (rule all) (before ++ x ∷ []) ls) [] z.1).0 in
      ap₂ (λ (y : ℕ) (ys : List ℕ). y ∷ ys) (own ∙ ap (to_bits binary64) (limit_at_lem form times c)) rest
