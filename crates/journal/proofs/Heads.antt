-- The first two fields of a record: the form is judged by a range and then by the form before it, the day by a range.
-- A day is a number of two bytes, so that the greatest u16 bounds it. Assumes nothing.
use mathlib.Core.Path.{◌≡◌, refl, sym, ap, ◌∙◌}
use Prim.Native.Nat.{ℕ, suc, ◌+◌, ◌^◌, ◌≤◌, ◌<◌}
use mathlib.Core.List.{List, [], ◌∷◌}
use mathlib.Core.Bool.{cond}
use native.Mathlib.Omega.{arith}
use Rattle.std.specs.Prelude.{Result, Ok, Err}
use native.Mathlib.Nat.{pow-le-pow_right}
use lib.ListN.{length, take, drop, get_or, length-take}
use lib.Seq.{drop-drop}
use lib.Dec.{leb}
use borrow.Author.Tests.{le-leb, lt-leb}
use Rattle.facts.proofs.Orders.{by_order}
use Rattle.limit.specs.Formula.{plain_form, sample_form}
use Rattle.limit.specs.Answer.{form_refusal}
use Rattle.limit.specs.Limit.{form_known}
use Rattle.journal_spec.specs.Bytes.{AreBytes, value_of, number_at}
use Rattle.journal_spec.specs.Refusals.{day_refusal, old_form_refusal, unless, outside, first_of}
use Rattle.journal_spec.specs.Reader.{Reader, done, field, Found, fault, run}
use Rattle.journal_spec.specs.Record.{judge_form, judge_day}
use Rattle.journal_spec.proofs.Numbers.{bytes_take, bytes_drop, value_small}
use Rattle.journal_spec.proofs.Reading.{field_short, field_fault, field_good, field_cases}
use Rattle.journal.specs.Told.{Stopped, kept_of}
use Rattle.journal.specs.declared.record.Head.{Head}
use Rattle.journal.specs.Found.{field_read, field_by, field_at}
use Rattle.journal.proofs.Stopping.{halted}
use Rattle.journal.specs.Records.{as_last}
use Rattle.journal.proofs.Ranges.{least_decides}

-- a slice's elements are bytes
are_bytes : (b : List ℕ) → ((i : ℕ) → get_or b i 0 < 256) → AreBytes b
are_bytes [] h = tt
are_bytes (x ∷ b) h = (h 0, are_bytes b (λ i. h (suc i)))

pub number_below : (w at : ℕ) (b : List ℕ) → ((i : ℕ) → get_or b i 0 < 256) → number_at w at b < 256 ^ w
unfolding number_at
number_below w at b h =
    let bs : List ℕ = take w (drop at b) in
    let small = value_small bs (bytes_take w (drop at b) (bytes_drop at b (are_bytes b h))) in
    let few : length bs ≤ w = rw length-take (omega arith) in
    omega (arith, small, pow-le-pow_right {n = 256} (omega arith) few)

-- ---- the form: a reader that begins with it, by the answer of a field that judges its range

module _ {A : Type 0} (next : ℕ → Reader A) (last : Head) (at : ℕ) (b : List ℕ) where
  abbrev ran : Found A
  ran = run (field 2 (judge_form (as_last last)) next) at (drop at b)

  -- a form in the range goes on where forms do not fall
  unfoldable after_form : Result ℕ Stopped → Found A
  after_form (Ok v) = cond (leb last.form v) (run (next v) (at + 2) (drop (at + 2) b)) (fault old_form_refusal at)
  after_form (Err e) = halted e

  form_goes : after_form (field_at 2 plain_form sample_form form_refusal at b) ≡ ran
  unfolding field_by kept_of after_form halted run judge_form form_known outside unless first_of as_last
  form_goes =
      field_cases 2 (outside plain_form sample_form form_refusal) done at (drop at b) (λ f. after_form (field_read f) ≡ ran)
      (λ few. sym (field_short 2 (judge_form (as_last last)) next at (drop at b) few))
      (λ m enough bad. sym (field_fault 2 (judge_form (as_last last)) next at (drop at b) m enough (rw bad refl)))
      (λ enough good.
      let v : ℕ = value_of (take 2 (drop at b)) in
      by_order last.form v
      (λ h. rw (le-leb last.form v h)
      (sym (field_good 2 (judge_form (as_last last)) next at (drop at b) enough (rw good (rw (le-leb last.form v h) refl)) ∙ rw drop-drop refl)))
      (λ h. rw (lt-leb last.form v h)
      (sym (field_fault 2 (judge_form (as_last last)) next at (drop at b) 12 enough (rw good (rw (lt-leb last.form v h) refl))))))

  module _ (x : Result ℕ Stopped) (read : x ≡ field_at 2 plain_form sample_form form_refusal at b) where
    pub form_halted : (e : Stopped) → x ≡ Err e → halted e ≡ ran
    unfolding after_form
    form_halted e told = sym (ap after_form told) ∙ ap after_form read ∙ form_goes

    pub form_falls : (v : ℕ) → x ≡ Ok v → v < last.form → fault old_form_refusal at ≡ ran
    unfolding after_form
    form_falls v told h = rw (lt-leb last.form v h) at (sym (ap after_form told) ∙ ap after_form read ∙ form_goes)

    pub form_good : (v : ℕ) → x ≡ Ok v → last.form ≤ v → run (next v) (at + 2) (drop (at + 2) b) ≡ ran
    unfolding after_form
    form_good v told h = rw (le-leb last.form v h) at (sym (ap after_form told) ∙ ap after_form read ∙ form_goes)

-- ---- the day

pub day_agrees : (last : Head) (at : ℕ) (b : List ℕ) → ((i : ℕ) → get_or b i 0 < 256)
    → judge_day (as_last last) (number_at 2 at b) ≡ outside last.day 65_535 day_refusal (number_at 2 at b)
unfolding judge_day as_last
day_agrees last at b h = least_decides last.day 65_535 day_refusal (number_at 2 at b) (omega (arith, number_below 2 at b h))
