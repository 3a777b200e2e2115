-- The loop over a rule's numbers: after some of them the least value of the next one and the sums are those of the numbers passed.
-- The start, one more number, and the two ways to end. Assumes nothing.
use mathlib.Core.Path.{◌≡◌, refl, sym, ap, ◌∙◌}
use Prim.Native.Nat.{ℕ, suc, ◌+◌, ◌-◌, ◌*◌, ◌^◌, ◌≤◌, ◌<◌}
use mathlib.Core.List.{List, [], ◌∷◌, ◌++◌}
use mathlib.Core.Bool.{Bool, true, false}
use native.Mathlib.Omega.{arith}
use Rattle.std.specs.Prelude.{Result, Ok, Err}
use lib.ListN.{length, drop}
use Rattle.limit.specs.Times.{min_ticks, max_ticks, max_count, time_in_range, all_in_range, sum_of, squares_of}
use Rattle.limit.specs.Sums.{sums_of}
use Rattle.limit.proofs.InRange.{inside}
use Rattle.limit.proofs.Bounds.{all_append}
use Rattle.limit.proofs.Adding.{sum_append, squares_append, sum_fits, squares_fit}
use Rattle.journal_spec.specs.Reader.{run}
use Rattle.journal_spec.specs.Section.{items}
use Rattle.journal_spec.proofs.FieldAt.{Items, items_start, items_end}
use Rattle.journal.specs.Told.{Stopped, kept_of}
use Rattle.journal.specs.Rules.{least_next, least_after, item_refusal}
use Rattle.journal.specs.Found.{field_by, field_at, section_kept, section_read}
use Rattle.journal.proofs.Stopping.{halted_kept}
use Rattle.journal.proofs.Fields.{after_field, field_value}
use Rattle.journal.proofs.Items.{items_answer, items_more}

-- ---- one number more at the end of a list

pub time_between : (t : ℕ) → min_ticks ≤ t → t ≤ max_ticks → time_in_range t ≡ true
unfolding time_in_range
time_between t h k = inside min_ticks max_ticks t h k

pub least_append : (rising : Bool) (low : ℕ) (xs : List ℕ) (x : ℕ)
    → least_after rising low (xs ++ x ∷ []) ≡ least_next rising (least_after rising low xs) x
unfolding least_after
least_append rising low [] x = refl
least_append rising low (y ∷ xs) x = least_append rising (least_next rising low y) xs x

least_positive : (rising : Bool) (low x : ℕ) → min_ticks ≤ low → min_ticks ≤ least_next rising low x
unfolding least_next
least_positive true low x h = omega arith
least_positive false low x h = h

-- ---- the loop

-- `left` of n numbers are still to be read from the place p on
pub record Numbering (b : List ℕ) (at n w high : ℕ) (rising : Bool) (refusal first low sum squares p left : ℕ) : Type 0 where
  pub before : List ℕ
  pub passed : Items w (item_refusal rising first high refusal) n at b left before p
  pub next : low ≡ least_after rising first before
  pub positive : min_ticks ≤ low
  pub total : sum ≡ sum_of before
  pub squared : squares ≡ squares_of before
  pub each : all_in_range before ≡ true

-- a number at the place p that may join these sums
pub record Fitting (b : List ℕ) (w p sum squares x : ℕ) : Type 0 where
  pub there : w ≤ length b - p
  pub most : x ≤ max_ticks
  pub total : sum + x < 2 ^ 64
  pub squared : squares + x * x < 2 ^ 64

module _ (b : List ℕ) (at n w high : ℕ) (rising : Bool) (refusal first : ℕ) where
  pub numbering_start : at ≤ length b → min_ticks ≤ first → Numbering b at n w high rising refusal first first 0 0 at n
  unfolding least_after sum_of squares_of all_in_range
  numbering_start h k = record {
    before = [];
    passed = items_start w (item_refusal rising first high refusal) n at b h;
    next = refl;
    positive = k;
    total = refl;
    squared = refl;
    each = refl;
  }

  module _ (low sum squares p left : ℕ) (g : Numbering b at n w high rising refusal first low sum squares p left) where
    -- no number is left
    pub numbering_end : left ≡ 0 → Ok (record { next = p; sums = record { count = n; sum = sum; squares = squares } })
        ≡ section_read (run (items w (item_refusal rising first high refusal) n []) at (drop at b))
    unfolding kept_of sums_of
    numbering_end e =
        let count : n ≡ length g.before = omega (arith, g.passed.count) in
        rw (items_end w (item_refusal rising first high refusal) n at b left g.before p g.passed e, count, g.total, g.squared)

    -- one number more leaves the sums below 2 ^ 64
    pub numbering_fits : (x : ℕ) → 0 < left → n ≤ max_count → x ≤ max_ticks → (sum + x < 2 ^ 64) × (squares + x * x < 2 ^ 64)
    numbering_fits x pos few small =
        let room : length g.before < max_count = omega (arith, g.passed.count) in
        rw (g.total, g.squared) (sum_fits g.before x g.each room small, squares_fit g.before x g.each room small)

    -- so does one that stands in the bytes
    pub numbering_fitting : 0 < left → n ≤ max_count → high ≤ max_ticks → 0 < refusal → (x : ℕ) → Ok x ≡ field_at w low high refusal p b
        → Fitting b w p sum squares x
    numbering_fitting pos few small some x read =
        let v = field_value w low high refusal p b some _ read x refl in
        let most : x ≤ max_ticks = omega (arith, v.most) in
        let fits = numbering_fits x pos few most in
        record {
          there = v.there;
          most = most;
          total = fits.0;
          squared = fits.1;
        }

    -- the field's range is that of the next number
    same : field_at w low high refusal p b ≡ field_by w (item_refusal rising first high refusal g.before) p b
    unfolding item_refusal
    same = rw g.next

    module _ (more : ℕ) (less : left ≡ suc more) (f : Result ℕ Stopped) (read : f ≡ field_at w low high refusal p b) where
      pub numbering_halted : (e : Stopped) → f ≡ Err e
          → Err e ≡ section_read (run (items w (item_refusal rising first high refusal) n []) at (drop at b))
      unfolding after_field
      numbering_halted e told =
          rw (items_answer w (item_refusal rising first high refusal) n at b left more g.before p g.passed less (Err e) (sym told ∙ read ∙ same))
          (halted_kept section_kept e)

      pub numbering_more : (x : ℕ) → 0 < refusal → high ≤ max_ticks → f ≡ Ok x
          → Numbering b at n w high rising refusal first (least_next rising low x) (sum + x) (squares + x * x) (p + w) more
      numbering_more x some small told =
          let v = field_value w low high refusal p b some f read x told in
          let good = time_between x (omega (arith, v.least, g.positive)) (omega (arith, v.most)) in
          record {
            before = g.before ++ x ∷ [];
            passed = items_more w (item_refusal rising first high refusal) n at b left more g.before p g.passed less x (sym told ∙ read ∙ same);
            next = sym (least_append rising first g.before x ∙ ap (λ (l : ℕ). least_next rising l x) (sym g.next));
            positive = least_positive rising low x g.positive;
            total = rw g.total (sym (sum_append g.before x));
            squared = rw g.squared (sym (squares_append g.before x));
            each = all_append g.before x g.each good;
          }
