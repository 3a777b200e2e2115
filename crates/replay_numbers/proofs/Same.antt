-- Where all bits are compared, a line is beyond its bound, which is 0, exactly if the bits differ; and the mirror's never do. Assumes nothing.
use Rattle.std.proofs.Common.{◌≡◌, ℕ, ◌+◌, ◌-◌, ◌*◌, ◌/◌, ◌^◌, ◌<◌, true, false, not, eqb, ltb, refl, arith, ltb-false, ltb-true, le-ltb, lt-ltb, eq-eqb, eqb-true}
use borrow.Author.Tests.{eqb-false}
use Rattle.facts.proofs.Tests.{by_test_lem}
use Rattle.facts.proofs.Orders.{by_order}
use Rattle.pxfm.specs.Inverfc.{f_erfcinv_bits}
use Rattle.law_mirror.proofs.Patterns.{mirror_patterns}
use Rattle.replay_numbers.specs.Numbers.{distance_of, steps_above, steps_below, ten_thousandths, measured_at, NeverDiffers}

-- the same bits are at no distance
pub no_distance : (b : ℕ) → distance_of b b 0 ≡ 0
unfolding distance_of steps_above
no_distance b =
    let none : b - b ≡ 0 = omega arith in
    rw (eq-eqb (b / 2 ^ 63) (b / 2 ^ 63) refl, le-ltb b b (omega arith), none)

-- some doubles away, or too far
steps_below_some : (steps : ℕ) → 0 < steps → 0 < steps_below steps 0
unfolding steps_below
steps_below_some steps h =
    by_test_lem (ltb steps (2 ^ 31)) (λ e. rw e (omega arith)) (λ e. rw e (omega arith))

steps_above_some : (steps : ℕ) → 0 < steps → 0 < steps_above steps 0
unfolding steps_above
steps_above_some steps h =
    by_test_lem (ltb steps (2 ^ 31)) (λ e. rw e (omega arith)) (λ e. rw e (omega arith))

-- other bits are at some
pub some_distance : (a b : ℕ) → eqb a b ≡ false → 0 < distance_of a b 0
unfolding distance_of
some_distance a b differ =
    by_test_lem (eqb (a / 2 ^ 63) (b / 2 ^ 63))
    (λ e. rw e
    (by_test_lem (ltb a b)
    (λ f. rw f (steps_below_some (b - a) (below f)))
    (λ f. rw f (steps_above_some (a - b) (above f)))))
    (λ e. rw e (omega arith))
  where
    below : ltb a b ≡ true → 0 < b - a
    below f = let h = ltb-true a b f in omega arith

    above : ltb a b ≡ false → 0 < a - b
    above f =
        let h = ltb-false a b f in
        let other = eqb-false a b differ in
        by_order a b (λ g. absurd (other (omega arith))) (λ g. omega arith)

some_units : (distance : ℕ) → 0 < distance → ltb 0 (ten_thousandths distance) ≡ true
unfolding ten_thousandths
some_units distance h = lt-ltb 0 ((distance * 10000 + (2 ^ 32 - 1)) / 2 ^ 32) (omega arith)

-- a bound of 0 parts the two
pub beyond_differs : (a b : ℕ) → ltb 0 (ten_thousandths (distance_of a b 0)) ≡ not (eqb a b)
unfolding ten_thousandths
beyond_differs a b =
    by_test_lem (eqb a b)
    (λ e. let same : a ≡ b = eqb-true a b e in rw (e, same, no_distance b) refl)
    (λ e. rw e (some_units (distance_of a b 0) (some_distance a b e)))

pub never_differs : (x : ℕ) → NeverDiffers x
unfolding measured_at
never_differs x =
    record { same = λ a b. rw (← mirror_patterns x a b) (no_distance (f_erfcinv_bits x)) }
