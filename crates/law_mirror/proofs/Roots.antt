-- The root of zeta does not see the sign of a low part 0: for a logarithm from -2333 / 64 to -19 / 64 with the low part -0 or +0 it is the same
-- pair, bit for bit. `fast_sqrt` adds the low part to the high part, and to the high part's distance from the root's square, which is never -0.
-- Assumes nothing.
use mathlib.Core.Path.{◌≡◌, refl, sym, ap, ◌∙◌, subst}
use mathlib.Core.Logic.{◌⊎◌, inl, inr}
use mathlib.Core.Bool.{Bool, true, false, not, true≢false}
use Prim.Native.Nat.{ℕ, ◌+◌, ◌*◌, ◌^◌, ◌≤◌, ◌<◌}
use native.Mathlib.Nat.{le_trans, le_of_eq, lt_of_lt_of_le, mul-one}
use native.Mathlib.Omega.{arith}
use lib.Dec.{T, lit≤, lit<}
use lib.Ieee.{Float, binary64, fits, of_bits, neg, add, sub, mul, div}
use lib.Ieee.Bits.{of_bits-fits}
use lib.Ieee.Exact.{HasValue}
use lib.Ieee.Fits.{sub-fits, mul-fits, neg-fits}
use Rattle.sqrt.specs.Sqrt.{sqrt_of}
use Rattle.double_bits.proofs.Patterns.{value_unique}
use Rattle.pxfm.specs.declared.double_double.DoubleDouble.{DoubleDouble}
use Rattle.pxfm.specs.DoubleDouble.{new_of, two, neg_of, from_exact_mult, from_exact_add, fast_sqrt}
use Rattle.pxfm.specs.Argument.{zero}
use Rattle.pxfm.specs.Inverfc.{zeta_sqrt}
use Rattle.pxfm.proofs.Value.{Gap, Val}
use Rattle.pxfm.proofs.Unique.{sub_self}
use Rattle.pxfm.proofs.Ranges.{zero_val}
use Rattle.pxfm.proofs.FirstTests.{minus_zero}
use Rattle.law_exact.proofs.Zeros.{Number, number_of_lem, number_and, minus_zero_val, zero_sums, add_minus_zero, add_zero, sub_zero}
use Rattle.law_bounds.specs.Interval.{P, N, In, about}
use Rattle.law_bounds.specs.Ranges.{deep, log_b, zeta_b}
use Rattle.law_bounds.proofs.Arithmetic.{limit}
use Rattle.law_bounds.proofs.Operations.{Counted, counted, least_le, le_most, sum_of, neg_value, widen}
use Rattle.law_bounds.proofs.Estimate.{given, times_e, neg_e}
use Rattle.law_bounds.proofs.Root.{root_e}

-- ---- the distance of a positive number from another is not -0

-- the difference's size is at most the sizes' sum
gap_top : (u : Bool) (k p n : ℕ) → Gap u k p n → k ≤ p + n
gap_top false k p n g = omega arith
gap_top true k p n g = omega arith

minus_none : (u : Bool) (m : ℕ) → HasValue minus_zero u m (2 ^ 1074) → m ≡ 0
unfolding of_bits
minus_none u m v = sym (v.1 ∙ mul-one m)

zeros_differ : zero ≡ minus_zero → ⊥
unfolding of_bits
zeros_differ e = let h = subst (λ (x : Float). HasValue x false 0 (2 ^ 1074)) e (refl, refl) in true≢false h.0

-- The difference of n units and ±m of them, where it is none.
same_number : (u t : Bool) (k n m : ℕ) → k ≡ 0 → Gap u k (P false n + P (not t) m) (N false n + N (not t) m) → 0 < n → (t ≡ false) × (m ≡ n)
same_number false false k n m z g h = (refl, omega arith)
same_number true false k n m z g h = (refl, omega arith)
same_number false true k n m z g h = absurd (omega arith)
same_number true true k n m z g h = absurd (omega arith)

both_sizes : (t : Bool) (n m : ℕ) → P false n + P t m + (N false n + N t m) ≡ n + m
both_sizes false n m = omega arith
both_sizes true n m = omega arith

module _ (b y : Float) (fb : T (fits binary64 b)) (fy : T (fits binary64 y)) where
  difference_not_minus : (t : Bool) (n m : ℕ) → HasValue b false n (2 ^ 1074) → HasValue y t m (2 ^ 1074) → 0 < n → n + m ≤ limit
      → sub binary64 b y ≡ minus_zero → ⊥
  unfolding sub
  difference_not_minus t n m v w h l e =
      let z = sum_of b (neg y) false (not t) n m v (neg_value y t m w) in
      let top = le_trans (gap_top z.u z.k _ _ z.gap) (le_trans (le_of_eq (both_sizes (not t) n m)) l) in
      let r = z.near top in
      let none : r.m ≡ 0 = minus_none z.u r.m (subst (λ (x : Float). HasValue x z.u r.m (2 ^ 1074)) e r.val) in
      let nothing : z.k ≡ 0 = no_size z.k r.m none r.under in
      let q = same_number z.u t z.k n m nothing z.gap h in
      let w' = subst (λ (k : ℕ). HasValue y false k (2 ^ 1074)) q.1 (subst (λ (s : Bool). HasValue y s m (2 ^ 1074)) q.0 w) in
      let i : y ≡ b = value_unique binary64 y b false n fy fb w' v in
      zeros_differ (sym (sub_self b false n (2 ^ 1074) v) ∙ ap (λ (x : Float). sub binary64 b x) (sym i) ∙ e)
    where
      no_size : (k m : ℕ) → m ≡ 0 → 2 ^ 53 * k ≤ 2 ^ 53 * (m * 1) + k + 2 ^ 52 * 1 → k ≡ 0
      no_size k m z h = omega arith

-- From the root of the sum and its square's distance on, `fast_sqrt` does not look at the pair.
abbrev corrected : Float → Float → DoubleDouble
corrected x d =
    let m = from_exact_mult x x in
    let r = sub binary64 d m.lo in
    let dx = div binary64 r (mul binary64 two x) in
    let hi = add binary64 x dx in
    new_of (add binary64 (sub binary64 x hi) dx) hi

module _ (b : Float) (f : T (fits binary64 b)) (h : In b (zeta_b deep)) where
  abbrev root : Float
  root = sqrt_of b

  abbrev distance : Float
  distance = sub binary64 b (mul binary64 root root)

  units : Counted b (9 * 2 ^ 1069) (1167 * 2 ^ 1069)
  units = counted (9 * 2 ^ 1069) (1167 * 2 ^ 1069) (lit< tt) h

  some_units : 0 < units.n
  some_units = lt_of_lt_of_le (lit< tt) units.low

  number : Number b
  number = number_of_lem false units.n units.val some_units

  square_in : In (mul binary64 root root) (about true (2 ^ 1200))
  unfolding times_e root_e
  square_in = widen (about true (2 ^ 1200)) tt (times_e (root_e (given h)) (root_e (given h))).holds

  distance_not_minus : distance ≡ minus_zero → ⊥
  distance_not_minus =
      let w = square_in.at tt in
      let l = le_trans (add_le units.high (le_most w)) (lit≤ tt) in
      difference_not_minus b (mul binary64 root root) f (mul-fits binary64 root root) w.s units.n w.m units.val w.val
      some_units l
    where
      add_le : {a c i j : ℕ} → a ≤ i → c ≤ j → a + c ≤ i + j
      add_le p q = omega arith

  distance_and_zero : add binary64 distance zero ≡ distance
  distance_and_zero = go (add_zero distance (sub-fits binary64 b (mul binary64 root root)))
    where
      go : (add binary64 distance zero ≡ distance) ⊎ (distance ≡ minus_zero) → add binary64 distance zero ≡ distance
      go (inl e) = e
      go (inr e) = absurd (distance_not_minus e)

  root_by : (z : Float) → add binary64 b z ≡ b → add binary64 distance z ≡ distance → fast_sqrt (new_of z b) ≡ corrected root distance
  unfolding fast_sqrt from_exact_mult
  root_by z e g =
      ap (λ (w : Float). let x = sqrt_of w in corrected x (add binary64 (sub binary64 b (mul binary64 x x)) z)) e ∙ ap (λ (d : Float). corrected root d) g

  root_zeros : fast_sqrt (new_of zero b) ≡ fast_sqrt (new_of minus_zero b)
  root_zeros =
      root_by zero (number_and f number (zero_val 0)) distance_and_zero
      ∙ sym (root_by minus_zero (number_and f number (minus_zero_val 0)) (add_minus_zero distance (sub-fits binary64 b (mul binary64 root root))))

-- ---- the root of zeta

exact_add_zero : (g z : Float) → T (fits binary64 g) → T (fits binary64 z) → Number g → Val binary64 z 0 0 0 → from_exact_add g z ≡ new_of z g
unfolding from_exact_add
exact_add_zero g z f e k v =
    ap (λ (w : Float). new_of (sub binary64 z (sub binary64 w g)) w) (number_and f k v)
    ∙ ap (λ (w : Float). new_of (sub binary64 z w) g) (sub_self g k.val.sign (k.val.mag * 2 ^ 0) (2 ^ 1074) k.val.val)
    ∙ ap (λ (w : Float). new_of w g) (sub_zero z e)

module _ (g : Float) (f : T (fits binary64 g)) (h : In g (log_b deep)) where
  log_number : Number g
  log_number = let v = h.at tt in number_of_lem v.s v.m v.val (lt_of_lt_of_le (lit< tt) (least_le v))

  other_in : In (neg g) (zeta_b deep)
  unfolding neg_e
  other_in = widen (zeta_b deep) tt (neg_e (given h)).holds

  zeta_zeros : zeta_sqrt (new_of minus_zero g) ≡ zeta_sqrt (new_of zero g)
  unfolding zeta_sqrt neg_of
  zeta_zeros =
      ap (λ d. fast_sqrt (neg_of d)) (exact_add_zero g minus_zero f (of_bits-fits binary64 (2 ^ 63)) log_number (minus_zero_val 0))
      ∙ ap (λ (z : Float). fast_sqrt (new_of z (neg g))) zero_sums.plus_is
      ∙ root_zeros (neg g) (neg-fits binary64 g f) other_in
      ∙ sym (ap (λ (z : Float). fast_sqrt (new_of z (neg g))) zero_sums.minus_is)
      ∙ sym (ap (λ d. fast_sqrt (neg_of d)) (exact_add_zero g zero f (of_bits-fits binary64 0) log_number (zero_val 0)))

-- ---- two logarithms that differ in such a sign alone

-- Two pairs are the same, or their low parts are -0 and +0.
pub data Alike : DoubleDouble → DoubleDouble → Type 0 where
  same : {c d : DoubleDouble} → c ≡ d → Alike c d
  signs : {c d : DoubleDouble} → c.lo ≡ minus_zero → d.lo ≡ zero → c.hi ≡ d.hi → Alike c d

pub alike_roots : (c d : DoubleDouble) → Alike c d → T (fits binary64 c.hi) → In c.hi (log_b deep) → zeta_sqrt c ≡ zeta_sqrt d
alike_roots c d (same e) f h = ap zeta_sqrt e
alike_roots c d (signs i j k) f h =
    ap (λ (z : Float). zeta_sqrt (new_of z c.hi)) i
    ∙ zeta_zeros c.hi f h
    ∙ ap (λ (z : Float). zeta_sqrt (new_of zero z)) k
    ∙ sym (ap (λ (z : Float). zeta_sqrt (new_of z d.hi)) j)
