-- The order of two names is that of slices of bytes: the library's `cmp` answers it. And equal names end alike.
-- Assumes nothing.
use mathlib.Core.Path.{◌≡◌, refl, ap, ◌∙◌}
use Prim.Native.Nat.{ℕ}
use mathlib.Core.List.{List, [], ◌∷◌}
use mathlib.Core.Bool.{Bool}
use native.Mathlib.Omega.{arith}
use Rattle.std.specs.Cmp.Lexicographic.{slice_cmp}
use Rattle.std.specs.Ordering.{nat_cmp, is_lt}
use Rattle.std.specs.declared.cmp.Ordering.{Ordering}
use Rattle.std.specs.declared.cmp.Ordering.TheVariants.{Less, Equal, Greater}
use Rattle.std.proofs.lemmas.Bool.Decides.{nat_tests}
use Rattle.journal_spec.specs.Index.{order_of}
use Rattle.journal_entries.specs.Shape.{is_lower, is_below}
use Rattle.journal_entries.specs.Answers.{order_meaning}

-- ---- `cmp`

cmp_orders : (xs ys : List ℕ) → order_meaning (slice_cmp nat_cmp xs ys) ≡ order_of xs ys
unfolding order_meaning order_of
cmp_orders [] [] = refl
cmp_orders [] (y ∷ ys) = refl
cmp_orders (x ∷ xs) [] = refl
cmp_orders (x ∷ xs) (y ∷ ys) = let ih = cmp_orders xs ys in grind (arith, nat_tests)

pub order_by_cmp : (xs ys : List ℕ) (r : Ordering) → r ≡ slice_cmp nat_cmp xs ys → order_meaning r ≡ order_of xs ys
order_by_cmp xs ys r e = ap order_meaning e ∙ cmp_orders xs ys

-- ---- which comes first

pub below_by_order : (xs ys : List ℕ) (o : Ordering) (r : Bool) → order_meaning o ≡ order_of xs ys → r ≡ is_lt o → r ≡ is_below xs ys
unfolding is_below is_lower order_meaning
below_by_order xs ys Less r e f = f ∙ ap is_lower e
below_by_order xs ys Equal r e f = f ∙ ap is_lower e
below_by_order xs ys Greater r e f = f ∙ ap is_lower e
