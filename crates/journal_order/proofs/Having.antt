-- The places that have a key, among places behind one another; and the last of them.
-- Assumes nothing.
use mathlib.Core.Path.{◌≡◌, refl, sym, ap, ◌∙◌}
use Prim.Native.Nat.{ℕ, suc, ◌<◌}
use mathlib.Core.List.{List, [], ◌∷◌, ◌++◌}
use mathlib.Core.Option.{Option, none, some}
use native.Mathlib.Omega.{arith}
use lib.ListN.{length, get_or}
use Rattle.journal_spec.specs.Index.{Order, lower, equal, higher, order_of}
use Rattle.journal_spec.specs.Indexed.{or_else, where_equal}
use Rattle.journal_order.specs.Sorted.{where_same, having, last_in}

-- ---- one place

pub kept : (o : Order) (p : ℕ) (ps : List ℕ) → o ≡ equal → where_same o p ps ≡ p ∷ ps
unfolding where_same
kept o p ps e = rw e refl

pub dropped : (o : Order) (p : ℕ) (ps : List ℕ) → (o ≡ equal → ⊥) → where_same o p ps ≡ ps
unfolding where_same
dropped lower p ps d = refl
dropped equal p ps d = absurd (d refl)
dropped higher p ps d = refl

where_append : (o : Order) (p : ℕ) (ps qs : List ℕ) → where_same o p (ps ++ qs) ≡ where_same o p ps ++ qs
unfolding where_same
where_append lower p ps qs = refl
where_append equal p ps qs = refl
where_append higher p ps qs = refl

-- ---- some behind others

module _ (key : ℕ → List ℕ) (k : List ℕ) where
  pub having_append : (ps qs : List ℕ) → having key k (ps ++ qs) ≡ having key k ps ++ having key k qs
  unfolding having
  having_append [] qs = refl
  having_append (p ∷ ps) qs =
      ap (where_same (order_of k (key p)) p) (having_append ps qs) ∙ where_append (order_of k (key p)) p (having key k ps) (having key k qs)

  pub having_none : (ps : List ℕ) → ((i : ℕ) → i < length ps → order_of k (key (get_or ps i 0)) ≡ equal → ⊥) → having key k ps ≡ []
  unfolding having
  having_none [] d = refl
  having_none (p ∷ ps) d =
      dropped (order_of k (key p)) p (having key k ps) (d 0 (omega arith)) ∙ having_none ps (λ i h. d (suc i) (omega arith))

  pub having_one : (p : ℕ) → order_of k (key p) ≡ equal → having key k (p ∷ []) ≡ p ∷ []
  unfolding having
  having_one p e = kept (order_of k (key p)) p [] e

  pub having_not : (p : ℕ) → (order_of k (key p) ≡ equal → ⊥) → having key k (p ∷ []) ≡ []
  unfolding having
  having_not p d = dropped (order_of k (key p)) p [] d

-- ---- the last

pub else_none : (x : Option ℕ) → x ≡ or_else x none
unfolding or_else
else_none none = refl
else_none (some p) = refl

else_else : (x y z : Option ℕ) → or_else (or_else x y) z ≡ or_else x (or_else y z)
unfolding or_else
else_else none y z = refl
else_else (some p) y z = refl

-- those behind decide, where there are any
pub last_both : (ps qs : List ℕ) → last_in (ps ++ qs) ≡ or_else (last_in qs) (last_in ps)
unfolding last_in
last_both [] qs = else_none (last_in qs)
last_both (p ∷ ps) qs = ap (λ (x : Option ℕ). or_else x (some p)) (last_both ps qs) ∙ else_else (last_in qs) (last_in ps) (some p)

-- the last of them, where one more stands in front
pub last_where : (o : Order) (p : ℕ) (ps : List ℕ) → last_in (where_same o p ps) ≡ or_else (last_in ps) (where_equal o p)
unfolding where_same where_equal last_in
last_where lower p ps = else_none (last_in ps)
last_where equal p ps = refl
last_where higher p ps = else_none (last_in ps)

pub last_append : (ps qs rs : List ℕ) → last_in ps ≡ last_in qs → last_in (ps ++ rs) ≡ last_in (qs ++ rs)
last_append ps qs rs e = last_both ps rs ∙ ap (or_else (last_in rs)) e ∙ sym (last_both qs rs)

pub last_one : (ps : List ℕ) (p : ℕ) → last_in (ps ++ p ∷ []) ≡ some p
unfolding last_in or_else
last_one [] p = refl
last_one (q ∷ ps) p = rw (last_one ps p) refl
