-- Two refusals never have one number, and of those that the papers name none has 8, which the papers do not use.
-- Assumes nothing.
use Rattle.std.specs.Prelude.{◌≡◌, ℕ, false}
use Rattle.std.proofs.Common.{arith, ap, subst, sym, refl}
use Rattle.std.proofs.Math.Bool.{Bool-set}
use Rattle.refusals.specs.declared.Refusal.{Refusal}
use Rattle.refusals.specs.declared.Refusal.TheVariants.{Other}
use Rattle.refusals.specs.declared.unlisted.Unlisted.{Unlisted}
use Rattle.refusals.specs.Listed.{is_listed}
use Rattle.refusals.specs.Refusals.{number_of}

abbrev with_number : (n : ℕ) → is_listed n ≡ false → Unlisted
with_number n p = record { number = n; unlisted = p }

own_unlisted : (u v : Unlisted) → u.number ≡ v.number → u ≡ v
own_unlisted u v e =
    subst (λ (m : ℕ). (q : is_listed m ≡ false) → with_number u.number u.unlisted ≡ with_number m q) e
    (λ (q : is_listed u.number ≡ false). ap (with_number u.number) (Bool-set _ _ u.unlisted q)) v.unlisted

-- an unlisted number is no other refusal's
beside : (u : Unlisted) (s : Refusal) → u.number ≡ number_of s → Other u ≡ s
beside u (Other v) e = ap Other (own_unlisted u v e)
beside u s e = let un : is_listed (number_of s) ≡ false = subst (λ (m : ℕ). is_listed m ≡ false) e u.unlisted in grind arith

pub own_number : (r s : Refusal) → number_of r ≡ number_of s → r ≡ s
own_number (Other u) s e = beside u s e
own_number r (Other v) e = sym (beside v r (sym e))
own_number r s e = grind arith

pub unused : (r : Refusal) → number_of r ≡ 8 → (u : Unlisted) × (r ≡ Other u)
unused (Other u) e = (u, refl)
unused r e = absurd (grind arith)
