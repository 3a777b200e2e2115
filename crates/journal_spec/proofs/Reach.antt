-- How far a list of calls reaches: the greatest length is one that the journal has before, between or after the calls, and none of these is
-- greater. So the bytes that the theorem says are the initial ones are all that lie beyond every such length. Assumes nothing.
use mathlib.Core.Path.{◌≡◌, refl, ap}
use Prim.Native.Nat.{ℕ, ◌≤◌, max}
use mathlib.Core.List.{List, [], ◌∷◌, ◌++◌}
use native.Mathlib.Omega.{arith}
use Rattle.facts.proofs.Orders.{by_order}
use Rattle.journal_spec.specs.Request.{Journal}
use Rattle.journal_spec.specs.Calls.{Operations, Call, perform, journal_after, reach_of}

-- the journal has this length behind the first of the calls
pub record Reached (ops : Operations) (j : Journal) (cs : List Call) (reach : ℕ) : Type 0 where
  pub before : List Call
  pub others : List Call
  pub parts : cs ≡ before ++ others
  pub len : reach ≡ (journal_after ops j before).len

module _ (ops : Operations) where
  pub reach_there : (j : Journal) (cs : List Call) → Reached ops j cs (reach_of ops j cs)
  unfolding reach_of journal_after
  reach_there j [] = record { before = []; others = []; parts = refl; len = refl }
  reach_there j (c ∷ cs) =
      by_order j.len (reach_of ops (perform ops j c).journal cs)
      (λ h. further h (reach_there (perform ops j c).journal cs))
      (λ h. record { before = []; others = c ∷ cs; parts = refl; len = omega arith })
    where
      further : j.len ≤ reach_of ops (perform ops j c).journal cs
          → Reached ops (perform ops j c).journal cs (reach_of ops (perform ops j c).journal cs)
          → Reached ops j (c ∷ cs) (max j.len (reach_of ops (perform ops j c).journal cs))
      further h r = record {
        before = c ∷ r.before;
        others = r.others;
        parts = ap (λ (l : List Call). c ∷ l) r.parts;
        len = unfold journal_after in omega (arith, r.len, h);
      }

  pub reach_most : (j : Journal) (before others : List Call) → (journal_after ops j before).len ≤ reach_of ops j (before ++ others)
  unfolding reach_of journal_after
  reach_most j [] [] = omega arith
  reach_most j [] (c ∷ cs) = omega arith
  reach_most j (c ∷ before) others = omega (arith, reach_most (perform ops j c).journal before others)
