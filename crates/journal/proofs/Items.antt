-- The loop over a section's numbers, by the answers of its fields: what the whole section finds where the next field stops or is read.
-- Assumes nothing.
use mathlib.Core.Path.{◌≡◌, refl, ap, ap₂, ◌∙◌, fun_ext}
use Prim.Native.Nat.{ℕ, zero, suc, ◌+◌, ◌<◌}
use mathlib.Core.List.{List, [], ◌∷◌, ◌++◌}
use native.Mathlib.Omega.{arith}
use Rattle.std.specs.Prelude.{Result, Ok}
use lib.ListN.{length, drop, length-append}
use Rattle.journal_spec.specs.Reader.{Reader, field, run}
use Rattle.journal_spec.specs.Section.{items}
use Rattle.journal_spec.proofs.FieldAt.{Items}
use Rattle.journal.specs.Told.{Stopped}
use Rattle.journal.specs.Found.{field_by}
use Rattle.journal.proofs.Fields.{after_field, by_field, read_value}

-- the next number's field
items_field : (w : ℕ) (refusal : List ℕ → ℕ → ℕ) (left more : ℕ) (before : List ℕ) → left ≡ suc more
    → items w refusal left before ≡ field w (refusal before) (λ x. items w refusal more (before ++ x ∷ []))
items_field w refusal left more before less = rw less (unfold items in refl)

module _ (w : ℕ) (refusal : List ℕ → ℕ → ℕ) (n at : ℕ) (b : List ℕ) (left more : ℕ) (before : List ℕ) (p : ℕ)
    (g : Items w refusal n at b left before p) (less : left ≡ suc more) where
  -- what all numbers find, by the answer of the next one's field
  pub items_answer : (f : Result ℕ Stopped) → f ≡ field_by w (refusal before) p b
      → run (items w refusal n []) at (drop at b) ≡ after_field (λ x. items w refusal more (before ++ x ∷ [])) w p b f
  items_answer f e =
      g.same
      ∙ ap (λ r. run r p (drop p b)) (items_field w refusal left more before less)
      ∙ by_field w (refusal before) (λ x. items w refusal more (before ++ x ∷ [])) p b
      ∙ rw (← e) refl

  -- one number more
  pub items_more : (x : ℕ) → Ok x ≡ field_by w (refusal before) p b → Items w refusal n at b more (before ++ x ∷ []) (p + w)
  unfolding after_field
  items_more x e = record {
    inside = omega (arith, read_value w (refusal before) p b x e, g.inside);
    count = rw length-append (omega (arith, g.count));
    same = items_answer (Ok x) e;
  }

-- ---- refusals that agree

-- two rules that agree after fewer than n numbers find the same among n
pub same_items : (w : ℕ) (refusal other : List ℕ → ℕ → ℕ) (n left : ℕ) (before : List ℕ)
    → ((xs : List ℕ) → length xs < n → refusal xs ≡ other xs) → length before + left ≡ n
    → items w refusal left before ≡ items w other left before
unfolding items
same_items w refusal other n zero before agree e = refl
same_items w refusal other n (suc left) before agree e =
    ap₂ (λ (f : ℕ → ℕ) (k : ℕ → Reader (List ℕ)). field w f k)
    (agree before (omega arith))
    (fun_ext (λ x. same_items w refusal other n left (before ++ x ∷ []) agree (rw length-append (omega arith))))
