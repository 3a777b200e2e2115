-- Document 01's step in its turn: what its contract asks of the bytes before it, and what a step at a place that was passed would do.
-- Assumes nothing.
use mathlib.Core.Path.{◌≡◌, sym, ap, ◌∙◌}
use Prim.Native.Nat.{ℕ, ◌≤◌, ◌<◌}
use mathlib.Core.List.{List}
use native.Mathlib.Omega.{arith}
use native.Mathlib.Decide.{ℕ_discrete}
use lib.ListN.{length, get_or, set, length-set}
use lib.Seq.{get_or-take, get_or-set_same, get_or-set_other, ext_get_or}
use Rattle.journal.specs.Stepped.{Front, Stepped}

-- A step at the place p, and any run from p on, has to show of every byte before p that it is the record's. So a writer that goes backwards, or has
-- skipped a byte to write it later, cannot take its step: the bytes there are whatever they were.
pub in_turn : (new d : List ℕ) (p q : ℕ) → Front new p d → q < p → get_or d q 0 ≡ get_or new q 0
in_turn new d p q f h = sym (get_or-take p d q 0 h) ∙ ap (λ (x : List ℕ). get_or x q 0) f ∙ get_or-take p new q 0 h

-- A byte that stands and is written again has the value that it had: no byte changes, and the front stays.
pub passed_same : (new d : List ℕ) (p q r : ℕ) (d' : List ℕ) → Front new p d → q < p → p ≤ length d → Stepped new d q r d' → d' ≡ d
passed_same new d p q r d' f h l s = s.bytes ∙ ext_get_or 0 _ _ (length-set d q (get_or new q 0)) (λ k _. at k (ℕ_discrete k q))
  where
    at : (k : ℕ) → Dec (k ≡ q) → get_or (set d q (get_or new q 0)) k 0 ≡ get_or d k 0
    at k (yes e) = rw e (get_or-set_same d q (get_or new q 0) 0 (omega arith) ∙ sym (in_turn new d p q f h))
    at k (no n) = get_or-set_other d q k (get_or new q 0) 0 n
