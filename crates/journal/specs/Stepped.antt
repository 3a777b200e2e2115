-- The step of document 01's call with k, into the part of the slice from the committed length on: where the record's bytes before the place p
-- stand, it writes byte p of them and no other, and answers the place after it. And what a run of such steps leaves.
use Rattle.std.specs.Prelude.{◌≡◌, ℕ, ◌+◌, ◌-◌, ◌≤◌, List, length, take, drop, get_or, set}
use Rattle.journal_spec.specs.Append.{written}

-- the record's bytes before the place p stand: they are the front of the part
abbrev pub Front : List ℕ → ℕ → List ℕ → Type 0
Front new p d = take p d ≡ take p new

-- `new` is the record's bytes, d the part before and d' after, r the place after
pub record Stepped (new d : List ℕ) (p r : ℕ) (d' : List ℕ) : Type 0 where
  pub place : r ≡ p + 1
  pub bytes : d' ≡ set d p (get_or new p 0)
  pub front : Front new r d'

-- after steps from the place p to the place r: the record's bytes between them stand at their places, no other byte is changed, and with those
-- before them they are the front of the part
pub record Filled (new d : List ℕ) (p r : ℕ) (d' : List ℕ) : Type 0 where
  pub onward : p ≤ r
  pub inside : r ≤ length d
  pub known : r ≤ length new
  pub bytes : d' ≡ written d p (take (r - p) (drop p new))
  pub front : Front new r d'
