-- The refusals of both calls in the request's order: 11, then the survey's, then 14; and what is answered where none holds.
-- Assumes nothing.
use mathlib.Core.Path.{◌≡◌, refl, ap, sym, ◌∙◌}
use Prim.Native.Nat.{ℕ}
use mathlib.Core.List.{List}
use mathlib.Core.Bool.{Bool, true, false, cond}
use native.Mathlib.Omega.{arith}
use Rattle.journal_spec.specs.Refusals.{index_refusal}
use Rattle.journal_spec.specs.Scan.{Placed, Contents, standing, faulty}
use Rattle.journal_spec.specs.Index.{index_bytes, in_front, index_of}
use Rattle.journal_trial_spec.specs.Links.{Link, LogRead, read, misread}
use Rattle.journal_trial_spec.specs.Trial.{declined_at, damaged, declined, ready, refused, ready_of}

module _ (index : List ℕ) where
  -- 11 comes first, whatever the journal and the index hold
  pub first_unread : (p : ℕ) (c : Contents) → ready_of (misread p) c index ≡ refused (declined_at 11 p)
  unfolding ready_of
  first_unread p c = refl

  -- then the scan's fault, whatever the index holds
  pub then_damaged : (ls : List Link) (n p : ℕ) → ready_of (read ls) (faulty n p) index ≡ refused (damaged n p)
  unfolding ready_of
  then_damaged ls n p = refl

  -- then 14, exactly where the index is not at the buffer's front
  module _ (ls : List Link) (ps : List Placed) (committed : ℕ) where
    pub then_declined : in_front (index_bytes (index_of ps)) index ≡ false → ready_of (read ls) (standing ps committed) index ≡ refused (declined 14)
    unfolding ready_of
    then_declined h = rw h refl

    pub else_ready : in_front (index_bytes (index_of ps)) index ≡ true → ready_of (read ls) (standing ps committed) index ≡ ready ls ps
    unfolding ready_of
    else_ready h = rw h refl

-- where both calls are ready: the log is read, the journal has no fault, and the index is its own
pub record IsReady (l : LogRead) (c : Contents) (index : List ℕ) (ls : List Link) (ps : List Placed) : Type 0 where
  pub log : l ≡ read ls
  pub committed : ℕ
  pub journal : c ≡ standing ps committed
  pub own : in_front (index_bytes (index_of ps)) index ≡ true

pub ready_exactly : (l : LogRead) (c : Contents) (index : List ℕ) (ls : List Link) (ps : List Placed)
    → ready_of l c index ≡ ready ls ps → IsReady l c index ls ps
unfolding ready_of
ready_exactly (misread p) c index ls ps h = let z : ◌≡◌ {A = ℕ} 0 1 = cc in absurd (omega arith)
ready_exactly (read ms) (faulty n p) index ls ps h = let z : ◌≡◌ {A = ℕ} 0 1 = cc in absurd (omega arith)
ready_exactly (read ms) (standing qs d) index ls ps h = go (in_front (index_bytes (index_of qs)) index) refl h
  where
    go : (b : Bool) → in_front (index_bytes (index_of qs)) index ≡ b → cond b (ready ms qs) (refused (declined index_refusal)) ≡ ready ls ps
        → IsReady (read ms) (standing qs d) index ls ps
    go false e k = let z : ◌≡◌ {A = ℕ} 0 1 = cc in absurd (omega arith)
    go true e k =
        let same : ms ≡ ls = cc in
        let places : qs ≡ ps = cc in
        record {
          log = ap read same;
          committed = d;
          journal = ap (λ (xs : List Placed). standing xs d) places;
          own = ap (λ (xs : List Placed). in_front (index_bytes (index_of xs)) index) (sym places) ∙ e;
        }
