-- `extend_indexed` lets the journal's rows be judged with a budget of nothing, which changes no byte, then the index's, and then writes.
-- Assumes nothing.
use mathlib.Core.Path.{refl}
use Prim.Native.Nat.{ℕ}
use lib.ListN.{take}
use Rattle.journal.specs.Handed.{as_budget}
use Rattle.journal_index.specs.Offered.{request_with}
use Rattle.journal_index.specs.Standing.{placed_in}
use Rattle.journal_index.proofs.Appending.{without, JudgedBy, judged}
use Rattle.journal_index.proofs.Standing.{ends_placed, judged_first, judged_then, judged_none, judged_whole, judged_writes}
use Rattle.journal_index.proofs.append.extend_indexed.Goals as goal
use Rattle.journal_index.proofs.append.extend_indexed.Goals.{After-extend_by-judged}

-- what the call with a budget of nothing says
told : (c : After-extend_by-judged) (len : ℕ)
    → let a = c.args in
    JudgedBy (record { slice = a.v.now; len = len }) (placed_in (take a.contents.committed a.v.now)) a.contents.committed
    (request_with a.offer.now a.index.now) a.index.now refl c.extend_by-judged.result c.extend_by-judged.new.v
unfolding without as_budget
told c len = judged _ _ _ _ _ refl _ _ (c.extend_by-judged.ensures len _ (ends_placed _ _ _ c.requires))

pub returns-in-Err : goal.returns-in-Err
returns-in-Err c len = judged_first (told (goal.at.returns-in-Err c).After-extend_by-judged len) c.in-Err.refusal c.in-Err.ensures

pub index_refusal-requires : goal.index_refusal-requires
index_refusal-requires c = judged_whole (told (goal.at.index_refusal-requires c).After-extend_by-judged 0) _ c.requires

pub returns-in-Err-index_refusal : goal.returns-in-Err-index_refusal
returns-in-Err-index_refusal c len =
    judged_then (told (goal.at.returns-in-Err-index_refusal c).After-extend_by-judged len) c.in_default.ensures c.in-Err-index_refusal.refusal
    (c.in-Err-index_refusal.ensures _)

pub extend_and_amend-requires-clause-stands : goal.extend_and_amend-requires-clause-stands
extend_and_amend-requires-clause-stands c =
    (judged_none (told (goal.at.extend_and_amend-requires-clause-stands c).After-extend_by-judged 0) c.in_default.ensures _ c.requires
    (c.in_default-index_refusal.ensures _)).0

pub extend_and_amend-requires-clause-index_value : goal.extend_and_amend-requires-clause-index_value
extend_and_amend-requires-clause-index_value c =
    (judged_none (told (goal.at.extend_and_amend-requires-clause-index_value c).After-extend_by-judged 0) c.in_default.ensures _ c.requires
    (c.in_default-index_refusal.ensures _)).1

pub returns : goal.returns
returns c len = judged_writes (told (goal.at.returns c).After-extend_by-judged len) _ (c.extend_and_amend.ensures len)
