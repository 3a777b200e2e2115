-- Two answers of a merge that come to the same are the same answer, with the same third buffer: the equation of the contract leaves nothing free.
-- Assumes nothing.
use mathlib.Core.Path.{◌≡◌, refl, ap, ap₂}
use native.Mathlib.Omega.{arith}
use Rattle.std.proofs.Common.{ℕ, Result, Ok, Err}
use mathlib.Core.List.{List}
use Rattle.refusals.specs.declared.Refusal.{Refusal}
use Rattle.refusals.specs.Refusals.{number_of}
use Rattle.refusals.proofs.Numbers.{own_number}
use Rattle.journal.specs.declared.Fault.{Fault}
use Rattle.journal_merge_spec.specs.Merge.{MergeOutcome}
use Rattle.journal_merge.specs.Answers.{whose_of, answer_of, outcome_of}
use Rattle.journal_merge.specs.declared.Whose as W
use Rattle.journal_merge.specs.declared.Whose.TheVariants as WV
use Rattle.journal_merge.specs.declared.MergeError.{MergeError}
use Rattle.journal_merge.specs.declared.MergeError.TheVariants as E

whose_same : (v w : W.Whose) → whose_of v ≡ whose_of w → v ≡ w
unfolding whose_of
whose_same WV.First WV.First e = refl
whose_same WV.First WV.Second e = let z : ◌≡◌ {A = ℕ} 0 1 = cc in absurd (omega arith)
whose_same WV.Second WV.First e = let z : ◌≡◌ {A = ℕ} 0 1 = cc in absurd (omega arith)
whose_same WV.Second WV.Second e = refl

fault_same : (f g : Fault) → number_of f.refusal ≡ number_of g.refusal → f.place ≡ g.place → f ≡ g
fault_same f g e k = ap₂ (λ (r : Refusal) (p : ℕ). record { refusal = r; place = p }) (own_number f.refusal g.refusal e) k

pub answer_injective : (a b : Result ℕ MergeError) → answer_of a ≡ answer_of b → a ≡ b
unfolding answer_of
answer_injective (Ok n) (Ok m) e = cc
answer_injective (Ok n) (Err (E.Damaged w g)) e = let z : ◌≡◌ {A = ℕ} 0 1 = cc in absurd (omega arith)
answer_injective (Ok n) (Err (E.DeclinedOf w s)) e = let z : ◌≡◌ {A = ℕ} 0 1 = cc in absurd (omega arith)
answer_injective (Ok n) (Err (E.DeclinedAt g)) e = let z : ◌≡◌ {A = ℕ} 0 1 = cc in absurd (omega arith)
answer_injective (Ok n) (Err (E.Declined s)) e = let z : ◌≡◌ {A = ℕ} 0 1 = cc in absurd (omega arith)
answer_injective (Err (E.Damaged v f)) (Ok m) e = let z : ◌≡◌ {A = ℕ} 0 1 = cc in absurd (omega arith)
answer_injective (Err (E.Damaged v f)) (Err (E.Damaged w g)) e =
    let whose : whose_of v ≡ whose_of w = cc in
    let number : number_of f.refusal ≡ number_of g.refusal = cc in
    let place : f.place ≡ g.place = cc in
    ap₂ (λ (x : W.Whose) (y : Fault). Err (E.Damaged x y)) (whose_same v w whose) (fault_same f g number place)
answer_injective (Err (E.Damaged v f)) (Err (E.DeclinedOf w s)) e = let z : ◌≡◌ {A = ℕ} 0 1 = cc in absurd (omega arith)
answer_injective (Err (E.Damaged v f)) (Err (E.DeclinedAt g)) e = let z : ◌≡◌ {A = ℕ} 0 1 = cc in absurd (omega arith)
answer_injective (Err (E.Damaged v f)) (Err (E.Declined s)) e = let z : ◌≡◌ {A = ℕ} 0 1 = cc in absurd (omega arith)
answer_injective (Err (E.DeclinedOf v r)) (Ok m) e = let z : ◌≡◌ {A = ℕ} 0 1 = cc in absurd (omega arith)
answer_injective (Err (E.DeclinedOf v r)) (Err (E.Damaged w g)) e = let z : ◌≡◌ {A = ℕ} 0 1 = cc in absurd (omega arith)
answer_injective (Err (E.DeclinedOf v r)) (Err (E.DeclinedOf w s)) e =
    let whose : whose_of v ≡ whose_of w = cc in
    let number : number_of r ≡ number_of s = cc in
    ap₂ (λ (x : W.Whose) (y : Refusal). Err (E.DeclinedOf x y)) (whose_same v w whose) (own_number r s number)
answer_injective (Err (E.DeclinedOf v r)) (Err (E.DeclinedAt g)) e = let z : ◌≡◌ {A = ℕ} 0 1 = cc in absurd (omega arith)
answer_injective (Err (E.DeclinedOf v r)) (Err (E.Declined s)) e = let z : ◌≡◌ {A = ℕ} 0 1 = cc in absurd (omega arith)
answer_injective (Err (E.DeclinedAt f)) (Ok m) e = let z : ◌≡◌ {A = ℕ} 0 1 = cc in absurd (omega arith)
answer_injective (Err (E.DeclinedAt f)) (Err (E.Damaged w g)) e = let z : ◌≡◌ {A = ℕ} 0 1 = cc in absurd (omega arith)
answer_injective (Err (E.DeclinedAt f)) (Err (E.DeclinedOf w s)) e = let z : ◌≡◌ {A = ℕ} 0 1 = cc in absurd (omega arith)
answer_injective (Err (E.DeclinedAt f)) (Err (E.DeclinedAt g)) e =
    let number : number_of f.refusal ≡ number_of g.refusal = cc in
    let place : f.place ≡ g.place = cc in
    ap (λ (y : Fault). Err (E.DeclinedAt y)) (fault_same f g number place)
answer_injective (Err (E.DeclinedAt f)) (Err (E.Declined s)) e = let z : ◌≡◌ {A = ℕ} 0 1 = cc in absurd (omega arith)
answer_injective (Err (E.Declined r)) (Ok m) e = let z : ◌≡◌ {A = ℕ} 0 1 = cc in absurd (omega arith)
answer_injective (Err (E.Declined r)) (Err (E.Damaged w g)) e = let z : ◌≡◌ {A = ℕ} 0 1 = cc in absurd (omega arith)
answer_injective (Err (E.Declined r)) (Err (E.DeclinedOf w s)) e = let z : ◌≡◌ {A = ℕ} 0 1 = cc in absurd (omega arith)
answer_injective (Err (E.Declined r)) (Err (E.DeclinedAt g)) e = let z : ◌≡◌ {A = ℕ} 0 1 = cc in absurd (omega arith)
answer_injective (Err (E.Declined r)) (Err (E.Declined s)) e =
    let number : number_of r ≡ number_of s = cc in
    ap (λ (y : Refusal). Err (E.Declined y)) (own_number r s number)

pub outcome_injective : (a b : Result ℕ MergeError) (v w : List ℕ) → outcome_of a v ≡ outcome_of b w → (a ≡ b) × (v ≡ w)
unfolding outcome_of
outcome_injective a b v w e = (answer_injective a b (ap (λ (m : MergeOutcome). m.answer) e), ap (λ (m : MergeOutcome). m.buffer) e)
