-- Two answers with the same meaning are the same answer, and where they come to the same the buffers are the same: the equations of the contracts
-- leave nothing free. Assumes nothing.
use mathlib.Core.Path.{◌≡◌, refl, ap, ap₂}
use Prim.Native.Nat.{ℕ}
use mathlib.Core.List.{List}
use mathlib.Core.Option.{some}
use native.Mathlib.Omega.{arith}
use Rattle.std.specs.Prelude.{Result, Ok, Err}
use Rattle.refusals.specs.declared.Refusal.{Refusal}
use Rattle.refusals.specs.Refusals.{number_of}
use Rattle.refusals.proofs.Numbers.{own_number}
use Rattle.journal_spec.specs.Request.{Outcome}
use Rattle.journal_spec.specs.MakeIndex.{Made}
use Rattle.journal.specs.declared.Fault.{Fault}
use Rattle.journal.specs.declared.AppendError.{AppendError}
use Rattle.journal.proofs.Meaning.{append_meaning_injective}
use Rattle.journal_index.specs.Made.{made_meaning, made_outcome}
use Rattle.journal_index.specs.Checked.{check_meaning}
use Rattle.journal.specs.Answers.{outcome_with}
use Rattle.journal_index.specs.Outcome.{indexed_outcome}
use Rattle.journal_index.specs.declared.IndexError.{IndexError}
use Rattle.journal_index.specs.declared.IndexError.TheVariants as E

fault_same : (f g : Fault) → number_of f.refusal ≡ number_of g.refusal → f.place ≡ g.place → f ≡ g
fault_same f g e k = ap₂ (λ (r : Refusal) (p : ℕ). record { refusal = r; place = p }) (own_number f.refusal g.refusal e) k

made_meaning_injective : (a b : Result ℕ IndexError) → made_meaning a ≡ made_meaning b → a ≡ b
unfolding made_meaning
made_meaning_injective (Ok n) (Ok m) e = cc
made_meaning_injective (Err (E.Declined r)) (Err (E.Declined q)) e =
    let n : number_of r ≡ number_of q = cc in ap (λ (x : Refusal). Err (E.Declined x)) (own_number r q n)
made_meaning_injective (Err (E.Damaged f)) (Err (E.Damaged g)) e =
    let n : number_of f.refusal ≡ number_of g.refusal = cc in
    let p : f.place ≡ g.place = cc in
    ap (λ (x : Fault). Err (E.Damaged x)) (fault_same f g n p)
made_meaning_injective (Ok n) (Err (E.Declined q)) e = let z : ◌≡◌ {A = ℕ} 0 1 = cc in absurd (omega arith)
made_meaning_injective (Ok n) (Err (E.Damaged g)) e = let z : ◌≡◌ {A = ℕ} 0 1 = cc in absurd (omega arith)
made_meaning_injective (Err (E.Declined r)) (Ok m) e = let z : ◌≡◌ {A = ℕ} 0 1 = cc in absurd (omega arith)
made_meaning_injective (Err (E.Declined r)) (Err (E.Damaged g)) e = let z : ◌≡◌ {A = ℕ} 0 1 = cc in absurd (omega arith)
made_meaning_injective (Err (E.Damaged f)) (Ok m) e = let z : ◌≡◌ {A = ℕ} 0 1 = cc in absurd (omega arith)
made_meaning_injective (Err (E.Damaged f)) (Err (E.Declined q)) e = let z : ◌≡◌ {A = ℕ} 0 1 = cc in absurd (omega arith)

pub made_injective : (a b : Result ℕ IndexError) (v w : List ℕ) → made_outcome a v ≡ made_outcome b w → (a ≡ b) × (v ≡ w)
unfolding made_outcome
made_injective a b v w e = (made_meaning_injective a b (ap (λ (m : Made). m.answer) e), ap (λ (m : Made). m.buffer) e)

pub check_injective : (a b : Result (Unit {0}) IndexError) → check_meaning a ≡ check_meaning b → a ≡ b
unfolding check_meaning
check_injective (Ok u) (Ok t) e = refl
check_injective (Err (E.Declined r)) (Err (E.Declined q)) e =
    let n : number_of r ≡ number_of q = cc in ap (λ (x : Refusal). Err (E.Declined x)) (own_number r q n)
check_injective (Err (E.Damaged f)) (Err (E.Damaged g)) e =
    let n : number_of f.refusal ≡ number_of g.refusal = cc in
    let p : f.place ≡ g.place = cc in
    ap (λ (x : Fault). Err (E.Damaged x)) (fault_same f g n p)
check_injective (Ok u) (Err (E.Declined q)) e = let z : ◌≡◌ {A = ℕ} 0 1 = cc in absurd (omega arith)
check_injective (Ok u) (Err (E.Damaged g)) e = let z : ◌≡◌ {A = ℕ} 0 1 = cc in absurd (omega arith)
check_injective (Err (E.Declined r)) (Ok t) e = let z : ◌≡◌ {A = ℕ} 0 1 = cc in absurd (omega arith)
check_injective (Err (E.Declined r)) (Err (E.Damaged g)) e = let z : ◌≡◌ {A = ℕ} 0 1 = cc in absurd (omega arith)
check_injective (Err (E.Damaged f)) (Ok t) e = let z : ◌≡◌ {A = ℕ} 0 1 = cc in absurd (omega arith)
check_injective (Err (E.Damaged f)) (Err (E.Declined q)) e = let z : ◌≡◌ {A = ℕ} 0 1 = cc in absurd (omega arith)

pub indexed_injective : (len : ℕ) (a b : Result ℕ AppendError) (v w i j : List ℕ) → indexed_outcome len a v i ≡ indexed_outcome len b w j
    → (a ≡ b) × (v ≡ w) × (i ≡ j)
unfolding outcome_with
indexed_injective len a b v w i j e = (
  append_meaning_injective a b (ap (λ (o : Outcome). o.answer) e),
  ap (λ (o : Outcome). o.journal.slice) e,
  same_bytes i j (ap (λ (o : Outcome). o.index) e),
)
  where
    same_bytes : (i j : List ℕ) → some i ≡ some j → i ≡ j
    same_bytes i j h = cc
