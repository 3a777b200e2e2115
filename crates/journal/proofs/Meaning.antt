-- Two answers with the same meaning are the same answer, and two appends that come to the same leave the same bytes: the equations of the
-- contracts leave nothing free. No two refusals have one number. Assumes nothing.
use mathlib.Core.Path.{◌≡◌, refl, ap, ap₂}
use Prim.Native.Nat.{ℕ}
use mathlib.Core.List.{List}
use native.Mathlib.Omega.{arith}
use Rattle.std.specs.Prelude.{Result, Ok, Err}
use Rattle.refusals.specs.declared.Refusal.{Refusal}
use Rattle.refusals.specs.Refusals.{number_of}
use Rattle.refusals.proofs.Numbers.{own_number}
use Rattle.limit.proofs.Meaning.{injective_by}
use Rattle.journal_spec.specs.Read.{flat, few, normal, MarkResult, marked, unmarked}
use Rattle.journal_spec.specs.Read as Read
use Rattle.journal_spec.specs.Request.{Outcome}
use Rattle.journal.specs.declared.Fault.{Fault}
use Rattle.journal.specs.declared.Status.{Status}
use Rattle.journal.specs.declared.Status.TheVariants as S
use Rattle.journal.specs.declared.Part.{Part}
use Rattle.journal.specs.declared.marks.Mark.{Mark}
use Rattle.journal.specs.declared.marks.Mark.TheVariants as K
use Rattle.journal.specs.declared.AppendError.{AppendError}
use Rattle.journal.specs.declared.AppendError.TheVariants as A
use Rattle.journal.specs.Answers.{meaning, part_meaning, as_mark, mark_meaning, append_meaning, outcome_with, outcome_of}

fault_same : (f g : Fault) → number_of f.refusal ≡ number_of g.refusal → f.place ≡ g.place → f ≡ g
fault_same f g e k =
    ap₂ (λ (r : Refusal) (p : ℕ). record { refusal = r; place = p }) (own_number f.refusal g.refusal e) k

pub meaning_injective : (a b : Status) → meaning a ≡ meaning b → a ≡ b
unfolding meaning
meaning_injective (S.Whole n c) (S.Whole m d) e = cc
meaning_injective (S.Torn n c) (S.Torn m d) e = cc
meaning_injective (S.Damaged f) (S.Damaged g) e =
    let number : number_of f.refusal ≡ number_of g.refusal = cc in
    let place : f.place ≡ g.place = cc in
    ap S.Damaged (fault_same f g number place)
meaning_injective (S.Whole n c) (S.Torn m d) e = let z : ◌≡◌ {A = ℕ} 0 1 = cc in absurd (omega arith)
meaning_injective (S.Whole n c) (S.Damaged g) e = let z : ◌≡◌ {A = ℕ} 0 1 = cc in absurd (omega arith)
meaning_injective (S.Torn n c) (S.Whole m d) e = let z : ◌≡◌ {A = ℕ} 0 1 = cc in absurd (omega arith)
meaning_injective (S.Torn n c) (S.Damaged g) e = let z : ◌≡◌ {A = ℕ} 0 1 = cc in absurd (omega arith)
meaning_injective (S.Damaged f) (S.Whole m d) e = let z : ◌≡◌ {A = ℕ} 0 1 = cc in absurd (omega arith)
meaning_injective (S.Damaged f) (S.Torn m d) e = let z : ◌≡◌ {A = ℕ} 0 1 = cc in absurd (omega arith)

of_part : Read.Part → Part
of_part p = record { start = p.start; size = p.size }

pub part_meaning_injective : (a b : Part) → part_meaning a ≡ part_meaning b → a ≡ b
part_meaning_injective = injective_by part_meaning of_part (λ p. unfold part_meaning of_part in refl)

of_mark : Read.Mark → Mark
of_mark flat = K.Flat
of_mark few = K.Few
of_mark normal = K.Normal

pub as_mark_injective : (a b : Mark) → as_mark a ≡ as_mark b → a ≡ b
unfolding as_mark of_mark
as_mark_injective = injective_by as_mark of_mark back
  where
    back : (m : Mark) → of_mark (as_mark m) ≡ m
    back K.Flat = refl
    back K.Few = refl
    back K.Normal = refl

pub mark_meaning_injective : (a b : Result Mark Refusal) → mark_meaning a ≡ mark_meaning b → a ≡ b
unfolding mark_meaning
mark_meaning_injective (Ok x) (Ok y) e = let same : as_mark x ≡ as_mark y = cc in ap Ok (as_mark_injective x y same)
mark_meaning_injective (Err r) (Err s) e = let same : number_of r ≡ number_of s = cc in ap Err (own_number r s same)
mark_meaning_injective (Ok x) (Err s) e = let z : ◌≡◌ {A = ℕ} 0 1 = cc in absurd (omega arith)
mark_meaning_injective (Err r) (Ok y) e = let z : ◌≡◌ {A = ℕ} 0 1 = cc in absurd (omega arith)

pub append_meaning_injective : (a b : Result ℕ AppendError) → append_meaning a ≡ append_meaning b → a ≡ b
unfolding append_meaning
append_meaning_injective (Ok n) (Ok m) e = let same : n ≡ m = cc in ap Ok same
append_meaning_injective (Err (A.Declined r)) (Err (A.Declined s)) e =
    let same : number_of r ≡ number_of s = cc in ap (λ (x : Refusal). Err (A.Declined x)) (own_number r s same)
append_meaning_injective (Err (A.DeclinedAt f)) (Err (A.DeclinedAt g)) e =
    let number : number_of f.refusal ≡ number_of g.refusal = cc in
    let place : f.place ≡ g.place = cc in
    ap (λ (x : Fault). Err (A.DeclinedAt x)) (fault_same f g number place)
append_meaning_injective (Err (A.Damaged f)) (Err (A.Damaged g)) e =
    let number : number_of f.refusal ≡ number_of g.refusal = cc in
    let place : f.place ≡ g.place = cc in
    ap (λ (x : Fault). Err (A.Damaged x)) (fault_same f g number place)
append_meaning_injective (Ok n) (Err (A.Declined s)) e = let z : ◌≡◌ {A = ℕ} 0 1 = cc in absurd (omega arith)
append_meaning_injective (Ok n) (Err (A.DeclinedAt g)) e = let z : ◌≡◌ {A = ℕ} 0 1 = cc in absurd (omega arith)
append_meaning_injective (Ok n) (Err (A.Damaged g)) e = let z : ◌≡◌ {A = ℕ} 0 1 = cc in absurd (omega arith)
append_meaning_injective (Err (A.Declined r)) (Ok m) e = let z : ◌≡◌ {A = ℕ} 0 1 = cc in absurd (omega arith)
append_meaning_injective (Err (A.Declined r)) (Err (A.DeclinedAt g)) e = let z : ◌≡◌ {A = ℕ} 0 1 = cc in absurd (omega arith)
append_meaning_injective (Err (A.Declined r)) (Err (A.Damaged g)) e = let z : ◌≡◌ {A = ℕ} 0 1 = cc in absurd (omega arith)
append_meaning_injective (Err (A.DeclinedAt f)) (Ok m) e = let z : ◌≡◌ {A = ℕ} 0 1 = cc in absurd (omega arith)
append_meaning_injective (Err (A.DeclinedAt f)) (Err (A.Declined s)) e = let z : ◌≡◌ {A = ℕ} 0 1 = cc in absurd (omega arith)
append_meaning_injective (Err (A.DeclinedAt f)) (Err (A.Damaged g)) e = let z : ◌≡◌ {A = ℕ} 0 1 = cc in absurd (omega arith)
append_meaning_injective (Err (A.Damaged f)) (Ok m) e = let z : ◌≡◌ {A = ℕ} 0 1 = cc in absurd (omega arith)
append_meaning_injective (Err (A.Damaged f)) (Err (A.Declined s)) e = let z : ◌≡◌ {A = ℕ} 0 1 = cc in absurd (omega arith)
append_meaning_injective (Err (A.Damaged f)) (Err (A.DeclinedAt g)) e = let z : ◌≡◌ {A = ℕ} 0 1 = cc in absurd (omega arith)

pub outcome_injective : (len : ℕ) (a b : Result ℕ AppendError) (v w : List ℕ) → outcome_of len a v ≡ outcome_of len b w → (a ≡ b) × (v ≡ w)
unfolding outcome_with
outcome_injective len a b v w e =
    (append_meaning_injective a b (ap (λ (o : Outcome). o.answer) e), ap (λ (o : Outcome). o.journal.slice) e)
