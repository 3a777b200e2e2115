-- The model's verdict on a request, read from what stands in the request: it is taken exactly where all the papers' conditions hold of the record
-- given in it, and turned away with an answer exactly where the papers name that one for it. Assumes nothing.
use mathlib.Core.Path.{◌≡◌, refl}
use mathlib.Core.Logic.{◌↔◌}
use Prim.Native.Nat.{ℕ, zero, suc, ◌<◌}
use mathlib.Core.List.{List, [], ◌∷◌}
use mathlib.Core.Option.{Option, none, some}
use native.Mathlib.Omega.{arith}
use Rattle.journal_spec.specs.Log.{Gathered, gathered, misread}
use Rattle.journal_spec.specs.Request.{Request, times_of, offer_of, AppendResult, declined, declined_at, damaged}
use Rattle.journal_spec.specs.Model.{Model, record_for, break_of, taken, turned, by_number, by_log, by_break, first_turned, verdict_of, model_refusal}
use Rattle.journal_spec.specs.Ranges.{AllHold, asked_of}
use Rattle.journal_spec.specs.Shown.{Takes, Named, of_line, of_break, of_number}
use Rattle.journal_spec.proofs.Ranged.{accepted_exactly, declined_exactly}
use Rattle.journal_spec.proofs.Given.{times_given, line_refused, is_given, given_is}

-- what decides a verdict
record Decided (g : Gathered) (b : Option ℕ) (n : ℕ) : Type 0 where
  times : List ℕ
  are : g ≡ gathered times
  stands : b ≡ none
  number : n ≡ 0

module _ (room : ℕ) (m : Model) (q : Request) where
  pub taken_exactly : (verdict_of room m q ≡ taken) ↔ Takes room m q
  unfolding verdict_of
  taken_exactly = (
    λ h.
        let z = all_taken (times_of q) (break_of q.rule m) (model_refusal room m q) h in
        record {
          content = record_for (offer_of q);
          given = is_given q z.times ((times_given q z.times).0 z.are);
          stands = z.stands;
          holds = (accepted_exactly room m q).0 z.number;
        },
    λ t.
        let holds : AllHold (asked_of room m q (record_for (offer_of q))) = rw (given_is q t.content t.given) at t.holds in
        rw ((times_given q t.content.times).1 t.given.times, t.stands, (accepted_exactly room m q).1 holds)
        (all_passed t.content.times),
  )
    where
      all_passed : (ts : List ℕ) → first_turned (by_log (gathered ts) ∷ by_break none ∷ by_number 0 ∷ []) ≡ taken
      all_passed ts = unfold by_log by_break by_number first_turned in refl

      all_taken : (g : Gathered) (b : Option ℕ) (n : ℕ) → first_turned (by_log g ∷ by_break b ∷ by_number n ∷ []) ≡ taken → Decided g b n
      all_taken (gathered ts) none zero h = record { times = ts; are = refl; stands = refl; number = refl }
      all_taken (gathered ts) none (suc n) h = unfold by_log by_break by_number first_turned in let z : ◌≡◌ {A = ℕ} 0 1 = cc in absurd (omega arith)
      all_taken (gathered ts) (some at) n h = unfold by_log by_break first_turned in let z : ◌≡◌ {A = ℕ} 0 1 = cc in absurd (omega arith)
      all_taken (misread k p) b n h = unfold by_log first_turned in let z : ◌≡◌ {A = ℕ} 0 1 = cc in absurd (omega arith)

  pub turned_exactly : (a : AppendResult) → (verdict_of room m q ≡ turned a) ↔ Named room m q a
  unfolding verdict_of
  turned_exactly a = (λ h. named (times_of q) refl (break_of q.rule m) refl (model_refusal room m q) refl h, λ h. from_named h)
    where
      named : (g : Gathered) → times_of q ≡ g → (b : Option ℕ) → break_of q.rule m ≡ b → (n : ℕ) → model_refusal room m q ≡ n
          → first_turned (by_log g ∷ by_break b ∷ by_number n ∷ []) ≡ turned a → Named room m q a
      named (misread k p) e b f n r h =
          let same : declined_at k p ≡ a = unfold by_log first_turned in cc in
          let l = (line_refused q k p).0 e in
          rw (← same) (of_line l.is_log l.refused)
      named (gathered ts) e (some at) f n r h =
          let same : damaged 19 at ≡ a = unfold by_log by_break first_turned in cc in
          rw (← same) (of_break ((times_given q ts).0 e) f)
      named (gathered ts) e none f (suc n) r h =
          let same : declined (suc n) ≡ a = unfold by_log by_break by_number first_turned in cc in
          rw (← same) (of_number (is_given q ts ((times_given q ts).0 e)) f ((declined_exactly room m q (suc n)).0 (omega arith, r)))
      named (gathered ts) e none f zero r h = unfold by_log by_break by_number first_turned in let z : ◌≡◌ {A = ℕ} 0 1 = cc in absurd (omega arith)

      by_number_lem : (ts : List ℕ) (n : ℕ) → times_of q ≡ gathered ts → break_of q.rule m ≡ none → (0 < n) × (model_refusal room m q ≡ n)
          → first_turned (by_log (times_of q) ∷ by_break (break_of q.rule m) ∷ by_number (model_refusal room m q) ∷ []) ≡ turned (declined n)
      by_number_lem ts zero e f r = absurd (omega (arith, r.0))
      by_number_lem ts (suc n) e f r = rw (e, f, r.1) (unfold by_log by_break by_number first_turned in refl)

      from_named : {b : AppendResult} → Named room m q b
          → first_turned (by_log (times_of q) ∷ by_break (break_of q.rule m) ∷ by_number (model_refusal room m q) ∷ []) ≡ turned b
      from_named (of_line {bs} {n} {p} e h) =
          rw ((line_refused q n p).1 (record { bytes = bs; is_log = e; refused = h })) (unfold by_log first_turned in refl)
      from_named (of_break {ts} {at} g f) = rw ((times_given q ts).1 g, f) (unfold by_log by_break first_turned in refl)
      from_named (of_number {r} {n} g f first) =
          by_number_lem r.times n ((times_given q r.times).1 g.times) f
          ((declined_exactly room m q n).1 (rw (given_is q r g) at first))
