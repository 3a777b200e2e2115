-- The merge itself, of two slices with the journals' lengths in them and a third buffer: each answer exactly where its row is the first that
-- holds, with the papers' number for it and whose it is, and that a refusal writes none of the third buffer. Assumes nothing.
use mathlib.Core.Path.{◌≡◌, refl, sym, ap, subst, ◌∙◌}
use mathlib.Core.Logic.{◌⊎◌, inl, inr, ◌↔◌}
use Prim.Native.Nat.{ℕ, ◌≤◌, ◌<◌, min}
use mathlib.Core.List.{List}
use mathlib.Core.Option.{Option, none, some}
use native.Mathlib.Omega.{arith}
use lib.ListN.{length}
use Rattle.facts.proofs.Orders.{by_order}
use Rattle.journal_spec.specs.Record.{Record, records_bytes}
use Rattle.journal_spec.specs.Profile.{plain}
use Rattle.journal_spec.specs.Scan.{max_length, ScanResult, whole, torn, scan_of}
use Rattle.journal_spec.specs.Scan as Scan
use Rattle.journal_spec.specs.Append.{written}
use Rattle.journal_spec.specs.Model.{lengths_of}
use Rattle.journal_spec.specs.Cursor.{records_upto}
use Rattle.journal_merge_spec.specs.Records.{merged_of, fall_from}
use Rattle.journal_merge_spec.specs.Merge.{of_first, of_second, MergeResult, merged, damaged, declined_of, declined_at, declined, MergeOutcome}
use Rattle.journal_merge_spec.specs.Merge.{merge_by, merge_of}
use Rattle.journal_merge_spec.proofs.Following.{FormsFrom}
use Rattle.journal_merge_spec.proofs.Falls.{FirstFall, first_fall, fall_first, no_fall, none_falls}
use Rattle.journal_merge_spec.proofs.Rows.{refused, first_damaged, second_damaged, second_damaged_torn, first_torn, both_torn, second_torn}
use Rattle.journal_merge_spec.proofs.Rows.{whole_falls, whole_long, whole_put}

-- ---- what a survey says of an input

-- a fault, with its number and place
abbrev pub Faulty : ScanResult → ℕ → ℕ → Type 0
Faulty x n p = x ≡ Scan.damaged n p

abbrev pub Faultless : ScanResult → Type 0
Faultless x = (n p : ℕ) → Faulty x n p → ⊥

abbrev pub EndsTorn : ScanResult → Type 0
EndsTorn x = (k : ℕ) × (c : ℕ) × (x ≡ torn k c)

abbrev pub IsWhole : ScanResult → Type 0
IsWhole x = (k : ℕ) × (c : ℕ) × (x ≡ whole k c)

-- ---- the rows

-- the result is longer than the third buffer or 65,536
abbrev pub TooLong : List Record → List ℕ → Type 0
TooLong rs buffer = (length buffer < lengths_of rs) ⊎ (65_536 < lengths_of rs)

-- it has room in both
abbrev pub Fits : List Record → List ℕ → Type 0
Fits rs buffer = (lengths_of rs ≤ length buffer) × (lengths_of rs ≤ 65_536)

-- where each answer is due, by what both surveys say, the records of the result and the third buffer
abbrev pub Due : ScanResult → ScanResult → List Record → List ℕ → MergeResult → Type 0
Due x y rs buffer (damaged of_first n p) = Faulty x n p
Due x y rs buffer (damaged of_second n p) = Faultless x × Faulty y n p
Due x y rs buffer (declined_of of_first n) = (n ≡ 16) × EndsTorn x × Faultless y
Due x y rs buffer (declined_of of_second n) = (n ≡ 16) × IsWhole x × EndsTorn y
Due x y rs buffer (declined_at n p) = (n ≡ 13) × IsWhole x × IsWhole y × FirstFall 0 0 rs p
Due x y rs buffer (declined n) = (n ≡ 9) × IsWhole x × IsWhole y × FormsFrom 0 rs × TooLong rs buffer
Due x y rs buffer (merged n) = (n ≡ lengths_of rs) × IsWhole x × IsWhole y × FormsFrom 0 rs × Fits rs buffer

module _ (rs : List Record) (buffer : List ℕ) where
  -- the third buffer after each: the result at its front, and else as it was
  abbrev pub after : MergeResult → List ℕ
  after (merged n) = written buffer 0 (records_bytes rs)
  after (damaged w n p) = buffer
  after (declined_of w n) = buffer
  after (declined_at n p) = buffer
  after (declined n) = buffer

  abbrev pub outcome : MergeResult → MergeOutcome
  outcome a = record { answer = a; buffer = after a }

  -- where an answer is due it is given
  given : (x y : ScanResult) (a : MergeResult) → Due x y rs buffer a → merge_by x y rs buffer ≡ outcome a
  given x y (damaged of_first n p) d = rw d (first_damaged rs buffer n p y)
  given x y (damaged of_second n p) d = rw d.1 (go x d.0)
    where
      go : (x : ScanResult) → Faultless x → merge_by x (Scan.damaged n p) rs buffer ≡ outcome (damaged of_second n p)
      go (whole k c) f = second_damaged rs buffer k c n p
      go (torn k c) f = second_damaged_torn rs buffer k c n p
      go (Scan.damaged m q) f = absurd (f m q refl)
  given x y (declined_of of_first n) d = rw (d.0, d.1.2) (go y d.2)
    where
      go : (y : ScanResult) → Faultless y → merge_by (torn d.1.0 d.1.1) y rs buffer ≡ outcome (declined_of of_first 16)
      go (whole k c) f = first_torn rs buffer d.1.0 d.1.1 k c
      go (torn k c) f = both_torn rs buffer d.1.0 d.1.1 k c
      go (Scan.damaged m q) f = absurd (f m q refl)
  given x y (declined_of of_second n) d = rw (d.0, d.1.2, d.2.2) (second_torn rs buffer _ _ _ _)
  given x y (declined_at n p) d = rw (d.0, d.1.2, d.2.2) (whole_falls rs buffer _ _ _ _ p (fall_first 0 0 rs p d.3))
  given x y (declined n) d = rw (d.0, d.1.2, d.2.2) (whole_long rs buffer _ _ _ _ (none_falls 0 0 rs d.3) (long d.4))
    where
      long : TooLong rs buffer → min (length buffer) max_length < lengths_of rs
      long (inl h) = omega arith
      long (inr h) = omega arith
  given x y (merged n) d =
      rw (d.0, d.1.2, d.2.2) (whole_put rs buffer _ _ _ _ (none_falls 0 0 rs d.3) (omega (arith, d.4.0, d.4.1)))

  -- some answer is due, whatever both surveys say
  pub record Decided (x y : ScanResult) : Type 0 where
    pub answer : MergeResult
    pub due : Due x y rs buffer answer

  whole_faultless : (k c : ℕ) → Faultless (whole k c)
  whole_faultless k c n p h = let z : ◌≡◌ {A = ℕ} 0 1 = cc in omega arith

  torn_faultless : (k c : ℕ) → Faultless (torn k c)
  torn_faultless k c n p h = let z : ◌≡◌ {A = ℕ} 0 1 = cc in omega arith

  some_due : (x y : ScanResult) → Decided x y
  some_due (Scan.damaged n p) y = record { answer = damaged of_first n p; due = refl }
  some_due (whole k c) (Scan.damaged n p) = record { answer = damaged of_second n p; due = (whole_faultless k c, refl) }
  some_due (torn k c) (Scan.damaged n p) = record { answer = damaged of_second n p; due = (torn_faultless k c, refl) }
  some_due (torn k c) (whole m d) = record { answer = declined_of of_first 16; due = (refl, (k, c, refl), whole_faultless m d) }
  some_due (torn k c) (torn m d) = record { answer = declined_of of_first 16; due = (refl, (k, c, refl), torn_faultless m d) }
  some_due (whole k c) (torn m d) = record { answer = declined_of of_second 16; due = (refl, (k, c, refl), (m, d, refl)) }
  some_due (whole k c) (whole m d) = by_fall (fall_from 0 0 rs) refl
    where
      by_fall : (f : Option ℕ) → fall_from 0 0 rs ≡ f → Decided (whole k c) (whole m d)
      by_fall (some p) e = record { answer = declined_at 13 p; due = (refl, (k, c, refl), (m, d, refl), first_fall 0 0 rs p e) }
      by_fall none e =
          by_order (lengths_of rs) (length buffer)
          (λ l.
          by_order (lengths_of rs) max_length
          (λ h.
          record { answer = merged (lengths_of rs); due = (refl, (k, c, refl), (m, d, refl), no_fall 0 0 rs e, (l, h)) })
          (λ h. record { answer = declined 9; due = (refl, (k, c, refl), (m, d, refl), no_fall 0 0 rs e, inr h) }))
          (λ l. record { answer = declined 9; due = (refl, (k, c, refl), (m, d, refl), no_fall 0 0 rs e, inl l) })

  -- so an answer that is given is due, and with it the buffer
  pub due_given : (x y : ScanResult) (a : MergeResult) → (merge_by x y rs buffer).answer ≡ a
      → Due x y rs buffer a × (merge_by x y rs buffer ≡ outcome a)
  due_given x y a h =
      let s = some_due x y in
      let e : s.answer ≡ a = sym (ap (λ (o : MergeOutcome). o.answer) (given x y s.answer s.due)) ∙ h in
      let d = subst (Due x y rs buffer) e s.due in
      (d, given x y a d)

-- ---- the merge

-- an answer that is no length
abbrev pub IsRefusal : MergeResult → Type 0
IsRefusal a = (n : ℕ) → a ≡ merged n → ⊥

after_refused : (rs : List Record) (buffer : List ℕ) (a : MergeResult) → IsRefusal a → after rs buffer a ≡ buffer
after_refused rs buffer (merged n) r = absurd (r n refl)
after_refused rs buffer (damaged w n p) r = refl
after_refused rs buffer (declined_of w n) r = refl
after_refused rs buffer (declined_at n p) r = refl
after_refused rs buffer (declined n) r = refl

module _ (slice₁ : List ℕ) (len₁ : ℕ) (slice₂ : List ℕ) (len₂ : ℕ) (buffer : List ℕ) where
  -- the records of the result
  abbrev pub result : List Record
  result = merged_of (records_upto slice₁ len₁) (records_upto slice₂ len₂)

  -- where an answer is due, by the surveys of both inputs and the records of the result
  abbrev pub DueOf : MergeResult → Type 0
  DueOf a = Due (scan_of plain slice₁ len₁) (scan_of plain slice₂ len₂) result buffer a

  -- an answer that is given is due, and so is what stands in the third buffer
  pub answered : (a : MergeResult) → (merge_of slice₁ len₁ slice₂ len₂ buffer).answer ≡ a
      → DueOf a × (merge_of slice₁ len₁ slice₂ len₂ buffer ≡ outcome result buffer a)
  unfolding merge_of
  answered a h = due_given result buffer (scan_of plain slice₁ len₁) (scan_of plain slice₂ len₂) a h

  -- THE ROWS: the merge answers each exactly where it is due
  pub answered_exactly : (a : MergeResult) → ((merge_of slice₁ len₁ slice₂ len₂ buffer).answer ≡ a) ↔ DueOf a
  unfolding merge_of
  answered_exactly a = (
    λ h. (answered a h).0,
    λ d. ap (λ (o : MergeOutcome). o.answer) (given result buffer (scan_of plain slice₁ len₁) (scan_of plain slice₂ len₂) a d),
  )

  -- a refusal writes none of the third buffer
  pub refused_unwritten : IsRefusal (merge_of slice₁ len₁ slice₂ len₂ buffer).answer → (merge_of slice₁ len₁ slice₂ len₂ buffer).buffer ≡ buffer
  refused_unwritten r = ap (λ (o : MergeOutcome). o.buffer) (answered _ refl).1 ∙ after_refused result buffer _ r

  -- answer and buffer together
  pub refused_there : (a : MergeResult) → IsRefusal a → DueOf a → merge_of slice₁ len₁ slice₂ len₂ buffer ≡ refused a buffer
  refused_there a r d =
      (answered a ((answered_exactly a).1 d)).1 ∙ ap (λ (b : List ℕ). refused a b) (after_refused result buffer a r)

  -- ---- row by row

  -- a fault of the first volume, with its number and place, whatever the second is
  pub first_fault : (n p : ℕ) → scan_of plain slice₁ len₁ ≡ Scan.damaged n p
      → merge_of slice₁ len₁ slice₂ len₂ buffer ≡ refused (damaged of_first n p) buffer
  first_fault n p h = refused_there (damaged of_first n p) (λ k e. let z : ◌≡◌ {A = ℕ} 0 1 = cc in omega arith) h

  -- then one of the second, also where the first ends torn
  pub second_fault : (n p : ℕ) → Faultless (scan_of plain slice₁ len₁) → scan_of plain slice₂ len₂ ≡ Scan.damaged n p
      → merge_of slice₁ len₁ slice₂ len₂ buffer ≡ refused (damaged of_second n p) buffer
  second_fault n p f h = refused_there (damaged of_second n p) (λ k e. let z : ◌≡◌ {A = ℕ} 0 1 = cc in omega arith) (f, h)

  -- then 16 of the first, also where both end torn
  pub first_ends_torn : (k c : ℕ) → scan_of plain slice₁ len₁ ≡ torn k c → Faultless (scan_of plain slice₂ len₂)
      → merge_of slice₁ len₁ slice₂ len₂ buffer ≡ refused (declined_of of_first 16) buffer
  first_ends_torn k c h f = refused_there (declined_of of_first 16) (λ n e. let z : ◌≡◌ {A = ℕ} 0 1 = cc in omega arith) (refl, (k, c, h), f)

  -- then 16 of the second
  pub second_ends_torn : (k c m d : ℕ) → scan_of plain slice₁ len₁ ≡ whole k c → scan_of plain slice₂ len₂ ≡ torn m d
      → merge_of slice₁ len₁ slice₂ len₂ buffer ≡ refused (declined_of of_second 16) buffer
  second_ends_torn k c m d h g =
      refused_there (declined_of of_second 16) (λ n e. let z : ◌≡◌ {A = ℕ} 0 1 = cc in omega arith) (refl, (k, c, h), (m, d, g))

  -- then 13, at the first form 1 after form 2 in the result (FirstFall; of good records it is that, `fall_forms`)
  module _ (k c m d : ℕ) (h : scan_of plain slice₁ len₁ ≡ whole k c) (g : scan_of plain slice₂ len₂ ≡ whole m d) where
    pub forms_fall : (p : ℕ) → FirstFall 0 0 result p → merge_of slice₁ len₁ slice₂ len₂ buffer ≡ refused (declined_at 13 p) buffer
    forms_fall p f = refused_there (declined_at 13 p) (λ n e. let z : ◌≡◌ {A = ℕ} 0 1 = cc in omega arith) (refl, (k, c, h), (m, d, g), f)

    -- then 9, longer than the third buffer or 65,536
    pub too_long : FormsFrom 0 result → TooLong result buffer → merge_of slice₁ len₁ slice₂ len₂ buffer ≡ refused (declined 9) buffer
    too_long f l = refused_there (declined 9) (λ n e. let z : ◌≡◌ {A = ℕ} 0 1 = cc in omega arith) (refl, (k, c, h), (m, d, g), f, l)
