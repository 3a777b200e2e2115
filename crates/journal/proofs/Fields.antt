-- A field's answer by its three cases, and what a reader that begins with a field finds by that answer.
-- Assumes nothing.
use mathlib.Core.Path.{◌≡◌, refl, sym, ap, ◌∙◌}
use Prim.Native.Nat.{ℕ, zero, suc, ◌+◌, ◌-◌, ◌≤◌, ◌<◌}
use mathlib.Core.List.{List}
use native.Mathlib.Omega.{arith}
use Rattle.std.specs.Prelude.{Result, Ok, Err}
use lib.ListN.{length, take, drop, length-drop}
use lib.Seq.{drop-drop}
use Rattle.journal_spec.specs.Bytes.{value_of, number_at}
use Rattle.journal_spec.specs.Refusals.{outside}
use Rattle.journal_spec.specs.Reader.{Reader, done, field, Found, run}
use Rattle.journal_spec.proofs.Judging.{outside_none}
use Rattle.journal_spec.proofs.Reading.{field_short, field_good, field_fault, field_cases}
use Rattle.journal_spec.proofs.FieldAt.{at_short, at_fault, at_good}
use Rattle.journal.specs.Told.{Stopped, ran_out, refused, kept_of}
use Rattle.journal.specs.Found.{field_read, field_by, field_at}
use Rattle.journal.proofs.Stopping.{halted}

-- ---- the three cases

module _ (w low high n at : ℕ) (b : List ℕ) where
  pub field_at_short : length b - at < w → Err ran_out ≡ field_at w low high n at b
  unfolding field_by kept_of
  field_at_short h = rw (at_short w (outside low high n) done at b h)

  pub field_at_value : w ≤ length b - at → outside low high n (number_at w at b) ≡ 0
      → Ok (number_at w at b) ≡ field_at w low high n at b
  unfolding field_by kept_of run
  field_at_value h e = rw (at_good w (outside low high n) done at b h e)

pub field_at_refused : (w low high n at : ℕ) (b : List ℕ) → w ≤ length b - at → 0 < n → outside low high n (number_at w at b) ≡ n
    → Err (refused (record { number = n; place = at })) ≡ field_at w low high n at b
unfolding field_by kept_of
field_at_refused w low high zero at b h pos e = absurd (omega arith)
field_at_refused w low high (suc n) at b h pos e = rw (at_fault w (outside low high (suc n)) done at b n h e)

-- ---- what the answer tells

-- a field that was read: its bytes stand and its value is in range
pub record FieldValue (w low high at : ℕ) (b : List ℕ) (x : ℕ) : Type 0 where
  pub there : w ≤ length b - at
  pub value : x ≡ number_at w at b
  pub least : low ≤ x
  pub most : x ≤ high

-- the same by any refusal
pub record ReadValue (w : ℕ) (refusal : ℕ → ℕ) (at : ℕ) (b : List ℕ) (x : ℕ) : Type 0 where
  pub there : w ≤ length b - at
  pub value : x ≡ number_at w at b
  pub good : refusal x ≡ 0

pub read_value : (w : ℕ) (refusal : ℕ → ℕ) (at : ℕ) (b : List ℕ) (x : ℕ) → Ok x ≡ field_by w refusal at b → ReadValue w refusal at b x
unfolding field_by kept_of run number_at
read_value w refusal at b x =
    field_cases w refusal done at (drop at b) (λ f. Ok x ≡ field_read f → ReadValue w refusal at b x)
    (λ few h. let z : ◌≡◌ {A = ℕ} 0 1 = cc in absurd (omega arith))
    (λ m enough bad h. let z : ◌≡◌ {A = ℕ} 0 1 = cc in absurd (omega arith))
    (λ enough good h.
    let same : x ≡ value_of (take w (drop at b)) = cc in
    record { there = rw length-drop at enough; value = same; good = rw same good })

pub field_value : (w low high n at : ℕ) (b : List ℕ) → 0 < n → (f : Result ℕ Stopped) → f ≡ field_at w low high n at b
    → (x : ℕ) → f ≡ Ok x → FieldValue w low high at b x
field_value w low high zero at b pos f read x told = absurd (omega arith)
field_value w low high (suc n) at b pos f read x told =
    let v = read_value w (outside low high (suc n)) at b x (sym told ∙ read) in
    let range = outside_none low high n x v.good in
    record { there = v.there; value = v.value; least = range.0; most = range.1 }

-- ---- a reader that begins with the field

-- what it finds, by the field's answer
unfoldable pub after_field : {A : Type 0} → (ℕ → Reader A) → ℕ → ℕ → List ℕ → Result ℕ Stopped → Found A
after_field next w at b (Ok x) = run (next x) (at + w) (drop (at + w) b)
after_field next w at b (Err e) = halted e

pub by_field : {A : Type 0} (w : ℕ) (refusal : ℕ → ℕ) (next : ℕ → Reader A) (at : ℕ) (b : List ℕ)
    → run (field w refusal next) at (drop at b) ≡ after_field next w at b (field_by w refusal at b)
unfolding field_by kept_of after_field halted run
by_field w refusal next at b =
    field_cases w refusal done at (drop at b)
    (λ f. run (field w refusal next) at (drop at b) ≡ after_field next w at b (field_read f))
    (λ few. field_short w refusal next at (drop at b) few)
    (λ m enough bad. field_fault w refusal next at (drop at b) m enough bad)
    (λ enough good. field_good w refusal next at (drop at b) enough good ∙ rw drop-drop refl)

-- two refusals that agree at the one value that stands there
pub same_field : (w : ℕ) (refusal other : ℕ → ℕ) (at : ℕ) (b : List ℕ) → refusal (number_at w at b) ≡ other (number_at w at b)
    → field_by w refusal at b ≡ field_by w other at b
unfolding field_by number_at
same_field w refusal other at b agree =
    field_cases w refusal done at (drop at b) (λ f. field_read f ≡ field_read (run (field w other done) at (drop at b)))
    (λ few. ap field_read (sym (field_short w other done at (drop at b) few)))
    (λ m enough bad. ap field_read (sym (field_fault w other done at (drop at b) m enough (sym agree ∙ bad))))
    (λ enough good. ap field_read (sym (field_good w other done at (drop at b) enough (sym agree ∙ good))))

-- the same case by case, where the reader's own refusal agrees with the field's range at the value that stands there
module _ {A : Type 0} (next : ℕ → Reader A) (refusal : ℕ → ℕ) (w low high n at : ℕ) (b : List ℕ)
    (agree : refusal (number_at w at b) ≡ outside low high n (number_at w at b)) (x : Result ℕ Stopped) (read : x ≡ field_at w low high n at b) where
  goes : after_field next w at b x ≡ run (field w refusal next) at (drop at b)
  goes =
      sym (by_field w refusal next at b ∙ ap (after_field next w at b) (same_field w refusal (outside low high n) at b agree ∙ sym read))

  pub field_part_value : (v : ℕ) → x ≡ Ok v → run (next v) (at + w) (drop (at + w) b) ≡ run (field w refusal next) at (drop at b)
  unfolding after_field
  field_part_value v told = sym (ap (after_field next w at b) told) ∙ goes

  pub field_part_halted : (e : Stopped) → x ≡ Err e → halted e ≡ run (field w refusal next) at (drop at b)
  unfolding after_field
  field_part_halted e told = sym (ap (after_field next w at b) told) ∙ goes
