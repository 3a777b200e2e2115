-- Why a reading stops, taken back from what a reader finds.
-- Assumes nothing.
use mathlib.Core.Path.{◌≡◌, refl, ap}
use Prim.Native.Nat.{ℕ}
use native.Mathlib.Omega.{arith}
use Rattle.std.specs.Prelude.{Err}
use Rattle.journal_spec.specs.Reader.{Reader, Found, found, fault, short}
use Rattle.journal_spec.proofs.Reading.{after}
use Rattle.journal.specs.Told.{Stopped, ran_out, refused, kept_of}

-- what a reader finds where it stops
unfoldable pub halted : {A : Type 0} → Stopped → Found A
halted ran_out = short
halted (refused f) = fault f.number f.place

module _ {A B : Type 0} (keep : A → ℕ → B) where
  pub halted_kept : (e : Stopped) → Err e ≡ kept_of keep (halted e)
  unfolding halted kept_of
  halted_kept ran_out = refl
  halted_kept (refused f) = refl

  pub halted_found : (f : Found A) (e : Stopped) → Err e ≡ kept_of keep f → f ≡ halted e
  unfolding halted kept_of
  halted_found (found x at rest) e h = let z : ◌≡◌ {A = ℕ} 0 1 = cc in absurd (omega arith)
  halted_found (fault n p) e h = let same : refused (record { number = n; place = p }) ≡ e = cc in ap halted same
  halted_found short e h = let same : ran_out ≡ e = cc in ap halted same

-- what follows a reader that stops is not read
pub halted_after : {A B : Type 0} (k : A → Reader B) (e : Stopped) → after k (halted e) ≡ halted e
unfolding after halted
halted_after k ran_out = refl
halted_after k (refused f) = refl
