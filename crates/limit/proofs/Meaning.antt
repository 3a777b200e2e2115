-- Two answers with the same meaning are the same answer, so that an equation for the meaning leaves nothing of the answer free.
-- Assumes nothing.
use mathlib.Core.Path.{◌≡◌, sym, ap, ◌∙◌}
use Rattle.std.specs.Prelude.{Result, Ok, Err}
use Rattle.refusals.specs.Refusals.{number_of}
use Rattle.refusals.specs.declared.Refusal.{Refusal}
use Rattle.refusals.proofs.Numbers.{own_number}
use Rattle.limit.specs.declared.Figures.{Figures}
use Rattle.limit.specs.declared.Moments.{Moments}
use Rattle.limit.specs.declared.sums.Sums.{Sums}
use Rattle.limit.specs.Answer.{meaning, moments_meaning}
use Rattle.limit.specs.Sums.{gathered_meaning}

-- what has a way back sends no two values to one
pub injective_by : {A B : Type 0} (f : A → B) (back : B → A) → ((a : A) → back (f a) ≡ a) → (a b : A) → f a ≡ f b → a ≡ b
injective_by f back h a b e = sym (h a) ∙ ap back e ∙ h b

pub meaning_injective : (a b : Result Figures Refusal) → meaning a ≡ meaning b → a ≡ b
unfolding meaning
meaning_injective (Ok f) (Ok g) h = cc
meaning_injective (Ok f) (Err r) h = cc
meaning_injective (Err r) (Ok f) h = cc
meaning_injective (Err r) (Err q) h = let n : number_of r ≡ number_of q = cc in ap Err (own_number r q n)

pub moments_meaning_injective : (a b : Result Moments Refusal) → moments_meaning a ≡ moments_meaning b → a ≡ b
unfolding moments_meaning
moments_meaning_injective (Ok m) (Ok n) h = cc
moments_meaning_injective (Ok m) (Err r) h = cc
moments_meaning_injective (Err r) (Ok m) h = cc
moments_meaning_injective (Err r) (Err q) h = let n : number_of r ≡ number_of q = cc in ap Err (own_number r q n)

pub gathered_meaning_injective : (g h : Result Sums Refusal) → gathered_meaning g ≡ gathered_meaning h → g ≡ h
unfolding gathered_meaning
gathered_meaning_injective (Ok s) (Ok t) h = cc
gathered_meaning_injective (Ok s) (Err r) h = cc
gathered_meaning_injective (Err r) (Ok s) h = cc
gathered_meaning_injective (Err r) (Err q) h = let n : number_of r ≡ number_of q = cc in ap Err (own_number r q n)
