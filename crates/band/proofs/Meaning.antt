-- Nothing is left free: two answers of the code with one meaning are one answer. Assumes nothing.
use mathlib.Core.Path.{◌≡◌, ap}
use Rattle.std.specs.Prelude.{Result, Ok, Err}
use Rattle.refusals.specs.Refusals.{number_of}
use Rattle.refusals.specs.declared.Refusal.{Refusal}
use Rattle.refusals.proofs.Numbers.{own_number}
use Rattle.band.specs.declared.Ends.{Ends}
use Rattle.band.specs.Answer.{meaning}

pub meaning_injective : (a b : Result Ends Refusal) → meaning a ≡ meaning b → a ≡ b
unfolding meaning
meaning_injective (Ok e) (Ok d) h = cc
meaning_injective (Ok e) (Err r) h = cc
meaning_injective (Err r) (Ok e) h = cc
meaning_injective (Err r) (Err q) h = let same : number_of r ≡ number_of q = cc in ap Err (own_number r q same)
