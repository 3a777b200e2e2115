-- What a reading answers, with a refusal by its number, as the definitions say it. The contracts of the readers, of the pass over the records and
-- of the check of an offer compare this with what the definitions find.
use Rattle.std.specs.Prelude.{◌≡◌, ℕ, ◌<◌, Result, Ok, Err}
use Rattle.refusals.specs.declared.Refusal.{Refusal}
use Rattle.refusals.specs.Refusals.{number_of}
use Rattle.journal_spec.specs.Reader.{Found, found, fault, short}
use Rattle.journal.specs.declared.Fault.{Fault}
use Rattle.journal.specs.declared.field.Stop.{Stop}
use Rattle.journal.specs.declared.field.Stop.TheVariants as S

-- a refusal's number, and the place of what is refused
pub record Numbered : Type 0 where
  pub number : ℕ
  pub place : ℕ

abbrev pub numbered : Fault → Numbered
numbered f = record { number = number_of f.refusal; place = f.place }

-- an answer or the fault of a journal
abbrev pub by_number : {A : Type 0} → Result A Fault → Result A Numbered
by_number (Ok x) = Ok x
by_number (Err f) = Err (numbered f)

-- why a reading stops: the bytes run out, or what stands is refused
pub data Stopped : Type 0 where
  ran_out : Stopped
  refused : Numbered → Stopped

abbrev pub stopped : Stop → Stopped
stopped S.Short = ran_out
stopped (S.Refused f) = refused (numbered f)

-- an answer or why the reading of it stops
abbrev pub told : {A : Type 0} → Result A Stop → Result A Stopped
told (Ok x) = Ok x
told (Err s) = Err (stopped s)

-- the same by what a reader finds; of a value that is found something is kept, with the place after it
unfoldable pub kept_of : {A B : Type 0} → (A → ℕ → B) → Found A → Result B Stopped
kept_of keep (found x at rest) = Ok (keep x at)
kept_of keep (fault n p) = Err (refused (record { number = n; place = p }))
kept_of keep short = Err ran_out

-- what is asked was judged, with this number for its refusal, or 0 for none
abbrev pub Judged : {A : Type 0} → Result A Refusal → ℕ → Type 0
Judged (Ok x) n = n ≡ 0
Judged (Err r) n = (number_of r ≡ n) × (0 < n)
