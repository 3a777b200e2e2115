-- A form of the code, and what a form's number reads as: the form with that number, or refusal 2 where there is none.
-- Assumes nothing.
use Rattle.std.specs.Prelude.{ℕ, ◌≡◌, true, false, Result, MatchResult}
use Rattle.refusals.specs.declared.Refusal.{Refusal}
use Rattle.refusals.specs.declared.Refusal.TheVariants as R
use Rattle.limit.specs.declared.forms.Form.{Form}
use Rattle.limit.specs.declared.forms.Form.TheVariants.{Plain, Sample}
use Rattle.limit.specs.Formula.{plain_form, sample_form}
use Rattle.limit.specs.Limit.{form_known}

-- the papers' number for a form
abbrev pub form_number : Form → ℕ
form_number Plain = plain_form
form_number Sample = sample_form

-- the form with this number, or refusal 2
abbrev pub FormRead : ℕ → Result Form Refusal → Type 0
FormRead n r =
    MatchResult r
    (λ form. (form_known n ≡ true) × (form_number form ≡ n))
    (λ refusal. (form_known n ≡ false) × (refusal ≡ R.Form))
