-- Rows of words, asked one after another: the first that has the word answers.
-- Assumes nothing.
use Rattle.std.proofs.Common.{◌≡◌, Bool, true, false, cond, Option, Some, None, refl}
use Rattle.std.specs.Option.{option_or, unwrap_or}

pub or_row : {T : Type 0} (b : Bool) (x : T) (a r : Option T) → option_or (cond b (Some x) a) r ≡ cond b (Some x) (option_or a r)
or_row true x a r = refl
or_row false x a r = refl

pub or_else : {T : Type 0} (a b : Option T) (d : T) → unwrap_or (option_or a b) d ≡ unwrap_or a (unwrap_or b d)
or_else (Some x) b d = refl
or_else None b d = refl

pub else_row : {T : Type 0} (b : Bool) (x d : T) → unwrap_or (cond b (Some x) None) d ≡ cond b x d
else_row true x d = refl
else_row false x d = refl
