-- Entries that rise by name: a link whose name is before them all is unknown to them. Assumes nothing.
use mathlib.Core.Path.{◌≡◌, refl}
use Prim.Native.Nat.{ℕ}
use mathlib.Core.List.{List, [], ◌∷◌}
use mathlib.Core.Bool.{true, false}
use Rattle.journal_spec.specs.Tests.{same}
use Rattle.journal_spec.specs.Index.{IndexEntry}
use Rattle.journal_spec.specs.Indexed.{Before, Rising}
use Rattle.journal_spec.proofs.Each.{same_lists}
use Rattle.journal_spec.proofs.Indexes.{before_others}
use Rattle.journal_spec.proofs.Standing.{lower_differs}
use Rattle.journal_trial_spec.specs.Links.{Link}
use Rattle.journal_trial_spec.specs.Trial.{is_named, is_known}

-- a link of a name that is before all entries is unknown to them
pub not_known : (name : List ℕ) (es : List IndexEntry) (l : Link) → Before name es → Rising es → is_named name l ≡ true → is_known es l ≡ false
unfolding is_known is_named
not_known name [] l b r h = refl
not_known name (e ∷ es) l b r h =
    let differs : same l.name e.name ≡ false = rw (same_lists l.name name h) (lower_differs name e.name b) in
    rw (differs, not_known name es l (before_others name e es b r.0) r.1 h) refl
