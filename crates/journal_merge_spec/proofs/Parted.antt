-- Request 2026-09: of the second journal's records exactly those are dropped that have the same bytes as some record of the first, and the dropped ones
-- and the others are each in the second journal's own sequence. Assumes nothing.
use mathlib.Core.Path.{◌≡◌, refl, sym, ap, ◌∙◌}
use mathlib.Core.Logic.{◌↔◌}
use Prim.Native.Nat.{ℕ, zero, suc, ◌<◌}
use mathlib.Core.List.{List, [], ◌∷◌}
use mathlib.Core.Bool.{Bool, true, false}
use native.Mathlib.Omega.{arith}
use lib.ListN.{length, get_or}
use Rattle.journal_spec.specs.Record.{Record, record_bytes}
use Rattle.journal_merge_spec.specs.Records.{is_twin, select, dropped, undropped}
use Rattle.journal_merge_spec.proofs.Dropping.{blank, Twin, among_twin, twin_among}
use Rattle.journal_merge_spec.proofs.ByDay.{marked}

-- a mark for each record of the second list: exactly those that have a twin in the first are marked, and these are dropped, in their sequence
pub record Parted (first second : List Record) : Type 0 where
  pub marks : List Bool
  pub each : length marks ≡ length second
  pub twins : (i : ℕ) → i < length second → (get_or marks i false ≡ true) ↔ Twin first (record_bytes (get_or second i blank))
  pub gone : marked true marks second ≡ dropped first second
  pub kept : marked false marks second ≡ undropped first second

pub twin_exactly : (first : List Record) (r : Record) → (is_twin first r ≡ true) ↔ Twin first (record_bytes r)
twin_exactly first r = (λ h. among_twin first (record_bytes r) h, λ t. twin_among first (record_bytes r) t.at t.inside t.has)

pub parted : (first second : List Record) → Parted first second
unfolding dropped undropped select marked
parted first [] = record { marks = []; each = refl; twins = λ i h. absurd (omega arith); gone = refl; kept = refl }
parted first (r ∷ rs) = go (is_twin first r) refl (parted first rs)
  where
    go : (b : Bool) → is_twin first r ≡ b → Parted first rs → Parted first (r ∷ rs)
    go b e p = record {
      marks = b ∷ p.marks;
      each = ap suc p.each;
      twins = at;
      gone = rw (e, p.gone) refl;
      kept = rw (e, p.kept) refl;
    }
      where
        at : (i : ℕ) → i < length (r ∷ rs) → (get_or (b ∷ p.marks) i false ≡ true) ↔ Twin first (record_bytes (get_or (r ∷ rs) i blank))
        at zero h = (λ t. (twin_exactly first r).0 (e ∙ t), λ t. sym e ∙ (twin_exactly first r).1 t)
        at (suc i) h = p.twins i (omega arith)
