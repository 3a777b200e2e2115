-- The key of the record at a place is read in the bytes from it on. Assumes nothing.
use mathlib.Core.Path.{◌≡◌, sym, ap, ◌∙◌}
use mathlib.Core.Logic.{◌⊎◌, inl, inr}
use Prim.Native.Nat.{ℕ, ◌+◌, ◌≤◌, ◌<◌}
use mathlib.Core.List.{List, []}
use native.Mathlib.Omega.{arith}
use lib.ListN.{length, take, drop, drop_of_length-le}
use denote.Ref.{Bor}
use Rattle.std.specs.Prelude.{Option, Some, None, MatchOption, unwrap_or, slice_range}
use Rattle.journal_parts.specs.Front.{record_size, record_name}
use Rattle.journal_parts.proofs.Front.{from_place}
use Rattle.journal_order.specs.Keys.{key_at}
use Rattle.journal_order.specs.declared.keys.Key.{Key}
use Rattle.journal_order.specs.declared.keys.Key.TheVariants as K

-- those that `get` answers, none beyond the end
pub read_from : (b : List ℕ) (at : ℕ) (r : Option (Bor (List ℕ))) (d : Bor (List ℕ)) → d.now ≡ []
    → MatchOption r ((length b < at) ⊎ (length b < length b))
    (λ x. (at ≤ length b) × (length b ≤ length b) × (x.now ≡ slice_range b at (length b)) × (length x.now + at ≡ length b))
    → (unwrap_or r d).now ≡ drop at b
read_from b at None d e (inl h) = e ∙ sym (drop_of_length-le b {i = at} (omega arith))
read_from b at None d e (inr h) = absurd (omega arith)
read_from b at (Some x) d e m = m.2 ∙ from_place b at

-- ---- by which bytes decide

module _ (key : Key) (b : List ℕ) (at : ℕ) (rest : List ℕ) (from : rest ≡ drop at b) (r : List ℕ) where
  pub key_name : key ≡ K.Name → r ≡ record_name rest → r ≡ key_at key b at
  unfolding key_at
  key_name e h = rw e (h ∙ ap record_name from)

  pub key_all : key ≡ K.Record → r ≡ take (record_size rest) rest → r ≡ key_at key b at
  unfolding key_at
  key_all e h = rw e (h ∙ ap (λ (l : List ℕ). take (record_size l) l) from)
