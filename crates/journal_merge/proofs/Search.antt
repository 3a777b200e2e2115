-- A record's bytes are among a journal's records exactly where a place of theirs has them for its key.
-- Assumes nothing.
use mathlib.Core.Path.{◌≡◌, refl, sym, ap, subst, ◌∙◌}
use Prim.Native.Nat.{ℕ, ◌+◌}
use mathlib.Core.List.{List, [], ◌∷◌}
use mathlib.Core.Bool.{Bool, true, false, ◌||◌}
use mathlib.Core.Option.{Option, none, some}
use native.Mathlib.Omega.{arith}
use lib.ListN.{length, take, drop}
use Rattle.facts.proofs.Tests.{by_test_lem}
use Rattle.text_digits.specs.Same.{same_bytes}
use Rattle.text_digits.proofs.Comparing.{equal_same, same_equal}
use Rattle.journal_spec.specs.Record.{Record, record_bytes}
use Rattle.journal_spec.specs.Cursor.{records_in}
use Rattle.journal_spec.specs.Index.{Order, lower, equal, higher, order_of}
use Rattle.journal_spec.specs.Indexed.{or_else, where_equal}
use Rattle.journal_spec.proofs.NameOrder.{order_self, order_equal}
use Rattle.journal_spec.proofs.Cursor.{Cursor, cursor_part, cursor_next}
use Rattle.journal_parts.proofs.Front.{front_size}
use Rattle.journal_merge_spec.specs.Records.{is_among}
use Rattle.journal_order.specs.Starts.{starts_from, starts_in}
use Rattle.journal_order.specs.Keys.{key_at}
use Rattle.journal_order.specs.Sorted.{having, last_in, last_having, place_meaning}
use Rattle.journal_order.specs.declared.keys.Key.TheVariants as K
use Rattle.std.specs.Option.{is_some}
use Rattle.std.specs.Prelude as P
use Rattle.journal_order.proofs.Having.{last_where}
use Rattle.journal_merge.specs.Records.{ByBytes}

-- ---- there is one

unfoldable is_there : Option ℕ → Bool
is_there none = false
is_there (some p) = true

there_told : (x : P.Option ℕ) → is_some x ≡ is_there (place_meaning x)
unfolding place_meaning is_there
there_told (P.Some p) = refl
there_told P.None = refl

-- the same bytes, or none
there_or : (o : Order) (p : ℕ) (x : Option ℕ) (t : Bool) → (o ≡ equal → t ≡ true) → ((o ≡ equal → ⊥) → t ≡ false)
    → t || is_there x ≡ is_there (or_else x (where_equal o p))
unfolding or_else where_equal is_there
there_or lower p none t f g = rw (g (λ e. let z : ◌≡◌ {A = ℕ} 0 1 = cc in omega arith)) refl
there_or lower p (some q) t f g = rw (g (λ e. let z : ◌≡◌ {A = ℕ} 0 1 = cc in omega arith)) refl
there_or equal p none t f g = rw (f refl) refl
there_or equal p (some q) t f g = rw (f refl) refl
there_or higher p none t f g = rw (g (λ e. let z : ◌≡◌ {A = ℕ} 0 1 = cc in omega arith)) refl
there_or higher p (some q) t f g = rw (g (λ e. let z : ◌≡◌ {A = ℕ} 0 1 = cc in omega arith)) refl

same_if : (a bytes : List ℕ) → order_of bytes a ≡ equal → same_bytes a bytes ≡ true
same_if a bytes e = subst (λ (l : List ℕ). same_bytes a l ≡ true) (sym (order_equal bytes a e)) (equal_same a)

same_not : (a bytes : List ℕ) → (order_of bytes a ≡ equal → ⊥) → same_bytes a bytes ≡ false
same_not a bytes d =
    by_test_lem (same_bytes a bytes)
    (λ t. absurd (d (subst (λ (l : List ℕ). order_of bytes l ≡ equal) (sym (same_equal a bytes t)) (order_self bytes))))
    (λ f. f)

-- ---- among the records from a place on

module _ (b bytes : List ℕ) where
  abbrev key : ℕ → List ℕ
  key = key_at K.Record b

  key_bytes : (at : ℕ) (r : Record) (rs : List Record) → Cursor b at (r ∷ rs) → key at ≡ record_bytes r
  unfolding key_at
  key_bytes at r rs c = ap (λ (n : ℕ). take n (drop at b)) (front_size b at r rs c) ∙ cursor_part b at r rs c

  among_from : (at : ℕ) (rs : List Record) → Cursor b at rs → is_among rs bytes ≡ is_there (last_having key bytes (starts_from at rs))
  unfolding is_among starts_from last_having having last_in is_there
  among_from at [] c = refl
  among_from at (r ∷ rs) c =
      let rest : List ℕ = having key bytes (starts_from (at + length (record_bytes r)) rs) in
      let o : Order = order_of bytes (key at) in
      ap (λ (t : Bool). same_bytes (record_bytes r) bytes || t) (among_from (at + length (record_bytes r)) rs (cursor_next b at r rs c))
      ∙ ap (λ (l : List ℕ). same_bytes l bytes || is_there (last_in rest)) (sym (key_bytes at r rs c))
      ∙ there_or o at (last_in rest) (same_bytes (key at) bytes) (same_if (key at) bytes) (same_not (key at) bytes)
      ∙ ap is_there (sym (last_where o at rest))

  module _ (places : List ℕ) (w : ByBytes b places) where
    found_is : (found : Option ℕ) → found ≡ last_having key bytes places → is_there found ≡ is_among (records_in b) bytes
    unfolding starts_in
    found_is found e =
        ap is_there (e ∙ w.latest.last bytes) ∙ sym (among_from 0 (records_in b) w.whole.cursor)

    -- by what the code was told
    pub found_told : (found : P.Option ℕ) → place_meaning found ≡ last_having key bytes places → is_some found ≡ is_among (records_in b) bytes
    found_told found e = there_told found ∙ found_is (place_meaning found) e
