-- The last record of each name, in the order of names, are the records that the index names.
-- Assumes nothing.
use mathlib.Core.Path.{◌≡◌, refl, sym, ap, ap₂, subst, ◌∙◌}
use Prim.Native.Nat.{ℕ, suc, ◌+◌, ◌<◌}
use mathlib.Core.List.{List, [], ◌∷◌}
use mathlib.Core.Option.{Option, none}
use native.Mathlib.Omega.{arith}
use lib.ListN.{length, get_or}
use Rattle.journal_spec.specs.Record.{Record, record_bytes}
use Rattle.journal_spec.specs.Cursor.{records_in}
use Rattle.journal_spec.specs.Index.{Order, lower, equal, higher, order_of}
use Rattle.journal_spec.specs.Indexed.{or_else, where_equal, look_up, last_start, Before, Rising}
use Rattle.journal_spec.proofs.NameOrder.{order_equal}
use Rattle.journal_spec.proofs.Indexes.{index_unique, amended_is}
use Rattle.journal_spec.proofs.Cursor.{Cursor, cursor_next}
use Rattle.journal_spec.proofs.Whole.{WholeBytes}
use Rattle.journal_parts.proofs.Front.{front_name}
use Rattle.journal_order.specs.Starts.{starts_from, starts_in}
use Rattle.journal_order.specs.Keys.{key_at}
use Rattle.journal_order.specs.Sorted.{having, last_in, last_having, Climbs, LatestOf}
use Rattle.journal_order.specs.declared.keys.Key.TheVariants as K
use Rattle.journal_entries.proofs.Parsed.{below_lower}
use Rattle.journal_order.proofs.Below.{below_not_equal}
use Rattle.journal_order.proofs.Having.{else_none, having_none, last_where}
use Rattle.journal_index.specs.Standing.{index_in}
use Rattle.journal_index.specs.Places.{entry_at, entries_of, Named}

-- of two that are not both there, the first or the other
either_first : (o : Order) (p : ℕ) (x : Option ℕ) → (o ≡ equal → x ≡ none) → or_else (where_equal o p) x ≡ or_else x (where_equal o p)
unfolding or_else where_equal
either_first lower p x h = else_none x
either_first equal p x h = rw (h refl) refl
either_first higher p x h = else_none x

module _ (b : List ℕ) where
  abbrev key : ℕ → List ℕ
  key = key_at K.Name b

  -- ---- in order

  climbs_tail : (p : ℕ) (ps : List ℕ) → Climbs key (p ∷ ps) → Climbs key ps
  climbs_tail p ps c = record { climbing = λ i j l m. c.climbing (suc i) (suc j) (omega arith) (omega arith) }

  rising : (ps : List ℕ) → Climbs key ps → Rising (entries_of b ps)
  unfolding entries_of
  rising [] c = tt
  rising (p ∷ ps) c = (first ps c, rising ps (climbs_tail p ps c))
    where
      first : (ps : List ℕ) → Climbs key (p ∷ ps) → Before (entry_at b p).name (entries_of b ps)
      first [] c = unfold entries_of in tt
      first (q ∷ qs) c = unfold entries_of entry_at key_at in below_lower (key p) (key q) (c.climbing 0 1 (omega arith) (omega arith))

  -- ---- each name's last record

  -- where one has the name, none behind it does
  other_key : (name : List ℕ) (p : ℕ) (ps : List ℕ) → Climbs key (p ∷ ps) → order_of name (key p) ≡ equal → (i : ℕ) → i < length ps
      → order_of name (key (get_or ps i 0)) ≡ equal → ⊥
  other_key name p ps c e i h =
      subst (λ (l : List ℕ). order_of l (key (get_or ps i 0)) ≡ equal → ⊥) (sym (order_equal name (key p) e))
      (below_not_equal (key p) (key (get_or ps i 0)) (c.climbing 0 (suc i) (omega arith) (omega arith)))

  -- one at most has a name
  one_found : (name : List ℕ) (ps : List ℕ) → Climbs key ps → look_up name (entries_of b ps) ≡ last_having key name ps
  unfolding look_up entries_of entry_at key_at last_having having last_in
  one_found name [] c = refl
  one_found name (p ∷ ps) c =
      let o : Order = order_of name (key p) in
      let x : Option ℕ = last_in (having key name ps) in
      ap (or_else (where_equal o p)) (one_found name ps (climbs_tail p ps c))
      ∙ either_first o p x (λ e. ap last_in (having_none key name ps (λ i h. other_key name p ps c e i h)))
      ∙ sym (last_where o p (having key name ps))

  last_found : (name : List ℕ) (at : ℕ) (rs : List Record) → Cursor b at rs → last_start name at rs ≡ last_having key name (starts_from at rs)
  unfolding last_start starts_from key_at last_having having last_in
  last_found name at [] c = refl
  last_found name at (r ∷ rs) c =
      ap₂ or_else (last_found name (at + length (record_bytes r)) rs (cursor_next b at r rs c))
      (ap (λ (l : List ℕ). where_equal (order_of name l) at) (sym (front_name b at r rs c)))
      ∙ sym (last_where (order_of name (key at)) at (having key name (starts_from (at + length (record_bytes r)) rs)))

  pub latest_named : WholeBytes b → (ps : List ℕ) → LatestOf key (starts_in b) ps → Named b ps
  unfolding index_in starts_in
  latest_named w ps l = record {
    whole = w;
    is = index_unique 0 (records_in b) (entries_of b ps) (index_in b) (record {
      rising = rising ps l.climbs;
      has = λ name. one_found name ps l.climbs ∙ l.last name ∙ sym (last_found name 0 (records_in b) w.cursor);
    }) (amended_is (records_in b));
  }
