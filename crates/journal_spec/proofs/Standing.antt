-- Entries that rise by name: no two have one name, and each is looked up by its own. A name's standing record is the one at its entry's start: the
-- last of the name, and every position of the index has one. Assumes nothing.
use mathlib.Core.Path.{◌≡◌, refl, sym, ap, ◌∙◌}
use Prim.Native.Nat.{ℕ, zero, suc, ◌+◌, ◌≤◌, ◌<◌}
use mathlib.Core.List.{List, [], ◌∷◌, ◌++◌}
use mathlib.Core.Bool.{Bool, true, false}
use mathlib.Core.Option.{Option, none, some}
use native.Mathlib.Omega.{arith}
use native.Mathlib.Nat.{add_assoc}
use lib.ListN.{length, get_or}
use Rattle.journal_spec.specs.Tests.{same}
use Rattle.journal_spec.specs.Record.{Record, record_bytes}
use Rattle.journal_spec.specs.Model.{lengths_of}
use Rattle.journal_spec.specs.Index.{IndexEntry, Order, lower, equal, higher, order_of, index_of}
use Rattle.journal_spec.proofs.Each.{same_lists, same_self}
use Rattle.journal_spec.proofs.NameOrder.{lower_not_equal, higher_not_equal, order_self, order_equal}
use Rattle.journal_spec.proofs.Places.{placed_from}
use Rattle.journal_spec.specs.Indexed.{or_else, where_equal, look_up, last_start, Before, Rising, last_named, standing_at}
use Rattle.journal_spec.proofs.Indexes.{before_others, amended_is}

-- ---- entries that rise

-- stands in for an entry where there is none
abbrev pub no_entry : IndexEntry
no_entry = record { name = []; start = 0 }

-- names of which one is lower are not the same
pub lower_differs : (a b : List ℕ) → order_of a b ≡ lower → same a b ≡ false
lower_differs a b e = go (same a b) refl
  where
    go : (t : Bool) → same a b ≡ t → t ≡ false
    go false h = refl
    go true h = absurd (lower_not_equal (sym e ∙ ap (order_of a) (sym (same_lists a b h)) ∙ order_self a))

-- the first of rising entries is lower than each later one
pub first_lowest : (name : List ℕ) (es : List IndexEntry) (i : ℕ) → Before name es → Rising es → i < length es → order_of name (get_or es i no_entry).name ≡ lower
first_lowest name [] i b r h = absurd (omega arith)
first_lowest name (e ∷ es) zero b r h = b
first_lowest name (e ∷ es) (suc i) b r h = first_lowest name es i (before_others name e es b r.0) r.1 (omega arith)

-- each entry is looked up by its name
pub own_start : (es : List IndexEntry) (i : ℕ) → Rising es → i < length es → look_up (get_or es i no_entry).name es ≡ some (get_or es i no_entry).start
unfolding look_up
own_start [] i r h = absurd (omega arith)
own_start (e ∷ es) zero r h = rw (order_self e.name) (unfold where_equal or_else in refl)
own_start (e ∷ es) (suc i) r h =
    let l = first_lowest e.name es i r.0 r.1 (omega arith) in
    later (order_of (get_or es i no_entry).name e.name) refl l (own_start es i r.1 (omega arith))
  where
    later : (o : Order) → order_of (get_or es i no_entry).name e.name ≡ o → order_of e.name (get_or es i no_entry).name ≡ lower
        → look_up (get_or es i no_entry).name es ≡ some (get_or es i no_entry).start
        → or_else (where_equal (order_of (get_or es i no_entry).name e.name) e.start) (look_up (get_or es i no_entry).name es)
        ≡ some (get_or es i no_entry).start
    later lower k l ih = rw k (unfold where_equal or_else in ih)
    later higher k l ih = rw k (unfold where_equal or_else in ih)
    later equal k l ih =
        absurd (lower_not_equal (sym l ∙ ap (λ (n : List ℕ). order_of n (get_or es i no_entry).name) (sym (order_equal _ e.name k)) ∙ order_self _))

-- ---- the last record of a name

some_not_none : {A : Type 0} {x : A} → some x ≡ none → ⊥
some_not_none h = let z : ◌≡◌ {A = ℕ} 0 1 = cc in omega arith

start_is : {s t : ℕ} → some s ≡ some t → s ≡ t
start_is h = cc

-- a start that comes first, and a record's own
first_start : (t : Option ℕ) (u s : ℕ) → or_else (some u) t ≡ some s → u ≡ s
unfolding or_else
first_start t u s h = cc

own_place : (at s : ℕ) → or_else none (where_equal equal at) ≡ some s → s ≡ at + lengths_of []
unfolding or_else where_equal lengths_of
own_place at s h = omega (arith, start_is h)

-- one record more in front: a later one of the name stands, else this one if it has the name
module _ (name : List ℕ) (r : Record) (rs : List Record) where
  later_stands : (x : Record) → last_named name rs ≡ some x → last_named name (r ∷ rs) ≡ some x
  unfolding last_named
  later_stands x h = rw (h, last_named) refl

  this_stands : last_named name rs ≡ none → name ≡ r.name → last_named name (r ∷ rs) ≡ some r
  unfolding last_named
  this_stands h n = rw (h, last_named) (rw (n, same_self r.name) refl)

  none_stands : last_named name rs ≡ none → same r.name name ≡ false → last_named name (r ∷ rs) ≡ none
  unfolding last_named
  none_stands h n = rw (h, last_named) (rw n refl)

-- a name that has no start is no record's
none_named : (name : List ℕ) (at : ℕ) (rs : List Record) → last_start name at rs ≡ none → last_named name rs ≡ none
unfolding last_start last_named
none_named name at [] h = refl
none_named name at (r ∷ rs) h =
    go (last_start name (at + length (record_bytes r)) rs) refl (order_of name r.name) refl h (none_named name (at + length (record_bytes r)) rs)
  where
    differs : (o : Order) → order_of name r.name ≡ o → (o ≡ equal → ⊥) → same r.name name ≡ false
    differs o k d = by_test (same r.name name) refl
      where
        by_test : (t : Bool) → same r.name name ≡ t → t ≡ false
        by_test false e = refl
        by_test true e = absurd (d (sym k ∙ ap (order_of name) (same_lists r.name name e) ∙ order_self name))

    go : (s : Option ℕ) → last_start name (at + length (record_bytes r)) rs ≡ s → (o : Order) → order_of name r.name ≡ o → or_else s (where_equal o at) ≡ none
        → (last_start name (at + length (record_bytes r)) rs ≡ none → last_named name rs ≡ none)
        → last_named name (r ∷ rs) ≡ none
    go (some s) e o k h later = unfold or_else in absurd (some_not_none h)
    go none e equal k h later = unfold or_else where_equal in absurd (some_not_none h)
    go none e lower k h later = none_stands name r rs (later e) (differs lower k lower_not_equal)
    go none e higher k h later = none_stands name r rs (later e) (differs higher k higher_not_equal)

-- the last record of a name stands at the name's start: behind the records `front`
pub record StandsAt (name : List ℕ) (at : ℕ) (rs : List Record) (s : ℕ) : Type 0 where
  pub shown : Record
  pub front : List Record
  pub back : List Record
  pub last : last_named name rs ≡ some shown
  pub named : shown.name ≡ name
  pub parts : rs ≡ front ++ shown ∷ back
  pub place : s ≡ at + lengths_of front

pub last_stands : (name : List ℕ) (at : ℕ) (rs : List Record) (s : ℕ) → last_start name at rs ≡ some s → StandsAt name at rs s
unfolding last_start
last_stands name at [] s h = absurd (some_not_none (sym h))
last_stands name at (r ∷ rs) s h =
    go (last_start name (at + length (record_bytes r)) rs) refl (order_of name r.name) refl h (last_stands name (at + length (record_bytes r)) rs)
  where
    further : (front : List Record) → at + length (record_bytes r) + lengths_of front ≡ at + lengths_of (r ∷ front)
    further front = unfold lengths_of in add_assoc at (length (record_bytes r)) (lengths_of front)

    go : (t : Option ℕ) → last_start name (at + length (record_bytes r)) rs ≡ t → (o : Order) → order_of name r.name ≡ o → or_else t (where_equal o at) ≡ some s
        → ((u : ℕ) → last_start name (at + length (record_bytes r)) rs ≡ some u → StandsAt name (at + length (record_bytes r)) rs u)
        → StandsAt name at (r ∷ rs) s
    go (some u) e o k h later =
        let x = later u e in
        record {
          shown = x.shown;
          front = r ∷ x.front;
          back = x.back;
          last = later_stands name r rs x.shown x.last;
          named = x.named;
          parts = ap (λ (l : List Record). r ∷ l) x.parts;
          place = sym (first_start (where_equal o at) u s h) ∙ x.place ∙ further x.front;
        }
    go none e lower k h later = unfold or_else where_equal in absurd (some_not_none (sym h))
    go none e higher k h later = unfold or_else where_equal in absurd (some_not_none (sym h))
    go none e equal k h later =
        let n : name ≡ r.name = order_equal name r.name k in
        record {
          shown = r;
          front = [];
          back = rs;
          last = this_stands name r rs (none_named name (at + length (record_bytes r)) rs e) n;
          named = sym n;
          parts = refl;
          place = own_place at s h;
        }

-- ---- the positions of the index

pub standing_at_lem : (rs : List Record) (es : List IndexEntry) (i : ℕ) → i < length es → standing_at rs es i ≡ last_named (get_or es i no_entry).name rs
unfolding standing_at
standing_at_lem rs [] i h = absurd (omega arith)
standing_at_lem rs (e ∷ es) zero h = refl
standing_at_lem rs (e ∷ es) (suc i) h = standing_at_lem rs es i (omega arith)

pub standing_beyond : (rs : List Record) (es : List IndexEntry) (i : ℕ) → length es ≤ i → standing_at rs es i ≡ none
unfolding standing_at
standing_beyond rs [] i h = refl
standing_beyond rs (e ∷ es) zero h = absurd (omega arith)
standing_beyond rs (e ∷ es) (suc i) h = standing_beyond rs es i (omega arith)

-- at each position of the index of some records stands the last record of the entry's name, at the entry's start
pub entry_stands : (rs : List Record) (i : ℕ) → i < length (index_of (placed_from 0 rs))
    → let e = get_or (index_of (placed_from 0 rs)) i no_entry in StandsAt e.name 0 rs e.start
entry_stands rs i h =
    let x = amended_is rs in
    let es : List IndexEntry = index_of (placed_from 0 rs) in
    last_stands (get_or es i no_entry).name 0 rs (get_or es i no_entry).start
    (sym (x.has (get_or es i no_entry).name) ∙ own_start es i x.rising h)
