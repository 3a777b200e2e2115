-- Request 2026-08: the index of a list of records is the one list of entries that rises strictly by name and holds, for each name, the start of
-- the name's last record and nothing else. Amended record by record or made afresh it is the same. Assumes nothing.
use mathlib.Core.Path.{◌≡◌, refl, sym, ap, ap₂, ◌∙◌}
use Prim.Native.Nat.{ℕ, ◌+◌}
use mathlib.Core.List.{List, [], ◌∷◌, ◌++◌}
use mathlib.Core.Logic.{◌⊎◌, inl, inr}
use mathlib.Core.Option.{Option, none, some}
use native.Mathlib.Omega.{arith}
use native.Mathlib.Nat.{add-zero, zero-add, add_assoc}
use lib.ListN.{length}
use Rattle.journal_spec.specs.Record.{Record, record_bytes}
use Rattle.journal_spec.specs.Index.{IndexEntry, Order, lower, equal, higher, order_of, amend, entry_of, amend_all, index_of, enroll, fresh_from}
use Rattle.journal_spec.specs.Index.{fresh_index}
use Rattle.journal_spec.specs.Indexed.{or_else, where_equal, look_up, last_start, Before, Rising, IsIndex}
use Rattle.journal_spec.specs.Model.{lengths_of}
use Rattle.journal_spec.proofs.NameOrder.{lower_not_equal, higher_not_equal, order_self, order_equal, order_turned, order_lower}
use Rattle.journal_spec.proofs.Places.{placed_from}

-- ---- look-ups

some_not_none : {s : ℕ} → some s ≡ none → ⊥
some_not_none h = let z : ◌≡◌ {A = ℕ} 0 1 = cc in omega arith

-- a name before the first of entries that rise is before the others
pub before_others : (name : List ℕ) (e : IndexEntry) (es : List IndexEntry) → order_of name e.name ≡ lower → Before e.name es → Before name es
before_others name e [] h b = tt
before_others name e (f ∷ es) h b = order_lower name e.name f.name h b

-- a name before the first entry has none
pub absent : (name : List ℕ) (es : List IndexEntry) → Before name es → Rising es → look_up name es ≡ none
unfolding look_up where_equal or_else
absent name [] b r = refl
absent name (e ∷ es) b r = rw b (absent name es (before_others name e es b r.0) r.1)

-- a first entry is looked up by its name
pub own : (e : IndexEntry) (es : List IndexEntry) → look_up e.name (e ∷ es) ≡ some e.start
unfolding look_up where_equal or_else
own e es = rw (order_self e.name) refl

-- any other name is looked up in the others
pub other : (name : List ℕ) (e : IndexEntry) (es : List IndexEntry) → (order_of name e.name ≡ equal → ⊥) → look_up name (e ∷ es) ≡ look_up name es
unfolding look_up
other name e es differs = go (order_of name e.name) differs
  where
    go : (o : Order) → (o ≡ equal → ⊥) → or_else (where_equal o e.start) (look_up name es) ≡ look_up name es
    go lower h = unfold where_equal or_else in refl
    go equal h = absurd (h refl)
    go higher h = unfold where_equal or_else in refl

-- ---- there is one such list

same_tails : (e f : IndexEntry) (es fs : List IndexEntry) → Rising (e ∷ es) → Rising (f ∷ fs) → e.name ≡ f.name
    → ((name : List ℕ) → look_up name (e ∷ es) ≡ look_up name (f ∷ fs)) → (name : List ℕ) → look_up name es ≡ look_up name fs
same_tails e f es fs r s n h name = go (order_of name e.name) refl
  where
    differ : (order_of name e.name ≡ equal → ⊥) → look_up name es ≡ look_up name fs
    differ d = sym (other name e es d) ∙ h name ∙ other name f fs (λ x. d (ap (order_of name) n ∙ x))

    go : (o : Order) → order_of name e.name ≡ o → look_up name es ≡ look_up name fs
    go lower k = differ (λ x. lower_not_equal (sym k ∙ x))
    go higher k = differ (λ x. higher_not_equal (sym k ∙ x))
    go equal k =
        let same : name ≡ e.name = order_equal name e.name k in
        rw same (absent e.name es r.0 r.1 ∙ sym (absent e.name fs (rw n s.0) s.1))

pub one_index : (es fs : List IndexEntry) → Rising es → Rising fs → ((name : List ℕ) → look_up name es ≡ look_up name fs) → es ≡ fs
one_index [] [] r s h = refl
one_index [] (f ∷ fs) r s h = absurd (some_not_none (sym (own f fs) ∙ sym (h f.name) ∙ unfold look_up in refl))
one_index (e ∷ es) [] r s h = absurd (some_not_none (sym (own e es) ∙ h e.name ∙ unfold look_up in refl))
one_index (e ∷ es) (f ∷ fs) r s h = go (one_index es fs r.1 s.1) (order_of e.name f.name) refl
  where
    go : (((name : List ℕ) → look_up name es ≡ look_up name fs) → es ≡ fs) → (o : Order) → order_of e.name f.name ≡ o → e ∷ es ≡ f ∷ fs
    go ih lower k = absurd (some_not_none (sym (own e es) ∙ h e.name ∙ absent e.name (f ∷ fs) k s))
    go ih higher k =
        absurd (some_not_none (sym (own f fs) ∙ sym (h f.name) ∙ absent f.name (e ∷ es) (order_turned e.name f.name k) r))
    go ih equal k =
        let n : e.name ≡ f.name = order_equal e.name f.name k in
        let t : some e.start ≡ some f.start = sym (own e es) ∙ h e.name ∙ rw n (own f fs) in
        let start : e.start ≡ f.start = cc in
        ap₂ (λ (x : IndexEntry) (xs : List IndexEntry). x ∷ xs) (same_entry n start) (ih (same_tails e f es fs r s n h))
      where
        same_entry : e.name ≡ f.name → e.start ≡ f.start → e ≡ f
        same_entry n t = ap₂ (λ (x : List ℕ) (y : ℕ). record { name = x; start = y }) n t

-- an index is the index
pub index_unique : (at : ℕ) (rs : List Record) (es fs : List IndexEntry) → IsIndex at rs es → IsIndex at rs fs → es ≡ fs
index_unique at rs es fs i j = one_index es fs i.rising j.rising (λ name. i.has name ∙ sym (j.has name))

-- ---- amending

module _ (new : IndexEntry) where
  amend_before : (name : List ℕ) (es : List IndexEntry) → order_of name new.name ≡ lower → Before name es → Before name (amend new es)
  unfolding amend
  amend_before name [] h b = h
  amend_before name (e ∷ es) h b = go (order_of new.name e.name) refl
    where
      go : (o : Order) → order_of new.name e.name ≡ o → Before name (amend new (e ∷ es))
      go lower k = unfold amend in rw (k, amend) h
      go equal k = unfold amend in rw (k, amend) h
      go higher k = unfold amend in rw (k, amend) b

  pub amend_rising : (es : List IndexEntry) → Rising es → Rising (amend new es)
  unfolding amend
  amend_rising [] r = (tt, tt)
  amend_rising (e ∷ es) r = go (amend_rising es r.1) (order_of new.name e.name) refl
    where
      go : Rising (amend new es) → (o : Order) → order_of new.name e.name ≡ o → Rising (amend new (e ∷ es))
      go ih lower k = unfold amend in rw (k, amend) (k, r)
      go ih equal k = unfold amend in rw (k, amend) (rw (order_equal new.name e.name k) r.0, r.1)
      go ih higher k = unfold amend in rw (k, amend) (amend_before e.name es (order_turned new.name e.name k) r.0, ih)

  -- the new start for its name, and every other name's as before
  pub amend_has : (name : List ℕ) (es : List IndexEntry)
      → look_up name (amend new es) ≡ or_else (where_equal (order_of name new.name) new.start) (look_up name es)
  unfolding amend look_up
  amend_has name [] = refl
  amend_has name (e ∷ es) = go (amend_has name es) (order_of new.name e.name) refl
    where
      swapped : (a b c : Option ℕ) (o p : Order) → (o ≡ equal → p ≡ equal → ⊥) → (s t : ℕ)
          → or_else (where_equal o s) (or_else (where_equal p t) c) ≡ or_else (where_equal p t) (or_else (where_equal o s) c)
      swapped a b c lower p d s t = unfold where_equal or_else in refl
      swapped a b c higher p d s t = unfold where_equal or_else in refl
      swapped a b c equal lower d s t = unfold where_equal or_else in refl
      swapped a b c equal higher d s t = unfold where_equal or_else in refl
      swapped a b c equal equal d s t = absurd (d refl refl)

      replaced : (o : Order) (s t : ℕ) (c : Option ℕ) → or_else (where_equal o s) c ≡ or_else (where_equal o s) (or_else (where_equal o t) c)
      replaced lower s t c = unfold where_equal or_else in refl
      replaced equal s t c = unfold where_equal or_else in refl
      replaced higher s t c = unfold where_equal or_else in refl

      go : look_up name (amend new es) ≡ or_else (where_equal (order_of name new.name) new.start) (look_up name es)
          → (o : Order) → order_of new.name e.name ≡ o
          → look_up name (amend new (e ∷ es)) ≡ or_else (where_equal (order_of name new.name) new.start) (look_up name (e ∷ es))
      go ih lower k = unfold amend look_up in rw (k, amend) refl
      go ih equal k =
          unfold amend look_up in
          rw (k, amend)
          (rw (← order_equal new.name e.name k) (replaced (order_of name new.name) new.start e.start (look_up name es)))
      go ih higher k =
          unfold amend look_up in
          rw (k, amend)
          (rw ih (swapped none none (look_up name es) (order_of name e.name) (order_of name new.name)
          (λ a b. higher_not_equal (sym k ∙ rw (← order_equal name new.name b) a))
          e.start new.start))

  -- besides the count, only the name's entry differs or is inserted
  pub record Amended (es fs : List IndexEntry) : Type 0 where
    pub front : List IndexEntry
    pub old : List IndexEntry
    pub back : List IndexEntry
    pub was : es ≡ front ++ (old ++ back)
    pub is : fs ≡ front ++ (new ∷ back)
    pub one : (old ≡ []) ⊎ ((s : ℕ) × (old ≡ record { name = new.name; start = s } ∷ []))

  amended_later : (e : IndexEntry) (es fs : List IndexEntry) → Amended es fs → Amended (e ∷ es) (e ∷ fs)
  amended_later e es fs a = record {
    front = e ∷ a.front;
    old = a.old;
    back = a.back;
    was = ap (λ (l : List IndexEntry). e ∷ l) a.was;
    is = ap (λ (l : List IndexEntry). e ∷ l) a.is;
    one = a.one;
  }

  pub amend_parts : (es : List IndexEntry) → Amended es (amend new es)
  unfolding amend
  amend_parts [] = record { front = []; old = []; back = []; was = refl; is = refl; one = inl refl }
  amend_parts (e ∷ es) = go (amend_parts es) (order_of new.name e.name) refl
    where
      go : Amended es (amend new es) → (o : Order) → order_of new.name e.name ≡ o → Amended (e ∷ es) (amend new (e ∷ es))
      go ih lower k =
          unfold amend in
          rw (k, amend) (record { front = []; old = []; back = e ∷ es; was = refl; is = refl; one = inl refl })
      go ih equal k =
          unfold amend in
          rw (k, amend) (record {
            front = [];
            old = e ∷ [];
            back = es;
            was = refl;
            is = refl;
            one = inr (e.start, ap (λ (n : List ℕ). record { name = n; start = e.start } ∷ []) (sym (order_equal new.name e.name k)));
          })
      go ih higher k = unfold amend in rw (k, amend) (amended_later e es (amend new es) ih)

-- ---- made afresh

or_none : (a : Option ℕ) → or_else a none ≡ a
unfolding or_else
or_none none = refl
or_none (some s) = refl

or_assoc : (a b c : Option ℕ) → or_else a (or_else b c) ≡ or_else (or_else a b) c
unfolding or_else
or_assoc none b c = refl
or_assoc (some s) b c = refl

module _ (new : IndexEntry) where
  pub enroll_before : (name : List ℕ) (es : List IndexEntry) → order_of name new.name ≡ lower → Before name es → Before name (enroll new es)
  unfolding enroll
  enroll_before name [] h b = h
  enroll_before name (e ∷ es) h b = go (order_of new.name e.name) refl
    where
      go : (o : Order) → order_of new.name e.name ≡ o → Before name (enroll new (e ∷ es))
      go lower k = unfold enroll in rw (k, enroll) h
      go equal k = unfold enroll in rw (k, enroll) b
      go higher k = unfold enroll in rw (k, enroll) b

  enroll_rising : (es : List IndexEntry) → Rising es → Rising (enroll new es)
  unfolding enroll
  enroll_rising [] r = (tt, tt)
  enroll_rising (e ∷ es) r = go (enroll_rising es r.1) (order_of new.name e.name) refl
    where
      go : Rising (enroll new es) → (o : Order) → order_of new.name e.name ≡ o → Rising (enroll new (e ∷ es))
      go ih lower k = unfold enroll in rw (k, enroll) (k, r)
      go ih equal k = unfold enroll in rw (k, enroll) r
      go ih higher k = unfold enroll in rw (k, enroll) (enroll_before e.name es (order_turned new.name e.name k) r.0, ih)

  -- every name's start as before, and the new one for its name where it had none
  enroll_has : (name : List ℕ) (es : List IndexEntry) → Rising es
      → look_up name (enroll new es) ≡ or_else (look_up name es) (where_equal (order_of name new.name) new.start)
  unfolding enroll look_up
  enroll_has name [] r = or_none (where_equal (order_of name new.name) new.start) ∙ unfold or_else in refl
  enroll_has name (e ∷ es) r = go (enroll_has name es r.1) (order_of new.name e.name) refl
    where
      -- where one of two is none, their order is nothing
      either_way : (a : Option ℕ) (o : Order) (s : ℕ) → (o ≡ equal → a ≡ none) → or_else (where_equal o s) a ≡ or_else a (where_equal o s)
      either_way a lower s h = unfold where_equal or_else in sym (or_none a)
      either_way a higher s h = unfold where_equal or_else in sym (or_none a)
      either_way a equal s h = rw (h refl) (unfold where_equal or_else in refl)

      -- where the name has an entry, another for it is nothing
      kept : (a : Option ℕ) (o : Order) (s t : ℕ) → or_else (where_equal o t) a ≡ or_else (or_else (where_equal o t) a) (where_equal o s)
      kept a lower s t = unfold where_equal or_else in sym (or_none a)
      kept a higher s t = unfold where_equal or_else in sym (or_none a)
      kept a equal s t = unfold where_equal or_else in refl

      go : look_up name (enroll new es) ≡ or_else (look_up name es) (where_equal (order_of name new.name) new.start)
          → (o : Order) → order_of new.name e.name ≡ o
          → look_up name (enroll new (e ∷ es)) ≡ or_else (look_up name (e ∷ es)) (where_equal (order_of name new.name) new.start)
      go ih lower k =
          unfold enroll in
          rw (k, enroll)
          (unfold look_up in
          either_way (look_up name (e ∷ es)) (order_of name new.name) new.start
          (λ q. absent name (e ∷ es) (rw (order_equal name new.name q) k) r))
      go ih equal k =
          unfold enroll look_up in
          rw (k, enroll)
          (rw (order_equal new.name e.name k) (kept (look_up name es) (order_of name e.name) new.start e.start))
      go ih higher k =
          unfold enroll look_up in
          rw (k, enroll) (rw ih (or_assoc (where_equal (order_of name e.name) e.start) (look_up name es) _))

-- the index made afresh is the index
pub fresh_is : (at : ℕ) (rs : List Record) → IsIndex at rs (fresh_from at rs)
unfolding fresh_from last_start
fresh_is at [] = record { rising = tt; has = λ name. unfold look_up in refl }
fresh_is at (r ∷ rs) =
    let i = fresh_is (at + length (record_bytes r)) rs in
    let new : IndexEntry = record { name = r.name; start = at } in
    record {
      rising = enroll_rising new _ i.rising;
      has = λ name.
          enroll_has new name _ i.rising
          ∙ ap (λ (a : Option ℕ). or_else a (where_equal (order_of name r.name) at)) (i.has name);
    }

-- ---- amended record by record

amended_rising : (es : List IndexEntry) (at : ℕ) (rs : List Record) → Rising es → Rising (amend_all es (placed_from at rs))
unfolding amend_all placed_from
amended_rising es at [] h = h
amended_rising es at (r ∷ rs) h = amended_rising (amend (entry_of (record { content = r; start = at; size = length (record_bytes r) })) es) (at + length (record_bytes r)) rs (amend_rising _ es h)

amended_has : (name : List ℕ) (es : List IndexEntry) (at : ℕ) (rs : List Record)
    → look_up name (amend_all es (placed_from at rs)) ≡ or_else (last_start name at rs) (look_up name es)
unfolding amend_all placed_from last_start entry_of
amended_has name es at [] = unfold or_else in refl
amended_has name es at (r ∷ rs) =
    amended_has name (amend (record { name = r.name; start = at }) es) (at + length (record_bytes r)) rs
    ∙ ap (or_else (last_start name (at + length (record_bytes r)) rs)) (amend_has (record { name = r.name; start = at }) name es)
    ∙ or_assoc (last_start name (at + length (record_bytes r)) rs) _ _

pub amended_is : (rs : List Record) → IsIndex 0 rs (index_of (placed_from 0 rs))
unfolding index_of
amended_is rs = record {
  rising = amended_rising [] 0 rs tt;
  has = λ name. amended_has name [] 0 rs ∙ unfold look_up in or_none (last_start name 0 rs);
}

-- so that both are one
pub same_index : (rs : List Record) → index_of (placed_from 0 rs) ≡ fresh_index rs
unfolding fresh_index
same_index rs = index_unique 0 rs _ _ (amended_is rs) (fresh_is 0 rs)

-- ---- one record more

amend_snoc : (es : List IndexEntry) (at : ℕ) (rs : List Record) (r : Record)
    → amend_all es (placed_from at (rs ++ r ∷ [])) ≡ amend (record { name = r.name; start = at + lengths_of rs }) (amend_all es (placed_from at rs))
unfolding amend_all placed_from entry_of lengths_of
amend_snoc es at [] r = rw add-zero refl
amend_snoc es at (s ∷ rs) r = amend_snoc (amend (entry_of (record { content = s; start = at; size = length (record_bytes s) })) es) (at + length (record_bytes s)) rs r ∙ rw add_assoc refl

-- the index amended by the record is the one made afresh with it
pub next_index_lem : (rs : List Record) (r : Record)
    → amend (record { name = r.name; start = lengths_of rs }) (index_of (placed_from 0 rs)) ≡ fresh_index (rs ++ r ∷ [])
unfolding index_of
next_index_lem rs r =
    let e = amend_snoc [] 0 rs r in
    sym (rw zero-add at e) ∙ same_index (rs ++ r ∷ [])
