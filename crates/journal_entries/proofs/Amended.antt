-- An index amended in its buffer. The entries stand in front of a name's place and behind it; where the name has no entry the later ones are moved up,
-- the entry is written at the place and the count at the front: that is the index amended, every byte beyond it as it was. Assumes nothing.
use mathlib.Core.Path.{◌≡◌, refl, sym, ap, ap₂, subst, ◌∙◌}
use Prim.Native.Nat.{ℕ, suc, ◌+◌, ◌-◌, ◌≤◌, ◌<◌}
use mathlib.Core.List.{List, [], ◌∷◌, ◌++◌, append_assoc, map}
use mathlib.Core.Bool.{true, false}
use native.Mathlib.Omega.{arith}
use native.Mathlib.Nat.{zero-add}
use lib.ListN.{length, take, drop, length-append, length-drop, take-append-drop}
use lib.Seq.{take_at, drop_at, drop-drop, take-append-le, take-take, length-take-le}
use lib.Dec.{leb}
use Rattle.std.specs.Prelude.{Result, is_ok}
use borrow.Author.Tests.{le-leb, lt-leb, leb-true, leb-false}
use Rattle.facts.proofs.Tests.{true_not_false, by_test_lem}
use Rattle.text_digits.specs.Text.{Put}
use Rattle.text_digits.proofs.Putting.{put_whole}
use Rattle.journal_spec.specs.Bytes.{AreBytes, bytes_of, number_at, joined}
use Rattle.journal_spec.specs.Index.{IndexEntry, entry_bytes, index_bytes, Order, lower, equal, higher, order_of, amend}
use Rattle.journal_spec.specs.Append.{written}
use Rattle.journal_spec.proofs.NameOrder.{order_equal}
use Rattle.journal_spec.proofs.Numbers.{length_bytes}
use Rattle.journal_spec.specs.Index.{entries_size}
use Rattle.journal_spec.proofs.IndexLoop.{entry_size, entries_size_lem, index_size, size_append, entries_least, entries_append}
use Rattle.journal_entries.specs.Entries.{entries_in}
use Rattle.journal_entries.specs.Places.{end_of, place_of, found_by, find_in}
use Rattle.journal_entries.specs.Amending.{next_bytes, amended_in, Opened}
use Rattle.journal_entries.specs.declared.walking.End.{End}
use Rattle.journal_entries.proofs.Indexed.{Entries}
use Rattle.journal_entries.proofs.Parsed.{entries_here}
use Rattle.journal_entries.proofs.Putting.{put_written}

-- ---- the entries about a name's place

-- those before the place, and those behind the name's entry or the place
pub record Parts (new : IndexEntry) (at : ℕ) (es : List IndexEntry) (f : Result ℕ ℕ) : Type 0 where
  pub front : List IndexEntry
  pub back : List IndexEntry
  pub is : amend new es ≡ front ++ new ∷ back
  pub place : place_of f ≡ at + entries_size front
  pub had : is_ok f ≡ true → (s : ℕ) × (es ≡ front ++ record { name = new.name; start = s } ∷ back)
  pub lacked : is_ok f ≡ false → es ≡ front ++ back

pub parts_of_lem : (new : IndexEntry) (at : ℕ) (es : List IndexEntry) → Parts new at es (find_in new.name at es)
unfolding find_in
parts_of_lem new at [] = record {
  front = [];
  back = [];
  is = unfold amend in refl;
  place = unfold place_of entries_size in omega arith;
  had = λ h. absurd (true_not_false (sym h));
  lacked = λ h. refl;
}
parts_of_lem new at (e ∷ es) = go (parts_of_lem new (at + length e.name + 6) es) (order_of new.name e.name) refl
  where
    go : Parts new (at + length e.name + 6) es (find_in new.name (at + length e.name + 6) es) → (o : Order) → order_of new.name e.name ≡ o
        → Parts new at (e ∷ es) (found_by o at (find_in new.name (at + length e.name + 6) es))
    go p lower k = record {
      front = [];
      back = e ∷ es;
      is = unfold amend in rw (k, amend) refl;
      place = unfold found_by place_of entries_size in omega arith;
      had = unfold found_by in λ h. absurd (true_not_false (sym h));
      lacked = λ h. refl;
    }
    go p equal k = record {
      front = [];
      back = es;
      is = unfold amend in rw (k, amend) refl;
      place = unfold found_by place_of entries_size in omega arith;
      had = λ h. (e.start, ap (λ (n : List ℕ). record { name = n; start = e.start } ∷ es) (sym (order_equal new.name e.name k)));
      lacked = unfold found_by in λ h. absurd (true_not_false h);
    }
    go p higher k = record {
      front = e ∷ p.front;
      back = p.back;
      is = unfold amend in rw (k, amend) (ap (λ (l : List IndexEntry). e ∷ l) p.is);
      place = unfold found_by entries_size in (p.place ∙ omega arith);
      had = unfold found_by in λ h. let x = p.had h in (x.0, ap (λ (l : List IndexEntry). e ∷ l) x.1);
      lacked = unfold found_by in λ h. ap (λ (l : List IndexEntry). e ∷ l) (p.lacked h);
    }

-- ---- their bytes

abbrev bytes_in : List IndexEntry → List ℕ
bytes_in es = joined (map entry_bytes es)

-- ---- bytes in front of a place and behind it

module _ (h f x : List ℕ) (place : ℕ) (e : place ≡ length h + length f) where
  front_of : take place (h ++ (f ++ x)) ≡ h ++ f
  front_of = ap (take place) (sym (append_assoc h f x)) ∙ take_at (h ++ f) x place (length-append h f ∙ sym e)

  back_of : drop place (h ++ (f ++ x)) ≡ x
  back_of = ap (drop place) (sym (append_assoc h f x)) ∙ drop_at (h ++ f) x place (length-append h f ∙ sym e)

-- the entry written at the place, and the count in front
laid : (after h f e x t c : List ℕ) (place k : ℕ) → length h ≡ 2 → length c ≡ 2 → length e ≡ k → take place after ≡ h ++ f → drop (place + k) after ≡ x ++ t
    → written (written after place e) 0 c ≡ (c ++ (f ++ (e ++ x))) ++ t
unfolding written
laid after h f e x t c place k hn cn en front back =
    let w : take place after ++ (e ++ drop (place + length e) after) ≡ h ++ (f ++ (e ++ (x ++ t))) =
    ap₂ (λ (y : List ℕ) (n : ℕ). y ++ (e ++ drop (place + n) after)) front en
    ∙ ap (λ (y : List ℕ). (h ++ f) ++ (e ++ y)) back ∙ append_assoc h f (e ++ (x ++ t)) in
    let n : 0 + length c ≡ 2 = omega (arith, cn) in
    ap₂ (λ (y : List ℕ) (m : ℕ). c ++ drop m y) w n
    ∙ ap (λ (y : List ℕ). c ++ y) (drop_at h (f ++ (e ++ (x ++ t))) 2 hn)
    ∙ sym (append_assoc c (f ++ (e ++ x)) t ∙ ap (λ (y : List ℕ). c ++ y) (append_assoc f (e ++ x) t ∙ ap (λ (y : List ℕ). f ++ y) (append_assoc e x t)))

-- a buffer in which there is room for an entry of k bytes: what is before the place, and the entries behind it
record Ready (b : List ℕ) (h f x : List ℕ) (place k : ℕ) (after : List ℕ) : Type 0 where
  front : take place after ≡ h ++ f
  back : drop (place + k) after ≡ x ++ drop (place + k + length x) b

-- an entry stands there already
ready_there : (b h f o x rest : List ℕ) (place k : ℕ) → b ≡ h ++ (f ++ (o ++ (x ++ rest))) → place ≡ length h + length f → length o ≡ k
    → Ready b h f x place k b
ready_there b h f o x rest place k e p n =
    let s : drop (place + k) b ≡ x ++ rest =
    sym (drop-drop k place b) ∙ ap (drop k) (ap (drop place) e ∙ back_of h f (o ++ (x ++ rest)) place p) ∙ drop_at o (x ++ rest) k n in
    let t : drop (place + k + length x) b ≡ rest =
    sym (drop-drop (length x) (place + k) b) ∙ ap (drop (length x)) s ∙ drop_at x rest (length x) refl in
    record {
      front = ap (take place) e ∙ front_of h f (o ++ (x ++ rest)) place p;
      back = s ∙ ap (λ (l : List ℕ). x ++ l) (sym t);
    }

-- what stands behind the place is moved up
ready_moved : (b h f x rest after : List ℕ) (place k m : ℕ) → b ≡ h ++ (f ++ (x ++ rest)) → place ≡ length h + length f → length x ≡ m → place + k ≤ length b
    → after ≡ written b (place + k) (take m (drop place b)) → Ready b h f x place k after
unfolding written
ready_moved b h f x rest after place k m e p n room a =
    let part : take m (drop place b) ≡ x = ap (take m) (ap (drop place) e ∙ back_of h f (x ++ rest) place p) ∙ take_at x rest m n in
    let w : after ≡ take (place + k) b ++ (x ++ drop (place + k + length x) b) =
    a ∙ ap (λ (l : List ℕ). take (place + k) b ++ (l ++ drop (place + k + length l) b)) part in
    let long : length (take (place + k) b) ≡ place + k = length-take-le (place + k) b room in
    record {
      front = ap (take place) w
          ∙ take-append-le place (take (place + k) b) (x ++ drop (place + k + length x) b) (omega (arith, long))
          ∙ take-take place (place + k) b (omega arith)
          ∙ ap (take place) e
          ∙ front_of h f (x ++ rest) place p;
      back = ap (drop (place + k)) w ∙ drop_at (take (place + k) b) (x ++ drop (place + k + length x) b) (place + k) long;
    }

-- ---- the buffer

-- without room it stays
pub amend_none : (b : List ℕ) (new : IndexEntry) → leb (length (next_bytes new b)) (length b) ≡ false → b ≡ amended_in new b
unfolding amended_in
amend_none b new h = rw h refl

module _ (b : List ℕ) (new : IndexEntry) (f : Result ℕ ℕ) (end : End) (found : f ≡ find_in new.name 2 (entries_in b)) (ends : end ≡ end_of (entries_in b)) where
  parts : Parts new 2 (entries_in b) f
  parts = subst (Parts new 2 (entries_in b)) (sym found) (parts_of_lem new 2 (entries_in b))

  end_place : end.place ≡ 2 + entries_size (entries_in b)
  end_place = ap (λ (e : End). e.place) ends ∙ unfold end_of in refl

  end_count : end.count ≡ length (entries_in b)
  end_count = ap (λ (e : End). e.count) ends ∙ unfold end_of in refl

  -- ---- sizes

  next_size : length (next_bytes new b) ≡ 2 + (entries_size parts.front + (6 + length new.name + entries_size parts.back))
  unfolding next_bytes entries_size
  next_size =
      index_size (amend new (entries_in b)) ∙ ap (λ (l : List IndexEntry). 2 + entries_size l) parts.is
      ∙ ap (λ (n : ℕ). 2 + n) (size_append parts.front (new ∷ parts.back))

  pub size_there : is_ok f ≡ true → length (next_bytes new b) ≡ end.place
  unfolding entries_size
  size_there t =
      let x = parts.had t in
      let old : IndexEntry = record { name = new.name; start = x.0 } in
      let s : entries_size (entries_in b) ≡ entries_size parts.front + (6 + length new.name + entries_size parts.back) =
      ap entries_size x.1 ∙ size_append parts.front (old ∷ parts.back) in
      omega (arith, s, next_size, end_place)

  pub size_lacked : is_ok f ≡ false → length (next_bytes new b) ≡ end.place + (length new.name + 6)
  size_lacked t =
      let s : entries_size (entries_in b) ≡ entries_size parts.front + entries_size parts.back =
      ap entries_size (parts.lacked t) ∙ size_append parts.front parts.back in
      omega (arith, s, next_size, end_place)

  -- the place is among the entries
  pub place_among : (place_of f) ≤ end.place
  place_among =
      by_test_lem (is_ok f)
      (λ t. omega (arith, parts.place, size_there t, next_size))
      (λ t. omega (arith, parts.place, size_lacked t, next_size))

  -- ---- room

  -- the buffer ends before the entries do
  pub room_cut : length b < end.place → false ≡ leb (length (next_bytes new b)) (length b)
  room_cut h =
      sym (lt-leb (length (next_bytes new b)) (length b)
      (by_test_lem (is_ok f) (λ t. omega (arith, size_there t)) (λ t. omega (arith, size_lacked t))))

  pub room_there : end.place ≤ length b → is_ok f ≡ true → true ≡ leb (length (next_bytes new b)) (length b)
  room_there h t = sym (le-leb (length (next_bytes new b)) (length b) (omega (arith, size_there t)))

  pub room_lacked : is_ok f ≡ false → (room : ℕ) → end.place ≤ length b → length b - end.place ≡ room
      → leb (length new.name + 6) room ≡ leb (length (next_bytes new b)) (length b)
  room_lacked t room h e =
      by_test_lem (leb (length new.name + 6) room)
      (λ y. y ∙ sym (le-leb (length (next_bytes new b)) (length b) (omega (arith, size_lacked t, leb-true (length new.name + 6) room y))))
      (λ y. y ∙ sym (lt-leb (length (next_bytes new b)) (length b) (omega (arith, size_lacked t, leb-false (length new.name + 6) room y))))

  -- ---- amended

  module _ (bytes : AreBytes b) (room : length (next_bytes new b) ≤ length b) where
    two : 2 ≤ length b
    two = omega (arith, next_size)

    entries : Entries b 2 (entries_in b)
    unfolding entries_in
    entries = entries_here b bytes (number_at 2 0 b) 2 two

    -- what `open` asks
    pub opening : (end.place ≤ length b) × (end.count < length b)
    opening =
        let s : length b - 2 ≡ entries_size (entries_in b) + length entries.rest =
        sym (length-drop 2 b) ∙ ap length entries.bytes ∙ length-append (joined (map entry_bytes (entries_in b))) entries.rest
        ∙ ap (λ (n : ℕ). n + length entries.rest) (entries_size_lem (entries_in b)) in
        (omega (arith, s, two, end_place), omega (arith, s, two, end_count, entries_least (entries_in b)))

    pub opening_room : is_ok f ≡ false → end.place + (length new.name + 6) ≤ length b
    opening_room t = omega (arith, size_lacked t, room)

    -- the entry fits at the place
    pub entry_room : (place_of f) + length new.name + 6 ≤ length b
    entry_room = omega (arith, parts.place, next_size, room)

    -- ---- the buffer with room for the entry

    abbrev head : List ℕ
    head = take 2 b

    head_long : length head ≡ 2
    head_long = length-take-le 2 b two

    place_is : place_of f ≡ length head + length (bytes_in parts.front)
    place_is = omega (arith, parts.place, head_long, entries_size_lem parts.front)

    halves : (x : List ℕ) → bytes_in (entries_in b) ≡ bytes_in parts.front ++ x → b ≡ head ++ (bytes_in parts.front ++ (x ++ entries.rest))
    halves x e =
        sym (take-append-drop 2 b)
        ∙ ap (λ (l : List ℕ). head ++ l)
        (entries.bytes ∙ ap (λ (l : List ℕ). l ++ entries.rest) e ∙ append_assoc (bytes_in parts.front) x entries.rest)

    module _ (size count : ℕ) (after : List ℕ) (sized : size ≡ length new.name + 6) (o : Opened b f end size count after) where
      there : is_ok f ≡ true → Ready b head (bytes_in parts.front) (bytes_in parts.back) (place_of f) size after
      unfolding joined
      there t =
          let x = parts.had t in
          let old : IndexEntry = record { name = new.name; start = x.0 } in
          let e : b ≡ head ++ (bytes_in parts.front ++ (entry_bytes old ++ (bytes_in parts.back ++ entries.rest))) =
          halves (entry_bytes old ++ bytes_in parts.back) (ap bytes_in x.1 ∙ entries_append parts.front (old ∷ parts.back))
          ∙ ap (λ (l : List ℕ). head ++ (bytes_in parts.front ++ l)) (append_assoc (entry_bytes old) (bytes_in parts.back) entries.rest) in
          subst (Ready b head (bytes_in parts.front) (bytes_in parts.back) (place_of f) size) (sym (o.kept t).0)
          (ready_there b head (bytes_in parts.front) (entry_bytes old) (bytes_in parts.back) entries.rest (place_of f) size e place_is
          (omega (arith, entry_size old, sized)))

      lacked : is_ok f ≡ false → Ready b head (bytes_in parts.front) (bytes_in parts.back) (place_of f) size after
      lacked t =
          let e = halves (bytes_in parts.back) (ap bytes_in (parts.lacked t) ∙ entries_append parts.front parts.back) in
          let n : length (bytes_in parts.back) ≡ end.place - (place_of f) =
          omega (arith, entries_size_lem parts.back, parts.place, size_lacked t, next_size) in
          ready_moved b head (bytes_in parts.front) (bytes_in parts.back) entries.rest after (place_of f) size (end.place - (place_of f)) e place_is n
          (omega (arith, entry_room, sized)) (o.moved t).0

      ready : Ready b head (bytes_in parts.front) (bytes_in parts.back) (place_of f) size after
      ready = by_test_lem (is_ok f) there lacked

      counted : count ≡ length (amend new (entries_in b))
      counted =
          let k : length (amend new (entries_in b)) ≡ length parts.front + suc (length parts.back) =
          ap length parts.is ∙ length-append parts.front (new ∷ parts.back) in
          by_test_lem (is_ok f)
          (λ t.
          let x = parts.had t in
          let n : length (entries_in b) ≡ length parts.front + suc (length parts.back) =
          ap length x.1 ∙ length-append parts.front (record { name = new.name; start = x.0 } ∷ parts.back) in
          omega (arith, (o.kept t).1, end_count, k, n))
          (λ t.
          let n : length (entries_in b) ≡ length parts.front + length parts.back =
          ap length (parts.lacked t) ∙ length-append parts.front parts.back in
          omega (arith, (o.moved t).1, end_count, k, n))

      -- the index amended, by its parts
      next_is : next_bytes new b ≡ bytes_of 2 count ++ (bytes_in parts.front ++ (entry_bytes new ++ bytes_in parts.back))
      unfolding next_bytes index_bytes joined
      next_is =
          ap₂ (λ (n : ℕ) (l : List ℕ). bytes_of 2 n ++ l) (sym counted)
          (ap bytes_in parts.is ∙ entries_append parts.front (new ∷ parts.back))

      -- the entry put at the place, and then the count
      put_at_place : (l m : List ℕ) (p q : ℕ) → length after ≡ length b → Put after (place_of f) (entry_bytes new) l p → Put l 0 (bytes_of 2 count) m q
          → m ≡ amended_in new b
      unfolding amended_in
      put_at_place l m p q long e c =
          let r = ready in
          let fits : (place_of f) + length (entry_bytes new) ≤ length after = omega (arith, entry_room, entry_size new, long) in
          let x : l ≡ written after (place_of f) (entry_bytes new) = put_written after (place_of f) (entry_bytes new) l p e fits in
          let y : m ≡ written l 0 (bytes_of 2 count) =
          put_written l 0 (bytes_of 2 count) m q c
          (omega (arith, length_bytes 2 count, two, long, (put_whole after (place_of f) (entry_bytes new) l p e fits).size)) in
          let n : (place_of f) + size + length (bytes_in parts.back) ≡ length (next_bytes new b) =
          omega (arith, parts.place, sized, entries_size_lem parts.back, next_size) in
          y ∙ ap (λ (z : List ℕ). written z 0 (bytes_of 2 count)) x
          ∙ laid after head (bytes_in parts.front) (entry_bytes new) (bytes_in parts.back) (drop ((place_of f) + size + length (bytes_in parts.back)) b)
          (bytes_of 2 count) (place_of f) size head_long (length_bytes 2 count) (omega (arith, entry_size new, sized)) r.front r.back
          ∙ ap₂ (λ (z : List ℕ) (k : ℕ). z ++ drop k b) (sym next_is) n
          ∙ rw (le-leb (length (next_bytes new b)) (length b) room) (unfold written in in_front_lem)
        where
          in_front_lem : next_bytes new b ++ drop (length (next_bytes new b)) b ≡ next_bytes new b ++ drop (0 + length (next_bytes new b)) b
          in_front_lem = ap (λ (k : ℕ). next_bytes new b ++ drop k b) (sym (zero-add (length (next_bytes new b))))

      pub amend_written : (l m : List ℕ) (p q place : ℕ) → place_of f ≡ place → length after ≡ length b → Put after place (entry_bytes new) l p
          → Put l 0 (bytes_of 2 count) m q → m ≡ amended_in new b
      amend_written l m p q place s long e c = put_at_place l m p q long (rw s e) c
