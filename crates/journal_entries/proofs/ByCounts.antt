-- Going over the entries by their counts: an entry at a place and the others behind it, or their end; and a pass that adds up sizes.
-- Assumes nothing.
use mathlib.Core.Path.{◌≡◌, refl, sym, ap, ap₂, ◌∙◌}
use Prim.Native.Nat.{ℕ, zero, suc, ◌+◌, ◌-◌, ◌≤◌, ◌<◌, min}
use mathlib.Core.List.{List, [], ◌∷◌}
use mathlib.Core.Bool.{true, false}
use native.Mathlib.Omega.{arith}
use native.Mathlib.Nat.{zero-add}
use lib.ListN.{length, take, drop, length-drop}
use lib.Dec.{leb}
use lib.Seq.{length-take-le}
use borrow.Author.Tests.{le-leb, lt-leb, leb-true, leb-false}
use Rattle.facts.proofs.Tests.{by_test_lem}
use Rattle.journal_spec.specs.Bytes.{number_at}
use Rattle.journal_spec.specs.Index.{IndexEntry}
use Rattle.journal_spec.specs.Index.{entries_size}
use Rattle.journal_parts.specs.Numbers.{number_in}
use Rattle.journal_parts.proofs.NumberStands.{number_stands}
use Rattle.journal_entries.specs.Entries.{EntryIs, name_at, start_at, behind_entry, size_at, start_in, entries_from, entries_in}
use Rattle.journal_entries.specs.Places.{end_of}

-- ---- an entry at a place

module _ (b : List ℕ) (at : ℕ) where
  pub size_none : length b < at + 6 → size_at b at ≡ 0
  unfolding size_at behind_entry
  size_none h = rw (lt-leb (at + number_at 2 at b + 6) (length b) (omega arith)) refl

  pub size_beyond : (n : ℕ) → at + 6 ≤ length b → n ≡ number_in 2 at b → length b < at + 6 + n → size_at b at ≡ 0
  unfolding size_at behind_entry
  size_beyond n h e k =
      let m : n ≡ number_at 2 at b = e ∙ number_stands 2 at b (omega arith) (omega arith) in
      rw (lt-leb (at + number_at 2 at b + 6) (length b) (omega (arith, m))) refl

  pub size_whole : (n : ℕ) → at + 6 + n ≤ length b → n ≡ number_in 2 at b → n + 6 ≡ size_at b at
  unfolding size_at behind_entry
  size_whole n h e =
      let m : n ≡ number_at 2 at b = e ∙ number_stands 2 at b (omega arith) (omega arith) in
      rw (le-leb (at + number_at 2 at b + 6) (length b) (omega (arith, m))) (omega (arith, m))

  -- it stands whole
  pub record Here (size : ℕ) : Type 0 where
    pub stands : leb (behind_entry b at) (length b) ≡ true
    pub count : size ≡ number_at 2 at b + 6
    pub behind : behind_entry b at ≡ at + size
    pub inside : at + size ≤ length b
    pub named : length (name_at b at) ≡ size - 6
    pub part : take (at + size - 4 - (at + 2)) (drop (at + 2) b) ≡ name_at b at

  pub size_here : (size : ℕ) → size ≡ size_at b at → 0 < size → Here size
  unfolding size_at behind_entry name_at
  size_here size e h =
      by_test_lem (leb (at + number_at 2 at b + 6) (length b))
      (λ t.
      let n : size ≡ number_at 2 at b + 6 = e ∙ rw t refl in
      let i : at + number_at 2 at b + 6 ≤ length b = leb-true (at + number_at 2 at b + 6) (length b) t in
      let k : at + size - 4 - (at + 2) ≡ number_at 2 at b = omega (arith, n) in
      record {
        stands = t;
        count = n;
        behind = omega (arith, n);
        inside = omega (arith, n, i);
        named = length-take-le (number_at 2 at b) (drop (at + 2) b) (rw length-drop (omega (arith, i))) ∙ omega (arith, n);
        part = ap (λ (m : ℕ). take m (drop (at + 2) b)) k;
      })
      (λ t. let z : size ≡ 0 = e ∙ rw t refl in absurd (omega (arith, z)))

  pub size_gone : 0 ≡ size_at b at → leb (behind_entry b at) (length b) ≡ false
  unfolding size_at
  size_gone e =
      by_test_lem (leb (behind_entry b at) (length b))
      (λ t. let z : 0 ≡ number_at 2 at b + 6 = e ∙ rw t refl in absurd (omega (arith, z)))
      (λ t. t)

  pub start_is : (size n : ℕ) → size ≡ size_at b at → n ≡ number_in 4 (at + size - 4) b → 0 < size → n ≡ start_in b at
  unfolding start_in start_at
  start_is size n e f h =
      let x = size_here size e h in
      let p : at + size - 4 ≡ at + 2 + number_at 2 at b = omega (arith, x.count) in
      rw x.stands (f ∙ number_stands 4 (at + size - 4) b (omega arith) (omega (arith, x.inside, x.count)) ∙ ap (λ (k : ℕ). number_at 4 k b) p)

  pub start_stands : leb (behind_entry b at) (length b) ≡ true → start_in b at ≡ start_at b at
  unfolding start_in
  start_stands t = rw t refl

  pub behind_is : leb (behind_entry b at) (length b) ≡ true → at + length (name_at b at) + 6 ≡ behind_entry b at
  unfolding behind_entry name_at
  behind_is t =
      let i : at + number_at 2 at b + 6 ≤ length b = leb-true (at + number_at 2 at b + 6) (length b) t in
      ap (λ (k : ℕ). at + k + 6) (length-take-le (number_at 2 at b) (drop (at + 2) b) (rw length-drop (omega (arith, i))))

  -- ---- and the entries from there on

  pub entries_end : (n : ℕ) → 0 ≡ size_at b at → entries_from b n at ≡ []
  unfolding entries_from
  entries_end zero e = refl
  entries_end (suc n) e = rw (size_gone e) refl

  pub entries_more : (n size : ℕ) → 0 < n → size ≡ size_at b at → 0 < size
      → entries_from b n at ≡ record { name = name_at b at; start = start_at b at } ∷ entries_from b (n - 1) (at + size)
  unfolding entries_from
  entries_more zero size k e h = absurd (omega arith)
  entries_more (suc n) size k e h =
      let x = size_here size e h in
      let m : suc n - 1 ≡ n = omega arith in
      rw (x.stands, m, ← x.behind) refl

  -- an entry that stands whole, by its name and its start
  module _ (name : List ℕ) (start : ℕ) (x : EntryIs b at name start) where
    pub entry_here : Here (length name + 6)
    entry_here = size_here (length name + 6) x.size (omega arith)

    pub entry_inside : at + (length name + 6) ≤ length b
    entry_inside = entry_here.inside

    pub entry_more : (n : ℕ) → 0 < n → entries_from b n at ≡ record { name = name; start = start } ∷ entries_from b (n - 1) (at + (length name + 6))
    entry_more n k =
        entries_more n (length name + 6) k x.size (omega arith)
        ∙ ap₂ (λ (m : List ℕ) (s : ℕ). record { name = m; start = s } ∷ entries_from b (n - 1) (at + (length name + 6)))
        (sym x.name_is) (sym (x.start_is ∙ start_stands entry_here.stands))

  -- the bytes of one that does
  pub entry_is : (n start : ℕ) → at + 6 + n ≤ length b → n ≡ number_in 2 at b → start ≡ number_in 4 (at + 2 + n) b
      → EntryIs b at (take (at + 2 + n - (at + 2)) (drop (at + 2) b)) start
  entry_is n start h e f =
      let w : n + 6 ≡ size_at b at = size_whole n h e in
      let x = size_here (n + 6) w (omega arith) in
      let k : at + 2 + n - (at + 2) ≡ at + (n + 6) - 4 - (at + 2) = omega arith in
      let p : at + 2 + n ≡ at + (n + 6) - 4 = omega arith in
      let q : take (at + 2 + n - (at + 2)) (drop (at + 2) b) ≡ name_at b at = ap (λ (m : ℕ). take m (drop (at + 2) b)) k ∙ x.part in
      record {
        size = ap (λ (m : ℕ). m + 6) (ap length q ∙ x.named ∙ omega arith) ∙ w;
        name_is = q;
        start_is = start_is (n + 6) start w (f ∙ ap (λ (m : ℕ). number_in 4 m b) p) (omega arith);
      }

pub entries_none : (b : List ℕ) (n at : ℕ) → n ≡ 0 → entries_from b n at ≡ []
unfolding entries_from
entries_none b n at e = rw e refl

-- ---- the count

-- as it is read; where it does not stand there are no entries
pub count_read : (b : List ℕ) (n : ℕ) → n ≡ number_in 2 0 b → entries_from b n 2 ≡ entries_in b
unfolding entries_in
count_read b n e =
    by_test_lem (leb 2 (length b))
    (λ t. ap (λ (k : ℕ). entries_from b k 2) (e ∙ number_stands 2 0 b (omega arith) (leb-true 2 (length b) t)))
    (λ t.
    let gone = sym (size_none b 2 (omega (arith, leb-false 2 (length b) t))) in
    entries_end b 2 n gone ∙ sym (entries_end b 2 (number_at 2 0 b) gone))

pub few : (b : List ℕ) (n at : ℕ) → length (entries_from b n at) ≤ n
unfolding entries_from
few b zero at = omega arith
few b (suc n) at =
    by_test_lem (leb (behind_entry b at) (length b))
    (λ t. rw t (omega (arith, few b n (behind_entry b at))))
    (λ t. rw t (omega arith))

-- the first k of them
pub entries_front : (b : List ℕ) (k n at : ℕ) → k ≤ n → entries_from b k at ≡ take k (entries_from b n at)
unfolding entries_from
entries_front b zero n at h = refl
entries_front b (suc k) zero at h = absurd (omega arith)
entries_front b (suc k) (suc n) at h =
    by_test_lem (leb (behind_entry b at) (length b))
    (λ t. rw t (ap (λ (l : List IndexEntry). record { name = name_at b at; start = start_at b at } ∷ l) (entries_front b k n (behind_entry b at) (omega arith))))
    (λ t. rw t refl)

-- ---- a pass over them

-- of n entries from the place 2 on, `left` may stand from the place reached on, behind so many
pub record Walk (b : List ℕ) (n left place count : ℕ) : Type 0 where
  pub sum : count + left ≡ n
  pub size : 2 + entries_size (entries_from b n 2) ≡ place + entries_size (entries_from b left place)
  pub number : length (entries_from b n 2) ≡ count + length (entries_from b left place)

module _ (b : List ℕ) (n : ℕ) where
  pub walk_start : Walk b n n 2 0
  walk_start = record { sum = omega arith; size = refl; number = sym (zero-add _) }

  module _ (left place count : ℕ) (w : Walk b n left place count) where
    ends : entries_from b left place ≡ [] → record { place = place; count = count } ≡ end_of (entries_from b n 2)
    unfolding end_of entries_size
    ends e =
        let p : 2 + entries_size (entries_from b n 2) ≡ place + 0 = w.size ∙ ap (λ (l : List IndexEntry). place + entries_size l) e in
        let c : length (entries_from b n 2) ≡ count + 0 = w.number ∙ ap (λ (l : List IndexEntry). count + length l) e in
        let p' : place ≡ 2 + entries_size (entries_from b n 2) = omega (arith, p) in
        let c' : count ≡ length (entries_from b n 2) = omega (arith, c) in
        ap₂ (λ (x y : ℕ). record { place = x; count = y }) p' c'

    pub walk_short : size_at b place ≡ 0 → record { place = place; count = count } ≡ end_of (entries_from b n 2)
    walk_short z = ends (entries_end b place left (sym z))

    walk_done : left ≡ 0 → record { place = place; count = count } ≡ end_of (entries_from b n 2)
    walk_done e = ends (entries_none b left place e)

    -- all are passed
    pub walk_ends : left ≡ 0 → count ≡ n → record { place = place; count = n } ≡ end_of (entries_from b n 2)
    walk_ends e c = ap (λ (k : ℕ). record { place = place; count = k }) (sym c) ∙ walk_done e

    pub walk_next : (name : List ℕ) (start rest behind : ℕ) → EntryIs b place name start → 0 < left → rest ≡ left - 1 → behind ≡ place + (length name + 6)
        → Walk b n rest behind (count + 1)
    unfolding entries_size
    walk_next name start rest behind x h r p =
        let m = entry_more b place name start x left h in
        let s : entries_size (entries_from b left place) ≡ 6 + length name + entries_size (entries_from b (left - 1) (place + (length name + 6))) =
        ap entries_size m in
        let c : length (entries_from b left place) ≡ suc (length (entries_from b (left - 1) (place + (length name + 6)))) = ap length m in
        rw (r, p) (record {
          sum = omega (arith, w.sum);
          size = omega (arith, w.size, s);
          number = omega (arith, w.number, c);
        })

-- ---- the place of the entry at a position

place_beyond : (b : List ℕ) (count position : ℕ) → count ≡ number_in 2 0 b → count < position
    → (end_of (entries_from b count 2)).place ≡ 2 + entries_size (take position (entries_in b))
unfolding end_of
place_beyond b count position e h =
    ap (λ (l : List IndexEntry). 2 + entries_size l) (count_read b count e ∙ sym (all position (entries_in b) few_in))
  where
    few_in : length (entries_in b) ≤ position
    few_in = rw (← count_read b count e) (omega (arith, few b count 2))

    all : (k : ℕ) (l : List IndexEntry) → length l ≤ k → take k l ≡ l
    all zero [] i = refl
    all zero (x ∷ xs) i = absurd (omega arith)
    all (suc k) [] i = refl
    all (suc k) (x ∷ xs) i = ap (λ (l : List IndexEntry). x ∷ l) (all k xs (omega arith))

place_at : (b : List ℕ) (count position : ℕ) → count ≡ number_in 2 0 b → position ≤ count
    → (end_of (entries_from b position 2)).place ≡ 2 + entries_size (take position (entries_in b))
unfolding end_of
place_at b count position e h =
    ap (λ (l : List IndexEntry). 2 + entries_size l)
    (entries_front b position count 2 h ∙ ap (take position) (count_read b count e))

pub place_within : (b : List ℕ) (count position k : ℕ) → count ≡ number_in 2 0 b → k ≡ min position count
    → (end_of (entries_from b k 2)).place ≡ 2 + entries_size (take position (entries_in b))
place_within b count position k e m =
    by_test_lem (leb position count)
    (λ t. let h : position ≤ count = leb-true position count t in
    let s : k ≡ position = omega (arith, m, h) in rw s (place_at b count position e h))
    (λ t. let h : count < position = leb-false position count t in
    let s : k ≡ count = omega (arith, m, h) in rw s (place_beyond b count position e h))
