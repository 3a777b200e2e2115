-- An index at a buffer's front and its entries as the counts read them are one: what stands is read, what is read stands, and whether it stands
-- is told by the counts and the names. Assumes nothing.
use mathlib.Core.Path.{◌≡◌, refl, sym, ap, ap₂, ◌∙◌}
use Prim.Native.Nat.{ℕ, zero, suc, ◌+◌, ◌^◌, ◌≤◌, ◌<◌}
use mathlib.Core.List.{List, [], ◌∷◌, ◌++◌, append_assoc, map}
use mathlib.Core.Bool.{true}
use native.Mathlib.Omega.{arith}
use lib.ListN.{length, take, drop, length-drop, take-append-drop}
use lib.Seq.{take_at, drop-drop, length-take-le}
use lib.Dec.{leb}
use borrow.Author.Tests.{leb-true, le-leb}
use Rattle.facts.proofs.Tests.{true_not_false, by_test_lem, both, first_of_lem, second_of_lem}
use Rattle.journal_spec.specs.Bytes.{AreBytes, bytes_of, value_of, number_at, joined}
use Rattle.journal_spec.specs.Section.{number_bytes, section_bytes}
use Rattle.journal_spec.specs.Tests.{same}
use Rattle.journal_spec.specs.Index.{IndexEntry, Order, lower, equal, higher, order_of, entry_bytes, index_bytes, in_front}
use Rattle.journal_spec.proofs.Numbers.{bytes_take, bytes_drop, value_small, bytes_value}
use Rattle.journal_spec.proofs.Each.{same_self}
use Rattle.journal_spec.specs.Indexed.{Before, Rising}
use Rattle.journal_entries.specs.Entries.{name_at, start_at, behind_entry, entries_from, entries_in}
use Rattle.journal_entries.specs.Shape.{is_lower, is_below, stand_from, is_index}
use Rattle.journal_entries.proofs.Indexed.{Fits, Entries, entry_read, IndexHere}

-- ---- names

lower_is : (o : Order) → is_lower o ≡ true → o ≡ lower
unfolding is_lower
lower_is lower h = refl
lower_is equal h = absurd (true_not_false (sym h))
lower_is higher h = absurd (true_not_false (sym h))

pub below_lower : (low name : List ℕ) → is_below low name ≡ true → order_of low name ≡ lower
unfolding is_below
below_lower low name h = lower_is (order_of low name) h

pub lower_below : (low name : List ℕ) → order_of low name ≡ lower → is_below low name ≡ true
unfolding is_below is_lower
lower_below low name k = ap is_lower k

-- ---- what stands is read

pub entries_read : (b : List ℕ) (at : ℕ) (es : List IndexEntry) → Entries b at es → entries_from b (length es) at ≡ es
unfolding entries_from start_at
entries_read b at [] c = refl
entries_read b at (e ∷ es) c =
    let r = entry_read b at e es c in
    rw (le-leb (behind_entry b at) (length b) r.next.inside)
    (ap₂ (λ (x : IndexEntry) (xs : List IndexEntry). x ∷ xs)
    (ap₂ (λ (n : List ℕ) (s : ℕ). record { name = n; start = s }) r.name
    (ap (λ (k : ℕ). number_at 4 (at + 2 + k) b) r.count ∙ r.start))
    (entries_read b (behind_entry b at) es r.next))

pub index_read : (b : List ℕ) (es : List IndexEntry) → IndexHere b es → entries_in b ≡ es
unfolding entries_in
index_read b es x = ap (λ (n : ℕ). entries_from b n 2) x.count ∙ entries_read b 2 es x.entries

entries_stand : (b : List ℕ) (at : ℕ) (low : List ℕ) (es : List IndexEntry) → Entries b at es → Before low es → Rising es
    → stand_from b (length es) at low ≡ true
unfolding stand_from
entries_stand b at low [] c l r = refl
entries_stand b at low (e ∷ es) c l r =
    let x = entry_read b at e es c in
    both (le-leb (behind_entry b at) (length b) x.next.inside)
    (both (lower_below low (name_at b at) (ap (order_of low) x.name ∙ l))
    (entries_stand b (behind_entry b at) (name_at b at) es x.next (rw x.name r.0) r.1))

-- an index with names that rise from the empty one is told
pub stands_told : (b : List ℕ) (es : List IndexEntry) → IndexHere b es → Before [] es → Rising es → is_index b ≡ true
unfolding is_index
stands_told b es x l r =
    both (le-leb 2 (length b) x.entries.inside)
    (ap (λ (n : ℕ). stand_from b n 2 []) x.count ∙ entries_stand b 2 [] es x.entries l r)

-- ---- what is read stands

-- n entries stand from a place on as they are read, and rise from a name
pub record Standing (b : List ℕ) (n at : ℕ) (low : List ℕ) : Type 0 where
  pub entries : Entries b at (entries_from b n at)
  pub before : Before low (entries_from b n at)
  pub rising : Rising (entries_from b n at)

-- bytes are numbers of one byte
pub one_byte : (xs : List ℕ) → AreBytes xs → number_bytes 1 xs ≡ xs
unfolding number_bytes bytes_of
one_byte [] a = refl
one_byte (x ∷ xs) a = let k = a.0 in ap₂ (λ (y : ℕ) (ys : List ℕ). y ∷ ys) (omega arith) (one_byte xs a.1)

module _ (b : List ℕ) (bytes : AreBytes b) where
  -- a number of w bytes at a place, its bytes and those behind them
  record NumberHere (w at : ℕ) : Type 0 where
    here : drop at b ≡ bytes_of w (number_at w at b) ++ drop (at + w) b
    small : number_at w at b < 256 ^ w

  number_here_lem : (w at : ℕ) → at + w ≤ length b → NumberHere w at
  unfolding number_at
  number_here_lem w at h =
      let part : List ℕ = take w (drop at b) in
      let n : length part ≡ w = length-take-le w (drop at b) (rw length-drop (omega arith)) in
      let a : AreBytes part = bytes_take w (drop at b) (bytes_drop at b bytes) in
      record {
        here = sym (take-append-drop w (drop at b))
            ∙ ap₂ (λ (x y : List ℕ). x ++ y) (sym (ap (λ (k : ℕ). bytes_of k (value_of part)) (sym n) ∙ bytes_value part a)) (drop-drop w at b);
        small = rw n at (value_small part a);
      }

  -- the entry that the counts read at a place
  abbrev entry_at : ℕ → IndexEntry
  entry_at at = record { name = name_at b at; start = start_at b at }

  record EntryHere (at : ℕ) : Type 0 where
    fits : Fits (entry_at at)
    here : drop at b ≡ entry_bytes (entry_at at) ++ drop (behind_entry b at) b

  entry_here : (at : ℕ) → behind_entry b at ≤ length b → EntryHere at
  unfolding behind_entry name_at start_at entry_bytes section_bytes
  entry_here at h =
      let n : ℕ = number_at 2 at b in
      let c = number_here_lem 2 at (omega arith) in
      let s = number_here_lem 4 (at + 2 + n) (omega arith) in
      let name : List ℕ = take n (drop (at + 2) b) in
      let size : length name ≡ n = length-take-le n (drop (at + 2) b) (rw length-drop (omega arith)) in
      let a : AreBytes name = bytes_take n (drop (at + 2) b) (bytes_drop (at + 2) b bytes) in
      let p : at + 2 + n + 4 ≡ at + n + 6 = omega arith in
      let start : List ℕ = bytes_of 4 (number_at 4 (at + 2 + n) b) in
      let d₂ : drop (at + 2 + n) b ≡ start ++ drop (at + n + 6) b = rw p at s.here in
      let d₁ : drop (at + 2) b ≡ name ++ (start ++ drop (at + n + 6) b) =
      sym (take-append-drop n (drop (at + 2) b)) ∙ ap (λ (l : List ℕ). name ++ l) (drop-drop n (at + 2) b ∙ d₂) in
      record {
        fits = record { count = rw size c.small; bytes = one_byte name a; start = s.small };
        here = c.here
            ∙ ap (λ (l : List ℕ). bytes_of 2 n ++ l) d₁
            ∙ sym (append_assoc (bytes_of 2 n) name (start ++ drop (at + n + 6) b))
            ∙ sym (append_assoc (bytes_of 2 n ++ name) start (drop (at + n + 6) b))
            ∙ ap₂ (λ (k : ℕ) (l : List ℕ). ((bytes_of 2 k ++ l) ++ start) ++ drop (at + n + 6) b) (sym size) (sym (one_byte name a));
      }

  -- what is read stands, as far as it goes
  pub entries_here : (n at : ℕ) → at ≤ length b → Entries b at (entries_from b n at)
  unfolding entries_from joined
  entries_here zero at i = record { inside = i; rest = drop at b; bytes = refl; fits = tt }
  entries_here (suc n) at i =
      by_test_lem (leb (behind_entry b at) (length b))
      (λ t. rw t (one_more n at i (leb-true (behind_entry b at) (length b) t) (entries_here n (behind_entry b at))))
      (λ t. rw t (record { inside = i; rest = drop at b; bytes = refl; fits = tt }))
    where
      one_more : (n at : ℕ) → at ≤ length b → behind_entry b at ≤ length b
          → (behind_entry b at ≤ length b → Entries b (behind_entry b at) (entries_from b n (behind_entry b at)))
          → Entries b at (entry_at at ∷ entries_from b n (behind_entry b at))
      one_more n at i inside others =
          let next : ℕ = behind_entry b at in
          let x = entry_here at inside in
          let y = others inside in
          record {
            inside = i;
            rest = y.rest;
            bytes = x.here ∙ ap (λ (l : List ℕ). entry_bytes (entry_at at) ++ l) y.bytes
                ∙ sym (append_assoc (entry_bytes (entry_at at)) (joined (map entry_bytes (entries_from b n next))) y.rest);
            fits = (x.fits, y.fits);
          }

  -- how many are read
  count_from : (n at : ℕ) (low : List ℕ) → stand_from b n at low ≡ true → length (entries_from b n at) ≡ n
  unfolding stand_from entries_from
  count_from zero at low h = refl
  count_from (suc n) at low h =
      let t = first_of_lem (leb (behind_entry b at) (length b)) _ h in
      let others = second_of_lem (leb (behind_entry b at) (length b)) _ h in
      rw t (ap suc (count_from n (behind_entry b at) (name_at b at) (second_of_lem (is_below low (name_at b at)) _ others)))

  stands_here : (n at : ℕ) (low : List ℕ) → at ≤ length b → stand_from b n at low ≡ true → Standing b n at low
  unfolding stand_from entries_from
  stands_here zero at low i h = record { entries = entries_here 0 at i; before = tt; rising = tt }
  stands_here (suc n) at low i h =
      let next : ℕ = behind_entry b at in
      let t = first_of_lem (leb next (length b)) _ h in
      let others = second_of_lem (leb next (length b)) _ h in
      let y = stands_here n next (name_at b at) (leb-true next (length b) t) (second_of_lem (is_below low (name_at b at)) _ others) in
      record {
        entries = entries_here (suc n) at i;
        before = rw t (below_lower low (name_at b at) (first_of_lem (is_below low (name_at b at)) _ others));
        rising = rw t (y.before, y.rising);
      }

  -- where it is told, the entries stand as they are read
  pub told_stands : is_index b ≡ true → Standing b (number_at 2 0 b) 2 []
  unfolding is_index
  told_stands h =
      stands_here (number_at 2 0 b) 2 [] (leb-true 2 (length b) (first_of_lem (leb 2 (length b)) _ h)) (second_of_lem (leb 2 (length b)) _ h)

  -- and are as many as the count says
  pub told_count : is_index b ≡ true → number_at 2 0 b ≡ length (entries_from b (number_at 2 0 b) 2)
  unfolding is_index
  told_count h = sym (count_from (number_at 2 0 b) 2 [] (second_of_lem (leb 2 (length b)) _ h))

  -- an index that stands is in front
  pub here_in_front : (es : List IndexEntry) → IndexHere b es → in_front (index_bytes es) b ≡ true
  unfolding in_front index_bytes
  here_in_front es x =
      let all : List ℕ = bytes_of 2 (length es) ++ joined (map entry_bytes es) in
      let e : b ≡ all ++ x.entries.rest =
      (number_here_lem 2 0 x.entries.inside).here
      ∙ ap₂ (λ (k : ℕ) (l : List ℕ). bytes_of 2 k ++ l) x.count x.entries.bytes
      ∙ sym (append_assoc (bytes_of 2 (length es)) (joined (map entry_bytes es)) x.entries.rest) in
      let f : take (length all) b ≡ all = ap (take (length all)) e ∙ take_at all x.entries.rest (length all) refl in
      ap (λ (l : List ℕ). same l all) f ∙ same_self all
