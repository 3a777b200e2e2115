-- Places sorted by their keys, whatever gives a place its key. Keys stand to one another as names do in an index: byte by byte, and one that
-- begins another comes first.
use Rattle.std.specs.Prelude as P
use Rattle.std.specs.Prelude.{◌≡◌, ℕ, ◌+◌, ◌-◌, ◌≤◌, ◌<◌, List, [], ◌∷◌, ◌++◌, Bool, true, false, length, take, drop, get_or}
use Rattle.std.proofs.Math.Option.{Option, none, some}
use Rattle.journal_spec.specs.Index.{Order, lower, equal, higher, order_of}
use Rattle.journal_spec.specs.Indexed.{or_else}
use Rattle.journal_entries.specs.Shape.{is_below}

-- ---- the places that have a key

-- one more in front where the order is that of equals
unfoldable pub where_same : Order → ℕ → List ℕ → List ℕ
where_same lower p ps = ps
where_same equal p ps = p ∷ ps
where_same higher p ps = ps

-- in their sequence
unfoldable pub having : (ℕ → List ℕ) → List ℕ → List ℕ → List ℕ
having key k [] = []
having key k (p ∷ ps) = where_same (order_of k (key p)) p (having key k ps)

unfoldable pub last_in : List ℕ → Option ℕ
last_in [] = none
last_in (p ∷ ps) = or_else (last_in ps) (some p)

-- the last of them
unfoldable pub last_having : (ℕ → List ℕ) → List ℕ → List ℕ → Option ℕ
last_having key k ps = last_in (having key k ps)

-- ---- sorted

-- of any two, the later one's key does not come before the earlier one's
pub record Rises (key : ℕ → List ℕ) (ps : List ℕ) : Type 0 where
  pub rising : (i j : ℕ) → i < j → j < length ps → is_below (key (get_or ps j 0)) (key (get_or ps i 0)) ≡ false

-- of any two, the earlier one's key comes before the later one's
pub record Climbs (key : ℕ → List ℕ) (ps : List ℕ) : Type 0 where
  pub climbing : (i j : ℕ) → i < j → j < length ps → is_below (key (get_or ps i 0)) (key (get_or ps j 0)) ≡ true

-- The last place of each key, sorted.
pub record LatestOf (key : ℕ → List ℕ) (before after : List ℕ) : Type 0 where
  pub climbs : Climbs key after
  pub last : (k : List ℕ) → last_having key k after ≡ last_having key k before

-- ---- a key among sorted places

-- the first n have a key that does not come after k, the others one that does
pub record Split (key : ℕ → List ℕ) (k ps : List ℕ) (n : ℕ) : Type 0 where
  pub within : n ≤ length ps
  pub upto : (i : ℕ) → i < n → is_below k (key (get_or ps i 0)) ≡ false
  pub above : (i : ℕ) → n ≤ i → i < length ps → is_below k (key (get_or ps i 0)) ≡ true

-- whether there is a last one of the first n, and its key does not come before k
pub record EndsWith (key : ℕ → List ℕ) (k ps : List ℕ) (n : ℕ) (r : Bool) : Type 0 where
  pub there : r ≡ true → (0 < n) × (is_below (key (get_or ps (n - 1) 0)) k ≡ false)
  pub absent : r ≡ false → 0 < n → is_below (key (get_or ps (n - 1) 0)) k ≡ true

-- what the search answers
unfoldable pub place_meaning : P.Option ℕ → Option ℕ
place_meaning (P.Some p) = some p
place_meaning P.None = none

-- ---- a place put among others

unfoldable pub insert_at : ℕ → ℕ → List ℕ → List ℕ
insert_at n p ps = take n ps ++ p ∷ drop n ps

-- of a slice's first i places, and one more
pub record Inserted (n i p : ℕ) (before after : List ℕ) : Type 0 where
  pub front : take (i + 1) after ≡ insert_at n p (take i before)
  pub back : drop (i + 1) after ≡ drop (i + 1) before
  pub long : length after ≡ length before
