-- Chances with their limits, as they stand in some bytes: what the loops over them keep. Assumes nothing.
use mathlib.Core.Path.{◌≡◌, refl, sym, ap, ◌∙◌}
use Prim.Native.Nat.{ℕ, zero, suc, ◌+◌, ◌*◌, ◌-◌, ◌≤◌, ◌<◌, min}
use mathlib.Core.Bool.{Bool, true, false, cond}
use mathlib.Core.List.{List, ◌∷◌, ◌++◌}
use native.Mathlib.Omega.{arith}
use native.Mathlib.Nat.{zero-min, min-zero, suc-min-suc}
use native.Mathlib.Numerals.{add-one}
use lib.Dec.{eqb}
use lib.ListN.{length, drop, get_or, drop_of_length-le}
use lib.Seq.{drop-cons}
use borrow.Author.Tests.{eq-eqb, ne_eqb}
use Rattle.text_digits.specs.Text.{Put}
use Rattle.text_digits.proofs.Putting.{put_nothing, put_put}
use Rattle.journal_spec.specs.Bytes.{number_at, numbers_in}
use Rattle.journal_listing.proofs.Pairs.{each_pair}
use Rattle.journal_report.specs.Slot.{Quote, column, slot_text, quotes_of, limit_for, no_limit, limit_width, quote_columns, asked_columns, limit_columns}

-- n quotes, the chances from c on and the limits from l on
abbrev pub quotes_in : List ℕ → ℕ → ℕ → ℕ → List Quote
quotes_in b n c l = quotes_of (numbers_in 4 n c b) (numbers_in 8 n l b)

-- of n chances and m limits there are as many quotes as the fewer of them
pub quotes_fewer : (b : List ℕ) (n m c l : ℕ) → quotes_of (numbers_in 4 n c b) (numbers_in 8 m l b) ≡ quotes_in b (min n m) c l
unfolding quotes_of numbers_in
quotes_fewer b zero m c l = rw zero-min refl
quotes_fewer b (suc n) zero c l = rw min-zero refl
quotes_fewer b (suc n) (suc m) c l = rw (suc-min-suc, quotes_fewer b n m (c + 4) (l + 8)) refl

-- the columns of the limits, by whether chances are asked for
module _ (tabs : Bool) (asked b : List ℕ) (n m c l k : ℕ) where
  pub all_columns : eqb (length asked) 0 ≡ true → k ≡ min n m
      → quote_columns tabs (quotes_in b k c l) ≡ limit_columns tabs asked (quotes_of (numbers_in 4 n c b) (numbers_in 8 m l b))
  unfolding limit_columns
  all_columns none few = rw (few, quotes_fewer b n m c l, none) refl

  pub asked_columns_lem : eqb (length asked) 0 ≡ false → k ≡ min n m
      → asked_columns tabs asked (quotes_in b k c l) ≡ limit_columns tabs asked (quotes_of (numbers_in 4 n c b) (numbers_in 8 m l b))
  unfolding limit_columns
  asked_columns_lem some few = rw (few, quotes_fewer b n m c l, some) refl

-- those from the i-th on
abbrev pub quotes_from : List ℕ → ℕ → ℕ → ℕ → ℕ → List Quote
quotes_from b n c l i = quotes_in b (n - i) (c + i * 4) (l + i * 8)

pub quotes_all : (b : List ℕ) (n c l : ℕ) → quotes_in b n c l ≡ quotes_from b n c l 0
quotes_all b n c l =
    let en : n - 0 ≡ n = omega arith in
    let ec : c + 0 * 4 ≡ c = omega arith in
    let el : l + 0 * 8 ≡ l = omega arith in
    rw (en, ec, el) refl

-- the i-th, and those behind it
quotes_next : (b : List ℕ) (n c l i : ℕ) → i < n
    → quotes_from b n c l i ≡ record { chance = number_at 4 (c + i * 4) b; limit = number_at 8 (l + i * 8) b } ∷ quotes_from b n c l (i + 1)
quotes_next b n c l i h =
    let en : n - i ≡ suc (n - (i + 1)) = omega arith in
    let ec : c + (i + 1) * 4 ≡ c + i * 4 + 4 = omega arith in
    let el : l + (i + 1) * 8 ≡ l + i * 8 + 8 = omega arith in
    rw (en, ec, el) (unfold numbers_in quotes_of in refl)

-- a quote's column
abbrev pub quote_column : Bool → ℕ → ℕ → List ℕ
quote_column tabs c l = column tabs limit_width (slot_text c l)

-- every limit: the walk over the pairs
pub columns_quoted : (tabs : Bool) (b : List ℕ) (n c l : ℕ) → each_pair (quote_column tabs) b n c l ≡ quote_columns tabs (quotes_in b n c l)
unfolding each_pair quote_columns quotes_of numbers_in
columns_quoted tabs b zero c l = refl
columns_quoted tabs b (suc n) c l =
    ap (λ (t : List ℕ). quote_column tabs (number_at 4 c b) (number_at 8 l b) ++ t) (columns_quoted tabs b n (c + 4) (l + 8))

-- ---- the limit at a chance: it is that among the quotes from the i-th on

module _ (b : List ℕ) (n c l wanted i : ℕ) (s : limit_for wanted (quotes_in b n c l) ≡ limit_for wanted (quotes_from b n c l i)) where
  sought_next : i < n → limit_for wanted (quotes_in b n c l)
      ≡ cond (eqb (number_at 4 (c + i * 4) b) wanted) (number_at 8 (l + i * 8) b) (limit_for wanted (quotes_from b n c l (i + 1)))
  sought_next h = s ∙ rw (quotes_next b n c l i h) (unfold limit_for in refl)

  pub sought_turn : (x : ℕ) → i < n → x ≡ number_at 4 (c + i * 4) b → (x ≡ wanted → ⊥)
      → limit_for wanted (quotes_in b n c l) ≡ limit_for wanted (quotes_from b n c l (i + 1))
  sought_turn x h ex other = sought_next h ∙ rw (← ex, ne_eqb x wanted other) refl

  pub sought_found : (x y : ℕ) → i < n → x ≡ number_at 4 (c + i * 4) b → x ≡ wanted → y ≡ number_at 8 (l + i * 8) b
      → y ≡ limit_for wanted (quotes_in b n c l)
  sought_found x y h ex is ey = ey ∙ sym (sought_next h ∙ rw (← ex, eq-eqb x wanted is) refl)

  pub sought_none : n ≤ i → no_limit ≡ limit_for wanted (quotes_in b n c l)
  sought_none h = let none : n - i ≡ 0 = omega arith in sym (s ∙ rw none (unfold numbers_in quotes_of limit_for in refl))

-- ---- the chances asked for: i of them are put into d, up to p

pub record Asked (tabs : Bool) (asked : List ℕ) (qs : List Quote) (d₀ : List ℕ) (at : ℕ) (d : List ℕ) (p i : ℕ) : Type 0 where
  pub goes : (d' : List ℕ) (r : ℕ) → Put d p (asked_columns tabs (drop i asked) qs) d' r → Put d₀ at (asked_columns tabs asked qs) d' r

module _ (tabs : Bool) (asked : List ℕ) (qs : List Quote) (d₀ : List ℕ) (at : ℕ) where
  pub asked_start : Asked tabs asked qs d₀ at d₀ at 0
  asked_start = record { goes = λ d' r w. w }

  module _ (d : List ℕ) (p i : ℕ) (g : Asked tabs asked qs d₀ at d p i) where
    asked_next : i < length asked
        → asked_columns tabs (drop i asked) qs
        ≡ quote_column tabs (get_or asked i 0) (limit_for (get_or asked i 0) qs) ++ asked_columns tabs (drop (i + 1) asked) qs
    asked_next h = rw (drop-cons asked i 0 h, add-one) (unfold asked_columns in refl)

    pub asked_turn : (x y : ℕ) (d₁ : List ℕ) (p₁ : ℕ) → i < length asked → x ≡ get_or asked i 0 → y ≡ limit_for x qs
        → Put d p (quote_column tabs x y) d₁ p₁ → Asked tabs asked qs d₀ at d₁ p₁ (i + 1)
    asked_turn x y d₁ p₁ h ex ey w =
        let first : Put d p (quote_column tabs (get_or asked i 0) (limit_for (get_or asked i 0) qs)) d₁ p₁ = rw (← ex) (rw (← ey) w) in
        record { goes = λ d' r rest. g.goes d' r (rw (asked_next h) (put_put d p _ d₁ p₁ _ d' r first rest)) }

    pub asked_end : length asked ≤ i → Put d₀ at (asked_columns tabs asked qs) d p
    asked_end h = g.goes d p (rw (drop_of_length-le asked h) (unfold asked_columns in put_nothing d p))
