-- What a walk over the pairs of chances and limits keeps, whatever text is put for a pair: whoever puts the pairs that are left has put them all.
-- The listing's walk and a report's are this one. Assumes nothing.
use mathlib.Core.Path.{◌≡◌, refl, ap}
use Prim.Native.Nat.{ℕ, zero, suc, ◌+◌, ◌*◌, ◌-◌, ◌≤◌, ◌<◌}
use mathlib.Core.List.{List, [], ◌∷◌, ◌++◌}
use native.Mathlib.Omega.{arith}
use Rattle.text_digits.specs.Text.{Put}
use Rattle.text_digits.proofs.Putting.{put_nothing, put_put}
use Rattle.journal_spec.specs.Bytes.{number_at, numbers_in}
use Rattle.journal_spec.specs.Log.{space}
use Rattle.journal_listing.specs.Listing.{quoted_limit, quoted_limits}
use Rattle.journal_listing.specs.Spaced.{each_spaced}

-- the texts of n pairs, the chances from c on and the limits from l on
unfoldable pub each_pair : (ℕ → ℕ → List ℕ) → List ℕ → ℕ → ℕ → ℕ → List ℕ
each_pair text b zero c l = []
each_pair text b (suc n) c l = text (number_at 4 c b) (number_at 8 l b) ++ each_pair text b n (c + 4) (l + 8)

-- of n pairs from c and l on, i are put, and the others are still to be put into d at p
pub record Pairs (text : ℕ → ℕ → List ℕ) (b : List ℕ) (c l n : ℕ) (d₀ : List ℕ) (at : ℕ) (d : List ℕ) (p i : ℕ) : Type 0 where
  pub goes : (d' : List ℕ) (r : ℕ) → Put d p (each_pair text b (n - i) (c + i * 4) (l + i * 8)) d' r → Put d₀ at (each_pair text b n c l) d' r

module _ (text : ℕ → ℕ → List ℕ) (b : List ℕ) (c l n : ℕ) (d₀ : List ℕ) (at : ℕ) where
  pub pairs_start : Pairs text b c l n d₀ at d₀ at 0
  pairs_start =
      let en : n - 0 ≡ n = omega arith in
      let ec : c + 0 * 4 ≡ c = omega arith in
      let el : l + 0 * 8 ≡ l = omega arith in
      record { goes = λ d' r w. rw (en, ec, el) at w }

  module _ (d : List ℕ) (p i : ℕ) (g : Pairs text b c l n d₀ at d p i) where
    -- the next pair, and those behind it
    pairs_next : i < n → each_pair text b (n - i) (c + i * 4) (l + i * 8)
        ≡ text (number_at 4 (c + i * 4) b) (number_at 8 (l + i * 8) b) ++ each_pair text b (n - (i + 1)) (c + (i + 1) * 4) (l + (i + 1) * 8)
    unfolding each_pair
    pairs_next h =
        let en : n - i ≡ suc (n - (i + 1)) = omega arith in
        let ec : c + (i + 1) * 4 ≡ c + i * 4 + 4 = omega arith in
        let el : l + (i + 1) * 8 ≡ l + i * 8 + 8 = omega arith in
        rw (en, ec, el) refl

    pub pairs_turn : (x y : ℕ) (d₁ : List ℕ) (p₁ : ℕ) → i < n → x ≡ number_at 4 (c + i * 4) b → y ≡ number_at 8 (l + i * 8) b
        → Put d p (text x y) d₁ p₁ → Pairs text b c l n d₀ at d₁ p₁ (i + 1)
    pairs_turn x y d₁ p₁ h ex ey w =
        let first : Put d p (text (number_at 4 (c + i * 4) b) (number_at 8 (l + i * 8) b)) d₁ p₁ = rw (← ex, ← ey) w in
        record { goes = λ d' r rest. g.goes d' r (rw (pairs_next h) (put_put d p _ d₁ p₁ _ d' r first rest)) }

    pub pairs_end : n ≤ i → Put d₀ at (each_pair text b n c l) d p
    pairs_end z = let none : n - i ≡ 0 = omega arith in g.goes d p (rw none (unfold each_pair in put_nothing d p))

-- ---- the listing's

-- a space and `chance:limit`
abbrev pub quoted_text : ℕ → ℕ → List ℕ
quoted_text c l = space ∷ quoted_limit c l

pub pairs_quoted : (b : List ℕ) (n c l : ℕ) → each_pair quoted_text b n c l ≡ each_spaced (quoted_limits (numbers_in 4 n c b) (numbers_in 8 n l b))
unfolding each_pair each_spaced quoted_limits numbers_in
pairs_quoted b zero c l = refl
pairs_quoted b (suc n) c l = ap (λ (t : List ℕ). quoted_text (number_at 4 c b) (number_at 8 l b) ++ t) (pairs_quoted b n (c + 4) (l + 8))
