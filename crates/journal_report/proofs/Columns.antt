-- Texts that have room, the parts of a column, and what the loop that puts spaces keeps. Assumes nothing.
use mathlib.Core.Path.{◌≡◌, refl, ap, ◌∙◌}
use Prim.Native.Nat.{ℕ, suc, ◌+◌, ◌-◌, ◌≤◌, ◌<◌, min}
use mathlib.Core.List.{List, [], ◌∷◌, ◌++◌}
use native.Mathlib.Omega.{arith}
use mathlib.Core.Bool.{Bool, true, false}
use lib.ListN.{length, take, replicate, length-take}
use lib.Seq.{paste, length-paste, take-paste, take-length}
use Rattle.text_digits.specs.Text.{room_for, Put}
use Rattle.text_digits.proofs.Putting.{put_nothing, put_put}
use Rattle.journal_spec.specs.Log.{space}
use Rattle.journal_report.specs.Slot.{gap, fill, column}

-- a text that has room at the front of a line stands there
pub put_whole : (d s d₁ : List ℕ) (n : ℕ) → length s ≤ length d → Put d 0 s d₁ n → take n d₁ ≡ s
unfolding room_for
put_whole d s d₁ n h w =
    let all : min (length s) (length d - 0) ≡ length s = omega arith in
    let bytes : d₁ ≡ paste d 0 s (length s) = w.bytes ∙ ap (paste d 0 s) all in
    let end : n ≡ 0 + length s = w.end ∙ ap (λ (k : ℕ). 0 + k) all in
    rw (bytes, end) (take-paste d 0 s (length s) (omega arith) (omega arith) ∙ rw take-length refl)

-- and the place behind it is inside the line
pub put_inside : (d s d₁ : List ℕ) (n : ℕ) → Put d 0 s d₁ n → n ≤ length d₁
unfolding room_for
put_inside d s d₁ n w =
    let m : ℕ = min (length s) (length d - 0) in
    let size : length d₁ ≡ length d = ap length w.bytes ∙ length-paste d 0 s m (omega arith) (omega arith) in
    omega (arith, size, w.end)

pub taken_length : (n : ℕ) (xs : List ℕ) → n ≤ length xs → n ≡ length (take n xs)
taken_length n xs h = rw length-take (omega arith)

-- a column's parts
pub fill_none : (tabs : Bool) (width size : ℕ) → tabs ≡ true → [] ≡ fill tabs width size
unfolding fill
fill_none tabs width size e = rw e refl

pub fill_spaces : (tabs : Bool) (width size n : ℕ) → tabs ≡ false → n ≡ width - size → replicate n space ≡ fill tabs width size
unfolding fill
fill_spaces tabs width size n e f = rw (e, f) refl

pub column_parts : (tabs : Bool) (width : ℕ) (text : List ℕ) → ((gap tabs ∷ []) ++ fill tabs width (length text)) ++ text ≡ column tabs width text
unfolding column
column_parts tabs width text = refl

-- of n spaces i are put, and the others are still to be put into d at p
pub record Spaces (n : ℕ) (d₀ : List ℕ) (at : ℕ) (d : List ℕ) (p i : ℕ) : Type 0 where
  pub goes : (d' : List ℕ) (r : ℕ) → Put d p (replicate (n - i) space) d' r → Put d₀ at (replicate n space) d' r

module _ (n : ℕ) (d₀ : List ℕ) (at : ℕ) where
  pub spaces_start : Spaces n d₀ at d₀ at 0
  spaces_start = let all : n - 0 ≡ n = omega arith in record { goes = λ d' r w. rw all at w }

  module _ (d : List ℕ) (p i : ℕ) (g : Spaces n d₀ at d p i) where
    pub spaces_turn : (d₁ : List ℕ) (p₁ : ℕ) → i < n → Put d p (space ∷ []) d₁ p₁ → Spaces n d₀ at d₁ p₁ (i + 1)
    spaces_turn d₁ p₁ h w =
        let next : n - i ≡ suc (n - (i + 1)) = omega arith in
        record { goes = λ d' r rest. g.goes d' r (rw next (put_put d p (space ∷ []) d₁ p₁ (replicate (n - (i + 1)) space) d' r w rest)) }

    pub spaces_end : n ≤ i → Put d₀ at (replicate n space) d p
    spaces_end h = let none : n - i ≡ 0 = omega arith in g.goes d p (rw none (put_nothing d p))
