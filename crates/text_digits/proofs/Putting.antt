-- Texts put into a line one behind another: two of them are one text put there, also where the room runs out; one that has room is put whole; and
-- a number's digits. Assumes nothing.
use mathlib.Core.Path.{◌≡◌, refl, sym, ap, ◌∙◌}
use Prim.Native.Nat.{ℕ, ◌+◌, ◌-◌, ◌≤◌, min}
use mathlib.Core.List.{List, [], ◌++◌, append_assoc, append-nil}
use native.Mathlib.Omega.{arith}
use native.Mathlib.Nat.{add_assoc, add-zero}
use lib.ListN.{length, take, drop, replicate, length-append}
use lib.Seq.{paste, paste-zero, length-paste, take-paste, drop-paste, drop-drop, take-append-le, take-append-add, take_at, take-length}
use Rattle.facts.proofs.Orders.{by_order}
use Rattle.text_digits.specs.Hex.{places_of, decimal_digits, decimal_of}
use Rattle.text_digits.specs.Text.{room_for, Put}
use Rattle.text_digits.specs.declared.write.Decimal.{Decimal}
use Rattle.text_digits.proofs.Writing.{length_digits}

-- nothing put changes nothing
pub put_nothing : (d : List ℕ) (p : ℕ) → Put d p [] d p
unfolding room_for
put_nothing d p =
    let none : min 0 (length d - p) ≡ 0 = omega arith in
    record { bytes = rw none (paste-zero d p []); end = rw none (sym (add-zero p)) }

-- the first n of one text and then the first m of another, where the first is whole or the other left out
take_both : (s t : List ℕ) (n m : ℕ) → n ≡ length s → take (n + m) (s ++ t) ≡ take n s ++ take m t
take_both s t n m e = rw e (take-append-add s t m ∙ rw take-length refl)

take_first : (s t : List ℕ) (n : ℕ) → n ≤ length s → take (n + 0) (s ++ t) ≡ take n s ++ take 0 t
take_first s t n h = rw (add-zero n, append-nil) (take-append-le n s t h)

paste_paste : (d s t : List ℕ) (p n m : ℕ) → p + n ≤ length d → n ≤ length s → take (n + m) (s ++ t) ≡ take n s ++ take m t
    → paste (paste d p s n) (p + n) t m ≡ paste d p (s ++ t) (n + m)
paste_paste d s t p n m h k e =
    let x : List ℕ = paste d p s n in
    let front : take (p + n) x ≡ take p d ++ take n s = take-paste d p s n (omega arith) k in
    let back : drop (p + n + m) x ≡ drop (p + n + m) d =
    sym (drop-drop m (p + n) x) ∙ ap (drop m) (drop-paste d p s n (omega arith) k) ∙ drop-drop m (p + n) d in
    rw (front, back, e, append_assoc (take p d) (take n s) (take m t), add_assoc p n m) refl

-- what two texts put one behind the other come to
record Joined (d s t : List ℕ) (p n m : ℕ) : Type 0 where
  bytes : paste (paste d p s n) (p + n) t m ≡ paste d p (s ++ t) (min (length (s ++ t)) (length d - p))
  end : p + n + m ≡ p + min (length (s ++ t)) (length d - p)

-- by whether the place is inside the line, and the first text fits
joined : (d s t : List ℕ) (p n m : ℕ) → n ≡ min (length s) (length d - p) → m ≡ min (length t) (length (paste d p s n) - (p + n)) → Joined d s t p n m
joined d s t p n m en em =
    by_order p (length d)
    (λ inside.
    let size : length (paste d p s n) ≡ length d = length-paste d p s n (omega arith) (omega arith) in
    let both : length (s ++ t) ≡ length s + length t = length-append s t in
    let all : min (length (s ++ t)) (length d - p) ≡ n + m = omega arith in
    record {
      bytes = rw all (paste_paste d s t p n m (omega arith) (omega arith)
          (by_order (length s) (length d - p)
          (λ fits. take_both s t n m (omega arith))
          (λ short. let none : m ≡ 0 = omega arith in rw none (take_first s t n (omega arith)))));
      end = rw all (add_assoc p n m);
    })
    (λ beyond.
    let zn : n ≡ 0 = omega arith in
    let same : paste d p s n ≡ d = rw zn (sym (paste-zero d p s)) in
    let size : length (paste d p s n) ≡ length d = ap length same in
    let zm : m ≡ 0 = omega arith in
    let all : min (length (s ++ t)) (length d - p) ≡ 0 = omega arith in
    record {
      bytes = rw (all, same, zm) (sym (paste-zero d (p + n) t) ∙ paste-zero d p (s ++ t));
      end = omega arith;
    })

pub put_put : (d : List ℕ) (p : ℕ) (s : List ℕ) (d₁ : List ℕ) (q : ℕ) (t d₂ : List ℕ) (r : ℕ)
    → Put d p s d₁ q → Put d₁ q t d₂ r → Put d p (s ++ t) d₂ r
unfolding room_for
put_put d p s d₁ q t d₂ r first second =
    let n : ℕ = min (length s) (length d - p) in
    let e : d₁ ≡ paste d p s n = first.bytes in
    let f : q ≡ p + n = first.end in
    let m : ℕ = min (length t) (length (paste d p s n) - (p + n)) in
    let j = joined d s t p n m refl refl in
    record { bytes = rw (e, f) at second.bytes ∙ j.bytes; end = rw (e, f) at second.end ∙ j.end }

-- the same text under another name
pub put_as : (d : List ℕ) (p : ℕ) (s t d₁ : List ℕ) (q : ℕ) → s ≡ t → Put d p s d₁ q → Put d p t d₁ q
put_as d p s t d₁ q e h = rw (← e) h

-- a text that has room is put whole: the line up to the place, the text, and the line behind it
pub record Whole (d : List ℕ) (p : ℕ) (s d₁ : List ℕ) (q : ℕ) : Type 0 where
  pub bytes : d₁ ≡ take p d ++ (s ++ drop (p + length s) d)
  pub end : q ≡ p + length s
  pub size : length d₁ ≡ length d

pub put_whole : (d : List ℕ) (p : ℕ) (s d₁ : List ℕ) (q : ℕ) → Put d p s d₁ q → p + length s ≤ length d → Whole d p s d₁ q
unfolding room_for
put_whole d p s d₁ q w h =
    let n : ℕ = length s in
    let room : min n (length d - p) ≡ n = omega arith in
    let all : d₁ ≡ paste d p s n = w.bytes ∙ ap (paste d p s) room in
    let t : take n s ≡ s = take-length s in
    record {
      bytes = all ∙ rw t (append_assoc (take p d) s (drop (p + n) d));
      end = w.end ∙ ap (λ (k : ℕ). p + k) room;
      size = ap length all ∙ length-paste d p s n h (omega arith);
    }

-- the digits that stand at the front of a decimal's array
pub decimal_text : (n : ℕ) (d : Decimal) → d ≡ decimal_of n → take d.count d.digits ≡ decimal_digits n
unfolding decimal_of decimal_digits
decimal_text n d e = rw e (take_at (decimal_digits n) (drop (places_of n) (replicate 20 0)) (places_of n) (length_digits 10 (places_of n) n))
