-- Numbers stored one behind another: one more where there is room, and where there is none; and the turns of reading.
-- Assumes nothing.
use Rattle.std.proofs.Common.{◌≡◌, ℕ, suc, ◌+◌, ◌-◌, ◌<◌, ◌≤◌, min, Bool, true, false, cond, List, [], ◌∷◌, ◌++◌, length, set, sym, refl, ap, ◌∙◌, append-nil, arith, length-append, Some, None, Ok, Err}
use lib.Seq.{paste, paste-zero, paste-suc, length-paste, take-append-le, get_or-append_seam}
use Rattle.text_digits.specs.Text.{room_for, Put}
use Rattle.command_io.specs.Arguments.{is_space, digit_after}
use Rattle.command_io.specs.Numbers.{Read, Reads, Stores, count_of, closed_by, closed_of, turn_of, unread}
use Rattle.command_io.specs.declared.numbers.Reading.{Reading}

-- as many numbers as stand already, of these and more, are the same
paste_longer : (d ns ms : List ℕ) (k : ℕ) → k ≤ length ns → paste d 0 (ns ++ ms) k ≡ paste d 0 ns k
paste_longer d ns ms k h = rw (take-append-le k ns ms h)

-- one number more, where there is room
pub put_room : (d ns e : List ℕ) (k n : ℕ) → Put d 0 ns e k → k < length e → Put d 0 (ns ++ (n ∷ [])) (set e k n) (k + 1)
unfolding room_for
put_room d ns e k n p h =
    let m : ℕ = min (length ns) (length d - 0) in
    let size : length e ≡ length d = ap length p.bytes ∙ length-paste d 0 ns m (omega arith) (omega arith) in
    let j : ℕ = length ns in
    let place : k ≡ 0 + j = omega (arith, p.end) in
    let all : m ≡ j = omega (arith, p.end) in
    let longer : length (ns ++ (n ∷ [])) ≡ j + 1 = length-append ns (n ∷ []) in
    let whole : min (length (ns ++ (n ∷ []))) (length d - 0) ≡ suc j = omega arith in
    let stands : e ≡ paste d 0 (ns ++ (n ∷ [])) j = p.bytes ∙ ap (paste d 0 ns) all ∙ sym (paste_longer d ns (n ∷ []) j (omega arith)) in
    let step = paste-suc d 0 (ns ++ (n ∷ [])) j 0 (omega arith) (omega arith) in
    record {
      bytes =
          ap (λ (x : List ℕ). set x k n) stands
          ∙ ap (λ (q : ℕ). set (paste d 0 (ns ++ (n ∷ [])) j) q n) place
          ∙ ap (set (paste d 0 (ns ++ (n ∷ [])) j) (0 + j)) (sym (get_or-append_seam ns n [] 0))
          ∙ step
          ∙ ap (paste d 0 (ns ++ (n ∷ []))) (sym whole);
      end = omega (arith, place, whole);
    }

-- one number more, where there is none
pub put_full : (d ns e : List ℕ) (k n : ℕ) → Put d 0 ns e k → length e ≤ k → Put d 0 (ns ++ (n ∷ [])) e k
unfolding room_for
put_full d ns e k n p h =
    let m : ℕ = min (length ns) (length d - 0) in
    let size : length e ≡ length d = ap length p.bytes ∙ length-paste d 0 ns m (omega arith) (omega arith) in
    let longer : length (ns ++ (n ∷ [])) ≡ length ns + 1 = length-append ns (n ∷ []) in
    let same : m ≡ min (length (ns ++ (n ∷ []))) (length d - 0) = omega (arith, p.end) in
    record {
      bytes = p.bytes ∙ sym (paste_longer d ns (n ∷ []) m (omega arith)) ∙ ap (paste d 0 (ns ++ (n ∷ []))) same;
      end = p.end ∙ ap (λ (q : ℕ). 0 + q) same;
    }

-- one more, if it is wanted
pub put_wanted : (d ns e : List ℕ) (k n : ℕ) (wanted : Bool) → wanted ≡ true → Put d 0 (ns ++ (n ∷ [])) e k
    → Put d 0 (ns ++ cond wanted (n ∷ []) []) e k
put_wanted d ns e k n wanted w p = rw w p

-- none more
pub put_none : (d ns e : List ℕ) (k n : ℕ) (wanted : Bool) → wanted ≡ false → Put d 0 ns e k
    → Put d 0 (ns ++ cond wanted (n ∷ []) []) e k
put_none d ns e k n wanted w p = rw (w, append-nil ns) p

-- what is put into a line from its start on ends inside it
pub put_inside : (d text e : List ℕ) (k : ℕ) → Put d 0 text e k → k ≤ length e
unfolding room_for
put_inside d text e k p =
    let m : ℕ = min (length text) (length d - 0) in
    let size : length e ≡ length d = ap length p.bytes ∙ length-paste d 0 text m (omega arith) (omega arith) in
    omega (arith, p.end)

-- ---- reading

-- before the first byte nothing is stored
pub reads_unread : (d : List ℕ) → Reads d unread (record { count = 0; inside = false; pending = Some 0 }) d
unfolding unread room_for
reads_unread d = record {
  stored = let none : min 0 (length d - 0) ≡ 0 = omega arith in record { bytes = rw none (paste-zero d 0 []); end = rw none };
  inside = refl;
  pending = refl;
}

-- a word's end
pub closed_value : (d : List ℕ) (a : Read) (inside : Bool) (n k : ℕ) (e : List ℕ) → inside ≡ a.inside → a.pending ≡ Some n
    → Put d 0 (a.numbers ++ cond inside (n ∷ []) []) e k
    → Reads d (closed_of a) (record { count = k; inside = false; pending = Some 0 }) e
unfolding closed_of closed_by
closed_value d a inside n k e i v p = rw v (record { stored = rw (← i) p; inside = refl; pending = refl })

pub closed_nothing : (d : List ℕ) (a : Read) (inside : Bool) (k : ℕ) (e : List ℕ) → inside ≡ a.inside → a.pending ≡ None
    → Put d 0 a.numbers e k → Reads d (closed_of a) (record { count = k; inside = inside; pending = None }) e
unfolding closed_of closed_by
closed_nothing d a inside k e i v p = rw v (record { stored = p; inside = i; pending = refl })

-- a reading that has ended: all words are numbers, or one is none
pub stores_all : (d : List ℕ) (a : Read) (s : Reading) (n : ℕ) (e : List ℕ) → s.pending ≡ Some n → Reads d a s e → Stores d a (Ok s.count) e
unfolding count_of
stores_all d a s n e v r = record { stored = r.stored; whole = rw (← r.pending, v) refl }

pub stores_before : (d : List ℕ) (a : Read) (s : Reading) (e : List ℕ) → s.pending ≡ None → Reads d a s e
    → Stores d a (Err (record { before = s.count })) e
unfolding count_of
stores_before d a s e v r = record { stored = r.stored; whole = rw (← r.pending, v) refl }

-- one byte more
pub turn_space : (most : ℕ) (a : Read) (c : ℕ) → is_space c ≡ true → turn_of most a c ≡ closed_of a
unfolding turn_of
turn_space most a c e = rw e

pub turn_other : (most : ℕ) (a : Read) (c : ℕ) → is_space c ≡ false
    → turn_of most a c ≡ record { numbers = a.numbers; inside = true; pending = digit_after most a.inside a.pending c }
unfolding turn_of
turn_other most a c e = rw e
