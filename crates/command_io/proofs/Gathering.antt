-- Output gathered in a room: the cases of one text, and that no byte is lost or moved: the pieces that are written, and what waits behind them,
-- are the texts in their order. Assumes nothing.
use Rattle.std.proofs.Common.{◌≡◌, ℕ, ◌+◌, ◌≤◌, Bool, true, false, List, [], ◌∷◌, ◌++◌, length, take, sym, refl, ap, ◌∙◌, append_assoc, append-nil, arith, leb-true, Option, Some, None, ◌⊎◌, inl, inr}
use Rattle.std.proofs.lemmas.Option.{none-some}
use lib.Seq.{paste, length-paste, take-paste, take-length}
use Rattle.facts.proofs.Tests.{true_not_false}
use Rattle.std.specs.Bool.{then_some}
use Rattle.text_digits.specs.Text.{room_for, Put}
use Rattle.command_io.specs.Gather.{Gather, fits_behind, placed, gather_of, Gathers, gather_all, in_order}

-- ---- one text: what the code's tests and `put` give

-- what a write of a longer text leads to
pub then_zero : (written : Bool) → (then_some {T = ℕ} written 0 ≡ Some 0) ⊎ (then_some {T = ℕ} written 0 ≡ None)
then_zero true = inl refl
then_zero false = inr refl

-- all of a text that fits is put
whole : (room text : List ℕ) (n : ℕ) → fits_behind room n text ≡ true → room_for room n text ≡ length text
unfolding room_for
whole room text n f = let h = leb-true (n + length text) (length room) f in omega arith

pub gathers_behind : (room text after : List ℕ) (n k : ℕ) → fits_behind room n text ≡ true → Put room n text after k
    → Gathers room n text (Some k) after
unfolding gather_of placed
gathers_behind room text after n k f p =
    let all = whole room text n f in
    record { bytes = rw f (p.bytes ∙ ap (paste room n text) all); end = rw f (p.end ∙ ap (λ (j : ℕ). n + j) all); kept = λ h. refl }

-- a text that has no place behind the others needs a write, whatever it answers
no_place : {fits w : Bool} → fits ≡ false → fits ≡ true → w ≡ true
no_place f h = absurd (true_not_false (sym h ∙ f))

pub gathers_anew : (room text after : List ℕ) (n k : ℕ) → fits_behind room n text ≡ false → fits_behind room 0 text ≡ true → Put room 0 text after k
    → Gathers room n text (Some k) after
unfolding gather_of placed
gathers_anew room text after n k f g p =
    let all = whole room text 0 g in
    record { bytes = rw (f, g) (p.bytes ∙ ap (paste room 0 text) all); end = rw (f, g) (p.end ∙ ap (λ (j : ℕ). 0 + j) all); kept = λ h. refl }

pub gathers_failed : (room text : List ℕ) (n : ℕ) → fits_behind room n text ≡ false → Gathers room n text None room
unfolding gather_of
gathers_failed room text n f = record { bytes = rw f; end = tt; kept = no_place f }

pub gathers_none : (room text : List ℕ) (n : ℕ) (r : Option ℕ) → (r ≡ Some 0) ⊎ (r ≡ None) → fits_behind room n text ≡ false
    → fits_behind room 0 text ≡ false → Gathers room n text r room
unfolding gather_of
gathers_none room text n (Some k) (inl e) f g = let z : k ≡ 0 = cc in record { bytes = rw (f, g); end = rw (f, g) z; kept = λ h. refl }
gathers_none room text n (Some k) (inr e) f g = absurd (none-some k (sym e))
gathers_none room text n None e f g = gathers_failed room text n f

-- ---- the order

-- after a text: the room keeps its size, what waits lies in it, and nothing is lost or moved
pub record Kept (room : List ℕ) (waiting : ℕ) (text : List ℕ) (g : Gather) : Type 0 where
  pub size : length g.room ≡ length room
  pub inside : g.waiting ≤ length g.room
  pub order : in_order g.pieces ++ take g.waiting g.room ≡ take waiting room ++ text

-- the first bytes of a room in which a text is put
put_first : (room text : List ℕ) (n : ℕ) → n ≤ length room → take (n + length text) (paste room n text (length text)) ≡ take n room ++ text
put_first room text n h = take-paste room n text (length text) h (omega arith) ∙ ap (λ (t : List ℕ). take n room ++ t) (take-length text)

put_size : (room text : List ℕ) (n : ℕ) → fits_behind room n text ≡ true → length (paste room n text (length text)) ≡ length room
put_size room text n f = length-paste room n text (length text) (leb-true (n + length text) (length room) f) (omega arith)

put_inside : (room text : List ℕ) (n : ℕ) → fits_behind room n text ≡ true → n + length text ≤ length (paste room n text (length text))
put_inside room text n f = let h = leb-true (n + length text) (length room) f in let s = put_size room text n f in omega arith

kept_behind : (room text : List ℕ) (n : ℕ) → n ≤ length room → fits_behind room n text ≡ true → Kept room n text (placed [] room n text)
unfolding placed in_order
kept_behind room text n h f = record { size = put_size room text n f; inside = put_inside room text n f; order = put_first room text n h }

kept_anew : (room text : List ℕ) (n : ℕ) → fits_behind room 0 text ≡ true → Kept room n text (placed (take n room ∷ []) room 0 text)
unfolding placed in_order
kept_anew room text n f = record {
  size = put_size room text 0 f;
  inside = put_inside room text 0 f;
  order =
      ap (λ (t : List ℕ). t ++ take (0 + length text) (paste room 0 text (length text))) (append-nil (take n room))
      ∙ ap (λ (t : List ℕ). take n room ++ t) (put_first room text 0 (omega arith));
}

kept_none : (room text : List ℕ) (n : ℕ) → Kept room n text (record { pieces = take n room ∷ text ∷ []; room = room; waiting = 0 })
unfolding in_order
kept_none room text n = record {
  size = refl;
  inside = omega arith;
  order = append-nil (take n room ++ (text ++ [])) ∙ ap (λ (t : List ℕ). take n room ++ t) (append-nil text);
}

pub gather_keeps : (room text : List ℕ) (n : ℕ) → n ≤ length room → Kept room n text (gather_of true room n text)
unfolding gather_of
gather_keeps room text n h = behind (fits_behind room n text) refl
  where
    anew : (b : Bool) → fits_behind room 0 text ≡ b → fits_behind room n text ≡ false → Kept room n text (gather_of true room n text)
    anew true g f = rw (f, g) (kept_anew room text n g)
    anew false g f = rw (f, g) (kept_none room text n)

    behind : (b : Bool) → fits_behind room n text ≡ b → Kept room n text (gather_of true room n text)
    behind true f = rw f (kept_behind room text n h f)
    behind false f = anew (fits_behind room 0 text) refl f

in_order_append : (ps qs : List (List ℕ)) → in_order (ps ++ qs) ≡ in_order ps ++ in_order qs
unfolding in_order
in_order_append [] qs = refl
in_order_append (p ∷ ps) qs = ap (λ (t : List ℕ). p ++ t) (in_order_append ps qs) ∙ sym (append_assoc p (in_order ps) (in_order qs))

-- What is written, in pieces, and what waits at the end are what waited first and then the texts, in their order.
pub gathered_whole : (texts : List (List ℕ)) (room : List ℕ) (n : ℕ) → n ≤ length room
    → in_order (gather_all room n texts).pieces ++ take (gather_all room n texts).waiting (gather_all room n texts).room ≡ take n room ++ in_order texts
unfolding gather_all in_order
gathered_whole [] room n h = sym (append-nil (take n room))
gathered_whole (text ∷ texts) room n h =
    let g = gather_of true room n text in
    let k = gather_keeps room text n h in
    let rest = gather_all g.room g.waiting texts in
    ap (λ (t : List ℕ). t ++ take rest.waiting rest.room) (in_order_append g.pieces rest.pieces)
    ∙ append_assoc (in_order g.pieces) (in_order rest.pieces) (take rest.waiting rest.room)
    ∙ ap (λ (t : List ℕ). in_order g.pieces ++ t) (gathered_whole texts g.room g.waiting k.inside)
    ∙ sym (append_assoc (in_order g.pieces) (take g.waiting g.room) (in_order texts))
    ∙ ap (λ (t : List ℕ). t ++ in_order texts) k.order
    ∙ append_assoc (take n room) text (in_order texts)
