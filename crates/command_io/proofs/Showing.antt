-- A text shown a byte at a time: what is put so far and what the rest gives make the whole.
-- Assumes nothing.
use Rattle.std.proofs.Common.{◌≡◌, ℕ, ◌+◌, ◌<◌, List, [], ◌++◌, length, get_or, drop, sym, refl, ap, ◌∙◌, append_assoc, append-nil, add-one, drop-cons}
use lib.Seq.{drop-length}
use Rattle.text_digits.specs.Text.{Put}
use Rattle.text_digits.proofs.Putting.{put_nothing, put_put, put_as}
use Rattle.command_io.specs.Shown.{shown_byte, shown_of}

-- of a line, what is shown of a text up to a place
pub record Showing (line : List ℕ) (place : ℕ) (text after : List ℕ) (at i : ℕ) : Type 0 where
  pub before : List ℕ
  pub bytes : Put line place before after at
  pub same : shown_of text ≡ before ++ shown_of (drop i text)

pub showing_starts : (line : List ℕ) (place : ℕ) (text : List ℕ) → Showing line place text line place 0
showing_starts line place text = record { before = []; bytes = put_nothing line place; same = refl }

pub showing_turn : (line : List ℕ) (place : ℕ) (text after : List ℕ) (at i : ℕ) (next : List ℕ) (end : ℕ)
    → i < length text → Showing line place text after at i → Put after at (shown_byte (get_or text i 0)) next end
    → Showing line place text next end (i + 1)
unfolding shown_of
showing_turn line place text after at i next end h s p =
    let rest : shown_of (drop i text) ≡ shown_byte (get_or text i 0) ++ shown_of (drop (i + 1) text) = rw (drop-cons text i 0 h, add-one) in
    record {
      before = s.before ++ shown_byte (get_or text i 0);
      bytes = put_put line place s.before after at (shown_byte (get_or text i 0)) next end s.bytes p;
      same = s.same ∙ ap (λ (l : List ℕ). s.before ++ l) rest ∙ sym (append_assoc s.before (shown_byte (get_or text i 0)) (shown_of (drop (i + 1) text)));
    }

pub showing_ends : (line : List ℕ) (place : ℕ) (text after : List ℕ) (at i : ℕ) → i ≡ length text → Showing line place text after at i
    → Put line place (shown_of text) after at
unfolding shown_of
showing_ends line place text after at i e s =
    let none : drop i text ≡ [] = ap (λ (k : ℕ). drop k text) e ∙ drop-length text in
    let all : s.before ++ shown_of (drop i text) ≡ s.before = rw none (append-nil s.before) in
    put_as line place s.before (shown_of text) after at (sym (s.same ∙ all)) s.bytes
