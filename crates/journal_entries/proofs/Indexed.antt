-- An index that stands at its buffer's front, entry by entry: its count, that its entries stand, their names, and where each record starts.
-- Assumes nothing.
use mathlib.Core.Path.{◌≡◌, refl, sym, ap, ◌∙◌}
use Prim.Native.Nat.{ℕ, ◌+◌, ◌^◌, ◌≤◌, ◌<◌}
use mathlib.Core.List.{List, [], ◌∷◌, ◌++◌, append_assoc, map}
use mathlib.Core.Bool.{true}
use native.Mathlib.Omega.{arith}
use lib.ListN.{length, take, drop, length-append, length-drop, take-append-drop}
use lib.Seq.{take_at, drop_at, drop-drop}
use Rattle.journal_spec.specs.Bytes.{bytes_of, value_of, number_at, joined}
use Rattle.journal_spec.specs.Section.{number_bytes, section_bytes}
use Rattle.journal_spec.specs.Index.{IndexEntry, entry_bytes, index_bytes, in_front}
use Rattle.journal_spec.proofs.Each.{same_lists}
use Rattle.journal_spec.proofs.Numbers.{length_bytes, value_bytes}
use Rattle.journal_entries.specs.Entries.{name_at, behind_entry}

-- what an entry's bytes can hold
pub record Fits (e : IndexEntry) : Type 0 where
  pub count : length e.name < 256 ^ 2
  pub bytes : number_bytes 1 e.name ≡ e.name
  pub start : e.start < 256 ^ 4

abbrev pub AllFit : List IndexEntry → Type 0
AllFit [] = Unit {0}
AllFit (e ∷ es) = Fits e × AllFit es

-- the entries es stand from the place `at` on, other bytes behind them
pub record Entries (b : List ℕ) (at : ℕ) (es : List IndexEntry) : Type 0 where
  pub inside : at ≤ length b
  pub rest : List ℕ
  pub bytes : drop at b ≡ joined (map entry_bytes es) ++ rest
  pub fits : AllFit es

-- the entry: its count, its name, its start, and those behind it
pub record EntryRead (b : List ℕ) (at : ℕ) (e : IndexEntry) (es : List IndexEntry) : Type 0 where
  pub count : number_at 2 at b ≡ length e.name
  pub name : name_at b at ≡ e.name
  pub start : number_at 4 (at + 2 + length e.name) b ≡ e.start
  pub next : Entries b (behind_entry b at) es

pub entry_read : (b : List ℕ) (at : ℕ) (e : IndexEntry) (es : List IndexEntry) → Entries b at (e ∷ es) → EntryRead b at e es
unfolding entry_bytes section_bytes joined number_at name_at behind_entry
entry_read b at e es c =
    let f = c.fits.0 in
    let name : List ℕ = e.name in
    let n : ℕ = length name in
    let tail : List ℕ = joined (map entry_bytes es) ++ c.rest in
    let d₀ : drop at b ≡ bytes_of 2 n ++ (name ++ (bytes_of 4 e.start ++ tail)) =
    c.bytes
    ∙ ap (λ (l : List ℕ). (((bytes_of 2 n ++ l) ++ bytes_of 4 e.start) ++ joined (map entry_bytes es)) ++ c.rest) f.bytes
    ∙ append_assoc ((bytes_of 2 n ++ name) ++ bytes_of 4 e.start) (joined (map entry_bytes es)) c.rest
    ∙ append_assoc (bytes_of 2 n ++ name) (bytes_of 4 e.start) tail
    ∙ append_assoc (bytes_of 2 n) name (bytes_of 4 e.start ++ tail) in
    let d₁ : drop (at + 2) b ≡ name ++ (bytes_of 4 e.start ++ tail) =
    sym (drop-drop 2 at b) ∙ ap (drop 2) d₀ ∙ drop_at (bytes_of 2 n) (name ++ (bytes_of 4 e.start ++ tail)) 2 (length_bytes 2 n) in
    let d₂ : drop (at + 2 + n) b ≡ bytes_of 4 e.start ++ tail =
    sym (drop-drop n (at + 2) b) ∙ ap (drop n) d₁ ∙ drop_at name (bytes_of 4 e.start ++ tail) n refl in
    let k : value_of (take 2 (drop at b)) ≡ n =
    ap (λ (l : List ℕ). value_of (take 2 l)) d₀
    ∙ ap value_of (take_at (bytes_of 2 n) (name ++ (bytes_of 4 e.start ++ tail)) 2 (length_bytes 2 n)) ∙ value_bytes 2 n f.count in
    let all : length b ≡ at + (2 + (n + (4 + length tail))) =
    omega (
      arith,
      c.inside,
      sym (length-drop at b) ∙ ap length d₀,
      length-append (bytes_of 2 n) (name ++ (bytes_of 4 e.start ++ tail)),
      length_bytes 2 n,
      length-append name (bytes_of 4 e.start ++ tail),
      length-append (bytes_of 4 e.start) tail,
      length_bytes 4 e.start,
    ) in
    let p : at + value_of (take 2 (drop at b)) + 6 ≡ at + 2 + n + 4 = omega (arith, k) in
    record {
      count = k;
      name = ap (λ (m : ℕ). take m (drop (at + 2) b)) k ∙ ap (take n) d₁ ∙ take_at name (bytes_of 4 e.start ++ tail) n refl;
      start = ap (λ (l : List ℕ). value_of (take 4 l)) d₂
          ∙ ap value_of (take_at (bytes_of 4 e.start) tail 4 (length_bytes 4 e.start)) ∙ value_bytes 4 e.start f.start;
      next = record {
        inside = omega (arith, p, all);
        rest = c.rest;
        bytes = ap (λ (m : ℕ). drop m b) p ∙ sym (drop-drop 4 (at + 2 + n) b) ∙ ap (drop 4) d₂
            ∙ drop_at (bytes_of 4 e.start) tail 4 (length_bytes 4 e.start);
        fits = c.fits.1;
      };
    }

-- ---- the front

pub record IndexHere (b : List ℕ) (es : List IndexEntry) : Type 0 where
  pub count : number_at 2 0 b ≡ length es
  pub entries : Entries b 2 es

pub index_here : (b : List ℕ) (es : List IndexEntry) → in_front (index_bytes es) b ≡ true → length es < 256 ^ 2 → AllFit es → IndexHere b es
unfolding in_front index_bytes number_at
index_here b es h few fits =
    let n : ℕ = length (bytes_of 2 (length es) ++ joined (map entry_bytes es)) in
    let rest : List ℕ = drop n b in
    let e : b ≡ bytes_of 2 (length es) ++ (joined (map entry_bytes es) ++ rest) =
    sym (take-append-drop n b)
    ∙ ap (λ (l : List ℕ). l ++ rest) (same_lists (take n b) (bytes_of 2 (length es) ++ joined (map entry_bytes es)) h)
    ∙ append_assoc (bytes_of 2 (length es)) (joined (map entry_bytes es)) rest in
    record {
      count = ap (λ (l : List ℕ). value_of (take 2 (drop 0 l))) e
          ∙ ap value_of (take_at (bytes_of 2 (length es)) (joined (map entry_bytes es) ++ rest) 2 (length_bytes 2 (length es)))
          ∙ value_bytes 2 (length es) few;
      entries = record {
        inside = omega (arith, ap length e, length-append (bytes_of 2 (length es)) (joined (map entry_bytes es) ++ rest), length_bytes 2 (length es));
        rest = rest;
        bytes = ap (drop 2) e ∙ drop_at (bytes_of 2 (length es)) (joined (map entry_bytes es) ++ rest) 2 (length_bytes 2 (length es));
        fits = fits;
      };
    }
