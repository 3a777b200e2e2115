-- The listing by the reader from before form 2 (document 02, 2026-04): a journal that it reads lists as before, and one in which it meets a
-- form 2 lists as `damaged 2` and the place alone, so that it shows no limit. Assumes nothing.
use mathlib.Core.Path.{◌≡◌, refl}
use Prim.Native.Nat.{ℕ}
use mathlib.Core.List.{List}
use lib.ListN.{length}
use Rattle.limit.specs.Answer.{form_refusal}
use Rattle.journal_spec.specs.Profile.{plain}
use Rattle.journal_spec.specs.Scan.{Placed, standing, damaged, status_of}
use Rattle.journal_spec.specs.Former.{former_contents, StopsAtSample}
use Rattle.journal_spec.proofs.Former.{reads_as_before}
use Rattle.journal_listing.specs.Listing.{record_lines, state_line, listing_by, listing_of}

-- the listing of that reader
abbrev pub former_listing : List ℕ → List ℕ
former_listing bytes = listing_by (length bytes) (former_contents bytes (length bytes))

pub lists_as_before : (bytes : List ℕ) (ps : List Placed) (committed : ℕ)
    → former_contents bytes (length bytes) ≡ standing ps committed → former_listing bytes ≡ listing_of plain bytes
unfolding listing_of
lists_as_before bytes ps committed h = rw (h, reads_as_before bytes (length bytes) ps committed h) refl

pub former_shows_none : (bytes : List ℕ) (s : StopsAtSample bytes (length bytes)) → former_listing bytes ≡ state_line (damaged form_refusal s.place)
unfolding record_lines status_of
former_shows_none bytes s = rw s.refused refl
