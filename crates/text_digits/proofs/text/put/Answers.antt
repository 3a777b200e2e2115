-- `text_digits::text::put` meets its contract, by those of the two functions that it calls. Assumes nothing.
use Prim.Native.Nat.{ℕ, ◌+◌}
use mathlib.Core.Path.{◌∙◌, ap}
use lib.Seq.{paste}
use Rattle.text_digits.specs.Text.{room_for}
use Rattle.text_digits.proofs.text.put.Goals as goal

pub returns : goal.returns
unfolding room_for
returns c =
    let args = c.args in
    let room = c.room_for-count.ensures in
    record {
      bytes = c.copy.ensures ∙ ap (paste args.line.now args.place args.text.now) room;
      end = ap (λ (k : ℕ). args.place + k) room;
    }
