-- `folder_end` meets its contract, by the turns of its loop.
-- Assumes nothing.
use Rattle.std.proofs.Common.{◌≡◌, ◌+◌, ◌-◌, sym, refl, ◌∙◌, arith, length-take-le, ne_eqb}
use Rattle.command_io.specs.Paths.{folder_end}
use Rattle.command_io.proofs.Folders.{folder_here, folder_before, folder_none}
use Rattle.command_io.proofs.path.folder_end.Goals as goal

pub returns-then-path-i-eq47 : goal.returns-then-path-i-eq47
returns-then-path-i-eq47 c =
    let path = c.args.path.now in
    let i = c.loop-i.i in
    let end : i - 1 + 1 ≡ i = omega arith in
    rw end (record {
      value = sym (c.loop-i.invariant ∙ folder_here path i (omega arith) c.if-path-i-eq47.true);
      prefix_len = (omega arith, sym (length-take-le i path (omega arith)));
    })

pub loop-i-init : goal.loop-i-init
unfolding folder_end
loop-i-init c = refl

pub loop-i-preserved : goal.loop-i-preserved
loop-i-preserved c =
    let path = c.args.path.now in
    c.loop-i.invariant ∙ folder_before path c.loop-i.i (omega arith) (ne_eqb _ _ c.if-path-i-eq47.false)

pub returns : goal.returns
returns c =
    let path = c.args.path.now in
    record { value = sym (c.loop-i.invariant ∙ folder_none path c.loop-i.i (omega arith)); prefix_len = (omega arith, refl) }
