-- `make_standing` goes by what the journal holds. Assumes nothing.
use mathlib.Core.Path.{sym}
use native.Mathlib.Omega.{arith}
use lib.Seq.{length-take-le}
use Rattle.journal_spec.proofs.Numbers.{are_bytes}
use Rattle.journal_index.proofs.Answered.{upto, made_standing, made_damaged}
use Rattle.journal_index.proofs.make.make_standing.Goals as goal

pub slice_bounds-make_whole-end : goal.slice_bounds-make_whole-end
slice_bounds-make_whole-end c =
    let v = c.args.v.now in
    let u = upto v _ c.args.x c.requires (are_bytes v (λ i. omega (arith, c.type_inv.v i))) _ c.in-Ok.is in
    sym (length-take-le _ _ u.fits)

pub make_whole-requires : goal.make_whole-requires
make_whole-requires c =
    let v = c.args.v.now in (upto v _ c.args.x c.requires (are_bytes v (λ i. omega (arith, c.type_inv.v i))) _ c.in-Ok.is).whole

pub returns-in-Ok : goal.returns-in-Ok
returns-in-Ok c =
    let v = c.args.v.now in
    made_standing v _ c.args.x c.requires (are_bytes v (λ i. omega (arith, c.type_inv.v i))) _ c.in-Ok.is _ _ c.make_whole.ensures

pub returns-in-Err : goal.returns-in-Err
returns-in-Err c = made_damaged _ _ c.args.x c.requires _ c.in-Err.is _
