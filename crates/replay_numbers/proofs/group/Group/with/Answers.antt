-- `with` meets its contract, field by field. Assumes nothing.
use Rattle.std.proofs.Common.{◌≡◌, max, arith}
use Rattle.std.proofs.lemmas.Bool.Decides.{nat_tests}
use Rattle.replay_numbers.specs.Numbers.{grouped}
use Rattle.replay_numbers.proofs.group.Group.with.Goals as goal

pub returns : goal.returns
unfolding grouped
returns c =
    let greatest : c.max.result ≡ max c.args.self.greatest c.args.distance = grind (arith, nat_tests, c.max.ensures) in
    rw (
      c.one_more.ensures,
      c.one_more_if.ensures,
      greatest,
      c.x_of_greater.ensures,
      c.one_more_if-2.ensures,
      c.ten_thousandths.ensures,
    )
