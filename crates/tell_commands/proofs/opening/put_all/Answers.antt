use Rattle.std.proofs.Common.{◌∙◌, ◌≤◌, ◌++◌, length, sym, ap, arith, append-nil}
use Rattle.std.specs.Prelude.{min}
use Rattle.tell_commands.proofs.Named.{none_named}
use Rattle.tell_commands.proofs.opening.put_all.Goals as goal

pub returns : goal.returns
returns c =
    let ended : min (length c.args.variables.now) (length c.args.values.now) ≤ c.loop-k.k = omega (arith, c.loop-k-test.false, c.min-count.ensures) in
    sym (append-nil c.loop-k.out.items)
    ∙ (ap (λ t. c.loop-k.out.items ++ t) (sym (none_named c.loop-k.k c.args.variables.now c.args.values.now ended)) ∙ c.loop-k.invariant)
