use Rattle.std.proofs.Common.{◌≡◌, ◌++◌, OnOk, subst}
use Rattle.qc_play.specs.Sides.{kind_of, choices_of}
use Rattle.tell_commands.proofs.Opened.{opened}
use Rattle.tell_commands.proofs.opening.put_opening.Goals as goal

pub returns : goal.returns
returns c =
    subst (λ t. OnOk c.put_by.result (c.put_by.new.out.items ≡ c.args.out.now.items ++ t))
    (opened c.args.problem.now (kind_of c.args.side) c.scope.result.now c.variables_of.result.now (choices_of c.args.side) c.scope.ensures c.variables_of.ensures)
    c.put_by.ensures
