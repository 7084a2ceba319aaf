use Rattle.std.proofs.Common.{◌≡◌, ◌∙◌, ◌-◌, sym, subst, suc, arith}
use Rattle.proof_tree.specs.declared.line.Line.TheVariants.{Horizon}
use Rattle.check_lines.specs.declared.open.Due.TheVariants as due
use Rattle.check_lines.specs.Ledger.{ledger_node}
use Rattle.check_lines.specs.Machine.{game_of}
use Rattle.check_lines.specs.Telling.{NodeTells}
use Rattle.check_lines.proofs.AtNodes.{horizon_ready, horizon_tells}
use Rattle.check_lines.proofs.machine.Machine.horizon_line.Goals as goal

pub returns-clause-tells : goal.returns-clause-tells
returns-clause-tells c =
    let m = c.args.self.now in
    let k = c.args.k in
    let back : suc (k - 1) ≡ k = omega arith in
    subst (λ j. NodeTells m (record m { due = due.Prune (k - 1) c.mark-mark.result }) (λ d. ledger_node (game_of m) d (Horizon j))) back
    (horizon_tells m c.requires.node (k - 1) c.mark-mark.result c.mark-mark.ensures (sym c.may_see_to.ensures ∙ c.if-not-may_see_to.false))

pub returns-clause-ready : goal.returns-clause-ready
returns-clause-ready c = horizon_ready c.args.self.now c.requires.node (c.args.k - 1) c.mark-mark.result c.mark-mark.ensures (sym c.may_see_to.ensures ∙ c.if-not-may_see_to.false)
