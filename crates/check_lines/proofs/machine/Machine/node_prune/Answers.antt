use Rattle.std.proofs.Common.{rules}
use Rattle.std.proofs.lemmas.Int.{to_z-of_z}
use mir.Val.{SFits}
use mir.Syntax.{w64}
use Rattle.proof_tree.specs.declared.line.Line.TheVariants.{Prune}
use Rattle.check_lines.specs.Ledger.{ledger_node}
use Rattle.check_lines.specs.Machine.{game_of}
use Rattle.check_lines.specs.Telling.{NodeTells}
use Rattle.check_lines.proofs.machine.Machine.node_prune.Goals as goal

pub returns-clause-tells : goal.returns-clause-tells
returns-clause-tells c =
    let lo_fits : SFits w64 c.args.lo = search rules in
    let hi_fits : SFits w64 c.args.hi = search rules in
    let m = c.args.self.now in
    let tells : NodeTells m c.at_node.new.self (λ d. ledger_node (game_of m) d (Prune c.args.x c.args.lo c.args.hi c.args.c)) = simp to_z-of_z at c.at_node.ensures.tells in
    tells
