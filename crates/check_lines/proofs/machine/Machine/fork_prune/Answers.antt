use Rattle.std.proofs.Common.{rules}
use Rattle.std.proofs.lemmas.Int.{to_z-of_z}
use mir.Val.{SFits}
use mir.Syntax.{w64}
use Rattle.proof_tree.specs.declared.line.Line.TheVariants.{Prune}
use Rattle.check_lines.specs.Ledger.{at_entry, ledger_fork}
use Rattle.check_lines.specs.Machine.{game_of}
use Rattle.check_lines.specs.Telling.{PartTells}
use Rattle.check_lines.proofs.machine.Machine.fork_prune.Goals as goal

pub returns-clause-tells : goal.returns-clause-tells
returns-clause-tells c =
    let lo_fits : SFits w64 c.args.lo = search rules in
    let hi_fits : SFits w64 c.args.hi = search rules in
    let m = c.args.self.now in
    let tells : PartTells m c.at_top.new.self (λ d. at_entry d.entries (λ b fs. ledger_fork (game_of m) d b fs (Prune c.args.x c.args.lo c.args.hi c.args.c))) = simp to_z-of_z at c.at_top.ensures.tells in
    tells
