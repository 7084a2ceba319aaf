use Rattle.std.proofs.Common.{Some, rules}
use Rattle.std.proofs.lemmas.Int.{to_z-of_z}
use mir.Val.{SFits}
use mir.Syntax.{w64}
use Rattle.check_lines.specs.Ledger.{at_entry, ledger_case}
use Rattle.check_lines.specs.Machine.{game_of}
use Rattle.check_lines.specs.Telling.{PartTells}
use Rattle.check_lines.proofs.machine.Machine.ranged_line.Goals as goal

pub returns-in-Some-Branch-clause-tells : goal.returns-in-Some-Branch-clause-tells
returns-in-Some-Branch-clause-tells c =
    let high_fits : SFits w64 c.args.high = search rules in
    let m = c.args.self.now in
    let tells : PartTells m c.at_case.new.self (λ d. at_entry d.entries (λ b fs. ledger_case (game_of m) d b fs (Some c.args.high) c.args.line)) = simp to_z-of_z at c.at_case.ensures.tells in
    tells
