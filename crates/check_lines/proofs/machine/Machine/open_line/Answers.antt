use Rattle.std.proofs.Common.{subst, Some, rules}
use Rattle.std.proofs.lemmas.Int.{to_z-of_z}
use mir.Val.{SFits}
use mir.Syntax.{w64}
use Rattle.fd_store.specs.Held.{past_box}
use Rattle.check_lines.specs.Ledger.{at_entry, ledger_case}
use Rattle.check_lines.specs.Machine.{game_of, IsReadyAt}
use Rattle.check_lines.specs.Telling.{TellsAt, PartTells}
use Rattle.check_lines.proofs.Turning.{node_after, prune_after, body_after, part_after, case_after, ranged_after}
use Rattle.check_lines.proofs.machine.Machine.open_line.Goals as goal

pub returns-in-Node-clause-tells : goal.returns-in-Node-clause-tells
returns-in-Node-clause-tells c = λ n p few t.
    let m = c.args.self.now in
    let ready = subst (IsReadyAt m) c.in-Node.is c.requires.ready in
    node_after m c.at_node.new.self c.args.line ready.sound.laws c.at_node.ensures.same c.at_node.ensures.tells n p few (subst (λ u. TellsAt m u p) c.in-Node.is t.tells) t.sizes

pub returns-in-Prune-clause-tells : goal.returns-in-Prune-clause-tells
returns-in-Prune-clause-tells c = λ n p few t.
    let m = c.args.self.now in
    let ready = subst (IsReadyAt m) c.in-Prune.is c.requires.ready in
    prune_after m c.at_prune.new.self c.args.line ready.within.sound.laws c.at_prune.ensures.same c.in-Prune.k (past_box m.remains c.in-Prune.mark.at) c.at_prune.ensures.tells n p few (subst (λ u. TellsAt m u p) c.in-Prune.is t.tells) t.sizes

pub returns-in-Body-clause-tells : goal.returns-in-Body-clause-tells
returns-in-Body-clause-tells c = λ n p few t.
    let m = c.args.self.now in
    let ready = subst (IsReadyAt m) c.in-Body.is c.requires.ready in
    body_after m c.at_body.new.self c.args.line ready.sound.laws c.at_body.ensures.same c.at_body.ensures.tells n p few (subst (λ u. TellsAt m u p) c.in-Body.is t.tells) t.sizes

pub returns-in-Part-clause-tells : goal.returns-in-Part-clause-tells
returns-in-Part-clause-tells c = λ n p few t.
    let m = c.args.self.now in
    let ready = subst (IsReadyAt m) c.in-Part.is c.requires.ready in
    part_after m c.at_end.new.self c.args.line ready.sound.laws c.at_end.ensures.same c.at_end.ensures.tells n p few (subst (λ u. TellsAt m u p) c.in-Part.is t.tells) t.sizes

pub returns-in-Case-clause-tells : goal.returns-in-Case-clause-tells
returns-in-Case-clause-tells c = λ n p few t.
    let m = c.args.self.now in
    let ready = subst (IsReadyAt m) c.in-Case.is c.requires.ready in
    case_after m c.at_top.new.self c.args.line ready.sound.laws c.at_top.ensures.same c.at_top.ensures.tells n p few (subst (λ u. TellsAt m u p) c.in-Case.is t.tells) t.sizes

pub returns-in-Ranged-clause-tells : goal.returns-in-Ranged-clause-tells
returns-in-Ranged-clause-tells c = λ n p few t.
    let high_fits : SFits w64 c.in-Ranged.high = search rules in
    let m = c.args.self.now in
    let ready = subst (IsReadyAt m) c.in-Ranged.is c.requires.ready in
    let tells : PartTells m c.ranged_line.new.self (λ d. at_entry d.entries (λ b fs. ledger_case (game_of m) d b fs (Some c.in-Ranged.high) c.args.line)) = simp to_z-of_z at c.ranged_line.ensures.tells in
    ranged_after m c.ranged_line.new.self c.args.line ready.sound.laws c.ranged_line.ensures.same c.in-Ranged.high tells n p few (subst (λ u. TellsAt m u p) c.in-Ranged.is t.tells) t.sizes
