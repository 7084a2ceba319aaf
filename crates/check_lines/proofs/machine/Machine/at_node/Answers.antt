use Rattle.std.proofs.Common.{sym, subst}
use Rattle.check_lines.specs.Ledger.{ledger_node, ledger_body}
use Rattle.check_lines.specs.Machine.{game_of}
use Rattle.check_lines.specs.Telling.{NodeTells}
use Rattle.check_lines.proofs.Parts.{arm}
use Rattle.check_lines.proofs.machine.Machine.at_node.Goals as goal

pub returns-in-Prune-clause-tells : goal.returns-in-Prune-clause-tells
returns-in-Prune-clause-tells c =
    let m = c.args.self.now in
    arm (λ l. NodeTells m c.at_body.new.self (λ d. ledger_body (game_of m) d l)) (λ l. NodeTells m c.at_body.new.self (λ d. ledger_node (game_of m) d l)) c.args.line _ c.in-Prune.is (λ h. h) c.at_body.ensures.tells

pub returns-in-Bound-clause-tells : goal.returns-in-Bound-clause-tells
returns-in-Bound-clause-tells c =
    let m = c.args.self.now in
    arm (λ l. NodeTells m c.at_body-in-Bound.new.self (λ d. ledger_body (game_of m) d l)) (λ l. NodeTells m c.at_body-in-Bound.new.self (λ d. ledger_node (game_of m) d l)) c.args.line _ c.in-Bound.is (λ h. h) c.at_body-in-Bound.ensures.tells

pub returns-in-Empty-clause-tells : goal.returns-in-Empty-clause-tells
returns-in-Empty-clause-tells c =
    let m = c.args.self.now in
    arm (λ l. NodeTells m c.at_body-in-Empty.new.self (λ d. ledger_body (game_of m) d l)) (λ l. NodeTells m c.at_body-in-Empty.new.self (λ d. ledger_node (game_of m) d l)) c.args.line _ c.in-Empty.is (λ h. h) c.at_body-in-Empty.ensures.tells

pub returns-in-Barred-clause-tells : goal.returns-in-Barred-clause-tells
returns-in-Barred-clause-tells c =
    let m = c.args.self.now in
    arm (λ l. NodeTells m c.at_body-in-Barred.new.self (λ d. ledger_body (game_of m) d l)) (λ l. NodeTells m c.at_body-in-Barred.new.self (λ d. ledger_node (game_of m) d l)) c.args.line _ c.in-Barred.is (λ h. h) c.at_body-in-Barred.ensures.tells

pub returns-in-Next-clause-tells : goal.returns-in-Next-clause-tells
returns-in-Next-clause-tells c =
    let m = c.args.self.now in
    arm (λ l. NodeTells m c.at_body-in-Next.new.self (λ d. ledger_body (game_of m) d l)) (λ l. NodeTells m c.at_body-in-Next.new.self (λ d. ledger_node (game_of m) d l)) c.args.line _ c.in-Next.is (λ h. h) c.at_body-in-Next.ensures.tells

pub returns-in-Branch-clause-tells : goal.returns-in-Branch-clause-tells
returns-in-Branch-clause-tells c =
    let m = c.args.self.now in
    arm (λ l. NodeTells m c.at_body-in-Branch.new.self (λ d. ledger_body (game_of m) d l)) (λ l. NodeTells m c.at_body-in-Branch.new.self (λ d. ledger_node (game_of m) d l)) c.args.line _ c.in-Branch.is (λ h. h) c.at_body-in-Branch.ensures.tells

pub returns-in-Horizon-clause-tells : goal.returns-in-Horizon-clause-tells
returns-in-Horizon-clause-tells c =
    let m = c.args.self.now in
    subst (λ l. NodeTells m c.horizon_line.new.self (λ d. ledger_node (game_of m) d l)) (sym c.in-Horizon.is) c.horizon_line.ensures.tells

pub returns-in-Dot-clause-tells : goal.returns-in-Dot-clause-tells
returns-in-Dot-clause-tells c =
    let m = c.args.self.now in
    arm (λ l. NodeTells m c.at_body-in-Dot.new.self (λ d. ledger_body (game_of m) d l)) (λ l. NodeTells m c.at_body-in-Dot.new.self (λ d. ledger_node (game_of m) d l)) c.args.line _ c.in-Dot.is (λ h. h) c.at_body-in-Dot.ensures.tells

pub returns-in-Stuck-clause-tells : goal.returns-in-Stuck-clause-tells
returns-in-Stuck-clause-tells c =
    let m = c.args.self.now in
    arm (λ l. NodeTells m c.at_body-in-Stuck.new.self (λ d. ledger_body (game_of m) d l)) (λ l. NodeTells m c.at_body-in-Stuck.new.self (λ d. ledger_node (game_of m) d l)) c.args.line _ c.in-Stuck.is (λ h. h) c.at_body-in-Stuck.ensures.tells

pub returns-in-Goal-clause-tells : goal.returns-in-Goal-clause-tells
returns-in-Goal-clause-tells c =
    let m = c.args.self.now in
    arm (λ l. NodeTells m c.at_body-in-Goal.new.self (λ d. ledger_body (game_of m) d l)) (λ l. NodeTells m c.at_body-in-Goal.new.self (λ d. ledger_node (game_of m) d l)) c.args.line _ c.in-Goal.is (λ h. h) c.at_body-in-Goal.ensures.tells

pub returns-in-Skip-clause-tells : goal.returns-in-Skip-clause-tells
returns-in-Skip-clause-tells c =
    let m = c.args.self.now in
    arm (λ l. NodeTells m c.at_body-in-Skip.new.self (λ d. ledger_body (game_of m) d l)) (λ l. NodeTells m c.at_body-in-Skip.new.self (λ d. ledger_node (game_of m) d l)) c.args.line _ c.in-Skip.is (λ h. h) c.at_body-in-Skip.ensures.tells

pub returns-in-Open-clause-tells : goal.returns-in-Open-clause-tells
returns-in-Open-clause-tells c =
    let m = c.args.self.now in
    arm (λ l. NodeTells m c.at_body-in-Open.new.self (λ d. ledger_body (game_of m) d l)) (λ l. NodeTells m c.at_body-in-Open.new.self (λ d. ledger_node (game_of m) d l)) c.args.line _ c.in-Open.is (λ h. h) c.at_body-in-Open.ensures.tells

pub returns-in-Range-clause-tells : goal.returns-in-Range-clause-tells
returns-in-Range-clause-tells c =
    let m = c.args.self.now in
    arm (λ l. NodeTells m c.at_body-in-Range.new.self (λ d. ledger_body (game_of m) d l)) (λ l. NodeTells m c.at_body-in-Range.new.self (λ d. ledger_node (game_of m) d l)) c.args.line _ c.in-Range.is (λ h. h) c.at_body-in-Range.ensures.tells
