use Rattle.std.proofs.Common.{sym, subst, None}
use Rattle.check_lines.specs.Ledger.{at_entry, ledger_case, ledger_fork}
use Rattle.check_lines.specs.Machine.{game_of}
use Rattle.check_lines.specs.Telling.{PartTells}
use Rattle.check_lines.proofs.Parts.{arm}
use Rattle.check_lines.proofs.machine.Machine.at_fork.Goals as goal

pub returns-in-Skip-clause-tells : goal.returns-in-Skip-clause-tells
returns-in-Skip-clause-tells c =
    let m = c.args.self.now in
    arm (λ l. PartTells m c.at_case.new.self (λ d. at_entry d.entries (λ b fs. ledger_case (game_of m) d b fs None l)))
    (λ l. PartTells m c.at_case.new.self (λ d. at_entry d.entries (λ b fs. ledger_fork (game_of m) d b fs l))) c.args.line _ c.in-Skip.is (λ h. h) c.at_case.ensures.tells

pub returns-in-Open-clause-tells : goal.returns-in-Open-clause-tells
returns-in-Open-clause-tells c =
    let m = c.args.self.now in
    arm (λ l. PartTells m c.at_case-in-Open.new.self (λ d. at_entry d.entries (λ b fs. ledger_case (game_of m) d b fs None l)))
    (λ l. PartTells m c.at_case-in-Open.new.self (λ d. at_entry d.entries (λ b fs. ledger_fork (game_of m) d b fs l))) c.args.line _ c.in-Open.is (λ h. h) c.at_case-in-Open.ensures.tells

pub returns-in-Prune-clause-tells : goal.returns-in-Prune-clause-tells
returns-in-Prune-clause-tells c =
    let m = c.args.self.now in
    arm (λ l. PartTells m c.at_case-in-Prune.new.self (λ d. at_entry d.entries (λ b fs. ledger_case (game_of m) d b fs None l)))
    (λ l. PartTells m c.at_case-in-Prune.new.self (λ d. at_entry d.entries (λ b fs. ledger_fork (game_of m) d b fs l))) c.args.line _ c.in-Prune.is (λ h. h) c.at_case-in-Prune.ensures.tells

pub returns-in-Bound-clause-tells : goal.returns-in-Bound-clause-tells
returns-in-Bound-clause-tells c =
    let m = c.args.self.now in
    arm (λ l. PartTells m c.at_case-in-Bound.new.self (λ d. at_entry d.entries (λ b fs. ledger_case (game_of m) d b fs None l)))
    (λ l. PartTells m c.at_case-in-Bound.new.self (λ d. at_entry d.entries (λ b fs. ledger_fork (game_of m) d b fs l))) c.args.line _ c.in-Bound.is (λ h. h) c.at_case-in-Bound.ensures.tells

pub returns-in-Empty-clause-tells : goal.returns-in-Empty-clause-tells
returns-in-Empty-clause-tells c =
    let m = c.args.self.now in
    arm (λ l. PartTells m c.at_case-in-Empty.new.self (λ d. at_entry d.entries (λ b fs. ledger_case (game_of m) d b fs None l)))
    (λ l. PartTells m c.at_case-in-Empty.new.self (λ d. at_entry d.entries (λ b fs. ledger_fork (game_of m) d b fs l))) c.args.line _ c.in-Empty.is (λ h. h) c.at_case-in-Empty.ensures.tells

pub returns-in-Barred-clause-tells : goal.returns-in-Barred-clause-tells
returns-in-Barred-clause-tells c =
    let m = c.args.self.now in
    arm (λ l. PartTells m c.at_case-in-Barred.new.self (λ d. at_entry d.entries (λ b fs. ledger_case (game_of m) d b fs None l)))
    (λ l. PartTells m c.at_case-in-Barred.new.self (λ d. at_entry d.entries (λ b fs. ledger_fork (game_of m) d b fs l))) c.args.line _ c.in-Barred.is (λ h. h) c.at_case-in-Barred.ensures.tells

pub returns-in-Next-clause-tells : goal.returns-in-Next-clause-tells
returns-in-Next-clause-tells c =
    let m = c.args.self.now in
    arm (λ l. PartTells m c.at_case-in-Next.new.self (λ d. at_entry d.entries (λ b fs. ledger_case (game_of m) d b fs None l)))
    (λ l. PartTells m c.at_case-in-Next.new.self (λ d. at_entry d.entries (λ b fs. ledger_fork (game_of m) d b fs l))) c.args.line _ c.in-Next.is (λ h. h) c.at_case-in-Next.ensures.tells

pub returns-in-Branch-clause-tells : goal.returns-in-Branch-clause-tells
returns-in-Branch-clause-tells c =
    let m = c.args.self.now in
    arm (λ l. PartTells m c.at_case-in-Branch.new.self (λ d. at_entry d.entries (λ b fs. ledger_case (game_of m) d b fs None l)))
    (λ l. PartTells m c.at_case-in-Branch.new.self (λ d. at_entry d.entries (λ b fs. ledger_fork (game_of m) d b fs l))) c.args.line _ c.in-Branch.is (λ h. h) c.at_case-in-Branch.ensures.tells

pub returns-in-Horizon-clause-tells : goal.returns-in-Horizon-clause-tells
returns-in-Horizon-clause-tells c =
    let m = c.args.self.now in
    arm (λ l. PartTells m c.at_case-in-Horizon.new.self (λ d. at_entry d.entries (λ b fs. ledger_case (game_of m) d b fs None l)))
    (λ l. PartTells m c.at_case-in-Horizon.new.self (λ d. at_entry d.entries (λ b fs. ledger_fork (game_of m) d b fs l))) c.args.line _ c.in-Horizon.is (λ h. h) c.at_case-in-Horizon.ensures.tells

pub returns-in-Stuck-clause-tells : goal.returns-in-Stuck-clause-tells
returns-in-Stuck-clause-tells c =
    let m = c.args.self.now in
    arm (λ l. PartTells m c.at_case-in-Stuck.new.self (λ d. at_entry d.entries (λ b fs. ledger_case (game_of m) d b fs None l)))
    (λ l. PartTells m c.at_case-in-Stuck.new.self (λ d. at_entry d.entries (λ b fs. ledger_fork (game_of m) d b fs l))) c.args.line _ c.in-Stuck.is (λ h. h) c.at_case-in-Stuck.ensures.tells

pub returns-in-Goal-clause-tells : goal.returns-in-Goal-clause-tells
returns-in-Goal-clause-tells c =
    let m = c.args.self.now in
    arm (λ l. PartTells m c.at_case-in-Goal.new.self (λ d. at_entry d.entries (λ b fs. ledger_case (game_of m) d b fs None l)))
    (λ l. PartTells m c.at_case-in-Goal.new.self (λ d. at_entry d.entries (λ b fs. ledger_fork (game_of m) d b fs l))) c.args.line _ c.in-Goal.is (λ h. h) c.at_case-in-Goal.ensures.tells

pub returns-in-Dot-clause-tells : goal.returns-in-Dot-clause-tells
returns-in-Dot-clause-tells c =
    let m = c.args.self.now in
    subst (λ l. PartTells m c.dot_line.new.self (λ d. at_entry d.entries (λ b fs. ledger_fork (game_of m) d b fs l))) (sym c.in-Dot.is) c.dot_line.ensures.tells
