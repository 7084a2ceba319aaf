use Rattle.std.proofs.Common.{sym, subst}
use Rattle.check_lines.specs.Ledger.{at_entry, ledger_case}
use Rattle.check_lines.specs.Machine.{game_of}
use Rattle.check_lines.specs.Telling.{PartTells, takes}
use Rattle.check_lines.proofs.Parts.{arm}
use Rattle.check_lines.proofs.machine.Machine.at_case.Goals as goal

pub returns-in-Prune-clause-tells : goal.returns-in-Prune-clause-tells
returns-in-Prune-clause-tells c =
    let m = c.args.self.now in
    arm (λ l. PartTells m c.case_line.new.self (λ d. at_entry d.entries (λ b fs. takes (game_of m) d b fs c.args.upto l)))
    (λ l. PartTells m c.case_line.new.self (λ d. at_entry d.entries (λ b fs. ledger_case (game_of m) d b fs c.args.upto l))) c.args.line _ c.in-Prune.is (λ h. h) c.case_line.ensures.tells

pub returns-in-Bound-clause-tells : goal.returns-in-Bound-clause-tells
returns-in-Bound-clause-tells c =
    let m = c.args.self.now in
    arm (λ l. PartTells m c.case_line-in-Bound.new.self (λ d. at_entry d.entries (λ b fs. takes (game_of m) d b fs c.args.upto l)))
    (λ l. PartTells m c.case_line-in-Bound.new.self (λ d. at_entry d.entries (λ b fs. ledger_case (game_of m) d b fs c.args.upto l))) c.args.line _ c.in-Bound.is (λ h. h) c.case_line-in-Bound.ensures.tells

pub returns-in-Empty-clause-tells : goal.returns-in-Empty-clause-tells
returns-in-Empty-clause-tells c =
    let m = c.args.self.now in
    arm (λ l. PartTells m c.case_line-in-Empty.new.self (λ d. at_entry d.entries (λ b fs. takes (game_of m) d b fs c.args.upto l)))
    (λ l. PartTells m c.case_line-in-Empty.new.self (λ d. at_entry d.entries (λ b fs. ledger_case (game_of m) d b fs c.args.upto l))) c.args.line _ c.in-Empty.is (λ h. h) c.case_line-in-Empty.ensures.tells

pub returns-in-Barred-clause-tells : goal.returns-in-Barred-clause-tells
returns-in-Barred-clause-tells c =
    let m = c.args.self.now in
    arm (λ l. PartTells m c.case_line-in-Barred.new.self (λ d. at_entry d.entries (λ b fs. takes (game_of m) d b fs c.args.upto l)))
    (λ l. PartTells m c.case_line-in-Barred.new.self (λ d. at_entry d.entries (λ b fs. ledger_case (game_of m) d b fs c.args.upto l))) c.args.line _ c.in-Barred.is (λ h. h) c.case_line-in-Barred.ensures.tells

pub returns-in-Next-clause-tells : goal.returns-in-Next-clause-tells
returns-in-Next-clause-tells c =
    let m = c.args.self.now in
    arm (λ l. PartTells m c.case_line-in-Next.new.self (λ d. at_entry d.entries (λ b fs. takes (game_of m) d b fs c.args.upto l)))
    (λ l. PartTells m c.case_line-in-Next.new.self (λ d. at_entry d.entries (λ b fs. ledger_case (game_of m) d b fs c.args.upto l))) c.args.line _ c.in-Next.is (λ h. h) c.case_line-in-Next.ensures.tells

pub returns-in-Branch-clause-tells : goal.returns-in-Branch-clause-tells
returns-in-Branch-clause-tells c =
    let m = c.args.self.now in
    arm (λ l. PartTells m c.case_line-in-Branch.new.self (λ d. at_entry d.entries (λ b fs. takes (game_of m) d b fs c.args.upto l)))
    (λ l. PartTells m c.case_line-in-Branch.new.self (λ d. at_entry d.entries (λ b fs. ledger_case (game_of m) d b fs c.args.upto l))) c.args.line _ c.in-Branch.is (λ h. h) c.case_line-in-Branch.ensures.tells

pub returns-in-Horizon-clause-tells : goal.returns-in-Horizon-clause-tells
returns-in-Horizon-clause-tells c =
    let m = c.args.self.now in
    arm (λ l. PartTells m c.case_line-in-Horizon.new.self (λ d. at_entry d.entries (λ b fs. takes (game_of m) d b fs c.args.upto l)))
    (λ l. PartTells m c.case_line-in-Horizon.new.self (λ d. at_entry d.entries (λ b fs. ledger_case (game_of m) d b fs c.args.upto l))) c.args.line _ c.in-Horizon.is (λ h. h) c.case_line-in-Horizon.ensures.tells

pub returns-in-Dot-clause-tells : goal.returns-in-Dot-clause-tells
returns-in-Dot-clause-tells c =
    let m = c.args.self.now in
    arm (λ l. PartTells m c.case_line-in-Dot.new.self (λ d. at_entry d.entries (λ b fs. takes (game_of m) d b fs c.args.upto l)))
    (λ l. PartTells m c.case_line-in-Dot.new.self (λ d. at_entry d.entries (λ b fs. ledger_case (game_of m) d b fs c.args.upto l))) c.args.line _ c.in-Dot.is (λ h. h) c.case_line-in-Dot.ensures.tells

pub returns-in-Stuck-clause-tells : goal.returns-in-Stuck-clause-tells
returns-in-Stuck-clause-tells c =
    let m = c.args.self.now in
    arm (λ l. PartTells m c.case_line-in-Stuck.new.self (λ d. at_entry d.entries (λ b fs. takes (game_of m) d b fs c.args.upto l)))
    (λ l. PartTells m c.case_line-in-Stuck.new.self (λ d. at_entry d.entries (λ b fs. ledger_case (game_of m) d b fs c.args.upto l))) c.args.line _ c.in-Stuck.is (λ h. h) c.case_line-in-Stuck.ensures.tells

pub returns-in-Goal-clause-tells : goal.returns-in-Goal-clause-tells
returns-in-Goal-clause-tells c =
    let m = c.args.self.now in
    arm (λ l. PartTells m c.case_line-in-Goal.new.self (λ d. at_entry d.entries (λ b fs. takes (game_of m) d b fs c.args.upto l)))
    (λ l. PartTells m c.case_line-in-Goal.new.self (λ d. at_entry d.entries (λ b fs. ledger_case (game_of m) d b fs c.args.upto l))) c.args.line _ c.in-Goal.is (λ h. h) c.case_line-in-Goal.ensures.tells

pub returns-in-Skip-clause-tells : goal.returns-in-Skip-clause-tells
returns-in-Skip-clause-tells c =
    let m = c.args.self.now in
    subst (λ l. PartTells m c.skip_line.new.self (λ d. at_entry d.entries (λ b fs. ledger_case (game_of m) d b fs c.args.upto l))) (sym c.in-Skip.is) c.skip_line.ensures.tells

pub returns-in-Open-clause-tells : goal.returns-in-Open-clause-tells
returns-in-Open-clause-tells c =
    let m = c.args.self.now in
    subst (λ l. PartTells m c.skip_line-in-Open.new.self (λ d. at_entry d.entries (λ b fs. ledger_case (game_of m) d b fs c.args.upto l))) (sym c.in-Open.is) c.skip_line-in-Open.ensures.tells

pub returns-in-Range-clause-tells : goal.returns-in-Range-clause-tells
returns-in-Range-clause-tells c =
    let m = c.args.self.now in
    arm (λ l. PartTells m c.case_line-in-Range.new.self (λ d. at_entry d.entries (λ b fs. takes (game_of m) d b fs c.args.upto l)))
    (λ l. PartTells m c.case_line-in-Range.new.self (λ d. at_entry d.entries (λ b fs. ledger_case (game_of m) d b fs c.args.upto l))) c.args.line _ c.in-Range.is (λ h. h) c.case_line-in-Range.ensures.tells
