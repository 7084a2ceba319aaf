use Rattle.std.proofs.Common.{sym, subst, rules}
use Rattle.std.proofs.lemmas.Int.{to_z-of_z}
use mir.Val.{SFits}
use mir.Syntax.{w64}
use Rattle.check_lines.specs.Ledger.{ledger_end}
use Rattle.check_lines.specs.Machine.{game_of}
use Rattle.check_lines.specs.Telling.{PartTells}
use Rattle.check_lines.proofs.machine.Machine.at_end.Goals as goal

pub returns-in-Prune-clause-tells : goal.returns-in-Prune-clause-tells
returns-in-Prune-clause-tells c =
    let m = c.args.self.now in
    let lo_fits : SFits w64 c.in-Prune.lo = search rules in
    let hi_fits : SFits w64 c.in-Prune.hi = search rules in
    subst (λ l. PartTells m c.prune_line.new.self (λ d. ledger_end (game_of m) d l)) (sym c.in-Prune.is) (simp to_z-of_z at c.prune_line.ensures.tells)

pub returns-in-Bound-clause-tells : goal.returns-in-Bound-clause-tells
returns-in-Bound-clause-tells c =
    let m = c.args.self.now in
    let lo_fits : SFits w64 c.in-Bound.lo = search rules in
    let hi_fits : SFits w64 c.in-Bound.hi = search rules in
    subst (λ l. PartTells m c.bound_line.new.self (λ d. ledger_end (game_of m) d l)) (sym c.in-Bound.is) (simp to_z-of_z at c.bound_line.ensures.tells)

pub returns-in-Empty-clause-tells : goal.returns-in-Empty-clause-tells
returns-in-Empty-clause-tells c =
    let m = c.args.self.now in
    subst (λ l. PartTells m c.empty_line.new.self (λ d. ledger_end (game_of m) d l)) (sym c.in-Empty.is) c.empty_line.ensures.tells

pub returns-in-Barred-clause-tells : goal.returns-in-Barred-clause-tells
returns-in-Barred-clause-tells c =
    let m = c.args.self.now in
    subst (λ l. PartTells m c.barred_line.new.self (λ d. ledger_end (game_of m) d l)) (sym c.in-Barred.is) c.barred_line.ensures.tells

pub returns-in-Next-clause-tells : goal.returns-in-Next-clause-tells
returns-in-Next-clause-tells c =
    let m = c.args.self.now in
    subst (λ l. PartTells m c.next_line.new.self (λ d. ledger_end (game_of m) d l)) (sym c.in-Next.is) c.next_line.ensures.tells

pub returns-in-Branch-clause-tells : goal.returns-in-Branch-clause-tells
returns-in-Branch-clause-tells c =
    let m = c.args.self.now in
    subst (λ l. PartTells m c.branch_line.new.self (λ d. ledger_end (game_of m) d l)) (sym c.in-Branch.is) c.branch_line.ensures.tells
