use Rattle.std.proofs.Common.{suc, sym, subst, rules}
use Rattle.std.proofs.lemmas.Int.{to_z-of_z}
use mir.Val.{SFits}
use mir.Syntax.{w64}
use Rattle.check_lines.specs.Ledger.{goes}
use Rattle.check_lines.specs.Machine.{game_of}
use Rattle.check_lines.specs.Telling.{TellsAfter}
use Rattle.check_lines.proofs.machine.Machine.take.Goals as goal

pub returns-in-Dot-clause-tells : goal.returns-in-Dot-clause-tells
returns-in-Dot-clause-tells c = λ n p few h. subst (λ l. TellsAfter (suc n) c.take_dot.new.self (goes (game_of c.args.self.now) p l)) (sym c.in-Dot.is) (c.take_dot.ensures.tells n p few h)

pub returns-in-Skip-clause-tells : goal.returns-in-Skip-clause-tells
returns-in-Skip-clause-tells c = λ n p few h. subst (λ l. TellsAfter (suc n) c.take_skip.new.self (goes (game_of c.args.self.now) p l)) (sym c.in-Skip.is) (c.take_skip.ensures.tells n p few h)

pub returns-in-Next-clause-tells : goal.returns-in-Next-clause-tells
returns-in-Next-clause-tells c = λ n p few h. subst (λ l. TellsAfter (suc n) c.take_next.new.self (goes (game_of c.args.self.now) p l)) (sym c.in-Next.is) (c.take_next.ensures.tells n p few h)

pub returns-in-Goal-clause-tells : goal.returns-in-Goal-clause-tells
returns-in-Goal-clause-tells c = λ n p few h. subst (λ l. TellsAfter (suc n) c.take_goal.new.self (goes (game_of c.args.self.now) p l)) (sym c.in-Goal.is) (c.take_goal.ensures.tells n p few h)

pub returns-in-Empty-clause-tells : goal.returns-in-Empty-clause-tells
returns-in-Empty-clause-tells c = λ n p few h. subst (λ l. TellsAfter (suc n) c.take_empty.new.self (goes (game_of c.args.self.now) p l)) (sym c.in-Empty.is) (c.take_empty.ensures.tells n p few h)

pub returns-in-Barred-clause-tells : goal.returns-in-Barred-clause-tells
returns-in-Barred-clause-tells c = λ n p few h. subst (λ l. TellsAfter (suc n) c.take_barred.new.self (goes (game_of c.args.self.now) p l)) (sym c.in-Barred.is) (c.take_barred.ensures.tells n p few h)

pub returns-in-Branch-clause-tells : goal.returns-in-Branch-clause-tells
returns-in-Branch-clause-tells c = λ n p few h. subst (λ l. TellsAfter (suc n) c.take_branch.new.self (goes (game_of c.args.self.now) p l)) (sym c.in-Branch.is) (c.take_branch.ensures.tells n p few h)

pub returns-in-Prune-clause-tells : goal.returns-in-Prune-clause-tells
returns-in-Prune-clause-tells c = λ n p few h.
    let lo_fits : SFits w64 c.in-Prune.lo = search rules in
    let hi_fits : SFits w64 c.in-Prune.hi = search rules in
    subst (λ l. TellsAfter (suc n) c.take_prune.new.self (goes (game_of c.args.self.now) p l)) (sym c.in-Prune.is) ((simp to_z-of_z at c.take_prune.ensures.tells) n p few h)
