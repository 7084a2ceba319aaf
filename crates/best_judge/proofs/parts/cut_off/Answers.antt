use Rattle.std.proofs.Common.{subst, refl}
use Rattle.qc_model.specs.declared.problem.Kind.TheVariants.{Forall}
use Rattle.best_judge.specs.Parts.{IsShown}
use Rattle.best_judge.proofs.Lists.{short_list, text_of}
use Rattle.best_judge.proofs.parts.cut_off.Goals as goal

pub returns-in-Proved-clause-shown : goal.returns-in-Proved-clause-shown
returns-in-Proved-clause-shown c = λ lost. short_list c.args.many _ c.args.bytes.now c.requires.short (text_of c.args.won.now c.args.bytes.now Forall (subst (IsShown c.args.won.now c.args.bytes.now Forall) c.in-Proved.is c.in_ok-judge_part.ensures)) refl
