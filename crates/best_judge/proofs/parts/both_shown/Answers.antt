use Rattle.std.proofs.Common.{subst, List, ℕ}
use Rattle.qc_model.specs.declared.problem.Kind.TheVariants.{Exists, Forall}
use Rattle.best_judge.specs.Parts.{IsShown}
use Rattle.best_judge.proofs.parts.both_shown.Goals as goal

pub returns-then-bytes-many-clause-shown : goal.returns-then-bytes-many-clause-shown
returns-then-bytes-many-clause-shown c = c.in_ok-it.ensures.shown c.args.lost.now

pub returns-clause-shown : goal.returns-clause-shown
returns-clause-shown c =
    c.joined.ensures.shown c.args.won.now c.args.lost.now c.args.bytes.now c.if-bytes-many.false
    (subst (λ (l : List ℕ). IsShown c.args.won.now l Forall c.in_ok-first.first) c.split_at.ensures.front c.in_ok-first.ensures)
    (subst (λ (l : List ℕ). IsShown c.args.lost.now l Exists c.in_ok-second.second) c.split_at.ensures.back c.in_ok-second.ensures)
