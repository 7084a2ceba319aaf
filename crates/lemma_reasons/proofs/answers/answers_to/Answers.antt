use Rattle.std.proofs.Common.{◌∙◌, ◌+◌, ap, add-one}
use Rattle.std.specs.Prelude.{max}
use Rattle.qc_model.specs.declared.problem.Kind.{Kind}
use Rattle.qc_model.specs.Counter.{opposite}
use Rattle.lemma_list.specs.Places.{place}
use Rattle.lemma_reasons.specs.Answering.{answered_by}
use Rattle.lemma_reasons.specs.declared.answers.Answers.TheVariants.{From}
use Rattle.lemma_reasons.proofs.Answering.{nobody, those_after}
use Rattle.lemma_reasons.proofs.answers.answers_to.Goals as goal

pub returns-in-None : goal.returns-in-None
returns-in-None c = nobody c.args.aim.now.problem.now c.args.aim.now.lemma.now c.args.x.0 c.in-None.ensures

pub returns-in-Some : goal.returns-in-Some
returns-in-Some c =
    let a = c.args.aim.now in
    let g = a.problem.now in
    let v = c.in-Some.variable.now in
    let n = c.max.result in
    let side = c.opponent_of.ensures ∙ ap opposite c.loser.ensures in
    let later = c.max.ensures ∙ (ap (λ p. max p (v.scope.0 + 1)) a.has_place ∙ ap (max (place g a.lemma.now)) (add-one v.scope.0)) in
    ap (λ (k : Kind). answered_by g (From k n)) side ∙ those_after g a.lemma.now c.args.x.0 n v c.in-Some.ensures later
