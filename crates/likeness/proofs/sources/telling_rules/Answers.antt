use Rattle.std.proofs.Common.{◌∙◌, ◌<◌, ◌++◌, ap, map, subst, List, ◌∷◌, []}
use Rattle.std.specs.Prelude.{cond, filter}
use Rattle.std.specs.Borrow.{Bor}
use Rattle.qc_model.specs.Content.{Rule}
use Rattle.likeness.specs.Seeing.{tells}
use Rattle.likeness.proofs.Seeing.{filter_next}
use Rattle.likeness.proofs.Steps.{taken_all}
use Rattle.likeness.proofs.sources.telling_rules.Goals as goal

pub loop-k-preserved : goal.loop-k-preserved
loop-k-preserved c =
    let r = c.constraint.result.now in
    c.in_ok-push_telling.ensures ∙ (ap (λ (rs : List Rule). rs ++ cond (tells r) (r ∷ []) []) c.loop-k.invariant ∙ filter_next tells c.args.problem.now.constraints c.loop-k.k r c.constraint.ensures)

pub loop-k-init : goal.loop-k-init
loop-k-init c = ap (map (λ (r : Bor Rule). r.now)) c.new-rules.ensures.items

pub constraint-requires : goal.constraint-requires
constraint-requires c = subst (λ n. c.loop-k.k < n) c.constraints-k-end.ensures c.loop-k-test.true

pub returns : goal.returns
returns c = c.loop-k.invariant ∙ ap (filter tells) (taken_all c.args.problem.now.constraints c.loop-k.k _ c.constraints-k-end.ensures c.loop-k-test.false)
