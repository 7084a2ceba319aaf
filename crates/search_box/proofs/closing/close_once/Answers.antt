use Rattle.std.proofs.Common.{◌≡◌, ◌∙◌, ap, Ok, List}
use Rattle.std.specs.Prelude.{Result}
use Rattle.std.specs.declared.alloc.AllocError.{AllocError}
use Rattle.qc_model.specs.Domains.{declared_box}
use Rattle.proof_tree.specs.declared.tree.Step.{Step}
use Rattle.proof_tree.specs.Steps.{after_steps}
use Rattle.prop_base.specs.Pruning.{are_pruned_by}
use Rattle.prop_base.proofs.Steps.{pruning_sub}
use Rattle.prop_engine.specs.declared.answer.Closed.{Closed}
use Rattle.prop_engine.specs.declared.answer.Closed.TheVariants.{Open}
use Rattle.prop_engine.specs.Closing.{is_between}
use Rattle.search_box.proofs.Closings.{pruned_is, pruned_sub, closing_is}
use Rattle.search_box.proofs.Foreseeing.{legal_here, closed_here}
use Rattle.search_box.proofs.closing.close_once.Goals as goal

pub returns-in_err-repeat-clause-pruned : goal.returns-in_err-repeat-clause-pruned
returns-in_err-repeat-clause-pruned g c =
    let l = c.args.level.now in
    pruned_is l.problem.now l.number l.in_force.first l.in_force.end _ _ _ _ c.known.ensures c.requires.declared l.has_force c.repeat.ensures.pruning

pub returns-in_err-repeat-clause-fewer : goal.returns-in_err-repeat-clause-fewer
returns-in_err-repeat-clause-fewer g c = let l = c.args.level.now in pruned_sub (is_between l.in_force.first l.in_force.end) l.problem.now _ _ _ _ c.requires.declared c.repeat.ensures.pruning

pub returns-in_err-repeat-clause-declared : goal.returns-in_err-repeat-clause-declared
returns-in_err-repeat-clause-declared g c = let l = c.args.level.now in pruning_sub (is_between l.in_force.first l.in_force.end) l.problem.now _ _ _ _ (declared_box l.problem.now) c.repeat.ensures.pruning c.requires.declared

pub returns-then-is_foreseen-clause-pruned : goal.returns-then-is_foreseen-clause-pruned
returns-then-is_foreseen-clause-pruned g c =
    let l = c.args.level.now in
    pruned_is l.problem.now l.number l.in_force.first l.in_force.end _ _ _ _ c.known.ensures c.requires.declared l.has_force c.repeat.ensures.pruning

pub returns-then-is_foreseen-clause-fewer : goal.returns-then-is_foreseen-clause-fewer
returns-then-is_foreseen-clause-fewer g c = let l = c.args.level.now in pruned_sub (is_between l.in_force.first l.in_force.end) l.problem.now _ _ _ _ c.requires.declared c.repeat.ensures.pruning

pub returns-then-is_foreseen-clause-declared : goal.returns-then-is_foreseen-clause-declared
returns-then-is_foreseen-clause-declared g c = let l = c.args.level.now in pruning_sub (is_between l.in_force.first l.in_force.end) l.problem.now _ _ _ _ (declared_box l.problem.now) c.repeat.ensures.pruning c.requires.declared

pub returns-then-is_foreseen-clause-answer : goal.returns-then-is_foreseen-clause-answer
returns-then-is_foreseen-clause-answer g c =
    let l = c.args.level.now in
    let f = c.args.foresight.now in
    let yes = c.if-is_foreseen.true in
    let is = c.is_foreseen.ensures in
    let left : c.repeat.new.store.box ≡ after_steps f.steps c.args.store.now.box = c.in_ok-repeat.ensures.content ∙ ap (λ (xs : List Step). after_steps xs c.args.store.now.box) c.items.ensures in
    let answer : Result Closed AllocError = Ok Open in
    closing_is answer l.problem.now l.number l.in_force.first l.in_force.end c.repeat.new.store.box l.has_force
    (closed_here l.problem.now c.args.store.now c.repeat.new.store f l.in_force.first l.in_force.end (is.first yes) (is.end yes) (is.here yes) (c.requires.foreseen (is.known yes)) left)

pub repeat-requires : goal.repeat-requires
repeat-requires g c =
    let l = c.args.level.now in
    let f = c.args.foresight.now in
    let yes = c.if-is_foreseen.true in
    let is = c.is_foreseen.ensures in
    ap (λ (xs : List Step). are_pruned_by (is_between l.in_force.first l.in_force.end) l.problem.now xs c.args.store.now.box) c.items.ensures
    ∙ legal_here l.problem.now c.args.store.now f l.in_force.first l.in_force.end (is.first yes) (is.end yes) (is.here yes) (c.requires.foreseen (is.known yes))
