use Rattle.std.proofs.Common.{sym, subst, List}
use Rattle.fd_store.specs.declared.store.Mark.{Mark}
use Rattle.lemma_ground.specs.Steady.{IsSteady}
use Rattle.lemma_ground.proofs.Declared.{declared_is}
use Rattle.lemma_ground.proofs.Stacks.{steady_none}
use Rattle.lemma_ground.proofs.boxes.Boxes.new.Goals as goal

pub invariant_of-result : goal.invariant_of-result
invariant_of-result c =
    let g = c.args.problem.now in
    let s = c.in_ok-store.store in
    subst (λ (ms : List Mark). IsSteady g s ms) (sym c.new-2.ensures.items)
    (steady_none g s (declared_is g s.box c.known.ensures.domains c.in_ok-store.ensures.0) c.in_ok-store.ensures.3)
