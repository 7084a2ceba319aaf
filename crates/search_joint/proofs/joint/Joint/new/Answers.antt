use Rattle.std.proofs.Common.{sym, subst, List}
use Rattle.qc_cascade.proofs.Declared.{declared_is_box}
use Rattle.search_joint.specs.declared.entry.Entry.{Entry}
use Rattle.search_joint.specs.Stacked.{IsStacked}
use Rattle.search_joint.proofs.Opens.{stacked_none}
use Rattle.search_joint.proofs.joint.Joint.new.Goals as goal

pub invariant_of-result : goal.invariant_of-result
invariant_of-result c =
    let g = c.args.problem.now in
    let s = c.in_ok-store.store in
    record {
      ready = c.in_ok-engine.ensures;
      stacked = subst (λ (es : List Entry). IsStacked g s es) (sym c.new-4.ensures.items)
          (stacked_none g s c.in_ok-store.ensures.1 (declared_is_box g s.box c.known.ensures c.in_ok-store.ensures.0) c.in_ok-store.ensures.3);
    }
