use Rattle.std.proofs.Common.{sym, subst}
use Rattle.qc_model.specs.Content.{Game}
use Rattle.qc_cascade.proofs.Declared.{declared_is_box}
use Rattle.search_scout.specs.Ground.{IsAtRest}
use Rattle.search_scout.proofs.scouting.Scout.new.Goals as goal

pub invariant_of-result : goal.invariant_of-result
invariant_of-result c =
    let g = c.args.problem.now in
    let box = c.in_ok-store.store.box in
    subst (λ (h : Game). IsAtRest h c.in_ok-engine.engine c.in_ok-store.store) (sym c.in_ok-levels.ensures)
    (record {
      sound = record { declared = declared_is_box g box c.known.ensures c.in_ok-store.ensures.0; ready = c.in_ok-engine.ensures };
      full = c.in_ok-store.ensures.3;
    })
