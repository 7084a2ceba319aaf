use Rattle.std.proofs.Common.{◌≡◌, true, rules}
use Rattle.qc_model.specs.Domains.{declared_box, is_sub_box}
use Rattle.prop_base.proofs.Steps.{pruning_sub}
use Rattle.prop_yard.proofs.Boxes.{declared_sub, closed_box}
use Rattle.prop_yard.proofs.closing.close.Goals as goal

pub close_span-requires-clause-declared : goal.close_span-requires-clause-declared
close_span-requires-clause-declared g c = rw c.in_ok-store.ensures.0 (declared_sub c.args.problem.now (search rules))

pub returns-in-Open-clause-closed : goal.returns-in-Open-clause-closed
returns-in-Open-clause-closed g c =
    let p = c.args.problem.now in
    let from : is_sub_box c.in_ok-store.store.box (declared_box p) ≡ true = rw c.in_ok-store.ensures.0 (declared_sub p (search rules)) in
    closed_box p c.close_span.new.store.box (pruning_sub _ _ _ _ _ _ (declared_box p) c.close_span.ensures.pruning from) (search rules)
