use Rattle.std.proofs.Common.{refl, rules}
use Rattle.qc_cascade.proofs.Declared.{declared_is_box}
use Rattle.search_box.proofs.Entering.{entered_first}
use Rattle.search_box.proofs.Foreseeing.{not_foreseen}
use Rattle.search_box.proofs.search_box.SearchBox.new.Goals as goal

pub invariant_of-result : goal.invariant_of-result
invariant_of-result c = record {
  declared = declared_is_box c.args.problem.now c.in_ok-store.store.box c.known.ensures c.in_ok-store.ensures.0;
  ready = c.in_ok-engine.ensures;
  same = c.in_ok-joint.ensures;
  value_each = search rules;
  foreseen = not_foreseen c.args.problem.now c.in_ok-store.store c.nothing_foreseen.result c.nothing_foreseen.ensures;
  shown = c.in_ok-all_shown.ensures;
}

pub returns-clause-here : goal.returns-clause-here
returns-clause-here c = entered_first c.args.problem.now _ refl c.in_ok-store.ensures.3
