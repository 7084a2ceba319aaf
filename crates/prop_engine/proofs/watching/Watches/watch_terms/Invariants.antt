use Rattle.std.proofs.Common.{◌≡◌, take, true}
use Rattle.std.specs.List.{list_all}
use Rattle.qc_model.specs.Arguments.{arg_variables}
use Rattle.prop_engine.specs.Watching.{HasGrown, is_watched, AscendTo, AreRight}
use Rattle.prop_engine.proofs.watching.Watches.watch_terms.Given as goal

abbrev pub invariant-loop-at : goal.invariant-loop-at
invariant-loop-at l = record {
  grown : HasGrown l.initial.self l.self;
  watched : list_all (λ a. list_all (is_watched l.self l.c.0) (arg_variables a)) (take l.at l.items) ≡ true;
  right : AreRight l.problem l.initial.self → AreRight l.problem l.self;
  order : AscendTo l.c.0 l.initial.self → AscendTo l.c.0 l.self;
}
