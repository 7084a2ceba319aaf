use Rattle.std.proofs.Common.{◌≡◌, take, true}
use Rattle.std.specs.List.{list_all}
use Rattle.qc_model.specs.Arguments.{argument_variables}
use Rattle.prop_engine.specs.Watching.{HasGrown, is_watched, AscendTo, AreRight}
use Rattle.prop_engine.proofs.watching.Watches.watch_rule.Given as goal

abbrev pub invariant-loop-place : goal.invariant-loop-place
invariant-loop-place l = record {
  grown : HasGrown l.initial.self l.self;
  watched : list_all (λ a. list_all (is_watched l.self l.c.0) (argument_variables a)) (take l.place l.rule.args) ≡ true;
  right : AreRight l.problem l.initial.self → AreRight l.problem l.self;
  order : AscendTo l.c.0 l.initial.self → AscendTo l.c.0 l.self;
}
