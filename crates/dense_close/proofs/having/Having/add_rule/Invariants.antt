use Rattle.std.proofs.Common.{◌≡◌, take, true}
use Rattle.std.specs.List.{list_all}
use Rattle.model_arguments.specs.Written.{variable_numbers}
use Rattle.dense_close.specs.Index.{HasGrown, has_it}
use Rattle.dense_close.proofs.having.Having.add_rule.Given as goal

abbrev pub invariant-loop-x : goal.invariant-loop-x
invariant-loop-x l = record {
  grown : HasGrown l.initial.self l.self;
  added : list_all (has_it l.self l.c.0) (variable_numbers (take l.x-index l.own)) ≡ true;
}
