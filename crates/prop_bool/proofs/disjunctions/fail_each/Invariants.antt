use Rattle.std.proofs.Common.{◌≡◌, take, true}
use Rattle.std.specs.List.{list_all}
use Rattle.prop_base.specs.Filtering.{Fits, Prunes}
use Rattle.prop_bool.specs.Literals.{literals, surely_fails}
use Rattle.prop_bool.proofs.disjunctions.fail_each.Given as goal

abbrev pub invariant-loop-k : goal.invariant-loop-k
invariant-loop-k l = record {
  pruning : Prunes l.asked l.initial.store l.store l.initial.steps l.steps;
  fits : Fits l.asked l.store;
  fails : surely_fails l.store.box l.head ≡ true;
  failed : list_all (surely_fails l.store.box) (take l.k (literals l.plain l.negated)) ≡ true;
}
