use Rattle.std.proofs.Common.{◌≡◌, ◌+◌, ◌-◌, ◌*◌, ℕ, suc, length, true, List, None, ℤ}
use Rattle.qc_model.specs.Domains.{has_value, values_left}
use Rattle.qc_model.specs.Game.{before}
use Rattle.qc_model.specs.Verdict.{Seen}
use Rattle.fd_store.specs.Held.{values_from}
use Rattle.proof_tree.specs.declared.line.Line.{Line}
use Rattle.joins.specs.declared.joins.Joins.{Joins}
use Rattle.search_walk.specs.Here.{here_of}
use Rattle.search_walk.specs.Later.{SoFar, cut_to}
use Rattle.search_walk.specs.Put.{IsReady, IsBack}
use Rattle.search_walk.proofs.Ahead.{Owed}
use Rattle.search_walk.proofs.Covering.{ComesAfter}
use Rattle.search_walk.proofs.search.+search.Given as goal

abbrev pub decreases-later_node : goal.decreases-later_node
decreases-later_node l = 15 * ((length l.levels.now.problem.now.scopes - l.number) + (length l.levels.now.problem.now.variables - before l.levels.now.problem.now l.number)) + 15

abbrev pub decreases-searched_node : goal.decreases-searched_node
decreases-searched_node l = 15 * ((length l.levels.now.problem.now.scopes - l.number) + (length l.levels.now.problem.now.variables - before l.levels.now.problem.now l.number)) + 14

abbrev pub decreases-own_tree : goal.decreases-own_tree
decreases-own_tree l = 15 * ((length l.stage.now.level.now.problem.now.scopes - l.stage.now.level.now.number) + (length l.stage.now.level.now.problem.now.variables - l.stage.now.level.now.from)) + 13

abbrev pub decreases-advised_tree : goal.decreases-advised_tree
decreases-advised_tree l = 15 * ((length l.stage.now.level.now.problem.now.scopes - l.stage.now.level.now.number) + (length l.stage.now.level.now.problem.now.variables - l.stage.now.level.now.from)) + 12

abbrev pub decreases-bounded_tree : goal.decreases-bounded_tree
decreases-bounded_tree l = 15 * ((length l.stage.now.level.now.problem.now.scopes - l.stage.now.level.now.number) + (length l.stage.now.level.now.problem.now.variables - l.stage.now.level.now.from)) + 11

abbrev pub decreases-bounded_part : goal.decreases-bounded_part
decreases-bounded_part l = 15 * ((length l.stage.now.level.now.problem.now.scopes - l.stage.now.level.now.number) + (length l.stage.now.level.now.problem.now.variables - l.stage.now.level.now.from)) + 8

abbrev pub decreases-whole_tree : goal.decreases-whole_tree
decreases-whole_tree l = 15 * ((length l.stage.now.level.now.problem.now.scopes - l.stage.now.level.now.number) + (length l.stage.now.level.now.problem.now.variables - l.stage.now.level.now.from)) + 11

abbrev pub decreases-own_part : goal.decreases-own_part
decreases-own_part l = 15 * ((length l.stage.now.level.now.problem.now.scopes - l.stage.now.level.now.number) + (length l.stage.now.level.now.problem.now.variables - l.stage.now.level.now.from)) + 10

abbrev pub decreases-advised_part : goal.decreases-advised_part
decreases-advised_part l = 15 * ((length l.stage.now.level.now.problem.now.scopes - l.stage.now.level.now.number) + (length l.stage.now.level.now.problem.now.variables - l.stage.now.level.now.from)) + 9

abbrev pub invariant-advised_part-tries : goal.invariant-advised_part-tries
invariant-advised_part-tries l = record {
  back : IsBack l.stage.level.now.problem.now l.stage.level.now.number l.fn.walk l.walk;
  same : l.walk.lines ≡ l.fn.walk.lines;
}

abbrev pub decreases-advised_part-tries : goal.decreases-advised_part-tries
decreases-advised_part-tries l = l.tries

abbrev pub decreases-shortened_part : goal.decreases-shortened_part
decreases-shortened_part l = 15 * ((length l.stage.now.level.now.problem.now.scopes - l.stage.now.level.now.number) + (length l.stage.now.level.now.problem.now.variables - l.stage.now.level.now.from)) + 9

abbrev pub decreases-tried_part : goal.decreases-tried_part
decreases-tried_part l = 15 * ((length l.stage.now.level.now.problem.now.scopes - l.stage.now.level.now.number) + (length l.stage.now.level.now.problem.now.variables - l.stage.now.level.now.from)) + 8

abbrev pub decreases-closed_part : goal.decreases-closed_part
decreases-closed_part l = 15 * ((length l.stage.now.level.now.problem.now.scopes - l.stage.now.level.now.number) + (length l.stage.now.level.now.problem.now.variables - l.stage.now.level.now.from)) + 7

abbrev pub decreases-part : goal.decreases-part
decreases-part l = 15 * ((length l.stage.now.level.now.problem.now.scopes - l.stage.now.level.now.number) + (length l.stage.now.level.now.problem.now.variables - l.x)) + 6

abbrev pub decreases-within : goal.decreases-within
decreases-within l = 15 * ((length l.stage.now.level.now.problem.now.scopes - l.stage.now.level.now.number) + (length l.stage.now.level.now.problem.now.variables - l.x)) + 5

abbrev pub decreases-over_values : goal.decreases-over_values
decreases-over_values l = 15 * ((length l.stage.now.level.now.problem.now.scopes - l.stage.now.level.now.number) + (length l.stage.now.level.now.problem.now.variables - l.x.0)) + 4

abbrev pub decreases-cases : goal.decreases-cases
decreases-cases l = 15 * ((length l.stage.now.level.now.problem.now.scopes - l.stage.now.level.now.number) + (length l.stage.now.level.now.problem.now.variables - l.x.0)) + 3

abbrev pub decreases-cases_ahead : goal.decreases-cases_ahead
decreases-cases_ahead l = 15 * ((length l.stage.now.level.now.problem.now.scopes - l.stage.now.level.now.number) + (length l.stage.now.level.now.problem.now.variables - l.x.0)) + 2

abbrev pub decreases-later_cases : goal.decreases-later_cases
decreases-later_cases l = 15 * ((length l.stage.now.level.now.problem.now.scopes - l.stage.now.level.now.number) + (length l.stage.now.level.now.problem.now.variables - l.x.0)) + 1

abbrev pub decreases-with_value : goal.decreases-with_value
decreases-with_value l = 15 * ((length l.stage.now.level.now.problem.now.scopes - l.stage.now.level.now.number) + (length l.stage.now.level.now.problem.now.variables - l.x.0))

abbrev pub decreases-try_branch : goal.decreases-try_branch
decreases-try_branch l = 15 * ((length l.stage.now.level.now.problem.now.scopes - l.stage.now.level.now.number) + (length l.stage.now.level.now.problem.now.variables - l.x.0)) + 3

abbrev pub decreases-try_case : goal.decreases-try_case
decreases-try_case l = 15 * ((length l.stage.now.level.now.problem.now.scopes - l.stage.now.level.now.number) + (length l.stage.now.level.now.problem.now.variables - l.x.0)) + 2

abbrev pub decreases-try_against_rival : goal.decreases-try_against_rival
decreases-try_against_rival l = 15 * ((length l.stage.now.level.now.problem.now.scopes - l.stage.now.level.now.number) + (length l.stage.now.level.now.problem.now.variables - l.x.0)) + 1

abbrev pub decreases-after_tuple : goal.decreases-after_tuple
decreases-after_tuple l = 15 * ((length l.stage.now.level.now.problem.now.scopes - l.stage.now.level.now.number) + (length l.stage.now.level.now.problem.now.variables - l.stage.now.level.now.stop)) + 2

abbrev pub decreases-below_tuple : goal.decreases-below_tuple
decreases-below_tuple l = 15 * ((length l.stage.now.level.now.problem.now.scopes - l.stage.now.level.now.number) + (length l.stage.now.level.now.problem.now.variables - l.stage.now.level.now.stop)) + 1

abbrev pub invariant-later_cases-values : goal.invariant-later_cases-values
invariant-later_cases-values l = record {
  back : IsBack l.stage.level.now.problem.now l.stage.level.now.number (cut_to l.start l.fn.walk) l.walk;
  left : has_value (values_left l.fn.walk.remains.store.box l.x.0) l.value ≡ true;
  after : ComesAfter (values_left l.fn.walk.remains.store.box l.x.0) l.before l.value;
  goes : (had : ℕ) (lines : List Line) (first : Joins) → l.start ≡ length lines →
      SoFar (here_of l.stage l.fn.walk) l.x.0 had lines first (values_from l.from (values_left l.fn.walk.remains.store.box l.x.0)) l.fn.walk.left l.fn.walk.lines l.fn.walk.joins →
      SoFar (here_of l.stage l.fn.walk) l.x.0 had lines first (values_from l.value (values_left l.fn.walk.remains.store.box l.x.0)) l.walk.left l.walk.lines l.walk.joins;
}

abbrev pub decreases-later_cases-values : goal.decreases-later_cases-values
decreases-later_cases-values l = length (values_from l.value (values_left l.walk.remains.store.box l.x.0))

abbrev pub invariant-cases_ahead-earlier : goal.invariant-cases_ahead-earlier
invariant-cases_ahead-earlier l = record {
  back : IsBack l.stage.level.now.problem.now l.stage.level.now.number l.fn.walk l.walk;
  left : has_value (values_left l.fn.walk.remains.store.box l.x.0) l.value ≡ true;
  after : ComesAfter (values_left l.fn.walk.remains.store.box l.x.0) l.passed l.value;
  owed : has_value (values_from l.value (values_left l.fn.walk.remains.store.box l.x.0)) l.ahead ≡ true;
  goes : (xs : List Seen) → IsReady l.stage.level.now.problem.now l.stage.level.now.number l.fn.walk.joins (suc (2 * l.fn.walk.left)) xs →
      Owed (here_of l.stage l.fn.walk) l.x.0 (values_left l.fn.walk.remains.store.box l.x.0) xs l.fn.walk.left l.fn.walk.lines l.ahead l.waiting l.passed
      (values_from l.value (values_left l.fn.walk.remains.store.box l.x.0)) l.walk.left l.walk.lines l.walk.joins;
}

abbrev pub decreases-cases_ahead-earlier : goal.decreases-cases_ahead-earlier
decreases-cases_ahead-earlier l = length (values_from l.value (values_left l.walk.remains.store.box l.x.0))
