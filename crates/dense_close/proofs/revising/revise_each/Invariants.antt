use Rattle.std.proofs.Common.{◌≡◌, take, true, false}
use Rattle.model_arguments.specs.Asked.{is_box_of}
use Rattle.model_arguments.specs.Written.{variable_numbers}
use Rattle.qc_model.specs.Domains.{has_empty}
use Rattle.fd_store.specs.Held.{Follows}
use Rattle.dense_close.specs.Narrowing.{IsNarrowed, IsListOf, OthersSettled, HasLooked}
use Rattle.dense_close.proofs.revising.revise_each.Given as goal

abbrev pub invariant-loop-x : goal.invariant-loop-x
invariant-loop-x l = record {
  narrowed : IsNarrowed l.task.taking l.task.problem.now l.task.from l.task.stop l.initial.remains.box l.remains.box;
  past : Follows l.initial.remains l.remains;
  declared : is_box_of l.task.problem.now l.remains.box ≡ true;
  full : has_empty l.remains.box ≡ false;
  listed : IsListOf l.task.problem.now l.task.span.first l.task.span.end l.list;
  others : OthersSettled l.c.0 l.task.taking l.task.problem.now l.task.span.first l.task.span.end l.list l.remains.box;
  looked : HasLooked l.look l.task.taking l.task.problem.now l.c.0 (variable_numbers (take l.x-index l.own)) l.initial.list l.list l.initial.remains.box l.remains.box;
}
