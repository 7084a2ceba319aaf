use Rattle.std.proofs.Common.{◌≡◌, ◌+◌, ◌*◌, suc, length, true, false}
use Rattle.model_arguments.specs.Asked.{is_box_of}
use Rattle.qc_model.specs.Domains.{has_empty}
use Rattle.fd_store.specs.Held.{Follows, count_left}
use Rattle.dense_close.specs.Narrowing.{IsNarrowed, IsListOf, AreSettled}
use Rattle.dense_close.proofs.closer.settle.Given as goal

abbrev pub invariant-loop-c : goal.invariant-loop-c
invariant-loop-c l = record {
  narrowed : IsNarrowed l.task.taking l.task.problem.now l.task.from l.task.stop l.initial.remains.box l.remains.box;
  past : Follows l.initial.remains l.remains;
  declared : is_box_of l.task.problem.now l.remains.box ≡ true;
  full : has_empty l.remains.box ≡ false;
  listed : IsListOf l.task.problem.now l.task.span.first l.task.span.end l.list;
  settled : AreSettled l.task.taking l.task.problem.now l.task.span.first l.task.span.end l.list l.remains.box;
}

abbrev pub decreases-loop-c : goal.decreases-loop-c
decreases-loop-c l = count_left l.remains.box * suc (length l.task.problem.now.constraints) + length l.list.queue
