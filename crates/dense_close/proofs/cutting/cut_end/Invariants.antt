use Rattle.std.proofs.Common.{◌≡◌, ◌<◌, length, true}
use Rattle.model_arguments.specs.Asked.{is_box_of}
use Rattle.fd_store.specs.Held.{Follows, count_left}
use Rattle.dense_close.specs.Cutting.{IsCut, HasCut}
use Rattle.dense_close.proofs.cutting.cut_end.Given as goal

abbrev pub invariant-loop-c : goal.invariant-loop-c
invariant-loop-c l = record {
  taken : IsCut l.problem l.c.0 l.x.0 l.initial.remains.box l.remains.box;
  past : Follows l.initial.remains l.remains;
  gone : HasCut l.cut l.initial.remains.box l.remains.box;
  declared : is_box_of l.problem l.remains.box ≡ true;
  place : l.x.0 < length l.remains.box;
}

abbrev pub decreases-loop-c : goal.decreases-loop-c
decreases-loop-c l = count_left l.remains.box
