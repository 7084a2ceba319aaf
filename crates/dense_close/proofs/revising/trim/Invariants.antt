use Rattle.std.proofs.Common.{◌≡◌, [], true, false}
use Rattle.std.specs.Prelude.{slice_get, Some}
use Rattle.model_arguments.specs.Asked.{is_box_of}
use Rattle.qc_model.specs.Content.{Rule}
use Rattle.qc_model.specs.Domains.{has_empty}
use Rattle.fd_store.specs.Held.{Follows}
use Rattle.dense_quiet.specs.Advice.{AdviceTells}
use Rattle.dense_close.specs.Narrowing.{IsNarrowed, IsListOf, OthersSettled, HasLooked}
use Rattle.dense_close.proofs.revising.trim.Given as goal

abbrev pub invariant-loop-place : goal.invariant-loop-place
invariant-loop-place l = record {
  narrowed : IsNarrowed l.task.taking l.task.problem.now l.task.from l.task.stop l.initial.remains.box l.remains.box;
  past : Follows l.initial.remains l.remains;
  declared : is_box_of l.task.problem.now l.remains.box ≡ true;
  full : has_empty l.remains.box ≡ false;
  tells : (r : Rule) → slice_get l.task.problem.now.constraints l.c.0 ≡ Some r → AdviceTells l.advice r l.remains.box;
  listed : IsListOf l.task.problem.now l.task.span.first l.task.span.end l.list;
  others : OthersSettled l.c.0 l.task.taking l.task.problem.now l.task.span.first l.task.span.end l.list l.remains.box;
  looked : HasLooked l.look l.task.taking l.task.problem.now l.c.0 [] l.initial.list l.list l.initial.remains.box l.remains.box;
}
