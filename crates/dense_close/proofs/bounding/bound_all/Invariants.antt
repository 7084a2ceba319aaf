use Rattle.std.proofs.Common.{◌≡◌, ◌<◌, ℕ, ℤ, true, false}
use Rattle.std.specs.Prelude.{slice_get, Some}
use Rattle.model_arguments.specs.Asked.{is_box_of}
use Rattle.model_arguments.specs.Written.{args_at, ints_at}
use Rattle.qc_model.specs.declared.problem.Arg.{Arg}
use Rattle.qc_model.specs.Content.{Rule}
use Rattle.qc_model.specs.Domains.{has_empty}
use Rattle.qc_model.specs.Refuted.{left_to}
use Rattle.fd_store.specs.Held.{Follows}
use Rattle.dense_quiet.specs.Slack.{IsNear, IsBounded, is_taken}
use Rattle.dense_quiet.specs.Taking.{takes_of}
use Rattle.dense_close.specs.Cutting.{HasCut}
use Rattle.dense_close.specs.Narrowing.{IsNarrowed, IsListOf, OthersSettled}
use Rattle.dense_close.proofs.bounding.bound_all.Given as goal

abbrev pub invariant-loop-k : goal.invariant-loop-k
invariant-loop-k l = record {
  narrowed : IsNarrowed l.task.taking l.task.problem.now l.task.from l.task.stop l.initial.remains.box l.remains.box;
  past : Follows l.initial.remains l.remains;
  declared : is_box_of l.task.problem.now l.remains.box ≡ true;
  full : has_empty l.remains.box ≡ false;
  listed : IsListOf l.task.problem.now l.task.span.first l.task.span.end l.list;
  others : OthersSettled l.c.0 l.task.taking l.task.problem.now l.task.span.first l.task.span.end l.list l.remains.box;
  gone : HasCut l.changed l.initial.remains.box l.remains.box;
  same : l.changed ≡ false → l.list ≡ l.initial.list;
  bounded : (r : Rule) → slice_get l.task.problem.now.constraints l.c.0 ≡ Some r → IsBounded r l.fn.room l.remains.box;
  near : (r : Rule) → slice_get l.task.problem.now.constraints l.c.0 ≡ Some r → (i : ℕ) (n : ℤ) (a : Arg) → i < l.k → slice_get (ints_at r.args 0) i ≡ Some n → slice_get (args_at r.args 1) i ≡ Some a → is_taken (takes_of l.task.taking l.task.problem.now r) a ≡ true →
      IsNear l.fn.room n (left_to l.remains.box a);
}
