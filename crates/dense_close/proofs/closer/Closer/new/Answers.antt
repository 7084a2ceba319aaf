use Rattle.std.proofs.Common.{◌∙◌, sym, subst}
use Rattle.dense_quiet.specs.declared.taking.Taking.TheVariants.{All, Owners}
use Rattle.dense_close.specs.Index.{IsIndexOf}
use Rattle.dense_close.proofs.closer.Closer.new.Goals as goal

pub invariant_of-result : goal.invariant_of-result
invariant_of-result c = record {
  index = subst (IsIndexOf c.args.problem.now) (sym c.index.view_is) c.in_ok-index.ensures;
  idle = record { count = c.in_ok-list.ensures.count ∙ c.constraints.ensures; waiting = c.in_ok-list.ensures.waiting; empty = c.in_ok-list.ensures.empty };
  all = c.in_ok-new.ensures All;
  owners = c.in_ok-new-2.ensures Owners;
}
