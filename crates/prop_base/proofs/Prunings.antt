-- What the calls of a filter do one after another.
use Rattle.std.proofs.Common.{◌≡◌, false, List}
use Rattle.qc_model.specs.Domains.{declared_box, has_empty}
use Rattle.proof_tree.specs.declared.tree.Step.{Step}
use Rattle.fd_store.specs.Held.{Held}
use Rattle.prop_base.specs.declared.asked.Asked.{Asked}
use Rattle.prop_base.specs.Filtering.{Fits}
use Rattle.prop_base.specs.Pruning.{IsPruning, is_just}
use Rattle.prop_base.proofs.Steps.{pruning_more, pruning_sub}

pub prunes_more : {s t u : Held} {x y z : List Step} (a : Asked) → IsPruning (is_just a.c.0) a.problem.now s t x y → IsPruning (is_just a.c.0) a.problem.now t u y z → IsPruning (is_just a.c.0) a.problem.now s u x z
prunes_more a p q = pruning_more (is_just a.c.0) a.problem.now _ _ _ _ _ _ p q

-- the store stays one of the problem's
pub fits_after : {s t : Held} {x y : List Step} (a : Asked) → Fits a s → IsPruning (is_just a.c.0) a.problem.now s t x y → has_empty t.box ≡ false → Fits a t
fits_after a f p h = record {
  rule = f.rule;
  declared = pruning_sub (is_just a.c.0) a.problem.now _ _ _ _ (declared_box a.problem.now) p f.declared;
  full = h;
}
