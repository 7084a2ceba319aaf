use Rattle.std.proofs.Common.{◌≡◌, ◌≤◌, ◌<◌, ◌&&◌, ℕ, false, length, map}
use Rattle.std.specs.Prelude.{get_or}
use Rattle.qc_model.specs.Content.{Rule}
use Rattle.lemma_list.specs.Entailment.{entailed_by}
use Rattle.likeness.specs.Seeing.{tells}
use Rattle.dense_tree.specs.Alike.{is_from}
use Rattle.dense_alike.proofs.laying.read_entailed.Given as goal

abbrev pub invariant-loop-k : goal.invariant-loop-k
invariant-loop-k l = record {
  count : length l.holds ≡ length l.problem.constraints;
  read : (j : ℕ) → l.fn.start ≤ j → j < l.k → get_or l.holds j false ≡ get_or (map (λ (c : Rule). is_from l.i.0 c && tells c && entailed_by c l.store.box) l.problem.constraints) j false;
}
