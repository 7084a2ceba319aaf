use Rattle.std.specs.Prelude.{◌-ℤ◌, pos, nat_abs, not}
use Rattle.qc_model.specs.Domains.{values_left}
use Rattle.qc_refuter.proofs.Walks.{IsWalked}
use Rattle.lemma_list.specs.Literals.{meets}
use Rattle.lemma_reasons.proofs.literals.some_misses.Given as goal

abbrev pub invariant-loop-v : goal.invariant-loop-v
invariant-loop-v l = IsWalked (λ v. not (meets l.literals l.x.0 v)) (values_left l.store.box l.x.0) l.from

abbrev pub decreases-loop-v : goal.decreases-loop-v
decreases-loop-v l = nat_abs (pos 1000000001 -ℤ l.from)
