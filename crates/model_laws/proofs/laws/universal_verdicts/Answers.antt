use Rattle.std.specs.Prelude.{suc}
use Rattle.qc_model.specs.Optimal.{Optimal}
use Rattle.model_laws.proofs.Joins.{leaves_mean}
use Rattle.model_laws.proofs.laws.universal_verdicts.Goals as goal

pub returns : goal.returns
returns c = λ g later x i a d ls. leaves_mean g i a (Optimal g later (suc i)) _ d ls
