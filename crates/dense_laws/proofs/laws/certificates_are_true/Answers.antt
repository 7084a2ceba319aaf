use Rattle.dense_laws.proofs.Root.{certificates_true}
use Rattle.dense_laws.proofs.laws.certificates_are_true.Goals as goal

pub returns : goal.returns
returns c = certificates_true
