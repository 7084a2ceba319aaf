use Rattle.model_laws.proofs.Folds.{fold_not_better}
use Rattle.model_laws.proofs.laws.folds_keep_order.Goals as goal

pub returns : goal.returns
returns c = fold_not_better
