use Rattle.model_table.proofs.Valid.{valid_table_sound}
use Rattle.model_table.proofs.Smaller.{valid_smaller}
use Rattle.model_table.proofs.Single.{valid_single}
use Rattle.model_table.proofs.laws.refuted.Goals as goal

pub returns-clause-has_none : goal.returns-clause-has_none
returns-clause-has_none c = valid_table_sound

pub returns-clause-stays : goal.returns-clause-stays
returns-clause-stays c = valid_smaller

pub returns-clause-single : goal.returns-clause-single
returns-clause-single c = valid_single
