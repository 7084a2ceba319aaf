use Rattle.lemma_text.proofs.Spelled.{list_spelled, list_fits}
use Rattle.lemma_text.proofs.laws.items_spell_lists.Goals as goal

pub returns-clause-text : goal.returns-clause-text
returns-clause-text c = list_spelled

pub returns-clause-fits : goal.returns-clause-fits
returns-clause-fits c = list_fits
