use Rattle.search_box.proofs.Entering.{leads_further, entered_on, marked_on, within_first}
use Rattle.search_box.proofs.laws.boxes_lead_on.Goals as goal

pub returns-clause-further : goal.returns-clause-further
returns-clause-further c = leads_further

pub returns-clause-entered : goal.returns-clause-entered
returns-clause-entered c = entered_on

pub returns-clause-marked : goal.returns-clause-marked
returns-clause-marked c = λ n b d m on. marked_on n b d m on.game on.follows

pub returns-clause-begins : goal.returns-clause-begins
returns-clause-begins c = within_first
