use Rattle.std.proofs.Common.{not, ap, ◌∙◌}
use Rattle.qc_play.proofs.LeafEntries.{first_taken, first_kept}
use Rattle.qc_play.proofs.opponent_leaves.keep_first.Goals as goal

pub returns-then-is_none : goal.returns-then-is_none
returns-then-is_none c = λ n ls w f k x t s. first_taken n c.args.first.now ls (record { tuple = c.args.tuple; counter = c.args.counter }) w f (c.is_none.ensures ∙ ap not c.if-is_none.true) k x t s

pub returns-else-is_none : goal.returns-else-is_none
returns-else-is_none c = λ n ls w f k x t s. first_kept n c.args.first.now ls w f (c.is_none.ensures ∙ ap not c.if-is_none.false) k
