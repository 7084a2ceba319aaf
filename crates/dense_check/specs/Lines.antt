-- The lines that a machine takes, as those of a certificate.
use Rattle.std.specs.Prelude.{List, ℤ}
use Rattle.dense_tree.specs.Lines as told
use Rattle.dense_check.specs.declared.line.Line.{Line}
use Rattle.dense_check.specs.declared.line.Line.TheVariants.{Given, Named, Horizon, Stuck, Goal, Again, NoPlay, Close, Bound, Reply, Empty, Barred, Best, Next, Chosen, Branch, Range, Skip, Open, Dot}

-- with the tuple t beside it
abbrev pub line_told : Line → List ℤ → told.Line
line_told (Given k) t = told.given_line k t
line_told Named t = told.named_line
line_told (Horizon k) t = told.horizon_line k
line_told Stuck t = told.stuck_line
line_told Goal t = told.goal_line
line_told (Again n) t = told.again_line n
line_told (NoPlay k) t = told.no_play_line k
line_told Close t = told.close_line
line_told (Bound x lo hi) t = told.bound_line x lo hi
line_told Reply t = told.reply_line t
line_told Empty t = told.empty_line
line_told Barred t = told.barred_line
line_told Best t = told.best_line
line_told Next t = told.next_line
line_told Chosen t = told.chosen_line t
line_told (Branch x) t = told.branch_line x
line_told (Range high) t = told.range_line high
line_told Skip t = told.skip_line
line_told Open t = told.open_line
line_told Dot t = told.dot_line
