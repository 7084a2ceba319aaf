use Rattle.std.proofs.Common.{sym, ◌∙◌}
use Rattle.dense_text.proofs.WholeLines.{short_begins}
use Rattle.dense_text.proofs.whole_line.whole_line.Goals as goal

pub returns-in-Some-short_line : goal.returns-in-Some-short_line
returns-in-Some-short_line c =
    let first = c.in-Some in
    let second = c.in-Some-split_first in
    let short = c.in-Some-short_line in
    short_begins c.args.due first.letter.now second.second.now short.piece c.args.bytes.now first.text.now second.rest.now first.ensures.cases.0 second.ensures.cases.0 c.in-10.is (sym c.short_line.ensures ∙ short.is)
