use Rattle.std.proofs.Common.{◌∙◌, sym}
use Rattle.fd_store.proofs.AtEnds.{nothing_removed, all_removed, some_removed}
use Rattle.fd_store.proofs.table.Table.cut_anywhere.Goals as goal

pub returns-then-before-after-clause-answer : goal.returns-then-before-after-clause-answer
returns-then-before-after-clause-answer c = nothing_removed _ _ (sym c.size-before.ensures ∙ (c.if-before-after.true ∙ c.size-after.ensures))

pub returns-then-after-eq0-clause-answer : goal.returns-then-after-eq0-clause-answer
returns-then-after-eq0-clause-answer c = all_removed _ _ (λ e. c.if-before-after.false (c.size-before.ensures ∙ (e ∙ sym c.size-after.ensures))) (sym c.size-after.ensures ∙ c.if-after-eq0.true)

pub returns-else-after-eq0-clause-answer : goal.returns-else-after-eq0-clause-answer
returns-else-after-eq0-clause-answer c = some_removed _ _ (λ e. c.if-before-after.false (c.size-before.ensures ∙ (e ∙ sym c.size-after.ensures))) (λ e. c.if-after-eq0.false (c.size-after.ensures ∙ e))
