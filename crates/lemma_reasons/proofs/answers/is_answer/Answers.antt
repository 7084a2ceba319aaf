use Rattle.std.proofs.Common.{ℕ, Bool, ◌∙◌, ap}
use Rattle.lemma_reasons.proofs.answers.is_answer.Goals as goal

pub returns : goal.returns
returns c = c.may_answer.ensures ∙ ap (λ (f : ℕ → Bool). f c.args.y.0) c.answers_to.ensures
