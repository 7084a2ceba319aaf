-- What the winner may answer with.
use Rattle.std.specs.Prelude.{ℕ, Bool, false}
use Rattle.qc_model.specs.Content.{Game}
use Rattle.lemma_list.specs.Places.{is_chosen_from}
use Rattle.lemma_reasons.specs.declared.answers.Answers.{Answers}
use Rattle.lemma_reasons.specs.declared.answers.Answers.TheVariants.{Nobody, From}

-- the variables with which the winner may answer
abbrev pub answered_by : Game → Answers → ℕ → Bool
answered_by g Nobody y = false
answered_by g (From k i) y = is_chosen_from k g i y
