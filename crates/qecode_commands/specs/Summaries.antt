-- What is answered for a made problem.
use Rattle.std.specs.Prelude.{◌≡◌, ℕ, ℤ, List, [], ◌++◌, codes, decimal, length, Option}
use Rattle.qc_model.specs.Content.{Game}
use Rattle.proof_tree.specs.declared.tree.Outcome.{Outcome}
use Rattle.proof_tree.specs.declared.tree.Outcome.TheVariants.{True, False, Open as OpenOutcome}
use Rattle.proof_tree.specs.Text.{outcome_text}
use Rattle.qecode_commands.specs.declared.status.Status.{Status}
use Rattle.qecode_commands.specs.declared.status.Status.TheVariants.{Done, Open, Memory}
use Rattle.qecode_commands.specs.Words.{usual_turns}
use Rattle.qecode_commands.specs.Certifies.{Certifies}

-- how much a problem has of what, and its outcome
abbrev pub summary_text : Game → Outcome → Option ℤ → List ℕ
summary_text g outcome optimum =
    codes "variables " ++ decimal (length g.variables) ++ codes "\nconstraints " ++ decimal (length g.constraints)
    ++ codes "\noutcome " ++ outcome_text outcome optimum

-- the certificate's text, where it leaves the outcome open
abbrev pub text_if_open : Outcome → List ℕ → List ℕ
text_if_open True text = []
text_if_open False text = []
text_if_open (OpenOutcome n) text = text

-- the summary has the outcome that a certificate proves; the text of one that leaves it open follows
pub record Summarises (g : Game) (status : Status) (text : List ℕ) : Type 0 where
  pub certificate : List ℕ
  pub certifies : Certifies g usual_turns status certificate
  pub written : text ≡ summary_text g certifies.outcome certifies.optimum ++ text_if_open certifies.outcome certificate

-- what `generate` answers for the made problem
abbrev pub SummarisesProblem : Game → Status → List ℕ → Type 0
SummarisesProblem g Done text = Summarises g Done text
SummarisesProblem g Open text = Summarises g Open text
SummarisesProblem g Memory text = text ≡ []
SummarisesProblem g status text = ⊥
