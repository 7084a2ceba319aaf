-- What is answered where both are asked: what a game comes to, and what it comes to at the worst ties of chosen owners.
use Rattle.std.specs.Prelude.{◌≡◌, ℕ, ℤ, List, [], ◌++◌, codes, Option}
use Rattle.qc_model.specs.Content.{Game}
use Rattle.proof_tree.specs.declared.tree.Outcome.{Outcome}
use Rattle.proof_tree.specs.declared.tree.Outcome.TheVariants.{True, False, Open as OpenOutcome}
use Rattle.proof_tree.specs.Text.{outcome_text}
use Rattle.qc_pessimist.specs.declared.reading.Places.{Places}
use Rattle.qecode_commands.specs.declared.status.Status.{Status}
use Rattle.qecode_commands.specs.declared.status.Status.TheVariants.{Done, Open, Memory}
use Rattle.qecode_commands.specs.Words.{usual_turns}
use Rattle.qecode_commands.specs.Certifies.{Certifies, status_of}
use Rattle.qecode_commands.specs.Readings.{AnswersReading}
use Rattle.qecode_commands.specs.Summaries.{text_if_open}

-- the outcomes side by side: of the game, and at the worst ties
abbrev pub gap_lines : Outcome → Option ℤ → Outcome → Option ℤ → List ℕ
gap_lines best optimum worst pessimum = codes "best " ++ outcome_text best optimum ++ codes "worst " ++ outcome_text worst pessimum

-- open where one of them is
abbrev pub gap_status : Outcome → Outcome → Status
gap_status True worst = status_of worst
gap_status False worst = status_of worst
gap_status (OpenOutcome n) worst = Open

-- a certificate that the game may be answered with within the usual turns
pub record Settles (g : Game) : Type 0 where
  pub status : Status
  pub text : List ℕ
  pub certifies : Certifies g usual_turns status text

-- The lines have the outcomes that two certificates prove, of the game g and of h. The texts of those that leave them open
-- follow, that of g first.
pub record Compares (g h : Game) (status : Status) (text : List ℕ) : Type 0 where
  pub best : Settles g
  pub worst : Settles h
  pub ends : status ≡ gap_status best.certifies.outcome worst.certifies.outcome
  pub written : text ≡ gap_lines best.certifies.outcome best.certifies.optimum worst.certifies.outcome worst.certifies.optimum
      ++ text_if_open best.certifies.outcome best.text ++ text_if_open worst.certifies.outcome worst.text

-- what is answered for two games
abbrev pub ComparesGames : Game → Game → Status → List ℕ → Type 0
ComparesGames g h Done text = Compares g h Done text
ComparesGames g h Open text = Compares g h Open text
ComparesGames g h Memory text = text ≡ []
ComparesGames g h status text = ⊥

-- what `worst` with `--gap` answers for a problem: the second game is that of the worst ties
abbrev pub AnswersGap : Places → Game → Status → List ℕ → Type 0
AnswersGap places g status text = AnswersReading places (ComparesGames g) g status text
