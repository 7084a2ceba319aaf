-- What `run` answers and writes.
use Rattle.std.specs.Prelude.{◌≡◌, ◌⊎◌, ℕ, ℤ, List, [], ◌++◌, codes, Option, Some, None}
use Rattle.qc_model.specs.Content.{Game}
use Rattle.proof_tree.specs.declared.tree.Outcome.{Outcome}
use Rattle.proof_tree.specs.Text.{outcome_text}
use Rattle.proof_text.specs.declared.fault.CertFault.{CertFault}
use Rattle.proof_text.specs.Places.{IsFault}
use Rattle.qc_model.specs.Canonical.{canonical_text}
use Rattle.qc_syntax.specs.Reads.{Reads}
use Rattle.qc_check.specs.Checking.{IsProof, IsNoProof}
use Rattle.qecode_commands.specs.declared.status.Status.{Status}
use Rattle.qecode_commands.specs.declared.status.Status.TheVariants.{Done, NotProved, Open, Usage, BadProblem, BadCertificate, Memory}
use Rattle.qecode_commands.specs.Words.{Asked, solves, checks, plays, prints, decides, rewrites, makes, shows, opposes, restates, compares}
use Rattle.qecode_commands.specs.Refusals.{IsRefused}
use Rattle.qecode_commands.specs.Certifies.{Certifies}
use Rattle.qecode_commands.specs.Files.{IsFile, TurnsFileDown}
use Rattle.qecode_commands.specs.Certificates.{FaultLine}
use Rattle.qecode_commands.specs.Plays.{PlaysProblem}
use Rattle.qecode_commands.specs.Formulas.{AnswersFormula, DecidesFormula, RewritesFormula}
use Rattle.qecode_commands.specs.Summaries.{SummarisesProblem}
use Rattle.model_generated.specs.Pricing.{generated_game}
use Rattle.qecode_commands.specs.Readings.{AnswersReading}
use Rattle.qecode_commands.specs.Gap.{AnswersGap}

-- what `solve` answers for a problem, and so many turns
abbrev pub SolvesProblem : ℕ → Game → Status → List ℕ → Type 0
SolvesProblem turns g Done text = Certifies g turns Done text
SolvesProblem turns g Open text = Certifies g turns Open text
SolvesProblem turns g Memory text = text ≡ []
SolvesProblem turns g status text = ⊥

-- what `print` answers for a problem
abbrev pub PrintsProblem : Game → Status → List ℕ → Type 0
PrintsProblem g Done text = text ≡ canonical_text g
PrintsProblem g Memory text = text ≡ []
PrintsProblem g status text = ⊥

-- the bytes are a certificate that proves what it states, which is so, and is repeated
pub record Confirms (g : Game) (bytes text : List ℕ) : Type 0 where
  pub outcome : Outcome
  pub optimum : Option ℤ
  pub proof : IsProof g bytes outcome optimum
  pub line : text ≡ codes "yes " ++ outcome_text outcome optimum

-- they are one that doesn't prove what it states
pub record Denies (g : Game) (bytes text : List ℕ) : Type 0 where
  pub no_proof : IsNoProof g bytes
  pub line : text ≡ codes "no\n"

-- what `check` answers for the bytes of a certificate's text
abbrev pub ChecksBytes : Game → List ℕ → Status → List ℕ → Type 0
ChecksBytes g bytes Done text = Confirms g bytes text
ChecksBytes g bytes NotProved text = Denies g bytes text
ChecksBytes g bytes BadCertificate text = (fault : CertFault) × IsFault fault bytes × FaultLine fault text
ChecksBytes g bytes status text = ⊥

-- the bytes of the file are no problem's text
pub record IsNoProblem (told : Option (List ℕ)) (text : List ℕ) : Type 0 where
  pub bytes : List ℕ
  pub file : IsFile 4194304 told bytes
  pub refused : IsRefused bytes text

-- the same of a problem's file, also where it has none
abbrev pub TurnsProblemDown : List ℕ → Option (List ℕ) → (ℕ → Type 0) → Status → List ℕ → Type 0
TurnsProblemDown name told gave BadProblem text = IsNoProblem told text
TurnsProblemDown name told gave status text = TurnsFileDown 4194304 name told gave status text

-- the file has the text of this problem
pub record IsProblemOf (told : Option (List ℕ)) (g : Game) : Type 0 where
  pub bytes : List ℕ
  pub file : IsFile 4194304 told bytes
  pub reads : Reads bytes g

-- what is answered for a problem's file, where P says what is answered for its problem
abbrev pub AnswersProblem : (Game → Status → List ℕ → Type 0) → List ℕ → Option (List ℕ) → (ℕ → Type 0) → Status → List ℕ → Type 0
AnswersProblem P name told gave status text =
    TurnsProblemDown name told gave status text ⊎ ((g : Game) × IsProblemOf told g × P g status text)

-- what `check` answers for a certificate's file
abbrev pub ChecksFile : List ℕ → Option (List ℕ) → (ℕ → Type 0) → Game → Status → List ℕ → Type 0
ChecksFile name told gave g status text =
    TurnsFileDown 1073741824 name told gave status text ⊎ ((bytes : List ℕ) × IsFile 1073741824 told bytes × ChecksBytes g bytes status text)

-- what is answered for what is asked: a table for each command
abbrev pub AnswersAsked : Asked → (List ℕ → Option (List ℕ)) → (ℕ → Type 0) → Status → List ℕ → Type 0
AnswersAsked (solves name turns) told gave status text = AnswersProblem (SolvesProblem turns) name (told name) gave status text
AnswersAsked (prints name) told gave status text = AnswersProblem PrintsProblem name (told name) gave status text
AnswersAsked (checks problem certificate) told gave status text =
    AnswersProblem (ChecksFile certificate (told certificate) gave) problem (told problem) gave status text
AnswersAsked (plays problem certificate moves) told gave status text =
    AnswersProblem (PlaysProblem certificate moves told gave) problem (told problem) gave status text
AnswersAsked (decides name turns) told gave status text = AnswersFormula (DecidesFormula turns) name (told name) gave status text
AnswersAsked (rewrites name) told gave status text = AnswersFormula RewritesFormula name (told name) gave status text
AnswersAsked (makes n) told gave status text = SummarisesProblem (generated_game n) status text
AnswersAsked (shows n) told gave status text = PrintsProblem (generated_game n) status text
AnswersAsked (opposes name places turns) told gave status text = AnswersProblem (AnswersReading places (SolvesProblem turns)) name (told name) gave status text
AnswersAsked (restates name places) told gave status text = AnswersProblem (AnswersReading places PrintsProblem) name (told name) gave status text
AnswersAsked (compares name places) told gave status text = AnswersProblem (AnswersGap places) name (told name) gave status text

-- what is answered for the words; told gives the bytes of the names that are told
abbrev pub Answers : Option Asked → (List ℕ → Option (List ℕ)) → (ℕ → Type 0) → Status → List ℕ → Type 0
Answers None told gave Usage text = text ≡ codes "usage: qecode solve PROBLEM [--turns N] | check PROBLEM CERTIFICATE | print PROBLEM | generate N [--text] | play PROBLEM CERTIFICATE MOVES | qbf FILE [--turns N | --text] | worst PROBLEM SCOPE [--turns N | --text | --gap]\n"
Answers None told gave status text = ⊥
Answers (Some asked) told gave status text = AnswersAsked asked told gave status text
