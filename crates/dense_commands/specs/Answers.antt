-- What `run` answers and writes.
use Rattle.std.specs.Prelude.{◌≡◌, ◌≤◌, ◌⊎◌, ℕ, ℤ, List, ◌++◌, codes, decimal, length, take, Option, Some, None, IfSome, IsTrue, IsFalse, if◌then◌else◌}
use Rattle.std.specs.Str.{bytes_eq}
use Rattle.qc_model.specs.declared.problem.Kind.{Kind}
use Rattle.qc_model.specs.declared.problem.Kind.TheVariants.{Exists, Forall}
use Rattle.qc_model.specs.Content.{Game}
use Rattle.qdimacs.specs.Formula.{Formula, is_true}
use Rattle.qdimacs.specs.Content.{game_of}
use Rattle.lemma_text.specs.Places.{IsFault}
use Rattle.lemma_judge.specs.Checking.{IsProof, IsNoProof}
use Rattle.dense_text.specs.Places.{IsFault as IsFaultOfDense}
use Rattle.dense_judge.specs.Checking.{IsProof as IsDenseProof, IsNoProof as IsNoDenseProof}
use Rattle.dense_solver.specs.Shown.{IsSettled}
use Rattle.best_judge.specs.Proof.{IsBestProof, IsNoProof as IsNoBestProof, IsFaultOfBest}
use Rattle.proof_tree.specs.declared.tree.Outcome.{Outcome}
use Rattle.proof_tree.specs.declared.tree.Outcome.TheVariants.{True}
use Rattle.proof_tree.specs.Text.{outcome_text}
use Rattle.qecode_commands.specs.declared.status.Status.{Status}
use Rattle.qecode_commands.specs.declared.status.Status.TheVariants.{Done, NotProved, Usage, BadCertificate}
use Rattle.qecode_commands.specs.Answers.{AnswersProblem, SolvesProblem, ChecksFile as ChecksTreeFile}
use Rattle.qecode_commands.specs.Formulas.{AnswersFormula, DecidesFormula}
use Rattle.qecode_commands.specs.Files.{IsFile, TurnsFileDown}
use Rattle.dense_commands.specs.declared.head.Heading.{Heading}
use Rattle.dense_commands.specs.declared.head.Heading.TheVariants.{Lemmas, Optimum, Dense, Tree}
use Rattle.dense_commands.specs.Words.{Asked, solves, decides, checks}

-- the text is that of a list that proves who loses, which is so; it is no longer than `check` reads
pub record SolvesByList (g : Game) (status : Status) (text : List ℕ) : Type 0 where
  pub done : status ≡ Done
  pub loser : Kind
  pub proof : IsProof g text loser
  pub within : length text ≤ 1073741824

-- the text proves that a value is the game's optimum, which it is; it is no longer than `check` reads
pub record SolvesByBest (g : Game) (status : Status) (text : List ℕ) : Type 0 where
  pub done : status ≡ Done
  pub value : ℤ
  pub proof : IsBestProof g text value
  pub within : length text ≤ 1073741824

-- the text is that of a dense certificate that proves who wins, and what it states is so; it is no longer than `check` reads
pub record SolvesDensely (g : Game) (status : Status) (text : List ℕ) : Type 0 where
  pub done : status ≡ Done
  pub outcome : Outcome
  pub optimum : Option ℤ
  pub settled : IsSettled outcome
  pub proof : IsDenseProof g text outcome optimum
  pub within : length text ≤ 1073741824

-- what is answered for a problem, and so many turns, where no optimum is looked for by lists: a list, or what `qecode solve` answers
abbrev pub SolvesGame : ℕ → Game → Status → List ℕ → Type 0
SolvesGame turns g status text = SolvesByList g status text ⊎ SolvesProblem turns g status text

-- the same where an optimum is looked for by lists
abbrev pub SolvesByLists : ℕ → Game → Status → List ℕ → Type 0
SolvesByLists turns g status text = SolvesByBest g status text ⊎ SolvesGame turns g status text

-- what `solve` answers for a problem, and so many turns
abbrev pub Solves : ℕ → Game → Status → List ℕ → Type 0
Solves turns g status text = SolvesDensely g status text ⊎ SolvesByLists turns g status text

-- what is so of a formula where the side of this kind loses its game
abbrev pub TellsLoser : Kind → Formula → Type 0
TellsLoser Exists φ = IsFalse (is_true φ)
TellsLoser Forall φ = IsTrue (is_true φ)

-- the text is that of a list for the formula's game; true is stated of a true formula alone, and false of one that isn't
pub record DecidesByList (φ : Formula) (status : Status) (text : List ℕ) : Type 0 where
  pub list : SolvesByList (game_of φ) status text
  pub tells : TellsLoser list.loser φ

-- what `qbf` answers for a formula, and so many turns: a list, or what `qecode qbf` answers
abbrev pub DecidesGame : ℕ → Formula → Status → List ℕ → Type 0
DecidesGame turns φ status text = DecidesByList φ status text ⊎ DecidesFormula turns φ status text

-- the line that tells who wins, by the side that loses
abbrev pub yes_line : Kind → List ℕ
yes_line Exists = codes "yes false\n"
yes_line Forall = codes "yes true\n"

-- the bytes are a list that proves what it states, which is so, and is repeated
pub record Confirms (g : Game) (bytes text : List ℕ) : Type 0 where
  pub loser : Kind
  pub proof : IsProof g bytes loser
  pub line : text ≡ yes_line loser

-- they are a list that doesn't
pub record Denies (g : Game) (bytes text : List ℕ) : Type 0 where
  pub no_proof : IsNoProof g bytes
  pub line : text ≡ codes "no\n"

-- they are no list's text, and the line tells the first place at which that shows
pub record IsNoList (bytes text : List ℕ) : Type 0 where
  pub place : ℕ
  pub fault : IsFault place bytes
  pub line : text ≡ codes "bad certificate at " ++ decimal place ++ codes "\n"

-- what `check` answers for the bytes of a list's text
abbrev pub ChecksBytes : Game → List ℕ → Status → List ℕ → Type 0
ChecksBytes g bytes Done text = Confirms g bytes text
ChecksBytes g bytes NotProved text = Denies g bytes text
ChecksBytes g bytes BadCertificate text = IsNoList bytes text
ChecksBytes g bytes status text = ⊥

-- the bytes prove that a value is the optimum, which it is, and the line says so
pub record ConfirmsBest (g : Game) (bytes text : List ℕ) : Type 0 where
  pub value : ℤ
  pub proof : IsBestProof g bytes value
  pub line : text ≡ codes "yes " ++ outcome_text True (Some value)

-- they are the text of a value and two lists, which don't prove that
pub record DeniesBest (g : Game) (bytes text : List ℕ) : Type 0 where
  pub no_proof : IsNoBestProof g bytes
  pub line : text ≡ codes "no\n"

-- they are no such text, and the line tells the first place at which that shows
pub record IsNoBest (bytes text : List ℕ) : Type 0 where
  pub place : ℕ
  pub fault : IsFaultOfBest place bytes
  pub line : text ≡ codes "bad certificate at " ++ decimal place ++ codes "\n"

-- what `check` answers for the bytes of a value and two lists
abbrev pub ChecksBestBytes : Game → List ℕ → Status → List ℕ → Type 0
ChecksBestBytes g bytes Done text = ConfirmsBest g bytes text
ChecksBestBytes g bytes NotProved text = DeniesBest g bytes text
ChecksBestBytes g bytes BadCertificate text = IsNoBest bytes text
ChecksBestBytes g bytes status text = ⊥

-- the bytes are a dense certificate that proves what it states, which is so, and is repeated
pub record ConfirmsDense (g : Game) (bytes text : List ℕ) : Type 0 where
  pub outcome : Outcome
  pub optimum : Option ℤ
  pub proof : IsDenseProof g bytes outcome optimum
  pub line : text ≡ codes "yes " ++ outcome_text outcome optimum

-- they are one that doesn't
pub record DeniesDense (g : Game) (bytes text : List ℕ) : Type 0 where
  pub no_proof : IsNoDenseProof g bytes
  pub line : text ≡ codes "no\n"

-- they are no dense certificate's text, and the line tells the first place at which that shows
pub record IsNoDense (bytes text : List ℕ) : Type 0 where
  pub place : ℕ
  pub fault : IsFaultOfDense place bytes
  pub line : text ≡ codes "bad certificate at " ++ decimal place ++ codes "\n"

-- what `check` answers for the bytes of a dense certificate
abbrev pub ChecksDenseBytes : Game → List ℕ → Status → List ℕ → Type 0
ChecksDenseBytes g bytes Done text = ConfirmsDense g bytes text
ChecksDenseBytes g bytes NotProved text = DeniesDense g bytes text
ChecksDenseBytes g bytes BadCertificate text = IsNoDense bytes text
ChecksDenseBytes g bytes status text = ⊥

-- what it answers for the file of a list
abbrev pub ChecksListFile : List ℕ → Option (List ℕ) → (ℕ → Type 0) → Game → Status → List ℕ → Type 0
ChecksListFile name told gave g status text =
    TurnsFileDown 1073741824 name told gave status text ⊎ ((bytes : List ℕ) × IsFile 1073741824 told bytes × ChecksBytes g bytes status text)

-- and for that of a value and two lists
abbrev pub ChecksBestFile : List ℕ → Option (List ℕ) → (ℕ → Type 0) → Game → Status → List ℕ → Type 0
ChecksBestFile name told gave g status text =
    TurnsFileDown 1073741824 name told gave status text ⊎ ((bytes : List ℕ) × IsFile 1073741824 told bytes × ChecksBestBytes g bytes status text)

-- and for that of a dense certificate
abbrev pub ChecksDenseFile : List ℕ → Option (List ℕ) → (ℕ → Type 0) → Game → Status → List ℕ → Type 0
ChecksDenseFile name told gave g status text =
    TurnsFileDown 1073741824 name told gave status text ⊎ ((bytes : List ℕ) × IsFile 1073741824 told bytes × ChecksDenseBytes g bytes status text)

-- What the first bytes tell. A text of the third version is that of a value and two lists where `b` stands behind its first line:
-- no list's text goes on so, and no other text of a value does.
abbrev pub heading_in : List ℕ → Heading
heading_in bytes =
    if bytes_eq (take 9 bytes) (codes "qcert 3\nb") then Optimum
    else if bytes_eq (take 7 bytes) (codes "qcert 3") then Lemmas
    else if bytes_eq (take 7 bytes) (codes "qcert 4") then Dense else Tree

-- the file, where it is told, begins so
abbrev pub HasHead : Heading → Option (List ℕ) → Type 0
HasHead heading told = IfSome told (λ bytes. heading ≡ heading_in bytes)

-- what `check` answers for the file of a certificate that begins so; a tree is judged as `qecode check` judges it
abbrev pub ChecksAs : Heading → List ℕ → Option (List ℕ) → (ℕ → Type 0) → Game → Status → List ℕ → Type 0
ChecksAs Lemmas name told gave g status text = ChecksListFile name told gave g status text
ChecksAs Optimum name told gave g status text = ChecksBestFile name told gave g status text
ChecksAs Dense name told gave g status text = ChecksDenseFile name told gave g status text
ChecksAs Tree name told gave g status text = ChecksTreeFile name told gave g status text

-- what it answers for a certificate's file
abbrev pub ChecksFile : List ℕ → Option (List ℕ) → (ℕ → Type 0) → Game → Status → List ℕ → Type 0
ChecksFile name told gave g status text = (heading : Heading) × HasHead heading told × ChecksAs heading name told gave g status text

-- what is answered for what is asked
abbrev pub AnswersAsked : Asked → (List ℕ → Option (List ℕ)) → (ℕ → Type 0) → Status → List ℕ → Type 0
AnswersAsked (solves name turns) told gave status text = AnswersProblem (Solves turns) name (told name) gave status text
AnswersAsked (decides name turns) told gave status text = AnswersFormula (DecidesGame turns) name (told name) gave status text
AnswersAsked (checks problem certificate) told gave status text =
    AnswersProblem (ChecksFile certificate (told certificate) gave) problem (told problem) gave status text

-- what is answered for the words; told gives the bytes of the names that are told
abbrev pub Answers : Option Asked → (List ℕ → Option (List ℕ)) → (ℕ → Type 0) → Status → List ℕ → Type 0
Answers None told gave Usage text = text ≡ codes "usage: qdense solve PROBLEM [--turns N] | check PROBLEM CERTIFICATE | qbf FILE [--turns N]\n"
Answers None told gave status text = ⊥
Answers (Some asked) told gave status text = AnswersAsked asked told gave status text
