-- What a run answers in which nothing failed, and where memory sufficed.
use Rattle.std.specs.Prelude.{◌≡◌, ◌≤◌, ◌⊎◌, ⊤, ℕ, ℤ, List, length, Option, Some, None, IsTrue}
use Rattle.qc_model.specs.declared.problem.Kind.{Kind}
use Rattle.qc_model.specs.Content.{Game}
use Rattle.qc_model.specs.Turns.{full_turns_of}
use Rattle.qdimacs.specs.Grammar.{File}
use Rattle.qdimacs.specs.Content.{game_of}
use Rattle.qdimacs.specs.Refusals.{formula_of}
use Rattle.lemma_list.specs.Lemmas.{Entry}
use Rattle.lemma_list.specs.InPlace.{proves}
use Rattle.lemma_judge.specs.Checking.{IsListText}
use Rattle.best_judge.specs.Proof.{IsBestProof}
use Rattle.proof_tree.specs.declared.tree.Outcome.{Outcome}
use Rattle.dense_tree.specs.Tree.{Certificate}
use Rattle.dense_tree.specs.Proves.{proves as proves_densely}
use Rattle.dense_judge.specs.Checking.{IsCertificateText}
use Rattle.qecode_commands.specs.declared.status.Status.{Status}
use Rattle.qecode_commands.specs.declared.status.Status.TheVariants.{Done, Usage}
use Rattle.qecode_commands.specs.Complete.{TellsProblem, TellsFormula, TellsProof as TellsTreeProof}
use Rattle.dense_commands.specs.Words.{Asked, solves, decides, checks}

-- the file is told, and has the text of a list that proves what it states
pub record TellsProof (told : Option (List ℕ)) (g : Game) : Type 0 where
  pub bytes : List ℕ
  pub told_is : told ≡ Some bytes
  pub within : length bytes ≤ 1073741824
  pub loser : Kind
  pub entries : List Entry
  pub read : IsListText bytes loser entries
  pub proved : IsTrue (proves g loser entries)

-- the file is told, and proves that a value is the optimum
pub record TellsBest (told : Option (List ℕ)) (g : Game) : Type 0 where
  pub bytes : List ℕ
  pub told_is : told ≡ Some bytes
  pub within : length bytes ≤ 1073741824
  pub value : ℤ
  pub proof : IsBestProof g bytes value

-- the file is told, and has the text of a dense certificate that proves what it states
pub record TellsDense (told : Option (List ℕ)) (g : Game) : Type 0 where
  pub bytes : List ℕ
  pub told_is : told ≡ Some bytes
  pub within : length bytes ≤ 1073741824
  pub outcome : Outcome
  pub optimum : Option ℤ
  pub certificate : Certificate
  pub read : IsCertificateText bytes outcome optimum certificate
  pub proved : IsTrue (proves_densely g outcome optimum certificate)

-- the file is told, and has a certificate that proves what it states: a list, a value with two, a dense one, or a tree
abbrev pub TellsAny : Option (List ℕ) → Game → Type 0
TellsAny told g = TellsProof told g ⊎ (TellsBest told g ⊎ (TellsDense told g ⊎ TellsTreeProof told g))

-- A problem is solved, and a formula decided, where the turns are as many as the game can take. A certificate that proves what it
-- states is confirmed, of whatever version it is.
abbrev pub Completes : Asked → (List ℕ → Option (List ℕ)) → Status → Type 0
Completes (solves name turns) told status = (g : Game) → TellsProblem (told name) g → full_turns_of g ≤ turns → status ≡ Done
Completes (decides name turns) told status = (f : File) → TellsFormula (told name) f → full_turns_of (game_of (formula_of f)) ≤ turns → status ≡ Done
Completes (checks problem certificate) told status =
    (g : Game) → TellsProblem (told problem) g → TellsAny (told certificate) g → status ≡ Done

abbrev pub IsComplete : Option Asked → (List ℕ → Option (List ℕ)) → Status → Type 0
IsComplete None told status = status ≡ Usage
IsComplete (Some asked) told status = Completes asked told status

-- words that match no command need no memory
abbrev pub MayRunOut : Option Asked → Type 0
MayRunOut None = ⊥
MayRunOut (Some asked) = ⊤
