-- What is answered for a formula's file.
use Rattle.std.specs.Prelude.{◌≡◌, ◌⊎◌, ℕ, List, [], ◌++◌, codes, decimal, Option, IsTrue, IsFalse, ⊤}
use Rattle.qc_model.specs.Content.{Game}
use Rattle.qc_model.specs.Canonical.{canonical_text}
use Rattle.proof_tree.specs.declared.tree.Outcome.{Outcome}
use Rattle.proof_tree.specs.declared.tree.Outcome.TheVariants.{True, False, Open as OpenOutcome}
use Rattle.qdimacs.specs.declared.fault.QdimacsKind.{QdimacsKind}
use Rattle.qdimacs.specs.declared.fault.QdimacsKind.TheVariants.{Syntax, OutOfRange, Repeated, WrongCount, TooMany}
use Rattle.qdimacs.specs.declared.fault.QdimacsFault.{QdimacsFault}
use Rattle.qdimacs.specs.declared.fault.QdimacsFault.TheVariants.{Refused, Memory as Want}
use Rattle.qdimacs.specs.Grammar.{File}
use Rattle.qdimacs.specs.Formula.{Formula, is_true}
use Rattle.qdimacs.specs.Content.{game_of}
use Rattle.qdimacs.specs.Read.{IsProblemOf as IsGameOf}
use Rattle.qdimacs.specs.Refusals.{States, IsRefused as IsRefusedFormula, formula_of}
use Rattle.qecode_commands.specs.declared.status.Status.{Status}
use Rattle.qecode_commands.specs.declared.status.Status.TheVariants.{Done, Open, Memory, BadQdimacs}
use Rattle.qecode_commands.specs.Certifies.{Certifies}
use Rattle.qecode_commands.specs.Files.{IsFile, TurnsFileDown}

-- what is stated is so of the formula
abbrev pub Tells : Outcome → Formula → Type 0
Tells True φ = IsTrue (is_true φ)
Tells False φ = IsFalse (is_true φ)
Tells (OpenOutcome n) φ = ⊤

-- the text is that of a certificate of the formula's game; true is stated of a true formula alone, and false of one that isn't
pub record Decides (φ : Formula) (turns : ℕ) (status : Status) (text : List ℕ) : Type 0 where
  pub certifies : Certifies (game_of φ) turns status text
  pub tells : Tells certifies.outcome φ

-- what `qbf` answers for a formula, and so many turns
abbrev pub DecidesFormula : ℕ → Formula → Status → List ℕ → Type 0
DecidesFormula turns φ Done text = Decides φ turns Done text
DecidesFormula turns φ Open text = Decides φ turns Open text
DecidesFormula turns φ Memory text = text ≡ []
DecidesFormula turns φ status text = ⊥

-- and with `--text`: the text of its game
abbrev pub RewritesFormula : Formula → Status → List ℕ → Type 0
RewritesFormula φ Done text = text ≡ canonical_text (game_of φ)
RewritesFormula φ Memory text = text ≡ []
RewritesFormula φ status text = ⊥

-- the number and the name of a kind
abbrev pub kind_of_qdimacs : QdimacsKind → List ℕ
kind_of_qdimacs Syntax = codes "1 Syntax"
kind_of_qdimacs OutOfRange = codes "2 OutOfRange"
kind_of_qdimacs Repeated = codes "3 Repeated"
kind_of_qdimacs WrongCount = codes "4 WrongCount"
kind_of_qdimacs TooMany = codes "5 TooMany"

abbrev pub qdimacs_line : QdimacsKind → ℕ → List ℕ
qdimacs_line kind at = codes "bad qdimacs: " ++ kind_of_qdimacs kind ++ codes " at " ++ decimal at ++ codes "\n"

-- the text is refused, and the line tells the kind and the place
pub record IsNoFormula (bytes text : List ℕ) : Type 0 where
  pub kind : QdimacsKind
  pub at : ℕ
  pub refuses : IsRefusedFormula bytes kind at
  pub line : text ≡ qdimacs_line kind at

-- what is answered for a text that can't be read
abbrev pub TurnsQdimacsDown : QdimacsFault → Status → List ℕ → Type 0
TurnsQdimacsDown (Refused kind at) status text = (status ≡ BadQdimacs) × (text ≡ qdimacs_line kind at)
TurnsQdimacsDown (Want e) status text = (status ≡ Memory) × (text ≡ [])

-- what is answered for a text that is no formula's
abbrev pub TurnsFormulaTextDown : List ℕ → Status → List ℕ → Type 0
TurnsFormulaTextDown bytes BadQdimacs text = IsNoFormula bytes text
TurnsFormulaTextDown bytes Memory text = text ≡ []
TurnsFormulaTextDown bytes status text = ⊥

-- the bytes of the file are no formula's text
pub record HasNoFormula (told : Option (List ℕ)) (text : List ℕ) : Type 0 where
  pub bytes : List ℕ
  pub file : IsFile 4194304 told bytes
  pub refused : IsNoFormula bytes text

-- what is answered for a formula's file that can't be had, or has none
abbrev pub TurnsFormulaDown : List ℕ → Option (List ℕ) → (ℕ → Type 0) → Status → List ℕ → Type 0
TurnsFormulaDown name told gave BadQdimacs text = HasNoFormula told text
TurnsFormulaDown name told gave status text = TurnsFileDown 4194304 name told gave status text

-- the file has the text of this formula
pub record IsFormulaOf (told : Option (List ℕ)) (f : File) : Type 0 where
  pub bytes : List ℕ
  pub file : IsFile 4194304 told bytes
  pub states : States bytes f

-- the file has the text of a formula whose game this is
pub record HasGame (told : Option (List ℕ)) (g : Game) : Type 0 where
  pub bytes : List ℕ
  pub file : IsFile 4194304 told bytes
  pub read : IsGameOf bytes g

-- what is answered for a formula's file, where P says what is answered for its formula
abbrev pub AnswersFormula : (Formula → Status → List ℕ → Type 0) → List ℕ → Option (List ℕ) → (ℕ → Type 0) → Status → List ℕ → Type 0
AnswersFormula P name told gave status text =
    TurnsFormulaDown name told gave status text ⊎ ((f : File) × IsFormulaOf told f × P (formula_of f) status text)
