-- What the parts behind a head come to.
use Rattle.std.specs.Prelude.{ℕ, ◌≤◌, List, length, take, drop}
use Rattle.qc_model.specs.declared.problem.Kind.{Kind}
use Rattle.qc_model.specs.declared.problem.Kind.TheVariants.{Exists, Forall}
use Rattle.qc_model.specs.Content.{Game}
use Rattle.lemma_text.specs.Places.{IsText, IsFault}
use Rattle.lemma_judge.specs.Checking.{IsProof}
use Rattle.best_judge.specs.declared.part.Shown.{Shown}
use Rattle.best_judge.specs.declared.part.Shown.TheVariants.{Proved, NotProved, Fault}
use Rattle.best_judge.specs.Proof.{IsFaultOfLists}

-- a list's text that doesn't prove this
pub record IsOther (g : Game) (bytes : List ℕ) (loser : Kind) : Type 0 where
  pub text : IsText bytes
  pub fails : IsProof g bytes loser → ⊥

-- whether the bytes are a list that proves that the side of this kind loses the game
abbrev pub IsShown : Game → List ℕ → Kind → Shown → Type 0
IsShown g bytes loser Proved = IsProof g bytes loser
IsShown g bytes loser NotProved = IsOther g bytes loser
IsShown g bytes loser (Fault at) = IsFault at bytes

-- the fault is at this place at most
abbrev pub IsWithin : ℕ → Shown → Type 0
IsWithin n Proved = Unit {0}
IsWithin n NotProved = Unit {0}
IsWithin n (Fault at) = at ≤ n

-- two lists, of which the first has so many bytes: the one shows that the first game is won, the other that the second isn't
pub record BothProve (won lost : Game) (n : ℕ) (bytes : List ℕ) : Type 0 where
  pub within : n ≤ length bytes
  pub first : IsProof won (take n bytes) Forall
  pub second : IsProof lost (drop n bytes) Exists

-- they are lists that don't both show that
pub record NotBothProve (won lost : Game) (n : ℕ) (bytes : List ℕ) : Type 0 where
  pub within : n ≤ length bytes
  pub first : IsText (take n bytes)
  pub second : IsText (drop n bytes)
  pub fails : IsProof won (take n bytes) Forall → IsProof lost (drop n bytes) Exists → ⊥

abbrev pub AreShown : Game → Game → ℕ → List ℕ → Shown → Type 0
AreShown won lost n bytes Proved = BothProve won lost n bytes
AreShown won lost n bytes NotProved = NotBothProve won lost n bytes
AreShown won lost n bytes (Fault at) = IsFaultOfLists n bytes at
