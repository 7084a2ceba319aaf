-- That lemmas and lists of lemmas are right.
use Rattle.std.specs.Prelude.{◌≡◌, ℕ, List, Some, IsTrue}
use Rattle.qc_model.specs.declared.problem.Kind.TheVariants.{Exists, Forall}
use Rattle.qc_model.specs.Content.{Game}
use Rattle.qc_model.specs.Game.{IsWon}
use Rattle.qc_model.specs.Valid.{IsValid}
use Rattle.lemma_list.specs.Lemmas.{Lemma, Shown, Entry}
use Rattle.lemma_list.specs.Reasons.{Known, lemma_at}
use Rattle.lemma_list.specs.InPlace.{in_place, proves}
use Rattle.lemma_list.specs.Claims.{LemmaMeans}

-- each lemma that may be named is true
abbrev pub AreTrue : Game → Known → Type 0
AreTrue g known = (n : ℕ) (m : Lemma) → lemma_at known n ≡ Some m → LemmaMeans g m

-- a lemma in place after lemmas that are true is true
abbrev pub LemmasAreTrue : Type 0
LemmasAreTrue = (g : Game) (known : Known) (s : Shown) → IsValid g → AreTrue g known → IsTrue (in_place g known s) → LemmaMeans g s.lemma

-- a list that proves that the opponent loses shows that the game is won, and one that proves that the player does that it isn't
abbrev pub TrueIsWon : Type 0
TrueIsWon = (g : Game) (entries : List Entry) → IsValid g → IsTrue (proves g Forall entries) → IsWon g

abbrev pub FalseIsLost : Type 0
FalseIsLost = (g : Game) (entries : List Entry) → IsValid g → IsTrue (proves g Exists entries) → ¬ IsWon g
