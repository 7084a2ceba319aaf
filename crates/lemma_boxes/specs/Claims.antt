-- What a box and the sums of a lemma say of a constraint.
use Rattle.std.specs.Prelude.{◌≡◌, ℕ, List, slice_get, Some, IsTrue, ℤ}
use Rattle.qc_model.specs.Content.{Game, Rule}
use Rattle.qc_model.specs.Lists.{LiesIn}
use Rattle.qc_model.specs.Domains.{Box, declared_box}
use Rattle.qc_model.specs.Holds.{holds_on}
use Rattle.qc_model.specs.Valid.{IsValid}
use Rattle.lemma_list.specs.Lemmas.{Lemma}
use Rattle.lemma_list.specs.Sums.{sums_hold, is_refuted, is_kept}

-- declared values in a box, on which the sums of a lemma hold
pub record Fitting (g : Game) (m : Lemma) (box : Box) (w : List ℤ) : Type 0 where
  pub declared : LiesIn w (declared_box g)
  pub inside : LiesIn w box
  pub sums : IsTrue (sums_hold g m w)

abbrev pub BoxesTell : Type 0
BoxesTell =
    (g : Game) (m : Lemma) (k : ℕ) (c : Rule) (box : Box) (w : List ℤ) → IsValid g → slice_get g.constraints k ≡ Some c → Fitting g m box w →
    (IsTrue (is_refuted g m k c box) → ¬ IsTrue (holds_on c w)) × (IsTrue (is_kept g m k c box) → IsTrue (holds_on c w))
