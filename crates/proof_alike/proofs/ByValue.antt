-- Constraints that read each of their variables by value.
use Rattle.std.proofs.Common.{◌≡◌, ℕ, true, refl, ap}
use Rattle.qc_model.specs.Arguments.{variables_of}
use Rattle.qc_model.specs.Content.{Game, Rule}
use Rattle.qc_model.specs.Domains.{Box, values_left}
use Rattle.qc_model.specs.Game.{before}
use Rattle.qc_model.specs.Holds.{holds_as, arg_value}
use Rattle.qc_model.specs.Meaning.{meaning_of}
use Rattle.qc_model.specs.Refuted.{left_to, refuted_as}
use Rattle.proof_tree.specs.Place.{position}
use Rattle.proof_alike.specs.Alike.{is_among}
use Rattle.proof_alike.proofs.Boxes.{SameRule}
use Rattle.proof_alike.proofs.Filling.{fill_all}
use Rattle.proof_alike.proofs.Positions.{value_same}

-- each variable of the constraint has the same left in both boxes
pub same_by_value : (g : Game) (i : ℕ) (c : Rule) (u w : Box) → ((x : ℕ) → is_among (variables_of c.args) x ≡ true → values_left u x ≡ values_left w x) → SameRule g i c u w
same_by_value g i c u w h = record {
  refutes = ap (refuted_as (meaning_of c.pred)) (fill_all (left_to u) (left_to w) c.args (record { number = λ n. refl; variable = λ x m. h x.0 m }));
  holds = λ k n. ap (holds_as (meaning_of c.pred)) (
      fill_all (arg_value (position g k u)) (arg_value (position g k w)) c.args
      (record { number = λ n. refl; variable = λ x m. value_same (before g k) x.0 u w (h x.0 m) })
      );
}
