-- What a box and the sums of a lemma say of a constraint is so.
use Rattle.std.proofs.Common.{◌≡◌, inl, inr, ℕ, suc, true, List, length, refl, arith, Some, slice_get}
use Rattle.std.specs.Prelude.{ℤ}
use Rattle.std.proofs.lemmas.Bool.{or_cases}
use Rattle.qc_model.specs.Content.{Game, Rule}
use Rattle.qc_model.specs.Lists.{LiesIn}
use Rattle.qc_model.specs.Domains.{Box, declared_box}
use Rattle.qc_model.specs.Game.{before}
use Rattle.qc_model.specs.Holds.{holds_on}
use Rattle.qc_model.specs.Refuted.{refuted_by}
use Rattle.qc_model.specs.Valid.{IsValid}
use Rattle.qc_model.specs.Visible.{ArgumentsBelow}
use Rattle.qc_model.proofs.Before.{before-le}
use Rattle.model_table.proofs.Fits.{length_fits}
use Rattle.model_table.proofs.Ordered.{valid_ordered}
use Rattle.model_table.proofs.Valid.{valid_table_sound}
use Rattle.lemma_list.specs.Lemmas.{Lemma}
use Rattle.lemma_list.specs.Entailment.{entailed_by}
use Rattle.lemma_list.specs.Sums.{linear_of, refuted_by_sums, entailed_by_sums, is_refuted, is_kept}
use Rattle.lemma_boxes.specs.Claims.{Fitting, BoxesTell}
use Rattle.lemma_boxes.proofs.Lists.{lies_in_box}
use Rattle.lemma_boxes.proofs.Allowed.{arguments_wider}
use Rattle.lemma_boxes.proofs.Entailments.{entailed_holds}
use Rattle.lemma_boxes.proofs.Sums.{sums_refute, sums_keep}

module _ (g : Game) (valid : IsValid g) where
  pub visible : (k : ℕ) (c : Rule) (w : List ℤ) → slice_get g.constraints k ≡ Some c → LiesIn w (declared_box g) → ArgumentsBelow (length w) c.args
  visible k c w e f =
      let most = before-le g (suc c.owner.0) in
      arguments_wider (before g (suc c.owner.0)) (length w) c.args (omega (arith, length_fits w (declared_box g) f)) ((valid_ordered g valid).visible k c e)

  pub kept_on : (m : Lemma) (w : List ℤ) (box : Box) (k : ℕ) (c : Rule) → slice_get g.constraints k ≡ Some c → Fitting g m box w → is_kept g m k c box ≡ true → holds_on c w ≡ true
  kept_on m w box k c q f e =
      elim (or_cases (entailed_by c box) (entailed_by_sums g m k (linear_of c) box) e) [
        | inl z ↦ entailed_holds g valid k c w box q (visible k c w q f.declared) (lies_in_box w (declared_box g) f.declared) (lies_in_box w box f.inside) z
        | inr z ↦ sums_keep g w box f.inside m f.sums k c q (visible k c w q f.declared) (linear_of c) refl z
      ]

  pub refuted_on : (m : Lemma) (w : List ℤ) (box : Box) (k : ℕ) (c : Rule) → slice_get g.constraints k ≡ Some c → Fitting g m box w → is_refuted g m k c box ≡ true → holds_on c w ≡ true → ⊥
  refuted_on m w box k c q f e ok =
      elim (or_cases (refuted_by c box) (refuted_by_sums g m k (linear_of c) box) e) [
        | inl z ↦ valid_table_sound g valid k c box w q (visible k c w q f.declared) (lies_in_box w (declared_box g) f.declared) z (lies_in_box w box f.inside) ok
        | inr z ↦ sums_refute g w box f.inside m f.sums k c q (visible k c w q f.declared) (linear_of c) refl z ok
      ]

pub boxes_tell : BoxesTell
boxes_tell g m k c box w valid e f = (refuted_on g valid m w box k c e f, kept_on g valid m w box k c e f)
