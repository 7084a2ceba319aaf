-- The name of a predicate is that of no other one.
use Rattle.std.proofs.Common.{◌≡◌, refl, Some}
use Rattle.qc_model.specs.declared.problem.Pred.{Pred}
use Rattle.qc_model.specs.declared.problem.Pred.TheVariants.{IntEq}
use Rattle.qc_model.specs.Signature.{pred_name}
use Rattle.text_resolve.specs.Fits.{predicate_of}

-- a predicate's name is read as that predicate
pub predicate_found : (p : Pred) → predicate_of (pred_name p) ≡ Some p
unfolding predicate_of
predicate_found IntEq = refl
predicate_found _ = refl
