use Rattle.std.proofs.Common.{◌≡◌, ◌∙◌, ap, subst, true}
use Rattle.std.specs.Cmp.Rules.{signed_items}
use Rattle.std.specs.Ordering.{int_eq}
use Rattle.std.specs.Cmp.Lexicographic.{pointwise}
use Rattle.qc_model.specs.Lists.{same_values}
use Rattle.proof_meaning.proofs.LeafWords.{same_true, same_self}
use Rattle.model_arguments.proofs.Bools.{bools_same}
use Rattle.qc_play.proofs.side.is_tuple.Goals as goal

pub returns : goal.returns
returns c =
    let t = c.args.tuple.now in
    let v = c.args.values.now in
    (c.eq.ensures ∙ ap (λ us. pointwise int_eq us v) c.items.ensures)
    ∙ bools_same (pointwise int_eq t v) (same_values t v) (λ e. subst (λ z. same_values t z ≡ true) ((signed_items t v).0 e) (same_self t)) (λ e. (signed_items t v).1 (same_true t v e))
