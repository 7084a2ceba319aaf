use Rattle.std.proofs.Common.{◌≡◌, ◌∙◌, false, arith}
use Rattle.std.specs.Prelude.{◌==◌}
use Rattle.std.proofs.lemmas.Bool.Decides.{nat_tests}
use Rattle.qc_model.specs.Domains.{values_left, is_within}
use Rattle.lemma_reasons.proofs.Left.{none_if}
use Rattle.lemma_reasons.proofs.literals.allows_some.Goals as goal

pub returns-else-literal-x : goal.returns-else-literal-x
returns-else-literal-x c =
    let other : (c.args.literal.x.0 == c.args.x.0) ≡ false = grind (arith, nat_tests) in
    other ∙ none_if (c.args.literal.x.0 == c.args.x.0) (is_within c.args.literal.lo c.args.literal.hi) (values_left c.args.store.now.box c.args.x.0) other
