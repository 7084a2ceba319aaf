use Rattle.std.proofs.Common.{inl, refl}
use Rattle.prop_linear.proofs.filtering.filter_sum.Goals as goal

pub filter_said-requires-clause-said : goal.filter_said-requires-clause-said
filter_said-requires-clause-said c = inl (c.requires.pred, refl)
