use Rattle.std.proofs.Common.{◌∙◌, ap}
use Rattle.std.specs.Ordering.{int_eq}
use Rattle.std.proofs.lemmas.List.Filters.{dedup_is}
use Rattle.text_resolve.specs.Draft.{ascending}
use Rattle.text_resolve.proofs.Ascending.{sorted_once}
use Rattle.text_resolve.proofs.domains.ascending.Goals as goal

pub returns : goal.returns
returns c = dedup_is int_eq _ _ c.dedup.ensures.filtered ∙ sorted_once _ _ c.sort_unstable.ensures.permutation c.sort_unstable.ensures.sorted ∙ ap ascending c.in_ok-values.ensures
