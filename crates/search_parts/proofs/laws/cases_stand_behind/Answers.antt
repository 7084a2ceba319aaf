use Rattle.std.proofs.Common.{[]}
use Rattle.search_parts.proofs.Waiting.{stands_behind}
use Rattle.search_parts.proofs.laws.cases_stand_behind.Goals as goal

pub returns : goal.returns
returns c =
    λ cuts above g later i d box h x v vs before seen ms aside rest begun stopped had left last steps e bs cut nothing many whole paid p r.
    stands_behind cuts above g later i d box h x vs before had [] cut nothing v vs seen ms aside rest begun stopped had left last steps e bs many whole paid p r
