use Rattle.std.proofs.Common.{IsTrue, subst}
use Rattle.qc_model.specs.Valid.{is_set}
use Rattle.qc_model.proofs.Places.{listed_ascends}
use Rattle.model_arguments.proofs.sets.contains.Goals as goal

pub is_listed-requires : goal.is_listed-requires
is_listed-requires c =
    rw c.items.ensures (listed_ascends c.in-Listed.numbers (subst (λ s. IsTrue (is_set s)) c.in-Listed.is c.requires))
