use Rattle.std.proofs.Common.{IsTrue, subst}
use Rattle.qc_model.specs.Valid.{is_set}
use Rattle.qc_model.proofs.Places.{listed_ascends}
use Rattle.qc_refuter.proofs.members.member_from.Goals as goal

pub listed_from-requires : goal.listed_from-requires
listed_from-requires c =
    rw c.items.ensures (listed_ascends c.in-Listed.numbers (subst (λ s. IsTrue (is_set s)) c.in-Listed.is c.requires))
