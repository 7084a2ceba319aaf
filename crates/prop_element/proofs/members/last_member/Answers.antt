use Rattle.std.proofs.Common.{IsTrue, subst}
use Rattle.qc_model.specs.Valid.{is_set}
use Rattle.qc_model.proofs.Places.{listed_ascends}
use Rattle.prop_element.proofs.members.last_member.Goals as goal

pub last_listed-requires-clause-ascending : goal.last_listed-requires-clause-ascending
last_listed-requires-clause-ascending c =
    rw c.items.ensures (listed_ascends c.in-Listed.numbers (subst (λ s. IsTrue (is_set s)) c.in-Listed.is c.requires.set))
