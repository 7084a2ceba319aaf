use Rattle.qc_model.proofs.Widths.{listed_domain, listed_width}
use Rattle.qc_model.proofs.validity.domains.domain_width.Goals as goal

pub width_of-requires : goal.width_of-requires
width_of-requires c = rw c.items.ensures (listed_domain c.in-Listed.numbers (rw c.in-Listed.is at c.requires))

pub returns-in-Listed-clause-bound : goal.returns-in-Listed-clause-bound
returns-in-Listed-clause-bound c =
    rw (c.width_of.ensures, c.items.ensures) (listed_width c.in-Listed.numbers (rw c.in-Listed.is at c.requires))
