use Rattle.std.proofs.Common.{◌≡◌, ◌≤◌, ◌+◌, ◌*◌, sum_by, drop}
use Rattle.qc_model.specs.Valid.{domain_width}
use Rattle.qc_model.proofs.validity.domains.total_width.Given as goal

abbrev pub invariant-loop-x : goal.invariant-loop-x
invariant-loop-x l =
    (l.total + sum_by (λ x. domain_width x.domain) (drop l.x-index l.variables) ≡ sum_by (λ x. domain_width x.domain) l.variables)
    × (l.total ≤ l.x-index * 1048576)
