use Rattle.std.proofs.Common.{◌≡◌, drop, map}
use Rattle.qc_model.specs.Domains.{domain_values}
use Rattle.qc_play.specs.Play.{lies_in}
use Rattle.qc_play.proofs.tuple.lie_in.Given as goal

abbrev pub invariant-loop-k : goal.invariant-loop-k
invariant-loop-k l =
    lies_in (drop l.k l.tuple) (map (λ x. domain_values x.domain) (drop l.k l.variables))
    ≡ lies_in l.tuple (map (λ x. domain_values x.domain) l.variables)
