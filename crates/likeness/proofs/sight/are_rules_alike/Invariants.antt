use Rattle.std.proofs.Common.{◌≡◌, map, take}
use Rattle.std.specs.Prelude.{nat_le, IsTrue}
use Rattle.std.specs.Borrow.{Bor}
use Rattle.qc_model.specs.Content.{Rule}
use Rattle.qc_model.specs.Lists.{Among}
use Rattle.proof_alike.specs.Alike.{sees}
use Rattle.likeness.proofs.sight.are_rules_alike.Given as goal

abbrev pub invariant-loop-rule : goal.invariant-loop-rule
invariant-loop-rule l =
    (c : Rule) → Among c (map (λ (r : Bor Rule). r.now) (take l.rule-index l.rules)) → IsTrue (nat_le l.i.0 c.owner.0) → sees l.sight l.i.0 l.kept c ≡ sees l.sight l.i.0 l.here c
