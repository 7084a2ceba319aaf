use Rattle.std.proofs.Common.{ap, rules}
use Rattle.std.proofs.lemmas.Int.{to_z-of_z}
use mir.Val.{SFits}
use mir.Syntax.{w64}
use Rattle.qc_model.specs.Verdict.{exact, at_most}
use Rattle.joins.specs.Seen.{verdict_of}
use Rattle.joins.proofs.Takings.{small_as}
use Rattle.joins.proofs.scope_join.leaf_of.Goals as goal

pub returns-in-Exact-clause-small : goal.returns-in-Exact-clause-small
returns-in-Exact-clause-small c =
    let out = c.args.out.now in
    λ xs s. small_as xs (verdict_of c.args.found out) (exact out) (ap (λ f. verdict_of f out) c.in-Exact.is) s

pub returns-in-AtMost-clause-small : goal.returns-in-AtMost-clause-small
returns-in-AtMost-clause-small c =
    let out = c.args.out.now in
    let n = c.in-AtMost.best in
    let fits : SFits w64 n = search rules in
    λ xs s. simp to_z-of_z (small_as xs (verdict_of c.args.found out) (at_most n) (ap (λ f. verdict_of f out) c.in-AtMost.is) s)
