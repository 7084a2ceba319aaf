use Rattle.std.proofs.Common.{◌≡◌, rules}
use Rattle.std.proofs.lemmas.Int.{to_z-of_z}
use mir.Val.{SFits}
use mir.Syntax.{w64}
use Rattle.joins.specs.Columns.{known_with}
use Rattle.joins.proofs.Gathered.{gathers_at_most}
use Rattle.joins.proofs.forall_join.ForallJoin.add_at_most.Goals as goal

pub returns-clause-stands : goal.returns-clause-stands
returns-clause-stands c =
    let j = c.args.self.now in
    let fits = c.ranges.best in
    let known_fits : SFits w64 j.known = search rules in
    let result_fits : SFits w64 c.known_with-self.result = search rules in
    let e : c.known_with-self.result ≡ known_with j.columns.items j.any_known j.known c.args.best = simp (to_z-of_z, c.as_slice.ensures.value) at c.known_with-self.ensures in
    λ xs g s. simp to_z-of_z (rw e (gathers_at_most j.columns.items j.any_lost j.all_exact j.all_known j.has_exact j.any_known j.known xs c.args.best g s))
