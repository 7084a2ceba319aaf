use Rattle.std.proofs.Common.{◌≡◌, sym, subst, rules, arith, true}
use Rattle.std.specs.Prelude.{◌≤ℤ◌}
use Rattle.std.proofs.lemmas.Int.{to_z-of_z, ints}
use mir.Val.{SFits}
use mir.Syntax.{w64}
use Rattle.qc_model.specs.Domains.{least_value, greatest_value}
use Rattle.qc_model.specs.Refuted.{left_to}
use Rattle.qc_model.specs.Valid.{is_number}
use Rattle.qc_refuter.specs.Met.{seen}
use Rattle.qc_refuter.proofs.Terms.{greatest_small}
use Rattle.qc_refuter.proofs.Fill.{past_order, past_is, least_to_greatest}
use Rattle.qc_refuter.proofs.full.end_past.Goals as goal

pub width-requires-clause-high : goal.width-requires-clause-high
width-requires-clause-high c =
    let g_fits : SFits w64 c.greatest.result = search rules in
    simp to_z-of_z (subst (λ z. is_number z ≡ true) (sym c.greatest.ensures) (greatest_small (left_to (seen c.args.view.now) c.args.arg) c.requires.arg))

pub width-requires-clause-order : goal.width-requires-clause-order
width-requires-clause-order c =
    let l_fits : SFits w64 c.args.low = search rules in
    let a_fits : SFits w64 c.least.result = search rules in
    let g_fits : SFits w64 c.greatest.result = search rules in
    let t = simp to_z-of_z at c.if-least-low.false in
    let o = least_to_greatest (left_to (seen c.args.view.now) c.args.arg) in
    let ends : c.least.result ≤ℤ c.greatest.result = omega (arith, ints, c.least.ensures, c.greatest.ensures, o) in
    simp to_z-of_z (past_order c.args.low c.least.result c.greatest.result t ends)

pub returns-clause-some : goal.returns-clause-some
returns-clause-some c =
    let l_fits : SFits w64 c.args.low = search rules in
    let a_fits : SFits w64 c.least.result = search rules in
    let g_fits : SFits w64 c.greatest.result = search rules in
    let t = simp to_z-of_z at c.if-least-low.false in
    let w = simp to_z-of_z at c.width.ensures in
    let box = seen c.args.view.now in
    past_is c.args.low c.least.result c.greatest.result (least_value (left_to box c.args.arg)) (greatest_value (left_to box c.args.arg)) c.width.result c.least.ensures c.greatest.ensures t w.value
