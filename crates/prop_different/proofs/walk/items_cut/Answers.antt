use Rattle.std.proofs.Common.{ℕ, ◌+◌, ◌<◌, [], map, get_or, rules, arith}
use Rattle.std.proofs.lemmas.Int.{to_z-of_z}
use mir.Val.{SFits}
use mir.Syntax.{w64}
use Rattle.qc_model.specs.Refuted.{left_to}
use Rattle.prop_different.specs.Different.{IsLeftAlone}
use Rattle.qc_refuter.proofs.Fill.{one_more}
use Rattle.prop_different.proofs.walk.items_cut.Goals as goal

pub loop-k-preserved : goal.loop-k-preserved
loop-k-preserved c =
    let low_fits : SFits w64 c.args.low = search rules in
    let ds = map (left_to c.args.store.now.box) c.args.items.now in
    let P : ℕ → Type 0 = λ j. IsLeftAlone ds c.args.low (get_or ds j []) in
    let before : (j : ℕ) → j < c.loop-k.k → P j = simp to_z-of_z at c.loop-k.invariant in
    let here : P c.loop-k.k = simp to_z-of_z at c.in_default.ensures.none in
    let all : (j : ℕ) → j < c.loop-k.k + 1 → P j = one_more P c.loop-k.k before here in
    simp to_z-of_z all

pub returns-clause-none : goal.returns-clause-none
returns-clause-none c =
    let low_fits : SFits w64 c.args.low = search rules in
    let ds = map (left_to c.args.store.now.box) c.args.items.now in
    let all : (j : ℕ) → j < c.loop-k.k → IsLeftAlone ds c.args.low (get_or ds j []) = simp to_z-of_z at c.loop-k.invariant in
    λ j h. all j (omega (arith, h, c.loop-k-test.false))
