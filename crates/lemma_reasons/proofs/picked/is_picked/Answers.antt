use Rattle.std.proofs.Common.{rules, ◌≡◌, ◌∙◌, sym, false, length, map, arith}
use Rattle.std.specs.Prelude.{pos, ◌+ℤ◌, ◌<ℤ◌, ◌≤ℤ◌}
use Rattle.std.proofs.lemmas.Int.{ints, to_z-of_z}
use Rattle.std.proofs.lemmas.List.{length-map}
use mir.Val.{SFits}
use mir.Syntax.{w64}
use Rattle.qc_model.specs.declared.problem.Arg.TheVariants.{Var}
use Rattle.qc_model.specs.Domains.{is_single, least_value}
use Rattle.qc_model.specs.Refuted.{left_to}
use Rattle.lemma_reasons.proofs.Picking.{none_picked, below_picked, behind_picked, placed}
use Rattle.lemma_reasons.proofs.picked.is_picked.Goals as goal

pub returns-then-not-is_fixed : goal.returns-then-not-is_fixed
returns-then-not-is_fixed c =
    let s : is_single (left_to c.args.store.now.box c.args.b) ≡ false = search rules in
    sym (none_picked (pos 1) (left_to c.args.store.now.box c.args.b) (map (left_to c.args.store.now.box) c.args.items.now) (left_to c.args.store.now.box c.args.c) s)

pub returns-then-place-lt1 : goal.returns-then-place-lt1
returns-then-place-lt1 c =
    let small : SFits w64 c.least-place.result = search rules in
    let t = simp to_z-of_z at c.if-place-lt1.true in
    let s : least_value (left_to c.args.store.now.box c.args.b) <ℤ pos 1 = grind (arith, ints, c.least-place.ensures, t) in
    sym (below_picked (pos 1) (left_to c.args.store.now.box c.args.b) (map (left_to c.args.store.now.box) c.args.items.now) (left_to c.args.store.now.box c.args.c) s)

pub returns-then-place-items : goal.returns-then-place-items
returns-then-place-items c =
    let n : length (map (left_to c.args.store.now.box) c.args.items.now) ≡ length c.args.items.now = length-map _ _ in
    let small : SFits w64 c.least-place.result = search rules in
    let t = simp to_z-of_z at c.if-place-items.true in
    let s : (pos 1 +ℤ pos (length (map (left_to c.args.store.now.box) c.args.items.now))) ≤ℤ least_value (left_to c.args.store.now.box c.args.b) =
    grind (arith, ints, n, c.requires.few, c.least-place.ensures, t) in
    sym (behind_picked (pos 1) (left_to c.args.store.now.box c.args.b) (map (left_to c.args.store.now.box) c.args.items.now) (left_to c.args.store.now.box c.args.c) s)

pub returns : goal.returns
returns c =
    let small : SFits w64 c.least-place.result = search rules in
    let it = simp to_z-of_z at c.are_one_value.ensures in
    let f = simp to_z-of_z at c.if-place-items.false in
    let g = simp to_z-of_z at c.if-place-lt1.false in
    it ∙ placed c.args.store.now.box c.args.items.now c.args.b c.args.c c.least-place.result (Var (record { 0 = 0 })) c.least-place.ensures (search rules) (grind (arith, ints, g)) (grind (arith, ints, f, c.requires.few))
