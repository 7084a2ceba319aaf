use Rattle.std.proofs.Common.{refl, sym, subst, rules, arith, get_or, add-one, ℤ}
use Rattle.std.specs.Prelude.{pos}
use Rattle.std.proofs.lemmas.Int.{to_z-of_z}
use mir.Val.{SFits}
use mir.Syntax.{w64}
use Rattle.qc_model.specs.declared.problem.Arg.TheVariants.{Var}
use Rattle.qc_model.specs.Domains.{values_left}
use Rattle.qc_model.specs.Refuted.{left_to}
use Rattle.prop_base.specs.Pruning.{is_just}
use Rattle.prop_base.proofs.Steps.{pruning_same}
use Rattle.prop_linear.specs.Tightening.{IsNear}
use Rattle.prop_linear.specs.Sides.{signed}
use Rattle.prop_linear.proofs.Moves.{near_more}
use Rattle.prop_linear.proofs.Sides.{signed_length}
use Rattle.prop_linear.proofs.Found.{placed, open_there}
use Rattle.prop_linear.proofs.tighten.tighten_place.Goals as goal

pub is_near-requires-clause-x : goal.is_near-requires-clause-x
is_near-requires-clause-x c =
    placed c.args.asked.problem.now c.args.asked.rule.now c.args.store.now.box c.args.items.now c.args.k c.in-Var.x (Var (record { 0 = 0 })) c.requires.fits c.requires.sees c.requires.place c.in-Var.is

pub is_near-requires-clause-open : goal.is_near-requires-clause-open
is_near-requires-clause-open c =
    open_there c.args.asked.problem.now c.args.asked.rule.now c.args.store.now.box c.args.items.now c.args.k c.in-Var.x (Var (record { 0 = 0 })) c.known.ensures.domains c.requires.fits c.requires.sees c.requires.place c.in-Var.is

pub returns-clause-pruning : goal.returns-clause-pruning
returns-clause-pruning c = pruning_same (is_just c.args.asked.c.0) c.args.asked.problem.now _ _ _ _ refl refl refl

pub returns-clause-near : goal.returns-clause-near
returns-clause-near c a =
    let f_fits : SFits w64 c.factor_at.result = search rules in
    let box = c.args.store.now.box in
    let ns = signed c.args.negative c.args.factors.now in
    let xs = c.args.items.now in
    let n = get_or ns c.args.k (pos 0) in
    let t = simp to_z-of_z at c.is_near.ensures c.if-is_near.true in
    let N : ℤ → Type 0 = λ z. IsNear z c.args.s (values_left box c.in-Var.x.0) in
    let u = subst N c.factor_at.ensures t in
    rw add-one
    (near_more c.args.s ns xs c.args.k box (pos 0) (Var (record { 0 = 0 })) (omega (arith, signed_length c.args.negative c.args.factors.now, c.requires.equal, c.requires.place)) c.requires.place a
    (subst (λ z. IsNear n c.args.s (left_to box z)) (sym c.in-Var.is) u))
