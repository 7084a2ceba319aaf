use Rattle.std.proofs.Common.{◌∙◌, sym, subst, rules, arith, get_or, ℕ, Bool}
use Rattle.std.specs.Prelude.{pos, ◌<ℤ◌}
use Rattle.std.proofs.lemmas.Int.{to_z-of_z}
use mir.Val.{SFits}
use mir.Syntax.{w64}
use Rattle.qc_model.specs.Domains.{has_value}
use Rattle.qc_model.specs.Refuted.{left_to}
use Rattle.prop_element.proofs.Sets.{left_none, one_more, listed_first, none_listed}
use Rattle.prop_element.proofs.members.first_listed.Goals as goal

pub loop-k-init : goal.loop-k-init
loop-k-init c j h =
    let l_fits : SFits w64 c.least.result = search rules in
    let d = left_to c.args.store.now.box c.args.a in
    let b = simp to_z-of_z at c.place_from-start.ensures.before j h in
    left_none d (get_or c.args.numbers.now j (pos 0)) (subst (λ z. get_or c.args.numbers.now j (pos 0) <ℤ z) c.least.ensures b)

pub returns-then-has-clause-some : goal.returns-then-has-clause-some
returns-then-has-clause-some c =
    let k = c.loop-k.k in
    let n_fits : SFits w64 (get_or c.args.numbers.now k (pos 0)) = search rules in
    let e = simp to_z-of_z at c.has.ensures in
    simp to_z-of_z (listed_first (left_to c.args.store.now.box c.args.a) c.args.numbers.now k c.requires.ascending (omega arith) c.loop-k.invariant (sym e ∙ c.if-has.true))

pub loop-k-preserved : goal.loop-k-preserved
loop-k-preserved c =
    let k = c.loop-k.k in
    let d = left_to c.args.store.now.box c.args.a in
    let n_fits : SFits w64 (get_or c.args.numbers.now k (pos 0)) = search rules in
    let e = simp to_z-of_z at c.has.ensures in
    let f : ℕ → Bool = λ j. has_value d (get_or c.args.numbers.now j (pos 0)) in
    one_more f k c.loop-k.invariant (sym e ∙ c.if-has.false)

pub returns-clause-none : goal.returns-clause-none
returns-clause-none c = none_listed (left_to c.args.store.now.box c.args.a) c.args.numbers.now (λ j h. c.loop-k.invariant j (omega arith))
