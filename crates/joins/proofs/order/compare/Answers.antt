use Rattle.std.proofs.Common.{◌≡◌, sym, ◌∙◌, arith, rules, ◌≤◌, length, get_or}
use Rattle.std.specs.Prelude.{min, pos}
use Rattle.std.proofs.lemmas.Int.{to_z-of_z}
use mir.Val.{SFits}
use mir.Syntax.{w64}
use Rattle.qc_model.specs.declared.problem.Sense.TheVariants.{Min}
use Rattle.qc_model.specs.declared.problem.Target.TheVariants.{Var}
use Rattle.qc_model.specs.declared.problem.Condition.{Condition}
use Rattle.joins.specs.Order.{number_order}
use Rattle.joins.proofs.Compared.{order_found, order_goes_on, order_at_end, same_vectors}
use Rattle.joins.proofs.order.compare.Goals as goal

pub returns-then-ne-clause-order : goal.returns-then-ne-clause-order
returns-then-ne-clause-order c =
    let d = c.args.list.now in
    let v = c.args.v.now in
    let w = c.args.w.now in
    let k = c.loop-k.k in
    let none : Condition = record { sense = Min; target = Var (record { 0 = 0 }) } in
    let v_fits : SFits w64 (get_or v k (pos 0)) = search rules in
    let w_fits : SFits w64 (get_or w k (pos 0)) = search rules in
    let e : c.compare_numbers-order.result ≡ number_order (get_or d k none).sense (get_or v k (pos 0)) (get_or w k (pos 0)) = simp to_z-of_z at c.compare_numbers-order.ensures in
    order_found d v w k none (pos 0) (pos 0) c.compare_numbers-order.result c.ne.result
    (omega (arith, c.min.ensures, c.min-count.ensures)) (omega (arith, c.min.ensures, c.min-count.ensures)) (omega (arith, c.min.ensures, c.min-count.ensures))
    e c.ne.ensures c.if-ne.true c.loop-k.invariant

pub loop-k-preserved : goal.loop-k-preserved
loop-k-preserved c =
    let d = c.args.list.now in
    let v = c.args.v.now in
    let w = c.args.w.now in
    let k = c.loop-k.k in
    let none : Condition = record { sense = Min; target = Var (record { 0 = 0 }) } in
    let v_fits : SFits w64 (get_or v k (pos 0)) = search rules in
    let w_fits : SFits w64 (get_or w k (pos 0)) = search rules in
    let e : c.compare_numbers-order.result ≡ number_order (get_or d k none).sense (get_or v k (pos 0)) (get_or w k (pos 0)) = simp to_z-of_z at c.compare_numbers-order.ensures in
    order_goes_on d v w k none (pos 0) (pos 0) c.compare_numbers-order.result c.ne.result
    (omega (arith, c.min.ensures, c.min-count.ensures)) (omega (arith, c.min.ensures, c.min-count.ensures)) (omega (arith, c.min.ensures, c.min-count.ensures))
    e c.ne.ensures c.if-ne.false c.loop-k.invariant

pub returns-clause-order : goal.returns-clause-order
returns-clause-order c =
    let l = c.args.list.now in
    let few : min (min (length l) (length c.args.v.now)) (length c.args.w.now) ≤ c.loop-k.k = omega (arith, c.min.ensures, c.min-count.ensures, c.loop-k-test.false) in
    order_at_end l c.args.v.now c.args.w.now c.loop-k.k few c.loop-k.invariant

pub returns-then-ne-clause-same : goal.returns-then-ne-clause-same
returns-then-ne-clause-same c = λ l m e. same_vectors c.args.list.now c.args.v.now c.args.w.now l m (sym (returns-then-ne-clause-order c) ∙ e)

pub returns-clause-same : goal.returns-clause-same
returns-clause-same c = λ l m e. same_vectors c.args.list.now c.args.v.now c.args.w.now l m (sym (returns-clause-order c) ∙ e)
