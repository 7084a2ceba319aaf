use Rattle.std.proofs.Common.{◌≡◌, ◌+◌, ◌∙◌, length, replicate, pos, sym, ap, subst, arith}
use Rattle.check_assignment.specs.Keeping.{Keeps}
use Rattle.check_assignment.proofs.Told.{constraint_at}
use Rattle.check_assignment.proofs.Building.{Termed, Stood, termed_none, stood_none, termed_more, stood_more, keeps}
use Rattle.check_assignment.proofs.assignment.Assignment.new.Goals as goal

pub first_standing-standing-requires : goal.first_standing-standing-requires
first_standing-standing-requires c = record { constraint = constraint_at c.args.problem.now c.loop-k.k c.constraint-rule.result.now c.known.ensures c.constraint-rule.ensures }

pub add_rule-requires-clause-constraint : goal.add_rule-requires-clause-constraint
add_rule-requires-clause-constraint c = constraint_at c.args.problem.now c.loop-k.k c.constraint-rule.result.now c.known.ensures c.constraint-rule.ensures

pub add_rule-requires-clause-test : goal.add_rule-requires-clause-test
add_rule-requires-clause-test c = (c.first_standing-standing.ensures 0).test

pub loop-k-preserved : goal.loop-k-preserved
loop-k-preserved c =
    let g = c.args.problem.now in
    let k = c.loop-k.k in
    let r = c.constraint-rule.result.now in
    let s = c.first_standing-standing.result in
    let i = c.loop-k.invariant in
    record {
      terms = termed_more g k r c.loop-k.terms c.add_rule.new.self i.terms (constraint_at g k r c.known.ensures c.constraint-rule.ensures) c.constraint-rule.ensures c.in_ok-add_rule.ensures.added c.in_ok-add_rule.ensures.length;
      standings = subst (λ ss. Stood g (k + 1) ss) (sym c.in_ok-push.ensures.items) (stood_more g k r c.loop-k.standings.items s i.standings c.constraint-rule.ensures (c.first_standing-standing.ensures (length g.variables)));
    }

pub loop-k-init : goal.loop-k-init
loop-k-init c =
    let g = c.args.problem.now in
    record {
      terms = termed_none g c.in_ok-terms.terms (c.in_ok-terms.ensures.count ∙ c.variables.ensures) c.in_ok-terms.ensures.empty;
      standings = subst (λ ss. Stood g 0 ss) (sym c.in_ok-standings.ensures.items) (stood_none g);
    }

pub returns-clause-zeros : goal.returns-clause-zeros
returns-clause-zeros c = c.in_ok-values.ensures.items_if_clones_equal (λ y e. e) ∙ ap (λ n. replicate n (pos 0)) c.variables-2.ensures

pub invariant_of-result : goal.invariant_of-result
invariant_of-result c =
    let g = c.args.problem.now in
    let i = c.loop-k.invariant in
    let all : c.loop-k.k ≡ length c.args.problem.now.constraints = omega arith in
    let zeros = c.in_ok-values.ensures.items_if_clones_equal (λ y e. e) ∙ ap (λ n. replicate n (pos 0)) c.variables-2.ensures in
    subst (λ vs. Keeps g vs c.loop-k.terms c.loop-k.standings.items) (sym zeros)
    (keeps g c.loop-k.terms c.loop-k.standings.items (subst (λ n. Termed g n c.loop-k.terms) all i.terms) (subst (λ n. Stood g n c.loop-k.standings.items) all i.standings))
