use Rattle.std.proofs.Common.{◌≡◌, ◌∙◌, refl, sym, ap, subst, rules, arith, length, take, ℤ}
use Rattle.std.specs.Prelude.{int_lt, pos, ◌+ℤ◌}
use Rattle.std.proofs.lemmas.Int.{to_z-of_z}
use Rattle.std.proofs.lemmas.List.{take_all}
use mir.Val.{SFits}
use mir.Syntax.{w64, w128}
use Rattle.qc_model.specs.declared.problem.Arg.TheVariants.{Num}
use Rattle.prop_linear.specs.Tightening.{AllNear, IsBounded}
use Rattle.prop_linear.specs.Sides.{signed}
use Rattle.prop_linear.proofs.Alike.{alike_same}
use Rattle.prop_linear.proofs.Found.{placed}
use Rattle.prop_linear.proofs.Moves.{keeps_items}
use Rattle.prop_linear.proofs.Sides.{signed_length}
use Rattle.prop_linear.proofs.at_most.filter_at_most.Goals as goal

pub empty_last-requires-clause-refuted : goal.empty_last-requires-clause-refuted
empty_last-requires-clause-refuted c =
    let b_fits : SFits w64 c.args.bound = search rules in
    let wide : SFits w128 c.args.bound = search rules in
    let l_fits : SFits w128 c.least_of-least.result.sum = search rules in
    let t = simp to_z-of_z at c.if-bound-least.true in
    let box = c.args.store.now.box in
    c.requires.bounded.refuted box (alike_same c.args.items.now box) ∙ (sym (ap (int_lt c.args.bound) c.least_of-least.ensures.value) ∙ t)

pub returns-then-least-s-clause-answer : goal.returns-then-least-s-clause-answer
returns-then-least-s-clause-answer c =
    let b_fits : SFits w64 c.args.bound = search rules in
    let l_fits : SFits w128 c.least_of-least.result.sum = search rules in
    let g = c.args.asked.problem.now in
    let r = c.args.asked.rule.now in
    let ns = signed c.args.negative c.args.factors.now in
    let xs = c.args.items.now in
    let box = c.args.store.now.box in
    let s = c.slack-s.result in
    let e = simp to_z-of_z at c.slack-s.ensures in
    let l = c.least_of-least.ensures.value in
    let all_ns : take (length xs) ns ≡ ns = take_all (length xs) ns (omega (arith, signed_length c.args.negative c.args.factors.now, c.requires.equal)) in
    let all_xs : take (length xs) xs ≡ xs = take_all (length xs) xs (omega arith) in
    let near : AllNear s ns xs box =
    subst (λ z. AllNear s z xs box) all_ns (subst (λ z. AllNear s (take (length xs) ns) z box) all_xs (c.least_of-least.ensures.near s c.if-least-s.true)) in (
      c.requires.fits.full,
      refl,
      keeps_items r ns xs c.args.bound s box c.requires.bounded (sym c.stands_twice.ensures ∙ c.if-stands_twice.false) (signed_length c.args.negative c.args.factors.now ∙ c.requires.equal)
          (λ j x h q. placed g r box xs j x (Num (pos 0)) c.requires.fits c.requires.sees h q)
          (e ∙ ap (λ z. z +ℤ pos s) l) near,
    )

pub tighten_all-requires-clause-bounded : goal.tighten_all-requires-clause-bounded
tighten_all-requires-clause-bounded c =
    let b_fits : SFits w64 c.args.bound = search rules in
    let l_fits : SFits w128 c.least_of-least.result.sum = search rules in
    let s = c.slack-s.result in
    let e = simp to_z-of_z at c.slack-s.ensures in
    let B : ℤ → Type 0 = IsBounded c.args.asked.rule.now c.args.store.now.box (signed c.args.negative c.args.factors.now) c.args.items.now in
    subst B (e ∙ ap (λ z. z +ℤ pos s) c.least_of-least.ensures.value) c.requires.bounded

pub overflow_cast-bound : goal.overflow_cast-bound
overflow_cast-bound c = search rules

pub slack-s-requires-clause-least : goal.slack-s-requires-clause-least
slack-s-requires-clause-least c = search rules

pub slack-s-requires-clause-order : goal.slack-s-requires-clause-order
slack-s-requires-clause-order c = search rules

pub overflow_cast-least : goal.overflow_cast-least
overflow_cast-least c = search rules
