use Rattle.std.proofs.Common.{◌≡◌, ◌∙◌, sym, ap, subst, rules, arith, true, false}
use Rattle.std.specs.Prelude.{pos, ◌+ℤ◌, ◌≤ℤ◌}
use Rattle.std.proofs.lemmas.Int.{to_z-of_z, ints}
use mir.Val.{SFits}
use mir.Syntax.{w64, w128}
use Rattle.qc_model.specs.Domains.{values_left, has_value, least_value, greatest_value}
use Rattle.qc_model.specs.Valid.{is_number}
use Rattle.model_arguments.proofs.Kept.{ordered}
use Rattle.qc_refuter.proofs.Domains.{some_left}
use Rattle.qc_refuter.proofs.Terms.{least_small, greatest_small}
use Rattle.prop_linear.proofs.Hits.{none_below, none_between, none_beyond, none_stepped, hit_stepped}
use Rattle.prop_linear.proofs.missing.missing_value.Goals as goal

pub returns-then-bound-least-clause-none : goal.returns-then-bound-least-clause-none
returns-then-bound-least-clause-none c v h k =
    let b_fits : SFits w64 c.args.bound = search rules in
    let wide : SFits w128 c.args.bound = search rules in
    let l_fits : SFits w128 c.args.least = search rules in
    let t = simp to_z-of_z at c.if-bound-least.true in
    none_below c.args.least c.args.factor (values_left c.args.store.now.box c.args.x.0) c.args.bound v t h k

pub returns-in_default-clause-none : goal.returns-in_default-clause-none
returns-in_default-clause-none c v h k =
    let b_fits : SFits w64 c.args.bound = search rules in
    let l_fits : SFits w128 c.args.least = search rules in
    let f_fits : SFits w64 c.args.factor = search rules in
    let s = simp to_z-of_z at c.slack.ensures in
    let n = simp to_z-of_z at c.in_default.ensures.none in
    none_between c.args.least c.args.factor (values_left c.args.store.now.box c.args.x.0) c.args.bound v c.slack.result s n h k

pub width-requires-clause-low : goal.width-requires-clause-low
width-requires-clause-low c =
    let f : SFits w64 c.min-low.result = search rules in
    simp to_z-of_z (subst (λ z. is_number z ≡ true) (sym c.min-low.ensures) (least_small (values_left c.args.store.now.box c.args.x.0) c.requires.open))

pub width-requires-clause-high : goal.width-requires-clause-high
width-requires-clause-high c =
    let f : SFits w64 c.max-high.result = search rules in
    simp to_z-of_z (subst (λ z. is_number z ≡ true) (sym c.max-high.ensures) (greatest_small (values_left c.args.store.now.box c.args.x.0) c.requires.open))

pub width-requires-clause-order : goal.width-requires-clause-order
width-requires-clause-order c =
    let f : SFits w64 c.min-low.result = search rules in
    let h : SFits w64 c.max-high.result = search rules in
    let d = values_left c.args.store.now.box c.args.x.0 in
    let o = ordered d (some_left d c.requires.open) in
    let l = c.min-low.ensures in
    let g = c.max-high.ensures in
    let r : c.min-low.result ≤ℤ c.max-high.result = omega (arith, ints, o, l, g) in
    simp to_z-of_z r

pub returns-then-width-steps-clause-none : goal.returns-then-width-steps-clause-none
returns-then-width-steps-clause-none c v h k =
    let b_fits : SFits w64 c.args.bound = search rules in
    let l_fits : SFits w128 c.args.least = search rules in
    let f_fits : SFits w64 c.args.factor = search rules in
    let low_fits : SFits w64 c.min-low.result = search rules in
    let high_fits : SFits w64 c.max-high.result = search rules in
    let d = values_left c.args.store.now.box c.args.x.0 in
    let s = simp to_z-of_z at c.slack.ensures in
    let n = simp to_z-of_z at c.in-Some.ensures.some in
    let w = simp to_z-of_z at c.width.ensures.value in
    let l = c.min-low.ensures in
    let g = c.max-high.ensures in
    let room : least_value d +ℤ pos c.width.result ≡ greatest_value d = ap (λ z. z +ℤ pos c.width.result) (sym l) ∙ (w ∙ g) in
    none_beyond c.args.least c.args.factor d c.args.bound v c.slack.result c.in-Some.steps c.width.result c.requires.factor s n room (omega (arith, c.if-width-steps.true)) h k

pub stepped-v-requires-clause-low : goal.stepped-v-requires-clause-low
stepped-v-requires-clause-low c =
    let f : SFits w64 c.min-low.result = search rules in
    simp to_z-of_z (subst (λ z. is_number z ≡ true) (sym c.min-low.ensures) (least_small (values_left c.args.store.now.box c.args.x.0) c.requires.open))

pub stepped-v-requires-clause-high : goal.stepped-v-requires-clause-high
stepped-v-requires-clause-high c =
    let f : SFits w64 c.max-high.result = search rules in
    simp to_z-of_z (subst (λ z. is_number z ≡ true) (sym c.max-high.ensures) (greatest_small (values_left c.args.store.now.box c.args.x.0) c.requires.open))

pub returns-then-has-clause-some : goal.returns-then-has-clause-some
returns-then-has-clause-some c =
    let b_fits : SFits w64 c.args.bound = search rules in
    let l_fits : SFits w128 c.args.least = search rules in
    let f_fits : SFits w64 c.args.factor = search rules in
    let low_fits : SFits w64 c.min-low.result = search rules in
    let high_fits : SFits w64 c.max-high.result = search rules in
    let v_fits : SFits w64 c.stepped-v.result = search rules in
    let d = values_left c.args.store.now.box c.args.x.0 in
    let v = c.stepped-v.result in
    let s = simp to_z-of_z at c.slack.ensures in
    let n = simp to_z-of_z at c.in-Some.ensures.some in
    let l = c.min-low.ensures in
    let g = c.max-high.ensures in
    let up = simp to_z-of_z at c.stepped-v.ensures.up in
    let down = simp to_z-of_z at c.stepped-v.ensures.down in
    let has : has_value d v ≡ true = simp to_z-of_z at (sym c.has.ensures ∙ c.if-has.true) in
    let hit = hit_stepped c.args.least c.args.factor d c.args.bound v c.slack.result c.in-Some.steps c.requires.factor s n (λ p. up p ∙ ap (λ z. z +ℤ pos c.in-Some.steps) l) (λ p. down p ∙ g) has in
    simp to_z-of_z (has, hit)

pub returns-else-has-clause-none : goal.returns-else-has-clause-none
returns-else-has-clause-none c w h k =
    let b_fits : SFits w64 c.args.bound = search rules in
    let l_fits : SFits w128 c.args.least = search rules in
    let f_fits : SFits w64 c.args.factor = search rules in
    let low_fits : SFits w64 c.min-low.result = search rules in
    let high_fits : SFits w64 c.max-high.result = search rules in
    let v_fits : SFits w64 c.stepped-v.result = search rules in
    let d = values_left c.args.store.now.box c.args.x.0 in
    let v = c.stepped-v.result in
    let s = simp to_z-of_z at c.slack.ensures in
    let n = simp to_z-of_z at c.in-Some.ensures.some in
    let l = c.min-low.ensures in
    let g = c.max-high.ensures in
    let up = simp to_z-of_z at c.stepped-v.ensures.up in
    let down = simp to_z-of_z at c.stepped-v.ensures.down in
    let not : has_value d v ≡ false = simp to_z-of_z at (sym c.has.ensures ∙ c.if-has.false) in
    none_stepped c.args.least c.args.factor d c.args.bound v w c.slack.result c.in-Some.steps c.requires.factor s n (λ p. up p ∙ ap (λ z. z +ℤ pos c.in-Some.steps) l) (λ p. down p ∙ g) not h k

pub overflow_cast-bound : goal.overflow_cast-bound
overflow_cast-bound c = search rules

pub slack-requires-clause-least : goal.slack-requires-clause-least
slack-requires-clause-least c = search rules

pub slack-requires-clause-order : goal.slack-requires-clause-order
slack-requires-clause-order c = search rules

pub whole_steps-requires : goal.whole_steps-requires
whole_steps-requires c = search rules

pub stepped-v-requires-clause-steps : goal.stepped-v-requires-clause-steps
stepped-v-requires-clause-steps c = search rules
