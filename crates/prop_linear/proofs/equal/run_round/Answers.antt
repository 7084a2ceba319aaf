use Rattle.std.proofs.Common.{◌≡◌, ◌∙◌, ◌≤◌, ◌^◌, refl, sym, ap, subst, rules, arith, length, take, map, true, false, List, ℕ, ℤ}
use Rattle.std.specs.Prelude.{pos, ◌+ℤ◌, unsigned_abs}
use Rattle.std.proofs.lemmas.Int.{to_z-of_z}
use Rattle.std.proofs.lemmas.List.{take_all}
use mir.Val.{SFits}
use mir.Syntax.{w64, w128}
use Rattle.qc_model.specs.declared.problem.Arg.TheVariants.{Num}
use Rattle.std.specs.List.{list_all}
use Rattle.model_arguments.specs.Asked.{IsAsked}
use Rattle.model_arguments.specs.Repeats.{has_repeat}
use Rattle.qc_model.specs.declared.problem.Arg.{Arg}
use Rattle.qc_model.specs.Closed.{keeps_ends}
use Rattle.qc_model.specs.Content.{Game, Rule}
use Rattle.qc_model.specs.Domains.{Box}
use Rattle.qc_model.specs.Left.{sum_range}
use Rattle.qc_model.specs.Ranges.{Range, range_of}
use Rattle.qc_model.specs.Refuted.{left_to}
use Rattle.qc_model.specs.Valid.{arg_sees}
use Rattle.prop_base.specs.Pruning.{is_just}
use Rattle.prop_linear.specs.Tightening.{AlikeOutside, AllNear}
use Rattle.prop_linear.specs.Sides.{AreNear, IsBalanced, signed}
use Rattle.prop_linear.proofs.Sides.{signed_length}
use Rattle.prop_linear.proofs.Balanced.{balanced_over, balanced_under, over_past, under_past, balanced_keeps}
use Rattle.prop_linear.proofs.Small.{greatest_sum_small}
use Rattle.prop_linear.proofs.Still.{same_box, rounded, never_changed}
use Rattle.prop_linear.proofs.Found.{placed}
use Rattle.prop_linear.proofs.equal.run_round.Goals as goal

pub empty_last-requires-clause-refuted : goal.empty_last-requires-clause-refuted
empty_last-requires-clause-refuted c =
    let b_fits : SFits w64 c.args.bound = search rules in
    let wide : SFits w128 c.args.bound = search rules in
    let f_fits : SFits w128 c.spread_of-sum.result.from = search rules in
    let t_fits : SFits w128 c.spread_of-sum.result.to = search rules in
    let t = simp to_z-of_z at c.if-bound-sum.true in
    balanced_over c.args.asked.rule.now c.args.factors.now c.args.items.now c.args.bound c.args.store.now.box (range_of c.spread_of-sum.result.from c.spread_of-sum.result.to) c.requires.balanced c.spread_of-sum.ensures.value t

pub empty_last-requires-then-sum-bound-clause-refuted : goal.empty_last-requires-then-sum-bound-clause-refuted
empty_last-requires-then-sum-bound-clause-refuted c =
    let b_fits : SFits w64 c.args.bound = search rules in
    let wide : SFits w128 c.args.bound = search rules in
    let f_fits : SFits w128 c.spread_of-sum.result.from = search rules in
    let t_fits : SFits w128 c.spread_of-sum.result.to = search rules in
    let t = simp to_z-of_z at c.if-sum-bound.true in
    balanced_under c.args.asked.rule.now c.args.factors.now c.args.items.now c.args.bound c.args.store.now.box (range_of c.spread_of-sum.result.from c.spread_of-sum.result.to) c.requires.balanced c.spread_of-sum.ensures.value t

pub returns-then-bound-sum-clause-answer : goal.returns-then-bound-sum-clause-answer
returns-then-bound-sum-clause-answer c =
    rounded (is_just c.args.asked.c.0) c.args.asked.problem.now c.args.asked.rule.now _ _ _ _ _ c.empty_last.ensures.pruning c.empty_last.ensures.answer

pub returns-then-sum-bound-clause-answer : goal.returns-then-sum-bound-clause-answer
returns-then-sum-bound-clause-answer c =
    rounded (is_just c.args.asked.c.0) c.args.asked.problem.now c.args.asked.rule.now _ _ _ _ _ c.empty_last-then-sum-bound.ensures.pruning c.empty_last-then-sum-bound.ensures.answer

pub excess-t-requires-clause-greatest : goal.excess-t-requires-clause-greatest
excess-t-requires-clause-greatest c =
    let f_fits : SFits w128 c.spread_of-sum.result.from = search rules in
    let t_fits : SFits w128 c.spread_of-sum.result.to = search rules in
    let v = ap (λ (r : Range). r.to) c.spread_of-sum.ensures.value in
    let P : ℤ → Type 0 = λ z. unsigned_abs z ≤ 10 ^ 21 in
    simp to_z-of_z (subst P (sym v) (greatest_sum_small c.args.factors.now c.args.items.now c.args.store.now.box c.requires.factors c.requires.open c.requires.few))

pub tighten_places-requires-clause-over : goal.tighten_places-requires-clause-over
tighten_places-requires-clause-over c =
    let b_fits : SFits w64 c.args.bound = search rules in
    let f_fits : SFits w128 c.spread_of-sum.result.from = search rules in
    let t_fits : SFits w128 c.spread_of-sum.result.to = search rules in
    let v = ap (λ (r : Range). r.from) c.spread_of-sum.ensures.value in
    let s = simp to_z-of_z at c.slack-s.ensures in
    over_past c.args.asked.rule.now c.args.factors.now c.args.items.now c.args.bound c.slack-s.result c.args.store.now.box c.requires.balanced (s ∙ ap (λ z. z +ℤ pos c.slack-s.result) v)

pub tighten_places-requires-clause-under : goal.tighten_places-requires-clause-under
tighten_places-requires-clause-under c =
    let b_fits : SFits w64 c.args.bound = search rules in
    let f_fits : SFits w128 c.spread_of-sum.result.from = search rules in
    let t_fits : SFits w128 c.spread_of-sum.result.to = search rules in
    let v = ap (λ (r : Range). r.to) c.spread_of-sum.ensures.value in
    let t = simp to_z-of_z at c.excess-t.ensures in
    under_past c.args.asked.rule.now c.args.factors.now c.args.items.now c.args.bound c.excess-t.result c.args.store.now.box c.requires.balanced (sym v ∙ t)

-- places near on both sides
keeps : (g : Game) (r : Rule) (ns : List ℤ) (xs : List Arg) (bound : ℤ) (s t : ℕ) (box : Box) (from to : ℤ) → IsAsked g r box → IsBalanced r box ns xs bound → has_repeat xs ≡ false → length ns ≡ length xs → list_all (arg_sees g.variables r.owner.0) xs ≡ true →
    range_of from to ≡ sum_range ns (map (left_to box) xs) → bound ≡ from +ℤ pos s → to ≡ bound +ℤ pos t → AreNear (length xs) s t ns xs box → keeps_ends box r ≡ true
keeps g r ns xs bound s t box from to asked balanced once equal sees value e f near =
    let ms = signed true ns in
    let low = ap (λ (z : Range). z.from) value in
    let high = ap (λ (z : Range). z.to) value in
    let all_ns : take (length xs) ns ≡ ns = take_all (length xs) ns (omega (arith, equal)) in
    let all_ms : take (length xs) ms ≡ ms = take_all (length xs) ms (omega (arith, signed_length true ns, equal)) in
    let all_xs : take (length xs) xs ≡ xs = take_all (length xs) xs (omega arith) in
    let over : AllNear s ns xs box = subst (λ l. AllNear s l xs box) all_ns (subst (λ l. AllNear s (take (length xs) ns) l box) all_xs near.0) in
    let under : AllNear t ms xs box = subst (λ l. AllNear t l xs box) all_ms (subst (λ l. AllNear t (take (length xs) ms) l box) all_xs near.1) in
    balanced_keeps r ns xs bound s t box balanced once equal
    (λ j x h q. placed g r box xs j x (Num (pos 0)) asked sees h q)
    (e ∙ ap (λ z. z +ℤ pos s) low) (sym high ∙ f) over under

pub returns-then-is_within-clause-answer : goal.returns-then-is_within-clause-answer
returns-then-is_within-clause-answer c =
    let b_fits : SFits w64 c.args.bound = search rules in
    let f_fits : SFits w128 c.spread_of-sum.result.from = search rules in
    let t_fits : SFits w128 c.spread_of-sum.result.to = search rules in
    let s = simp to_z-of_z at c.slack-s.ensures in
    let t = simp to_z-of_z at c.excess-t.ensures in
    let near = c.spread_of-sum.ensures.widest c.slack-s.result c.excess-t.result (c.is_within.ensures.over c.if-is_within.true) (c.is_within.ensures.under c.if-is_within.true) in
    (c.requires.fits.full, refl, keeps c.args.asked.problem.now c.args.asked.rule.now c.args.factors.now c.args.items.now c.args.bound c.slack-s.result c.excess-t.result c.args.store.now.box c.spread_of-sum.result.from c.spread_of-sum.result.to c.requires.fits c.requires.balanced c.requires.once c.requires.equal c.requires.sees c.spread_of-sum.ensures.value s t near)

pub returns-else-branch-clause-answer : goal.returns-else-branch-clause-answer
returns-else-branch-clause-answer c =
    let b_fits : SFits w64 c.args.bound = search rules in
    let f_fits : SFits w128 c.spread_of-sum.result.from = search rules in
    let t_fits : SFits w128 c.spread_of-sum.result.to = search rules in
    let g = c.args.asked.problem.now in
    let r = c.args.asked.rule.now in
    let s = simp to_z-of_z at c.slack-s.ensures in
    let t = simp to_z-of_z at c.excess-t.ensures in
    let same = c.in_ok-tighten_places.ensures.grown.1 c.if-branch.false in
    let still = same_box (is_just c.args.asked.c.0) g _ _ _ _ c.tighten_places.ensures.pruning same in
    let kept = keeps g r c.args.factors.now c.args.items.now c.args.bound c.slack-s.result c.excess-t.result c.args.store.now.box c.spread_of-sum.result.from c.spread_of-sum.result.to c.requires.fits c.requires.balanced c.requires.once c.requires.equal c.requires.sees c.spread_of-sum.ensures.value s t (c.in_ok-tighten_places.ensures.near c.if-branch.false) in
    (c.in_ok-tighten_places.ensures.full, same, ap (λ b. keeps_ends b r) still ∙ kept)

pub returns-then-bound-sum-clause-alike : goal.returns-then-bound-sum-clause-alike
returns-then-bound-sum-clause-alike c = never_changed (AlikeOutside c.args.items.now c.args.store.now.box c.empty_last.new.store.box) c.empty_last.result c.empty_last.ensures.whole

pub returns-then-sum-bound-clause-alike : goal.returns-then-sum-bound-clause-alike
returns-then-sum-bound-clause-alike c = never_changed (AlikeOutside c.args.items.now c.args.store.now.box c.empty_last-then-sum-bound.new.store.box) c.empty_last-then-sum-bound.result c.empty_last-then-sum-bound.ensures.whole

pub overflow_cast-bound : goal.overflow_cast-bound
overflow_cast-bound c = search rules

pub overflow_cast-bound-2 : goal.overflow_cast-bound-2
overflow_cast-bound-2 c = search rules

pub slack-s-requires-clause-least : goal.slack-s-requires-clause-least
slack-s-requires-clause-least c = search rules

pub slack-s-requires-clause-order : goal.slack-s-requires-clause-order
slack-s-requires-clause-order c = search rules

pub excess-t-requires-clause-order : goal.excess-t-requires-clause-order
excess-t-requires-clause-order c = search rules
