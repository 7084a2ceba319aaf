use Rattle.std.proofs.Common.{◌≡◌, ◌∙◌, ◌+◌, ◌<◌, ◌≤◌, ℕ, sym, ap, arith, length, nat_lt}
use Rattle.std.proofs.lemmas.List.Sums.{count_by-le-length}
use mir.Val.{Fits}
use mir.Syntax.{w64}
use Rattle.qc_model.specs.Content.{Game}
use Rattle.qc_model.specs.Content.{Rule}
use Rattle.model_levels.specs.Spans.{constraints_before}
use Rattle.model_levels.proofs.Growing.{each_more}
use Rattle.model_levels.proofs.SpanLaws.{below_next, below_zero}
use Rattle.model_levels.proofs.places.constraint_places.Goals as goal

-- there are few scopes, and few constraints before each
one_fits : (n s : ℕ) → n ≡ s → s ≤ 64 → Fits w64 (n + 1)
one_fits n s e m = omega (arith, e, m)

two_fit : (n s : ℕ) → n ≡ s → s ≤ 64 → Fits w64 (n + 2)
two_fit n s e m = omega (arith, e, m)

scope_small : (i n s : ℕ) → i < n + 1 → n ≡ s → s ≤ 64 → i < 9223372036854775808
scope_small i n s h e m = omega (arith, h, e, m)

before_fits : (g : Game) (i n : ℕ) → n ≡ constraints_before g i → length g.constraints ≤ 20000 → Fits w64 n
before_fits g i n e m = omega (arith, e, m, count_by-le-length (λ (r : Rule). nat_lt r.owner.0 i) g.constraints)

-- all places were counted
all_counted : (i n s l : ℕ) → l ≡ i + 1 → i ≤ n + 1 → n + 1 ≤ i → n ≡ s → l ≡ s + 2
all_counted i n s l e h k f = omega (arith, e, h, k, f)

pub loop-i-init : goal.loop-i-init
loop-i-init c =
    let g = c.args.problem.now in
    let zero_is : 0 ≡ constraints_before g 0 = sym (below_zero (λ (r : Rule). r.owner.0) g.constraints) in
    let none : length c.in_ok-places.places.items ≡ 0 = ap length c.in_ok-places.ensures.items in
    let grown = each_more (constraints_before g) c.in_ok-places.places.items c.push.new.self.items 0 0 c.in_ok-push.ensures.items none zero_is (λ k lt. absurd (omega (arith, lt, none))) in
    record { count = grown.0; last = zero_is; each = grown.1 }

pub loop-i-preserved : goal.loop-i-preserved
loop-i-preserved c =
    let g = c.args.problem.now in
    let i = c.loop-i.i in
    let place = c.loop-i.place + length c.restriction.result.now in
    let next : place ≡ constraints_before g (i + 1) =
    ap (λ m. m + length c.restriction.result.now) c.loop-i.invariant.last ∙ (ap (λ rs. constraints_before g i + length rs) c.restriction.ensures ∙ sym (below_next (λ (r : Rule). r.owner.0) i g.constraints)) in
    let grown = each_more (constraints_before g) c.loop-i.places.items c.push-in-loop-i.new.self.items place (i + 1) c.in_ok-push-2.ensures.items c.loop-i.invariant.count next c.loop-i.invariant.each in
    record { count = grown.0; last = next; each = grown.1 }

pub overflow_add-scopes : goal.overflow_add-scopes
overflow_add-scopes c = two_fit c.scopes.result (length c.args.problem.now.scopes) c.scopes.ensures c.known.ensures.few_scopes

pub overflow_add-i-end : goal.overflow_add-i-end
overflow_add-i-end c = one_fits c.scopes-i-end.result (length c.args.problem.now.scopes) c.scopes-i-end.ensures c.known.ensures.few_scopes

pub restriction-requires : goal.restriction-requires
restriction-requires c = scope_small c.loop-i.i c.scopes-i-end.result (length c.args.problem.now.scopes) c.loop-i-test.true c.scopes-i-end.ensures c.known.ensures.few_scopes

pub overflow_add-place : goal.overflow_add-place
overflow_add-place c =
    let g = c.args.problem.now in
    let i = c.loop-i.i in
    let place = c.loop-i.place + length c.restriction.result.now in
    let next : place ≡ constraints_before g (i + 1) =
    ap (λ m. m + length c.restriction.result.now) c.loop-i.invariant.last ∙ (ap (λ rs. constraints_before g i + length rs) c.restriction.ensures ∙ sym (below_next (λ (r : Rule). r.owner.0) i g.constraints)) in
    before_fits g (i + 1) place next c.known.ensures.few_constraints

pub returns : goal.returns
returns c = record {
  count = all_counted c.loop-i.i c.scopes-i-end.result (length c.args.problem.now.scopes) (length c.loop-i.places.items) c.loop-i.invariant.count c.loop-i.auto.i-end c.loop-i-test.false c.scopes-i-end.ensures;
  each = c.loop-i.invariant.each;
}
