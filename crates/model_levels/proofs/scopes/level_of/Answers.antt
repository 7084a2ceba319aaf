use Rattle.std.proofs.Common.{◌≡◌, ◌∙◌, ◌-◌, ◌+◌, ◌≤◌, ℕ, suc, arith, sym, ap, subst, drop, Some, add-one}
use Rattle.std.specs.Prelude.{min, is_some}
use Rattle.std.specs.Option.{option_map}
use Rattle.qc_model.specs.declared.problem.Scope.{Scope}
use Rattle.qc_model.specs.Block.{block_stop}
use Rattle.qc_model.specs.Game.{before}
use Rattle.qc_model.proofs.Before.{before_up}
use Rattle.model_levels.specs.Spans.{IsSpanOf}
use Rattle.model_levels.proofs.scopes.level_of.Goals as goal

rises_so : (a b n m : ℕ) → a ≡ n → b ≡ m → n ≤ m → a ≤ b
rises_so a b n m e f h = omega (arith, e, f, h)

pub invariant_of-result : goal.invariant_of-result
invariant_of-result c =
    let g = c.args.problem.now in
    let i = c.args.number in
    let next : i + 1 ≡ suc i = add-one i in
    record {
      is_scope = c.requires.scope;
      has_kind = ap (option_map (λ (s : Scope). s.kind)) c.scope-scope.ensures;
      has_rules = c.restriction.ensures;
      has_from = c.variables_before.ensures.count;
      has_stop = c.variables_before-2.ensures.count ∙ ap (before g) next;
      rises = rises_so c.variables_before.result c.variables_before-2.result (before g i) (before g (suc i)) c.variables_before.ensures.count (c.variables_before-2.ensures.count ∙ ap (before g) next) (before_up g i);
      stop_within = c.variables_before-2.ensures.bound;
      has_constraints = subst (λ n. IsSpanOf g i n c.span_between.result.first c.span_between.result.end) next c.span_between.ensures;
      has_force = subst (λ n. IsSpanOf g i n c.span_between-2.result.first c.span_between-2.result.end) c.force_stop-force.ensures.stop c.span_between-2.ensures;
      has_end = ap (λ n. n - 1) (c.min-reach.ensures ∙ (ap (λ n. min n c.scopes.result) c.block_stop.ensures.stop ∙ ap (min (block_stop (drop (i + 1) g.scopes) (i + 1))) c.scopes.ensures));
      has_own = ap (option_map (λ (s : Scope). is_some s.condition)) c.scope-scope.ensures ∙ ap Some (sym c.is_some.ensures);
    }
