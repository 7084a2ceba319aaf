use Rattle.std.proofs.Common.{◌≡◌, ◌∙◌, ◌⊎◌, ℕ, sym, ap, suc, List, length, Some, add-one, inl, inr}
use Rattle.std.specs.Prelude.{slice_get}
use Rattle.qc_model.specs.Content.{Game}
use Rattle.model_levels.specs.declared.level.Level.{Level}
use Rattle.model_levels.proofs.Growing.{item_of, length_more}
use Rattle.model_levels.proofs.scopes.levels_of.Goals as goal

number_of : (ls : List Level) (l : Level) (n k : ℕ) (m : Level) → length ls ≡ n → l.number ≡ n → ((j : ℕ) (o : Level) → slice_get ls j ≡ Some o → o.number ≡ j) →
    (slice_get ls k ≡ Some m) ⊎ ((k ≡ length ls) × (l ≡ m)) → m.number ≡ k
number_of ls l n k m long e each (inl h) = each k m h
number_of ls l n k m long e each (inr h) = ap (λ o. o.number) (sym h.1) ∙ (e ∙ sym (h.0 ∙ long))

problem_of : (g : Game) (ls : List Level) (l : Level) (k : ℕ) (m : Level) → l.problem.now ≡ g → ((j : ℕ) (o : Level) → slice_get ls j ≡ Some o → o.problem.now ≡ g) →
    (slice_get ls k ≡ Some m) ⊎ ((k ≡ length ls) × (l ≡ m)) → m.problem.now ≡ g
problem_of g ls l k m e each (inl h) = each k m h
problem_of g ls l k m e each (inr h) = ap (λ (o : Level). o.problem.now) (sym h.1) ∙ e

pub loop-i-preserved : goal.loop-i-preserved
loop-i-preserved c =
    let g = c.args.problem.now in
    let ls = c.loop-i.levels.items in
    let l = c.level_of.result in
    let items = c.in_ok-push.ensures.items in
    record {
      count = ap length items ∙ (length_more ls l ∙ (ap suc c.loop-i.invariant.count ∙ sym (add-one c.loop-i.i)));
      numbers = λ k m e. number_of ls l c.loop-i.i k m c.loop-i.invariant.count c.level_of.ensures.number c.loop-i.invariant.numbers (item_of ls l k m (ap (λ ms. slice_get ms k) (sym items) ∙ e));
      problems = λ k m e. problem_of g ls l k m c.level_of.ensures.problem c.loop-i.invariant.problems (item_of ls l k m (ap (λ ms. slice_get ms k) (sym items) ∙ e));
    }
