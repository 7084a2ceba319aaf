-- Joint stores, one after another.
use Rattle.std.proofs.Common.{◌≡◌, ℕ, suc, ◌+◌, ◌<◌, ◌≤◌, Bool, true, false, ◌&&◌, ◌||◌, cond, ◌⊎◌, ◌++◌, List, [], ◌∷◌, length, refl, sym, ap, ◌∙◌, subst, arith, inl, inr}
use Rattle.std.specs.Prelude.{Option, Some, None, Result, Ok, Err, IfOk, filter, nat_le, nat_lt, slice_get}
use Rattle.std.specs.declared.alloc.AllocError.{AllocError}
use Rattle.std.proofs.lemmas.Bool.Decides.{nat_tests}
use Rattle.std.specs.List.{list_all}
use Rattle.std.proofs.lemmas.Bool.{cases_order, and_from}
use Rattle.qc_model.specs.Block.{is_owned_within}
use Rattle.qc_model.specs.Content.{Game, Rule}
use Rattle.qc_model.specs.Domains.{Box, has_value, is_ascending, is_sub_box, declared_box, has_empty}
use Rattle.qc_model.proofs.Readable.{first, second}
use Rattle.proof_tree.specs.declared.tree.Step.{Step}
use Rattle.proof_tree.specs.Steps.{after_steps}
use Rattle.fd_store.specs.Held.{Held}
use Rattle.model_levels.specs.Spans.{is_rule_within, is_number_within, IsSpanOf}
use Rattle.prop_base.specs.Pruning.{IsPruning, are_pruned_by}
use Rattle.prop_base.proofs.Steps.{pruning_sub, pruning_more}
use Rattle.prop_engine.specs.declared.answer.Closed.{Closed}
use Rattle.prop_engine.specs.declared.answer.Closed.TheVariants.{Open, Empty}
use Rattle.model_arguments.specs.declared.spans.Span.{Span}
use Rattle.prop_engine.specs.Closing.{EachRule, IsClosedFor, IsClosing, is_between}
use Rattle.qc_cascade.specs.Adding.{is_either}
use Rattle.prop_engine.proofs.Means.{closed_for}
use Rattle.qc_cascade.specs.Ahead.{HasClosed, IsHorizon}
use Rattle.qc_cascade.proofs.Declared.{within_itself}
use Rattle.qc_cascade.proofs.Pruned.{of_more, pruning_weaker}

-- a box within another lies within itself
all_ascend : (box large : Box) → is_sub_box box large ≡ true → list_all is_ascending box ≡ true
all_ascend [] large h = refl
all_ascend (d ∷ ds) [] h = cc
all_ascend (d ∷ ds) (e ∷ es) h =
    let p = is_ascending d && list_all (has_value e) d in
    and_from (is_ascending d) (list_all is_ascending ds)
    (first (is_ascending d) (list_all (has_value e) d) (first p (is_sub_box ds es) h))
    (all_ascend ds es (second p (is_sub_box ds es) h))

-- what closing leaves is such a box
pub left_closed : (g : Game) (i k : ℕ) (s t : Held) (xs ys : List Step) → is_sub_box s.box (declared_box g) ≡ true → IsPruning (is_number_within g i (suc k)) g s t xs ys →
    IsClosedFor (is_number_within g i (suc k)) g t.box → HasClosed g i k s.box
left_closed g i k s t xs ys h p c = record {
  left = t.box;
  inside = pruning_sub (is_number_within g i (suc k)) g s t xs ys s.box p (within_itself s.box (all_ascend s.box (declared_box g) h));
  closed = closed_for (is_number_within g i (suc k)) g (is_owned_within i (suc k)) t.box c (λ j r e o. ap (is_rule_within i (suc k)) e ∙ o);
}

-- one more joint store that isn't empty
pub nearer_more : (g : Game) (i k n : ℕ) (box : Box) → n ≡ k + 1 → ((j : ℕ) → i ≤ j → j < k → HasClosed g i j box) → HasClosed g i k box → (j : ℕ) → i ≤ j → j < n → HasClosed g i j box
nearer_more g i k n box e f c j up l = by (cases_order j k)
  where
    by : (j ≡ k) ⊎ ((j < k) ⊎ (k < j)) → HasClosed g i j box
    by (inl q) = subst (λ m. HasClosed g i m box) (sym q) c
    by (inr (inl q)) = f j up q
    by (inr (inr q)) = absurd (omega (arith, e, l, q))

-- the steps of the joint store before, and those that close this one
pub pruned_on : (g : Game) (i k : ℕ) (s t u : Held) (xs ys zs : List Step) → IsPruning (is_number_within g i k) g s t xs ys → IsPruning (is_number_within g i (suc k)) g t u ys zs →
    IsPruning (is_number_within g i (suc k)) g s u xs zs
pruned_on g i k s t u xs ys zs p q =
    pruning_more (is_number_within g i (suc k)) g s t u xs ys zs (pruning_weaker (is_number_within g i k) (is_number_within g i (suc k)) g s t xs ys (λ c h. of_more g i k (suc k) c (omega arith) h) p) q

-- steps from none on that reach a box with an empty domain
pub found_here : (g : Game) (i k : ℕ) (s t : Held) (steps : List Step) → i ≤ k → k ≤ length g.scopes → IsPruning (is_number_within g i (suc k)) g s t [] steps → has_empty t.box ≡ true →
    ((j : ℕ) → i ≤ j → j < k → HasClosed g i j s.box) → IsHorizon g i k s.box steps
found_here g i k s t steps up to p e f = record {
  ahead = up;
  to = to;
  pruned = ap (λ l. are_pruned_by (is_number_within g i (suc k)) g l s.box) (p.appended ∙ zero_append p.more) ∙ p.legal;
  emptied = ap (λ l. has_empty (after_steps l s.box)) (p.appended ∙ zero_append p.more) ∙ (ap has_empty (sym p.reached) ∙ e);
  nearer = f;
}
  where
    zero_append : (l : List Step) → ([] ++ l) ≡ l
    zero_append l = refl

-- the constraints of one scope more
of_both : (i k o : ℕ) → i ≤ k → (nat_le i o && nat_lt o (suc k)) ≡ ((nat_le i o && nat_lt o k) || (nat_le k o && nat_lt o (suc k)))
of_both i k o l = grind (arith, nat_tests)

either_within : (g : Game) (i k : ℕ) (s t : Span) (c : ℕ) → i ≤ k → IsSpanOf g i k s.first s.end → IsSpanOf g k (suc k) t.first t.end → is_either s t c ≡ is_number_within g i (suc k) c
either_within g i k s t c l p q = ap (λ b. b || is_between t.first t.end c) (p.numbers c) ∙ (ap (λ b. is_number_within g i k c || b) (q.numbers c) ∙ by (slice_get g.constraints c))
  where
    by : (o : Option Rule) → (is_rule_within i k o || is_rule_within k (suc k) o) ≡ is_rule_within i (suc k) o
    by None = refl
    by (Some r) = sym (of_both i k r.owner.0 l)

pub joint_pruned : (g : Game) (i k : ℕ) (a b : Span) (s t : Held) (xs ys : List Step) → i ≤ k → IsSpanOf g i k a.first a.end → IsSpanOf g k (suc k) b.first b.end →
    IsPruning (is_either a b) g s t xs ys → IsPruning (is_number_within g i (suc k)) g s t xs ys
joint_pruned g i k a b s t xs ys l p q h = pruning_weaker (is_either a b) (is_number_within g i (suc k)) g s t xs ys (λ c e. sym (either_within g i k a b c l p q) ∙ e) h

pub joint_closing : (r : Result Closed AllocError) (g : Game) (i k : ℕ) (a b : Span) (box : Box) → i ≤ k → IsSpanOf g i k a.first a.end → IsSpanOf g k (suc k) b.first b.end →
    IfOk r (λ f. IsClosing f (is_either a b) g box) → IfOk r (λ f. IsClosing f (is_number_within g i (suc k)) g box)
joint_closing (Ok Open) g i k a b box l p q h = (h.0, λ c d o e. h.1 c d (either_within g i k a b c l p q ∙ o) e)
joint_closing (Ok Empty) g i k a b box l p q h = h
joint_closing (Err x) g i k a b box l p q h = h

-- the constraints before the first scope, which are none
none_owned : (i : ℕ) (cs : List Rule) → filter (is_owned_within i i) cs ≡ []
none_owned i [] = refl
none_owned i (c ∷ cs) = ap (λ b. cond b (c ∷ filter (is_owned_within i i) cs) (filter (is_owned_within i i) cs)) (never c.owner.0) ∙ none_owned i cs
  where
    never : (o : ℕ) → (nat_le i o && nat_lt o i) ≡ false
    never o = grind (arith, nat_tests)

pub none_yet : (g : Game) (i : ℕ) → IsSpanOf g i i 0 0
none_yet g i = record {
  slice = sym (none_owned i g.constraints);
  numbers = λ k. none k (slice_get g.constraints k);
  rises = omega arith;
  within = omega arith;
}
  where
    none : (k : ℕ) (o : Option Rule) → is_between 0 0 k ≡ is_rule_within i i o
    none k None = grind (arith, nat_tests)
    none k (Some c) = grind (arith, nat_tests)

pub none_kept : (g : Game) (i : ℕ) (p : Rule → Bool) → EachRule (is_number_within g i i) g p
none_kept g i p k c o e = by (ap (is_rule_within i i) (sym e) ∙ o)
  where
    by : is_rule_within i i (Some c) ≡ true → p c ≡ true
    by h = grind (arith, nat_tests)
