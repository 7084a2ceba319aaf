-- Answers in the order of their tuples are those to the allowed tuples, in order.
use Rattle.std.proofs.Common.{◌≡◌, inl, inr, ℕ, suc, ◌+◌, ◌≤◌, ◌<◌, Bool, true, false, cond, List, [], ◌∷◌, ◌++◌, map, length, drop, get_or, refl, sym, ap, ◌∙◌, subst, ℤ, arith, add-one}
use Rattle.std.specs.List.{All, sum_by}
use Rattle.std.specs.List.Sorted.{IsPermutation, IsSorted}
use Rattle.std.specs.Ordering.{is_lt}
use Rattle.std.proofs.lemmas.List.Elements.{All-nil, All-cons, All-head, All-tail}
use Rattle.std.proofs.lemmas.List.Sums.{sum_by-cons}
use Rattle.std.proofs.lemmas.List.Sorted.{All-permutation, IsPermutation-sym, sum_by-IsPermutation, ranks_by, sorted_far}
use Rattle.qc_model.specs.Content.{Game}
use Rattle.qc_model.specs.Lists.{Among, Distinct, same_values}
use Rattle.qc_model.specs.Game.{moves}
use Rattle.qc_model.specs.Plan.{Plan, Entries, no_entries, entry, entry_tuples, EachEntry}
use Rattle.qc_model.specs.Valid.{IsValid}
use Rattle.proof_tree.specs.Finding.{Finding, Leaf, leaf_barred, leaf_skipped, leaf_bound, leaf_node, strategy_at, answers}
use Rattle.proof_meaning.proofs.LeafWords.{same_true, same_self}
use Rattle.qc_play.specs.declared.plan.PlanEntry.{PlanEntry}
use Rattle.qc_play.specs.Shape.{plan_of, all_entries}
use Rattle.qc_play.specs.EntryOrder.{entry_order}
use Rattle.qc_play.specs.Entries.{entries_on}
use Rattle.proof_meaning.specs.Answered.{tuples_on, GoOnFrom, GoOnWithAll}
use Rattle.qc_play.proofs.Lexicographic.{order_of, total, AllAfter, Ascends, is_after, same_ascending, moves_ascend}

abbrev tuples_of : List PlanEntry → List (List ℤ)
tuples_of es = map (λ e. e.tuple) es

-- ---- each entry has the strategy of the leaf at its tuple
each_weaker : (R S : List ℤ → Plan → Type 0) (l : Entries) → ((t : List ℤ) (s : Plan) → Among t (entry_tuples l) → R t s → S t s) → EachEntry R l → EachEntry S l
each_weaker R S no_entries f h = tt
each_weaker R S (entry t s rest) f h = (f t s (inl refl) h.0, each_weaker R S rest (λ u r m. f u r (inr m)) h.1)

entry_tuples_on : (plan : Finding → Plan) (n : ℕ) (ls : List Leaf) → entry_tuples (entries_on plan n ls) ≡ tuples_on n ls
entry_tuples_on plan n [] = refl
entry_tuples_on plan n (leaf_barred ∷ ls) = entry_tuples_on plan n ls
entry_tuples_on plan n (leaf_skipped ∷ ls) = entry_tuples_on plan n ls
entry_tuples_on plan n (leaf_bound m ∷ ls) = entry_tuples_on plan n ls
entry_tuples_on plan n (leaf_node w f ∷ ls) = ap (λ ts. drop n w ∷ ts) (entry_tuples_on plan n ls)

abbrev HasStrategy : List ℤ → List Leaf → List ℤ → Plan → Type 0
HasStrategy a ls t s = strategy_at (a ++ t) ls ≡ s

drop_front : (a t : List ℤ) → drop (length a) (a ++ t) ≡ t
drop_front [] t = refl
drop_front (x ∷ a) t = drop_front a t

-- a leaf with another tuple is passed over
passed_over : (a w t : List ℤ) (f : Finding) (ls : List Leaf) (s : Plan) → ¬ (t ≡ drop (length a) w) → strategy_at (a ++ t) ls ≡ s → strategy_at (a ++ t) (leaf_node w f ∷ ls) ≡ s
passed_over a w t f ls s n h = by (same_values w (a ++ t)) refl
  where
    by : (b : Bool) → same_values w (a ++ t) ≡ b → cond b f.strategy (strategy_at (a ++ t) ls) ≡ s
    by true e = absurd (n (sym (ap (drop (length a)) (same_true w (a ++ t) e) ∙ drop_front a t)))
    by false e = h

found_each : (a : List ℤ) (ls : List Leaf) → GoOnFrom a ls → Distinct (tuples_on (length a) ls) → EachEntry (HasStrategy a ls) (entries_on (λ f. f.strategy) (length a) ls)
found_each a [] g d = tt
found_each a (leaf_barred ∷ ls) g d = found_each a ls g d
found_each a (leaf_skipped ∷ ls) g d = found_each a ls g d
found_each a (leaf_bound m ∷ ls) g d = found_each a ls g d
found_each a (leaf_node w f ∷ ls) g d = (
  ap (λ b. cond b f.strategy (strategy_at (a ++ drop (length a) w) ls)) (ap (same_values w) (sym g.0) ∙ same_self w),
  each_weaker (HasStrategy a ls) (HasStrategy a (leaf_node w f ∷ ls)) (entries_on (λ f. f.strategy) (length a) ls)
      (λ t s m h. passed_over a w t f ls s (λ e. d.0 (subst (λ u. Among u (tuples_on (length a) ls)) e (subst (Among t) (entry_tuples_on (λ f. f.strategy) (length a) ls) m))) h)
      (found_each a ls g.1 d.1),
)

all_found : (R : List ℤ → Plan → Type 0) (es : List PlanEntry) → EachEntry R (all_entries es) → All (λ e. R e.tuple (plan_of e.plan)) es
all_found R [] h = All-nil (λ e. R e.tuple (plan_of e.plan))
all_found R (e ∷ es) h = All-cons (λ e. R e.tuple (plan_of e.plan)) e es h.0 (all_found R es h.1)

answers_each : (a : List ℤ) (ls : List Leaf) (es : List PlanEntry) → All (λ e. HasStrategy a ls e.tuple (plan_of e.plan)) es → all_entries es ≡ answers a ls (tuples_of es)
answers_each a ls [] h = refl
answers_each a ls (e ∷ es) h =
    ap (λ s. entry e.tuple s (all_entries es)) (sym (All-head (λ e. HasStrategy a ls e.tuple (plan_of e.plan)) e es h))
    ∙ ap (entry e.tuple (strategy_at (a ++ e.tuple) ls)) (answers_each a ls es (All-tail (λ e. HasStrategy a ls e.tuple (plan_of e.plan)) e es h))

-- ---- the tuples of entries
entry_tuples_all : (es : List PlanEntry) → entry_tuples (all_entries es) ≡ tuples_of es
entry_tuples_all [] = refl
entry_tuples_all (e ∷ es) = ap (λ ts. e.tuple ∷ ts) (entry_tuples_all es)

all_tuples : (P : List ℤ → Type 0) (es : List PlanEntry) → ((t : List ℤ) → Among t (tuples_of es) → P t) → All (λ e. P e.tuple) es
all_tuples P [] f = All-nil (λ e. P e.tuple)
all_tuples P (e ∷ es) f = All-cons (λ e. P e.tuple) e es (f e.tuple (inl refl)) (all_tuples P es (λ t m. f t (inr m)))

each_tuple : (P : List ℤ → Type 0) (es : List PlanEntry) → All (λ e. P e.tuple) es → (t : List ℤ) → Among t (tuples_of es) → P t
each_tuple P [] h t m = absurd m
each_tuple P (e ∷ es) h t m = elim m [
  | inl q ↦ subst P (sym q) (All-head (λ e. P e.tuple) e es h)
  | inr k ↦ each_tuple P es (All-tail (λ e. P e.tuple) e es h) t k
]

-- in another order the tuples are the same
moved : (es ks : List PlanEntry) → IsPermutation es ks → (t : List ℤ) → Among t (tuples_of ks) → Among t (tuples_of es)
moved es ks p t m =
    each_tuple (λ t. Among t (tuples_of es)) ks
    (All-permutation (λ e. Among e.tuple (tuples_of es)) es ks p (all_tuples (λ t. Among t (tuples_of es)) es (λ t m. m))) t m

-- ---- how often a tuple stands there
abbrev count_of : Bool → ℕ
count_of b = cond b 1 0

times : List ℤ → List PlanEntry → ℕ
times t es = sum_by (λ e. count_of (same_values t e.tuple)) es

none_in : (t : List ℤ) → times t [] ≡ 0
unfolding times
none_in t = refl

one_more : (t : List ℤ) (e : PlanEntry) (es : List PlanEntry) → times t (e ∷ es) ≡ count_of (same_values t e.tuple) + times t es
unfolding times
one_more t e es = sum_by-cons (λ e. count_of (same_values t e.tuple)) e es

same_times : (t : List ℤ) (es ks : List PlanEntry) → IsPermutation es ks → times t ks ≡ times t es
unfolding times
same_times t es ks p = sum_by-IsPermutation (λ e. count_of (same_values t e.tuple)) es ks p

absent : (t : List ℤ) (es : List PlanEntry) → ¬ Among t (tuples_of es) → times t es ≡ 0
absent t [] n = none_in t
absent t (e ∷ es) n = go (same_values t e.tuple) refl (absent t es (λ m. n (inr m)))
  where
    go : (b : Bool) → same_values t e.tuple ≡ b → times t es ≡ 0 → times t (e ∷ es) ≡ 0
    go true q k = absurd (n (inl (same_true t e.tuple q)))
    go false q k = let here = ap count_of q in let more = one_more t e es in omega (arith, here, more, k)

once : (t : List ℤ) (es : List PlanEntry) → Distinct (tuples_of es) → times t es ≤ 1
once t [] d = let e = none_in t in omega (arith, e)
once t (e ∷ es) d = go (same_values t e.tuple) refl (once t es d.1)
  where
    go : (b : Bool) → same_values t e.tuple ≡ b → times t es ≤ 1 → times t (e ∷ es) ≤ 1
    go true q k =
        let here = ap count_of q in
        let more = one_more t e es in
        let gone = absent t es (λ m. d.0 (subst (λ u. Among u (tuples_of es)) (same_true t e.tuple q) m)) in
        omega (arith, here, more, gone)
    go false q k = let here = ap count_of q in let more = one_more t e es in omega (arith, here, more, k)

-- ---- sorted entries have their tuples in order
after_all : (t : List ℤ) (es : List PlanEntry) → All (λ e. is_lt (order_of e.tuple t) ≡ false) es → times t es ≡ 0 → AllAfter t (tuples_of es)
after_all t [] h n = tt
after_all t (e ∷ es) h n = go (same_values t e.tuple) refl (after_all t es (All-tail (λ e. is_lt (order_of e.tuple t) ≡ false) e es h))
  where
    apart : t ≡ e.tuple → same_values t e.tuple ≡ false → ⊥
    apart s q = let k : same_values t e.tuple ≡ true = ap (same_values t) (sym s) ∙ same_self t in cc

    go : (b : Bool) → same_values t e.tuple ≡ b → (times t es ≡ 0 → AllAfter t (tuples_of es)) → AllAfter t (tuples_of (e ∷ es))
    go true q k = let here = ap count_of q in let more = one_more t e es in absurd (omega (arith, here, more, n))
    go false q k =
        let here = ap count_of q in
        let more = one_more t e es in
        (is_after t e.tuple (All-head (λ e. is_lt (order_of e.tuple t) ≡ false) e es h) (λ s. apart s q), k (omega (arith, here, more, n)))

sorted_rest : (e : PlanEntry) (es : List PlanEntry) → IsSorted entry_order (e ∷ es) → IsSorted entry_order es
sorted_rest e es h = λ k d l m. subst (λ n. is_lt (entry_order (get_or (e ∷ es) (suc n) d) (get_or es k d)) ≡ false) (sym (add-one k)) (at k d m)
  where
    at : (k : ℕ) (d : PlanEntry) → k + 1 < length es → is_lt (entry_order (get_or (e ∷ es) (suc (suc k)) d) (get_or es k d)) ≡ false
    at k d m = subst (λ n. is_lt (entry_order (get_or (e ∷ es) n d) (get_or es k d)) ≡ false) (add-one (suc k)) (h (suc k) d (omega arith) (omega arith))

first_least : (e : PlanEntry) (es : List PlanEntry) → IsSorted entry_order (e ∷ es) → All (λ x. is_lt (order_of x.tuple e.tuple) ≡ false) es
first_least e es h = λ k d l. sorted_far (λ x y. is_lt (entry_order x y)) (ranks_by total (λ x. x.tuple)) (e ∷ es) h 0 (suc k) d (omega arith) (omega arith)

ascends_of : (es : List PlanEntry) → IsSorted entry_order es → ((t : List ℤ) → times t es ≤ 1) → Ascends (tuples_of es)
ascends_of [] h n = tt
ascends_of (e ∷ es) h n =
    let here = ap count_of (same_self e.tuple) in
    let more = one_more e.tuple e es in
    let most = n e.tuple in (
      after_all e.tuple es (first_least e es h) (omega (arith, here, more, most)),
      ascends_of es (sorted_rest e es h) (λ t. let m = one_more t e es in let k = n t in omega (arith, m, k)),
    )

-- ---- all together
pub answers_sorted : (g : Game) (i : ℕ) (a : List ℤ) (ls : List Leaf) (es ks : List PlanEntry) → IsValid g → GoOnWithAll g i a ls → all_entries es ≡ entries_on (λ f. f.strategy) (length a) ls → IsPermutation es ks → IsSorted entry_order ks →
    all_entries ks ≡ answers a ls (moves g i a)
answers_sorted g i a ls es ks v w e p s =
    let R = HasStrategy a ls in
    let same : tuples_of es ≡ tuples_on (length a) ls = sym (entry_tuples_all es) ∙ (ap entry_tuples e ∙ entry_tuples_on (λ f. f.strategy) (length a) ls) in
    let found : All (λ e. R e.tuple (plan_of e.plan)) ks =
    All-permutation (λ e. R e.tuple (plan_of e.plan)) es ks p (all_found R es (subst (EachEntry R) (sym e) (found_each a ls w.front w.distinct))) in
    let few : (t : List ℤ) → times t ks ≤ 1 = λ t. (let m = same_times t es ks p in let k = once t es (subst Distinct (sym same) w.distinct) in omega (arith, m, k)) in
    let there : (t : List ℤ) → Among t (tuples_of ks) → Among t (moves g i a) = λ t m. w.back t (subst (Among t) same (moved es ks p t m)) in
    let back : (t : List ℤ) → Among t (moves g i a) → Among t (tuples_of ks) = λ t m. moved ks es (IsPermutation-sym es ks p) t (subst (Among t) (sym same) (w.there t m)) in
    answers_each a ls ks found
    ∙ ap (answers a ls) (same_ascending (tuples_of ks) (moves g i a) (ascends_of ks s few) (moves_ascend g i a v) there back)
