-- When no further leaf of a scope counts: the scope is settled, or a bound that some branches give is one that the scope right
-- above beats.
use Rattle.std.proofs.Common.{◌≡◌, ◌∙◌, refl, sym, ap, subst, arith, Bool, true, false, not, ◌&&◌, ◌||◌, cond, Option, None, Some, List, [], ◌∷◌, ◌++◌, ℤ}
use Rattle.std.specs.Prelude.{int_lt, slice_get}
use Rattle.std.specs.Int.{int_min, int_max}
use Rattle.std.specs.List.{list_any}
use Rattle.std.proofs.lemmas.Int.{ints, clamps}
use Rattle.std.proofs.lemmas.Bool.{or_parts, or_left, or_right}
use Rattle.qc_model.specs.declared.problem.Aggregate.{Aggregate}
use Rattle.qc_model.specs.declared.problem.Condition.{Condition}
use Rattle.qc_model.specs.declared.problem.Fold.{Fold}
use Rattle.qc_model.specs.declared.problem.Fold.TheVariants.{Sum, Least, Greatest}
use Rattle.qc_model.specs.declared.problem.Kind.{Kind}
use Rattle.qc_model.specs.declared.problem.Kind.TheVariants.{Exists, Forall}
use Rattle.qc_model.specs.declared.problem.Scope.{Scope}
use Rattle.qc_model.specs.declared.problem.Sense.{Sense}
use Rattle.qc_model.specs.declared.problem.Sense.TheVariants.{Min, Max}
use Rattle.qc_model.specs.declared.problem.Target.{Target}
use Rattle.qc_model.specs.declared.problem.Target.TheVariants.{Var, Aggregate as Agg}
use Rattle.qc_model.specs.Block.{of_kind}
use Rattle.qc_model.specs.Content.{Game}
use Rattle.qc_model.specs.ExistsVerdict.{some_open}
use Rattle.qc_model.specs.ForallVerdict.{entry_values, numbers_for, known_numbers, is_known, one_sided, first_entry_bound, forall_verdict}
use Rattle.qc_model.specs.ForallVerdict.{fold_bound as bound_by_fold}
use Rattle.qc_model.specs.Optimal.{is_better}
use Rattle.qc_model.specs.Ranges.{range_from}
use Rattle.qc_model.specs.Value.{fold_of, aggregate_fold}
use Rattle.qc_model.specs.Verdict.{Verdict, lost, exact, at_most, unknown, Seen, seen_barred, seen_skipped, seen_bound, seen_node, is_lost, is_exact, is_unknown, some_node, each_node, is_none_of, exact_vectors, bounds, first_value}
use Rattle.joins.specs.Columns.{is_one_sided, first_sense, side_of_fold, side_of_target, side_bound}
use Rattle.joins.specs.Sizes.{EachHas}
use Rattle.joins.specs.Verdicts.{scope_verdict, kind_verdict, scope_wishes, scope_side, kind_side}
use Rattle.proof_tree.specs.Place.{is_goal, list_after}
use Rattle.search_parts.specs.Beaten.{firsts, are_beaten}
use Rattle.search_parts.specs.Bounded.{is_fold_bounded, is_target_bounded, is_list_bounded, is_bounded, Outdoes}
use Rattle.search_parts.specs.Settled.{is_settled, is_outdone, is_ended, is_vague_verdict}
use Rattle.search_parts.proofs.Joining.{settled-append, settled_is, settled_known, known, not_unknown}

-- ---- put together
known-append : (xs ys : List Seen) → known_numbers (xs ++ ys) ≡ known_numbers xs ++ known_numbers ys
known-append [] ys = refl
known-append (seen_barred ∷ xs) ys = known-append xs ys
known-append (seen_skipped ∷ xs) ys = known-append xs ys
known-append (seen_bound m ∷ xs) ys = known-append xs ys
known-append (seen_node lost ∷ xs) ys = known-append xs ys
known-append (seen_node (exact v) ∷ xs) ys = ap (λ ns. first_value v ∷ ns) (known-append xs ys)
known-append (seen_node (at_most p) ∷ xs) ys = ap (λ ns. p ∷ ns) (known-append xs ys)
known-append (seen_node unknown ∷ xs) ys = known-append xs ys

or_so : (a b c : Bool) → (a || (b || c)) ≡ ((a || b) || c)
or_so true b c = refl
or_so false b c = refl

any-append : (p : ℤ → Bool) (ns ms : List ℤ) → list_any p (ns ++ ms) ≡ (list_any p ns || list_any p ms)
any-append p [] ms = refl
any-append p (n ∷ ns) ms = ap (λ b. p n || b) (any-append p ns ms) ∙ or_so (p n) (list_any p ns) (list_any p ms)

crosswise : (a b c e : Bool) → ((a || b) || (c || e)) ≡ ((a || c) || (b || e))
crosswise true b c e = refl
crosswise false true true e = refl
crosswise false true false e = refl
crosswise false false true e = refl
crosswise false false false e = refl

module _ (above : ℤ → Bool) (later : List Scope) (d : List Condition) where
  pub ended-append : (xs ys : List Seen) → is_ended above later d (xs ++ ys) ≡ (is_ended above later d xs || is_ended above later d ys)
  ended-append xs ys =
      ap (λ b. b || is_outdone above (xs ++ ys)) (settled-append later d xs ys)
      ∙ (ap (λ b. (is_settled later d xs || is_settled later d ys) || b) (ap (list_any above) (known-append xs ys) ∙ any-append above (known_numbers xs) (known_numbers ys))
      ∙ crosswise (is_settled later d xs) (is_settled later d ys) (is_outdone above xs) (is_outdone above ys))

  -- more leaves leave it so
  pub ended_first : (xs ys : List Seen) → is_ended above later d xs ≡ true → is_ended above later d (xs ++ ys) ≡ true
  ended_first xs ys e = ended-append xs ys ∙ or_left (is_ended above later d xs) (is_ended above later d ys) e

  pub ended_last : (xs ys : List Seen) → is_settled later d ys ≡ true → is_ended above later d (xs ++ ys) ≡ true
  ended_last xs ys e = ended-append xs ys ∙ or_right (is_ended above later d xs) (is_ended above later d ys) (or_left (is_settled later d ys) (is_outdone above ys) e)

  pub not_ended : (xs ys : List Seen) → is_ended above later d (xs ++ ys) ≡ false → is_ended above later d xs ≡ false
  not_ended xs ys e = (or_parts (is_ended above later d xs) (is_ended above later d ys) (sym (ended-append xs ys) ∙ e)).0

-- ---- what an outdone scope comes to
-- what follows of each number that passes the test
any_gives : (p : ℤ → Bool) (ns : List ℤ) (b : Bool) → ((n : ℤ) → p n ≡ true → b ≡ true) → list_any p ns ≡ true → b ≡ true
any_gives p [] b f h = cc
any_gives p (n ∷ ns) b f h = by (p n) refl h (any_gives p ns b f)
  where
    by : (c : Bool) → p n ≡ c → (c || list_any p ns) ≡ true → (list_any p ns ≡ true → b ≡ true) → b ≡ true
    by true e q rest = f n e
    by false e q rest = rest q

not_above : (x y : ℤ) → int_lt (int_max x y) x ≡ false
not_above x y = by (int_lt (int_max x y) x) refl
  where
    by : (b : Bool) → int_lt (int_max x y) x ≡ b → b ≡ false
    by true e = absurd (omega (arith, ints, clamps, e))
    by false e = refl

not_above_second : (x y : ℤ) → int_lt (int_max x y) y ≡ false
not_above_second x y = by (int_lt (int_max x y) y) refl
  where
    by : (b : Bool) → int_lt (int_max x y) y ≡ b → b ≡ false
    by true e = absurd (omega (arith, ints, clamps, e))
    by false e = refl

not_below : (x y : ℤ) → int_lt x (int_min x y) ≡ false
not_below x y = by (int_lt x (int_min x y)) refl
  where
    by : (b : Bool) → int_lt x (int_min x y) ≡ b → b ≡ false
    by true e = absurd (omega (arith, ints, clamps, e))
    by false e = refl

not_below_second : (x y : ℤ) → int_lt y (int_min x y) ≡ false
not_below_second x y = by (int_lt y (int_min x y)) refl
  where
    by : (b : Bool) → int_lt y (int_min x y) ≡ b → b ≡ false
    by true e = absurd (omega (arith, ints, clamps, e))
    by false e = refl

-- where a number is beaten, so is the greatest of them, where less is better; the least, where more is
greatest_too : (p : ℤ → Bool) → ((n b : ℤ) → p n ≡ true → int_lt b n ≡ false → p b ≡ true) → (n : ℤ) (ns : List ℤ) → list_any p (n ∷ ns) ≡ true → p (range_from n ns).to ≡ true
greatest_too p worse n [] h = by (p n) h
  where
    by : (b : Bool) → (b || false) ≡ true → b ≡ true
    by true e = refl
    by false e = cc
greatest_too p worse n (m ∷ ms) h = by (p n) refl h (greatest_too p worse m ms)
  where
    by : (b : Bool) → p n ≡ b → (b || list_any p (m ∷ ms)) ≡ true → (list_any p (m ∷ ms) ≡ true → p (range_from m ms).to ≡ true) → p (int_max n (range_from m ms).to) ≡ true
    by true e q rest = worse n (int_max n (range_from m ms).to) e (not_above n (range_from m ms).to)
    by false e q rest = worse (range_from m ms).to (int_max n (range_from m ms).to) (rest q) (not_above_second n (range_from m ms).to)

least_too : (p : ℤ → Bool) → ((n b : ℤ) → p n ≡ true → int_lt n b ≡ false → p b ≡ true) → (n : ℤ) (ns : List ℤ) → list_any p (n ∷ ns) ≡ true → p (range_from n ns).from ≡ true
least_too p worse n [] h = by (p n) h
  where
    by : (b : Bool) → (b || false) ≡ true → b ≡ true
    by true e = refl
    by false e = cc
least_too p worse n (m ∷ ms) h = by (p n) refl h (least_too p worse m ms)
  where
    by : (b : Bool) → p n ≡ b → (b || list_any p (m ∷ ms)) ≡ true → (list_any p (m ∷ ms) ≡ true → p (range_from m ms).from ≡ true) → p (int_min n (range_from m ms).from) ≡ true
    by true e q rest = worse n (int_min n (range_from m ms).from) e (not_below n (range_from m ms).from)
    by false e q rest = worse (range_from m ms).from (int_min n (range_from m ms).from) (rest q) (not_below_second n (range_from m ms).from)

-- a universal scope that is or_parts lost nor exact comes to a bound that is beaten, whether a number of each branch is known or
-- of some alone
module _ (above : ℤ → Bool) (any_lost all_exact all_known : Bool) (v : List ℤ) where
  tests : (b : ℤ) → above b ≡ true → is_vague_verdict above (cond any_lost lost (cond all_exact (exact v) (cond all_known (at_most b) (at_most b)))) ≡ false
  tests b e = by any_lost all_exact all_known
    where
      by : (l x k : Bool) → is_vague_verdict above (cond l lost (cond x (exact v) (cond k (at_most b) (at_most b)))) ≡ false
      by true x k = refl
      by false true k = refl
      by false false true = ap not e
      by false false false = ap not e

  abbrev Comes : Verdict → Verdict → Type 0
  Comes whole some = is_vague_verdict above (cond any_lost lost (cond all_exact (exact v) (cond all_known whole some))) ≡ false

  by_fold : (f : Fold) (s : Sense) (n : ℤ) (ns : List ℤ) → is_one_sided s f ≡ true → ((n b : ℤ) → above n ≡ true → is_better s b n ≡ false → above b ≡ true) → list_any above (n ∷ ns) ≡ true → Comes (at_most (fold_of f (n ∷ ns))) (bound_by_fold s f n ns)
  by_fold Sum Min n ns h worse some = cc
  by_fold (Least z) Min n ns h worse some = cc
  by_fold (Greatest z) Min n ns h worse some = tests (range_from n ns).to (greatest_too above worse n ns some)
  by_fold Sum Max n ns h worse some = cc
  by_fold (Least z) Max n ns h worse some = tests (range_from n ns).from (least_too above worse n ns some)
  by_fold (Greatest z) Max n ns h worse some = cc

  by_aggregate : (o : Option Aggregate) (s : Sense) (ns : List ℤ) → is_fold_bounded s o ≡ true → ((n b : ℤ) → above n ≡ true → is_better s b n ≡ false → above b ≡ true) → list_any above ns ≡ true → Comes (at_most (aggregate_fold o ns)) (one_sided s o ns)
  by_aggregate None s ns h worse some = cc
  by_aggregate (Some q) s [] h worse some = cc
  by_aggregate (Some q) s (n ∷ ns) h worse some = by_fold q.fold s n ns h worse some

by_target : (above : ℤ → Bool) (g : Game) (s : Sense) (x : Target) (v : List ℤ) (xs : List Seen) → is_target_bounded g s x ≡ true → ((n b : ℤ) → above n ≡ true → is_better s b n ≡ false → above b ≡ true) → is_outdone above xs ≡ true →
    is_vague_verdict above (cond (some_node is_lost xs) lost (cond (each_node is_exact xs) (exact v) (first_entry_bound g s x xs))) ≡ false
by_target above g s (Var x) v xs h worse some = cc
by_target above g s (Agg q) v xs h worse some = by_aggregate above (some_node is_lost xs) (each_node is_exact xs) (each_node is_known xs) v (slice_get g.aggregates q.0) s (known_numbers xs) h worse some

outdone_known : (above : ℤ → Bool) (g : Game) (later : List Scope) (d : List Condition) (a : List ℤ) (xs : List Seen) → Outdoes g later d above → is_outdone above xs ≡ true → is_vague_verdict above (scope_verdict later g d a xs) ≡ false
outdone_known above g later d a xs o h = by later (any_gives above (known_numbers xs) (is_bounded later g d) o.bounded h)
  where
    by_list : (dd : List Condition) → is_list_bounded g dd ≡ true → ((n b : ℤ) → above n ≡ true → is_better (first_sense dd) b n ≡ false → above b ≡ true) → is_vague_verdict above (forall_verdict g dd a xs) ≡ false
    by_list [] e worse = cc
    by_list (c ∷ dd) e worse = by_target above g c.sense c.target (entry_values g (c ∷ dd) a (numbers_for (c ∷ dd) (exact_vectors xs))) xs e worse h

    by_kind : (k : Kind) (own : Option Condition) → of_kind k false (is_list_bounded g d) ≡ true → is_vague_verdict above (kind_verdict k own g d a xs) ≡ false
    by_kind Exists own e = cc
    by_kind Forall own e = by_list d e o.worse

    by : (ss : List Scope) → is_bounded ss g d ≡ true → is_vague_verdict above (scope_verdict ss g d a xs) ≡ false
    by [] e = cc
    by (s ∷ ss) e = by_kind s.kind s.condition e

-- where no further leaf counts, the scope is lost, exact, or a bound that is beaten
pub ended_known : (above : ℤ → Bool) (g : Game) (later : List Scope) (d : List Condition) (a : List ℤ) (xs : List Seen) → is_goal later ≡ false → Outdoes g later d above → is_ended above later (list_after g later d) xs ≡ true → is_vague_verdict above (scope_verdict later g d a xs) ≡ false
ended_known above g later d a xs e o h = by (is_settled later (list_after g later d) xs) refl h
  where
    by : (b : Bool) → is_settled later (list_after g later d) xs ≡ b → (b || is_outdone above xs) ≡ true → is_vague_verdict above (scope_verdict later g d a xs) ≡ false
    by true q r = ap (is_vague_verdict above) (settled_is g later d a xs q) ∙ settled_known above later e
    by false q r = outdone_known above g later d a xs o r

pub ended_sure : (above : ℤ → Bool) (g : Game) (later : List Scope) (d : List Condition) (a : List ℤ) (xs : List Seen) → is_goal later ≡ false → Outdoes g later d above → is_ended above later (list_after g later d) xs ≡ true → is_unknown (scope_verdict later g d a xs) ≡ false
ended_sure above g later d a xs e o h = not_unknown above (scope_verdict later g d a xs) (ended_known above g later d a xs e o h)

-- so too where no leaf is open and all bounds are beaten
pub decided : (above : ℤ → Bool) (g : Game) (later : List Scope) (d : List Condition) (a : List ℤ) (xs : List Seen) → is_goal later ≡ false → Outdoes g later d above → (is_ended above later (list_after g later d) xs ≡ false → some_open xs ≡ false) → EachHas (list_after g later d) xs →
    are_beaten (scope_wishes later g d) (firsts xs) (bounds xs) ≡ true → is_vague_verdict above (scope_verdict later g d a xs) ≡ false
decided above g later d a xs e o f l b = by (is_ended above later (list_after g later d) xs) refl
  where
    by : (c : Bool) → is_ended above later (list_after g later d) xs ≡ c → is_vague_verdict above (scope_verdict later g d a xs) ≡ false
    by true q = ended_known above g later d a xs e o q
    by false q = known above g later d a xs e (f q) l b

-- ---- the bound that the join tells
-- it is one of the numbers, and some branches alone give it
pub record IsOne (bounded : Bool) (ns : List ℤ) (b : ℤ) : Type 0 where
  pub bounds : bounded ≡ true
  pub one : (p : ℤ → Bool) → p b ≡ true → list_any p ns ≡ true

greatest_is_one : (p : ℤ → Bool) (n : ℤ) (ns : List ℤ) → p (range_from n ns).to ≡ true → list_any p (n ∷ ns) ≡ true
greatest_is_one p n [] h = or_left (p n) false h
greatest_is_one p n (m ∷ ms) h = by (int_lt (range_from m ms).to n) h (greatest_is_one p m ms)
  where
    by : (b : Bool) → p (cond b n (range_from m ms).to) ≡ true → (p (range_from m ms).to ≡ true → list_any p (m ∷ ms) ≡ true) → list_any p (n ∷ m ∷ ms) ≡ true
    by true e rest = or_left (p n) (list_any p (m ∷ ms)) e
    by false e rest = or_right (p n) (list_any p (m ∷ ms)) (rest e)

least_is_one : (p : ℤ → Bool) (n : ℤ) (ns : List ℤ) → p (range_from n ns).from ≡ true → list_any p (n ∷ ns) ≡ true
least_is_one p n [] h = or_left (p n) false h
least_is_one p n (m ∷ ms) h = by (int_lt (range_from m ms).from n) h (least_is_one p m ms)
  where
    by : (b : Bool) → p (cond b (range_from m ms).from n) ≡ true → (p (range_from m ms).from ≡ true → list_any p (m ∷ ms) ≡ true) → list_any p (n ∷ m ∷ ms) ≡ true
    by true e rest = or_right (p n) (list_any p (m ∷ ms)) (rest e)
    by false e rest = or_left (p n) (list_any p (m ∷ ms)) e

some_is : (x b : ℤ) → Some x ≡ Some b → x ≡ b
some_is x b e = cc

fold_one : (s : Sense) (f : Fold) (ns : List ℤ) (b : ℤ) → cond (not (is_none_of ns) && is_one_sided s f) (Some (fold_of f ns)) None ≡ Some b → IsOne (is_one_sided s f) ns b
fold_one s f [] b e = cc
fold_one Min Sum (n ∷ ns) b e = cc
fold_one Min (Least z) (n ∷ ns) b e = cc
fold_one Min (Greatest z) (n ∷ ns) b e = record { bounds = refl; one = λ p h. greatest_is_one p n ns (subst (λ k. p k ≡ true) (sym (some_is (range_from n ns).to b e)) h) }
fold_one Max Sum (n ∷ ns) b e = cc
fold_one Max (Least z) (n ∷ ns) b e = record { bounds = refl; one = λ p h. least_is_one p n ns (subst (λ k. p k ≡ true) (sym (some_is (range_from n ns).from b e)) h) }
fold_one Max (Greatest z) (n ∷ ns) b e = cc

pub side_one : (g : Game) (later : List Scope) (d : List Condition) (xs : List Seen) (b : ℤ) → scope_side later g d xs ≡ Some b → IsOne (is_bounded later g d) (known_numbers xs) b
side_one g [] d xs b e = cc
side_one g (s ∷ later) d xs b e = by_kind s.kind e
  where
    by_aggregate_here : (z : Sense) (o : Option Aggregate) → side_of_fold z o (known_numbers xs) ≡ Some b → IsOne (is_fold_bounded z o) (known_numbers xs) b
    by_aggregate_here z None e = cc
    by_aggregate_here z (Some q) e = fold_one z q.fold (known_numbers xs) b e

    by_target_here : (z : Sense) (x : Target) → side_of_target g z x (known_numbers xs) ≡ Some b → IsOne (is_target_bounded g z x) (known_numbers xs) b
    by_target_here z (Var x) e = cc
    by_target_here z (Agg q) e = by_aggregate_here z (slice_get g.aggregates q.0) e

    by_list : (dd : List Condition) → side_bound g dd (known_numbers xs) ≡ Some b → IsOne (is_list_bounded g dd) (known_numbers xs) b
    by_list [] e = cc
    by_list (c ∷ dd) e = by_target_here c.sense c.target e

    by_kind : (k : Kind) → kind_side k g d xs ≡ Some b → IsOne (of_kind k false (is_list_bounded g d)) (known_numbers xs) b
    by_kind Exists e = cc
    by_kind Forall e = by_list d e
