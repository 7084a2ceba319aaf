-- What a scope comes to, and what a join stands for, in whatever order leaves and bounds were seen: where nothing is demanded after
-- a scope of the player, and in each scope of the opponent.
use Rattle.std.proofs.Common.{◌≡◌, ◌∙◌, refl, sym, ap, arith, ℕ, zero, suc, ◌<◌, Bool, true, false, not, ◌&&◌, ◌||◌, cond, Option, None, Some, List, [], ◌∷◌, length, map}
use Rattle.std.specs.Prelude.{IsPermutation, ℤ, slice_get}
use Rattle.qc_model.specs.declared.problem.Kind.{Kind}
use Rattle.qc_model.specs.declared.problem.Kind.TheVariants.{Exists as ByPlayer, Forall as ByOpponent}
use Rattle.qc_model.specs.declared.problem.Aggregate.{Aggregate}
use Rattle.qc_model.specs.declared.problem.Condition.{Condition}
use Rattle.qc_model.specs.declared.problem.Fold.{Fold}
use Rattle.qc_model.specs.declared.problem.Scope.{Scope}
use Rattle.qc_model.specs.declared.problem.Sense.{Sense}
use Rattle.qc_model.specs.declared.problem.Target.{Target}
use Rattle.qc_model.specs.declared.problem.Target.TheVariants.{Var, Aggregate as Agg}
use Rattle.qc_model.specs.Content.{Game}
use Rattle.qc_model.specs.Demands.{demands, demands_after, place_of}
use Rattle.qc_model.specs.Value.{fold_of, aggregate_fold}
use Rattle.qc_model.specs.Verdict.{Verdict, lost, exact, at_most, unknown, Seen, seen_barred, seen_skipped, seen_bound, seen_node, is_lost, is_exact, is_unknown, some_node, each_node, is_none_of, exact_vectors, first_value}
use Rattle.qc_model.specs.ExistsVerdict.{exists_verdict, some_open, best_from, best_vector}
use Rattle.qc_model.specs.ForallVerdict.{entry_value, numbers_for, known_numbers, is_known, one_sided, first_entry_bound, bounded_forall, forall_verdict}
use Rattle.joins.specs.Bests.{AllLong}
use Rattle.joins.specs.Columns.{number_at, side_by, total_of, TotalsAre, known_by, known_of}
use Rattle.joins.specs.declared.columns.Source.{Source}
use Rattle.joins.specs.declared.columns.Source.TheVariants.{Variable, Folded, Missing}
use Rattle.joins.specs.declared.columns.Column.{Column}
use Rattle.joins.specs.declared.joins.Joins.{Joins}
use Rattle.joins.specs.declared.scope_join.ScopeJoin.{ScopeJoin}
use Rattle.joins.specs.declared.scope_join.ScopeJoin.TheVariants.{Exists, Forall}
use Rattle.joins.specs.ExistsJoin.{Keeps}
use Rattle.joins.specs.ForallJoin.{Gathers}
use Rattle.joins.specs.ScopeJoins.{StandsIn}
use Rattle.joins.specs.Verdicts.{kind_verdict, scope_verdict, kind_settled, scope_settled, kind_wishes, scope_wishes, wishes_at}
use Rattle.joins.proofs.AtScope.{some_scope, wishes_is}
use Rattle.joins.proofs.Bests.{some_exact_is, and_false}
use Rattle.joins.proofs.ForallVerdicts.{side_is}
use Rattle.joins.proofs.Permuted.{permuted, some_before, folds_alike}

-- ---- tests of leaves
or_turned : (a b c : Bool) → (a || (b || c)) ≡ (b || (a || c))
or_turned true true c = refl
or_turned true false c = refl
or_turned false b c = refl

and_turned : (a b c : Bool) → (a && (b && c)) ≡ (b && (a && c))
and_turned true b c = refl
and_turned false true c = refl
and_turned false false c = refl

-- what one item says to a test that some node has to pass, or each
abbrev passes : (Verdict → Bool) → Seen → Bool
passes p seen_barred = false
passes p seen_skipped = false
passes p (seen_bound m) = false
passes p (seen_node v) = p v

abbrev allows_all : (Verdict → Bool) → Seen → Bool
allows_all p seen_barred = true
allows_all p seen_skipped = false
allows_all p (seen_bound m) = true
allows_all p (seen_node v) = p v

abbrev is_open_item : Seen → Bool
is_open_item seen_barred = false
is_open_item seen_skipped = true
is_open_item (seen_bound m) = false
is_open_item (seen_node v) = is_unknown v

module _ (xs ys : List Seen) (p : IsPermutation xs ys) where
  pub some_alike : (test : Verdict → Bool) → some_node test ys ≡ some_node test xs
  some_alike test = permuted (λ x b. passes test x || b) (λ x y b. or_turned (passes test x) (passes test y) b) (some_node test) step xs ys p
    where
      step : (x : Seen) (zs : List Seen) → some_node test (x ∷ zs) ≡ (passes test x || some_node test zs)
      step seen_barred zs = refl
      step seen_skipped zs = refl
      step (seen_bound m) zs = refl
      step (seen_node v) zs = refl

  pub each_alike : (test : Verdict → Bool) → each_node test ys ≡ each_node test xs
  each_alike test = permuted (λ x b. allows_all test x && b) (λ x y b. and_turned (allows_all test x) (allows_all test y) b) (each_node test) step xs ys p
    where
      step : (x : Seen) (zs : List Seen) → each_node test (x ∷ zs) ≡ (allows_all test x && each_node test zs)
      step seen_barred zs = refl
      step seen_skipped zs = refl
      step (seen_bound m) zs = refl
      step (seen_node v) zs = refl

  pub open_alike : some_open ys ≡ some_open xs
  open_alike = permuted (λ x b. is_open_item x || b) (λ x y b. or_turned (is_open_item x) (is_open_item y) b) some_open step xs ys p
    where
      step : (x : Seen) (zs : List Seen) → some_open (x ∷ zs) ≡ (is_open_item x || some_open zs)
      step seen_barred zs = refl
      step seen_skipped zs = refl
      step (seen_bound m) zs = refl
      step (seen_node v) zs = refl

-- ---- numbers of leaves
abbrev number_of : ℕ → Seen → Option ℤ
number_of k seen_barred = None
number_of k seen_skipped = None
number_of k (seen_bound m) = None
number_of k (seen_node lost) = None
number_of k (seen_node (exact w)) = Some (number_at k w)
number_of k (seen_node (at_most n)) = None
number_of k (seen_node unknown) = None

abbrev known_of_item : Seen → Option ℤ
known_of_item seen_barred = None
known_of_item seen_skipped = None
known_of_item (seen_bound m) = None
known_of_item (seen_node lost) = None
known_of_item (seen_node (exact w)) = Some (first_value w)
known_of_item (seen_node (at_most n)) = Some n
known_of_item (seen_node unknown) = None

some_known : (xs : List Seen) → not (is_none_of (known_numbers xs)) ≡ some_node is_known xs
some_known [] = refl
some_known (seen_barred ∷ xs) = some_known xs
some_known (seen_skipped ∷ xs) = some_known xs
some_known (seen_bound m ∷ xs) = some_known xs
some_known (seen_node lost ∷ xs) = some_known xs
some_known (seen_node (exact w) ∷ xs) = refl
some_known (seen_node (at_most n) ∷ xs) = refl
some_known (seen_node unknown ∷ xs) = some_known xs

module _ (xs ys : List Seen) (p : IsPermutation xs ys) where
  vectors_fold : (f : Fold) (k : ℕ) → fold_of f (map (number_at k) (exact_vectors ys)) ≡ fold_of f (map (number_at k) (exact_vectors xs))
  vectors_fold f k = folds_alike (number_of k) (λ zs. map (number_at k) (exact_vectors zs)) step f xs ys p
    where
      step : (x : Seen) (zs : List Seen) → map (number_at k) (exact_vectors (x ∷ zs)) ≡ some_before (number_of k x) (map (number_at k) (exact_vectors zs))
      step seen_barred zs = refl
      step seen_skipped zs = refl
      step (seen_bound m) zs = refl
      step (seen_node lost) zs = refl
      step (seen_node (exact w)) zs = refl
      step (seen_node (at_most n)) zs = refl
      step (seen_node unknown) zs = refl

  known_fold : (f : Fold) → fold_of f (known_numbers ys) ≡ fold_of f (known_numbers xs)
  known_fold f = folds_alike known_of_item known_numbers step f xs ys p
    where
      step : (x : Seen) (zs : List Seen) → known_numbers (x ∷ zs) ≡ some_before (known_of_item x) (known_numbers zs)
      step seen_barred zs = refl
      step seen_skipped zs = refl
      step (seen_bound m) zs = refl
      step (seen_node lost) zs = refl
      step (seen_node (exact w)) zs = refl
      step (seen_node (at_most n)) zs = refl
      step (seen_node unknown) zs = refl

  any_known_alike : not (is_none_of (known_numbers ys)) ≡ not (is_none_of (known_numbers xs))
  any_known_alike = some_known ys ∙ some_alike xs ys p is_known ∙ sym (some_known xs)

  any_exact_alike : not (is_none_of (exact_vectors ys)) ≡ not (is_none_of (exact_vectors xs))
  any_exact_alike = sym (some_exact_is ys) ∙ some_alike xs ys p is_exact ∙ some_exact_is xs

  -- ---- the verdict of a scope of the opponent
  fold_alike : (o : Option Aggregate) (k : ℕ) → aggregate_fold o (map (number_at k) (exact_vectors ys)) ≡ aggregate_fold o (map (number_at k) (exact_vectors xs))
  fold_alike None k = refl
  fold_alike (Some q) k = vectors_fold q.fold k

  value_alike : (g : Game) (d : List Condition) (a : List ℤ) (x : Target) → entry_value g a (numbers_for d (exact_vectors ys)) x ≡ entry_value g a (numbers_for d (exact_vectors xs)) x
  value_alike g d a (Var x) = refl
  value_alike g d a (Agg q) = fold_alike (slice_get g.aggregates q.0) (place_of q.0 d)

  values_alike : (g : Game) (d e : List Condition) (a : List ℤ) → map (λ c. entry_value g a (numbers_for d (exact_vectors ys)) c.target) e ≡ map (λ c. entry_value g a (numbers_for d (exact_vectors xs)) c.target) e
  values_alike g d [] a = refl
  values_alike g d (c ∷ e) a =
      ap (λ z. z ∷ map (λ u. entry_value g a (numbers_for d (exact_vectors ys)) u.target) e) (value_alike g d a c.target)
      ∙ ap (λ zs. entry_value g a (numbers_for d (exact_vectors xs)) c.target ∷ zs) (values_alike g d e a)

  sided_alike : (s : Sense) (o : Option Aggregate) → one_sided s o (known_numbers ys) ≡ one_sided s o (known_numbers xs)
  sided_alike s None = refl
  sided_alike s (Some q) =
      sym (side_is s q (known_numbers ys))
      ∙ ap (λ b. cond b (side_by s q.fold (fold_of q.fold (known_numbers ys))) unknown) any_known_alike
      ∙ ap (λ z. cond (not (is_none_of (known_numbers xs))) (side_by s q.fold z) unknown) (known_fold q.fold)
      ∙ side_is s q (known_numbers xs)

  known_folds : (o : Option Aggregate) → aggregate_fold o (known_numbers ys) ≡ aggregate_fold o (known_numbers xs)
  known_folds None = refl
  known_folds (Some q) = known_fold q.fold

  first_alike : (g : Game) (s : Sense) (x : Target) → first_entry_bound g s x ys ≡ first_entry_bound g s x xs
  first_alike g s (Var x) = refl
  first_alike g s (Agg q) =
      let o = slice_get g.aggregates q.0 in
      ap (λ b. cond b (at_most (aggregate_fold o (known_numbers ys))) (one_sided s o (known_numbers ys))) (each_alike xs ys p is_known)
      ∙ ap (λ z. cond (each_node is_known xs) (at_most z) (one_sided s o (known_numbers ys))) (known_folds o)
      ∙ ap (λ v. cond (each_node is_known xs) (at_most (aggregate_fold o (known_numbers xs))) v) (sided_alike s o)

  bounded_alike : (g : Game) (d : List Condition) → bounded_forall g d ys ≡ bounded_forall g d xs
  bounded_alike g [] = refl
  bounded_alike g (c ∷ d) = first_alike g c.sense c.target

  forall_alike : (g : Game) (d : List Condition) (a : List ℤ) → forall_verdict g d a ys ≡ forall_verdict g d a xs
  forall_alike g d a =
      let vs = map (λ c. entry_value g a (numbers_for d (exact_vectors ys)) c.target) d in
      ap (λ b. cond b lost (cond (each_node is_exact ys) (exact vs) (bounded_forall g d ys))) (some_alike xs ys p is_lost)
      ∙ ap (λ b. cond (some_node is_lost xs) lost (cond b (exact vs) (bounded_forall g d ys))) (each_alike xs ys p is_exact)
      ∙ ap (λ zs. cond (some_node is_lost xs) lost (cond (each_node is_exact xs) (exact zs) (bounded_forall g d ys))) (values_alike g d d a)
      ∙ ap (λ v. cond (some_node is_lost xs) lost (cond (each_node is_exact xs) (exact (map (λ c. entry_value g a (numbers_for d (exact_vectors xs)) c.target) d)) v)) (bounded_alike g d)

  -- ---- the verdict of a scope of the player, after which nothing is demanded
  exists_alike : (own : Option Condition) (d : List Condition) → d ≡ [] → exists_verdict own d ys ≡ exists_verdict own d xs
  exists_alike own [] e =
      ap (λ b. cond b (exact []) (cond (each_node is_lost ys) lost unknown)) (some_alike xs ys p is_exact)
      ∙ ap (λ b. cond (some_node is_exact xs) (exact []) (cond b lost unknown)) (each_alike xs ys p is_lost)
  exists_alike own (c ∷ d) e = cc

  kind_alike : (k : Kind) (own : Option Condition) (g : Game) (d : List Condition) (a : List ℤ) → kind_wishes k own g d ≡ [] → kind_verdict k own g d a ys ≡ kind_verdict k own g d a xs
  kind_alike ByPlayer own g d a e = exists_alike own (demands_after g ByPlayer own d) e
  kind_alike ByOpponent own g d a e = forall_alike g d a

-- what a scope comes to
pub verdict_alike : (g : Game) (later : List Scope) (d : List Condition) (a : List ℤ) (xs ys : List Seen) → scope_wishes later g d ≡ [] → IsPermutation xs ys → scope_verdict later g d a ys ≡ scope_verdict later g d a xs
verdict_alike g [] d a xs ys e p = refl
verdict_alike g (s ∷ later) d a xs ys e p = kind_alike xs ys p s.kind s.condition g d a e

-- ---- a scope that isn't settled and has an open leaf, where nothing is demanded before and after it
open_each : (test : Verdict → Bool) → test unknown ≡ false → (xs : List Seen) → some_open xs ≡ true → each_node test xs ≡ false
open_each test h [] e = cc
open_each test h (seen_barred ∷ xs) e = open_each test h xs e
open_each test h (seen_skipped ∷ xs) e = refl
open_each test h (seen_bound m ∷ xs) e = open_each test h xs e
open_each test h (seen_node lost ∷ xs) e = ap (λ b. test lost && b) (open_each test h xs e) ∙ sym (and_false (test lost))
open_each test h (seen_node (exact w) ∷ xs) e = ap (λ b. test (exact w) && b) (open_each test h xs e) ∙ sym (and_false (test (exact w)))
open_each test h (seen_node (at_most n) ∷ xs) e = ap (λ b. test (at_most n) && b) (open_each test h xs e) ∙ sym (and_false (test (at_most n)))
open_each test h (seen_node unknown ∷ xs) e = ap (λ b. b && each_node test xs) h

open_player : (own : Option Condition) (d : List Condition) (xs : List Seen) → d ≡ [] → some_open xs ≡ true → (is_none_of d && some_node is_exact xs) ≡ false → exists_verdict own d xs ≡ unknown
open_player own [] xs e o s =
    ap (λ b. cond b (exact []) (cond (each_node is_lost xs) lost unknown)) s ∙ ap (λ b. cond b lost unknown) (open_each is_lost refl xs o)
open_player own (c ∷ d) xs e o s = cc

open_kind : (k : Kind) (own : Option Condition) (g : Game) (a : List ℤ) (xs : List Seen) → kind_wishes k own g [] ≡ [] → some_open xs ≡ true → kind_settled k own g [] xs ≡ false → kind_verdict k own g [] a xs ≡ unknown
open_kind ByPlayer own g a xs e o s = open_player own (demands_after g ByPlayer own []) xs e o s
open_kind ByOpponent own g a xs e o s =
    ap (λ b. cond b lost (cond (each_node is_exact xs) (exact []) unknown)) s ∙ ap (λ b. cond b (exact []) unknown) (open_each is_exact refl xs o)

pub open_unknown : (g : Game) (later : List Scope) (a : List ℤ) (xs : List Seen) → scope_wishes later g [] ≡ [] → some_open xs ≡ true → scope_settled later g [] xs ≡ false → scope_verdict later g [] a xs ≡ unknown
open_unknown g [] a xs e o s = refl
open_unknown g (t ∷ later) a xs e o s = open_kind t.kind t.condition g a xs e o s

-- ---- what a join stands for
-- vectors without a value
abbrev is_wide : List ℤ → Bool
is_wide v = not (is_none_of v)

abbrev is_wide_node : Verdict → Bool
is_wide_node lost = false
is_wide_node (exact w) = is_wide w
is_wide_node (at_most n) = false
is_wide_node unknown = false

none_wide : (xs : List Seen) → AllLong [] (exact_vectors xs) → some_node is_wide_node xs ≡ false
none_wide [] l = refl
none_wide (seen_barred ∷ xs) l = none_wide xs l
none_wide (seen_skipped ∷ xs) l = none_wide xs l
none_wide (seen_bound m ∷ xs) l = none_wide xs l
none_wide (seen_node lost ∷ xs) l = none_wide xs l
none_wide (seen_node (exact []) ∷ xs) l = none_wide xs l.1
none_wide (seen_node (exact (n ∷ w)) ∷ xs) l = absurd (omega (arith, l.0))
none_wide (seen_node (at_most n) ∷ xs) l = none_wide xs l
none_wide (seen_node unknown ∷ xs) l = none_wide xs l

all_long : (xs : List Seen) → some_node is_wide_node xs ≡ false → AllLong [] (exact_vectors xs)
all_long [] e = tt
all_long (seen_barred ∷ xs) e = all_long xs e
all_long (seen_skipped ∷ xs) e = all_long xs e
all_long (seen_bound m ∷ xs) e = all_long xs e
all_long (seen_node lost ∷ xs) e = all_long xs e
all_long (seen_node (exact []) ∷ xs) e = (refl, all_long xs e)
all_long (seen_node (exact (n ∷ w)) ∷ xs) e = cc
all_long (seen_node (at_most n) ∷ xs) e = all_long xs e
all_long (seen_node unknown ∷ xs) e = all_long xs e

best_stays : (v : List ℤ) (vs : List (List ℤ)) → best_from [] v vs ≡ v
best_stays v [] = refl
best_stays v (w ∷ vs) = best_stays v vs

best_none : (vs : List (List ℤ)) → AllLong [] vs → best_vector [] vs ≡ []
best_none [] l = refl
best_none ([] ∷ vs) l = best_stays [] vs
best_none ((n ∷ v) ∷ vs) l = absurd (omega (arith, l.0))

module _ (xs ys : List Seen) (p : IsPermutation xs ys) where
  keeps_alike : (d : List Condition) (all_lost is_open has_exact : Bool) (best : List ℤ) (bound : Option ℤ) → d ≡ [] → Keeps d all_lost is_open has_exact best bound xs → Keeps d all_lost is_open has_exact best bound ys
  keeps_alike [] all_lost is_open has_exact best bound e k =
      let long : AllLong [] (exact_vectors ys) = all_long ys (some_alike xs ys p is_wide_node ∙ none_wide xs k.long) in
      record {
        all_lost_is = k.all_lost_is ∙ sym (each_alike xs ys p is_lost);
        is_open_is = k.is_open_is ∙ sym (open_alike xs ys p);
        has_exact_is = k.has_exact_is ∙ sym (some_alike xs ys p is_exact);
        long = long;
        best_is = k.best_is ∙ best_none (exact_vectors xs) k.long ∙ sym (best_none (exact_vectors ys) long);
        bound_is = k.bound_is;
      }
  keeps_alike (c ∷ d) all_lost is_open has_exact best bound e k = cc

  total_alike : (s : Source) → total_of s (exact_vectors ys) ≡ total_of s (exact_vectors xs)
  total_alike (Variable x) = refl
  total_alike (Folded f k) = vectors_fold xs ys p f k
  total_alike Missing = refl

  totals_alike : (cs : List Column) → TotalsAre (exact_vectors xs) cs → TotalsAre (exact_vectors ys) cs
  totals_alike [] t = tt
  totals_alike (c ∷ cs) t = (t.0 ∙ sym (total_alike c.source), totals_alike cs t.1)

  known_by_alike : (s : Source) → known_by s (known_numbers ys) ≡ known_by s (known_numbers xs)
  known_by_alike (Variable x) = refl
  known_by_alike (Folded f k) = known_fold xs ys p f
  known_by_alike Missing = refl

  known_alike : (cs : List Column) → known_of cs (known_numbers ys) ≡ known_of cs (known_numbers xs)
  known_alike [] = refl
  known_alike (c ∷ cs) = known_by_alike c.source

  gathers_alike : (cs : List Column) (any_lost all_exact all_known has_exact any_known : Bool) (known : ℤ) → Gathers cs any_lost all_exact all_known has_exact any_known known xs → Gathers cs any_lost all_exact all_known has_exact any_known known ys
  gathers_alike cs any_lost all_exact all_known has_exact any_known known k = record {
    any_lost_is = k.any_lost_is ∙ sym (some_alike xs ys p is_lost);
    all_exact_is = k.all_exact_is ∙ sym (each_alike xs ys p is_exact);
    all_known_is = k.all_known_is ∙ sym (each_alike xs ys p is_known);
    has_exact_is = k.has_exact_is ∙ sym (any_exact_alike xs ys p);
    any_known_is = k.any_known_is ∙ sym (any_known_alike xs ys p);
    totals = totals_alike cs k.totals;
    known_is = k.known_is ∙ sym (known_alike cs);
  }

inside : (js : List ScopeJoin) (i : ℕ) (j : ScopeJoin) → slice_get js i ≡ Some j → i < length js
inside [] i j e = cc
inside (x ∷ js) zero j e = omega arith
inside (x ∷ js) (suc i) j e = let h = inside js i j e in omega (arith, h)

pub stands_alike : (joins : Joins) (i : ℕ) (xs ys : List Seen) → wishes_at joins.problem.now i ≡ [] → IsPermutation xs ys → StandsIn (slice_get joins.joins.items i) xs → StandsIn (slice_get joins.joins.items i) ys
stands_alike joins i xs ys e p t = by (slice_get joins.joins.items i) refl t
  where
    by : (o : Option ScopeJoin) → slice_get joins.joins.items i ≡ o → StandsIn o xs → StandsIn o ys
    by None r t = absurd t
    by (Some (Exists j)) r t =
        let g = joins.problem.now in
        let here : i < length joins.joins.items = inside joins.joins.items i (Exists j) r in
        let s = some_scope g.scopes i (omega (arith, here, joins.joined.count)) in
        let m = joins.joined.each i s.0 (Exists j) s.1 r in
        let list : j.list.items ≡ [] = m.after ∙ (ap (λ (k : Kind). kind_wishes k s.0.condition g (demands g i)) (sym m.kind) ∙ (wishes_is g i s.0 s.1 ∙ e)) in
        keeps_alike xs ys p j.list.items j.all_lost j.is_open j.has_exact j.best.list.items j.bound list t
    by (Some (Forall j)) r t = gathers_alike xs ys p j.columns.items j.any_lost j.all_exact j.all_known j.has_exact j.any_known j.known t
