-- Vectors have a value for each entry of their list.
use Rattle.std.proofs.Common.{◌≡◌, ℕ, suc, ◌+◌, ◌<◌, Bool, true, false, not, ◌&&◌, cond, Option, Some, None, List, [], ◌∷◌, ◌++◌, length, drop, map, refl, ap, ◌∙◌, subst, arith}
use Rattle.std.specs.Prelude.{slice_get, ℤ}
use Rattle.std.specs.List.{list_all}
use Rattle.std.proofs.lemmas.List.{length-map}
use Rattle.qc_model.specs.declared.problem.Sense.{Sense}
use Rattle.qc_model.specs.declared.problem.Sense.TheVariants.{Min, Max}
use Rattle.qc_model.specs.declared.problem.Fold.{Fold}
use Rattle.qc_model.specs.declared.problem.Fold.TheVariants.{Sum, Least, Greatest}
use Rattle.qc_model.specs.declared.problem.Kind.{Kind}
use Rattle.qc_model.specs.declared.problem.Kind.TheVariants.{Exists, Forall}
use Rattle.qc_model.specs.declared.problem.Target.{Target}
use Rattle.qc_model.specs.declared.problem.Target.TheVariants.{Var, Aggregate as Agg}
use Rattle.qc_model.specs.declared.problem.Aggregate.{Aggregate}
use Rattle.qc_model.specs.declared.problem.Condition.{Condition}
use Rattle.qc_model.specs.declared.problem.Scope.{Scope}
use Rattle.qc_model.specs.Content.{Game}
use Rattle.qc_model.specs.Demands.{demands, demands_after, with_condition, is_better_vector}
use Rattle.qc_model.specs.Value.{aggregate_fold}
use Rattle.qc_model.specs.Verdict.{Verdict, lost, exact, at_most, unknown, Seen, seen_barred, seen_skipped, seen_bound, seen_node, is_lost, is_exact, some_node, each_node, exact_vectors, bounds, is_none_of, first_value}
use Rattle.qc_model.specs.ExistsVerdict.{best_from, best_vector, best_number, beats, some_open, exists_verdict}
use Rattle.qc_model.specs.ForallVerdict.{entry_value, entry_values, numbers_for, known_numbers, is_known, fold_bound, one_sided, first_entry_bound, bounded_forall, forall_verdict, stuck_verdict, goal_verdict}
use Rattle.joins.proofs.DemandSteps.{demands_step}
use Rattle.joins.specs.ScopeJoins.{HasEach}
use Rattle.joins.specs.Verdicts.{kind_verdict, verdict_at, stuck_of}
use Rattle.joins.specs.Sizes.{EachHas, AreLong}
use Rattle.joins.proofs.AtScope.{some_scope, verdict_is}

pub long_join : (d : List Condition) (xs ys : List Seen) → EachHas d xs → EachHas d ys → EachHas d (xs ++ ys)
long_join d [] ys h k = k
long_join d (seen_barred ∷ xs) ys h k = long_join d xs ys h k
long_join d (seen_skipped ∷ xs) ys h k = long_join d xs ys h k
long_join d (seen_bound m ∷ xs) ys h k = long_join d xs ys h k
long_join d (seen_node v ∷ xs) ys h k = (h.0, long_join d xs ys h.1 k)

-- ---- the verdicts of an existential scope, by cases
pub plain_cases : (P : Verdict → Type 0) (e l : Bool) → P lost → P unknown → P (exact []) → P (cond e (exact []) (cond l lost unknown))
plain_cases P true l p u x = x
plain_cases P false true p u x = p
plain_cases P false false p u x = u

pub bounded_cases : (P : Verdict → Type 0) (a o e b f : Bool) (w : List ℤ) (n : ℤ) → P lost → P unknown → (e ≡ false → P (exact w)) → P (at_most n) →
    P (cond a lost (cond o unknown (cond (not e && b) (exact w) (cond f (at_most n) unknown))))
bounded_cases P true o e b f w n l u x m = l
bounded_cases P false true e b f w n l u x m = u
bounded_cases P false false false true f w n l u x m = x refl
bounded_cases P false false false false true w n l u x m = m
bounded_cases P false false false false false w n l u x m = u
bounded_cases P false false true b true w n l u x m = m
bounded_cases P false false true b false w n l u x m = u

-- ---- the best vector
choice_long : (d : List Condition) (b : Bool) (u w : List ℤ) → length u ≡ length d → length w ≡ length d → length (cond b w u) ≡ length d
choice_long d true u w l k = k
choice_long d false u w l k = l

best_from_long : (d : List Condition) (v : List ℤ) (xs : List Seen) → length v ≡ length d → EachHas d xs → length (best_from d v (exact_vectors xs)) ≡ length d
best_from_long d v [] l h = l
best_from_long d v (seen_barred ∷ xs) l h = best_from_long d v xs l h
best_from_long d v (seen_skipped ∷ xs) l h = best_from_long d v xs l h
best_from_long d v (seen_bound m ∷ xs) l h = best_from_long d v xs l h
best_from_long d v (seen_node lost ∷ xs) l h = best_from_long d v xs l h.1
best_from_long d v (seen_node (exact w) ∷ xs) l h = best_from_long d (cond (is_better_vector d w v) w v) xs (choice_long d (is_better_vector d w v) v w l h.0) h.1
best_from_long d v (seen_node (at_most p) ∷ xs) l h = best_from_long d v xs l h.1
best_from_long d v (seen_node unknown ∷ xs) l h = best_from_long d v xs l h.1

best_long : (d : List Condition) (xs : List Seen) → EachHas d xs → is_none_of (exact_vectors xs) ≡ false → length (best_vector d (exact_vectors xs)) ≡ length d
best_long d [] h e = cc
best_long d (seen_barred ∷ xs) h e = best_long d xs h e
best_long d (seen_skipped ∷ xs) h e = best_long d xs h e
best_long d (seen_bound m ∷ xs) h e = best_long d xs h e
best_long d (seen_node lost ∷ xs) h e = best_long d xs h.1 e
best_long d (seen_node (exact w) ∷ xs) h e = best_from_long d w xs h.0 h.1
best_long d (seen_node (at_most p) ∷ xs) h e = best_long d xs h.1 e
best_long d (seen_node unknown ∷ xs) h e = best_long d xs h.1 e

tail_long : (c : Condition) (d : List Condition) (w : List ℤ) → length w ≡ length (c ∷ d) → length (drop 1 w) ≡ length d
tail_long c d [] l = absurd (omega (arith, l))
tail_long c d (x ∷ w) l = omega (arith, l)

exists_long : (own : Option Condition) (d : List Condition) (xs : List Seen) → EachHas (with_condition own d) xs → HasEach d (exists_verdict own (with_condition own d) xs)
exists_long None [] xs h = plain_cases (HasEach []) (some_node is_exact xs) (each_node is_lost xs) tt tt refl
exists_long None (c ∷ d) xs h =
    let vs = exact_vectors xs in
    let w = best_vector (c ∷ d) vs in
    bounded_cases (HasEach (c ∷ d)) (each_node is_lost xs && is_none_of (bounds xs)) (some_open xs) (is_none_of vs) (list_all (beats c.sense (is_none_of d) (first_value w)) (bounds xs)) true w
    (best_number c.sense (map first_value vs ++ bounds xs)) tt tt (best_long (c ∷ d) xs h) tt
exists_long (Some c) d xs h =
    let vs = exact_vectors xs in
    let w = best_vector (c ∷ d) vs in
    bounded_cases (HasEach d) (each_node is_lost xs && is_none_of (bounds xs)) (some_open xs) (is_none_of vs) (list_all (beats c.sense (is_none_of d) (first_value w)) (bounds xs)) false (drop 1 w)
    (best_number c.sense (map first_value vs ++ bounds xs)) tt tt (λ e. tail_long c d w (best_long (c ∷ d) xs h e)) tt

-- ---- the verdicts of a universal scope, by cases
pub forall_cases : (P : Verdict → Type 0) (l e : Bool) (w : List ℤ) (v : Verdict) → P lost → P (exact w) → P v → P (cond l lost (cond e (exact w) v))
forall_cases P true e w v p x u = p
forall_cases P false true w v p x u = x
forall_cases P false false w v p x u = u

side_cases : (P : Verdict → Type 0) (s : Sense) (f : Fold) (n : ℤ) (ns : List ℤ) → P unknown → ((m : ℤ) → P (at_most m)) → P (fold_bound s f n ns)
side_cases P Min Sum n ns u m = u
side_cases P Min (Least e) n ns u m = u
side_cases P Min (Greatest e) n ns u m = m _
side_cases P Max Sum n ns u m = u
side_cases P Max (Least e) n ns u m = m _
side_cases P Max (Greatest e) n ns u m = u

one_sided_long : (d : List Condition) (s : Sense) (o : Option Aggregate) (ns : List ℤ) → HasEach d (one_sided s o ns)
one_sided_long d s None ns = tt
one_sided_long d s (Some q) [] = tt
one_sided_long d s (Some q) (n ∷ ns) = side_cases (HasEach d) s q.fold n ns tt (λ m. tt)

either_long : (d : List Condition) (b : Bool) (n : ℤ) (v : Verdict) → HasEach d v → HasEach d (cond b (at_most n) v)
either_long d true n v h = tt
either_long d false n v h = h

first_long : (g : Game) (d : List Condition) (s : Sense) (x : Target) (xs : List Seen) → HasEach d (first_entry_bound g s x xs)
first_long g d s (Var x) xs = tt
first_long g d s (Agg q) xs =
    let o = slice_get g.aggregates q.0 in
    either_long d (each_node is_known xs) (aggregate_fold o (known_numbers xs)) (one_sided s o (known_numbers xs)) (one_sided_long d s o (known_numbers xs))

bounded_long : (g : Game) (d l : List Condition) (xs : List Seen) → HasEach d (bounded_forall g l xs)
bounded_long g d [] xs = tt
bounded_long g d (c ∷ l) xs = first_long g d c.sense c.target xs

values_long : (g : Game) (d : List Condition) (a : List ℤ) (ns : ℕ → List ℤ) → length (entry_values g d a ns) ≡ length d
values_long g d a ns = length-map d (λ c. entry_value g a ns c.target)

forall_long : (g : Game) (d : List Condition) (a : List ℤ) (xs : List Seen) → HasEach d (forall_verdict g d a xs)
forall_long g d a xs =
    forall_cases (HasEach d) (some_node is_lost xs) (each_node is_exact xs) (entry_values g d a (numbers_for d (exact_vectors xs))) (bounded_forall g d xs)
    tt (values_long g d a (numbers_for d (exact_vectors xs))) (bounded_long g d d xs)

-- ---- what a scope or the goal comes to
kind_long : (k : Kind) (own : Option Condition) (g : Game) (d : List Condition) (a : List ℤ) (xs : List Seen) → EachHas (demands_after g k own d) xs → HasEach d (kind_verdict k own g d a xs)
kind_long Exists own g d a xs h = exists_long own d xs h
kind_long Forall own g d a xs h = forall_long g d a xs

pub verdict_long : (g : Game) (i : ℕ) (a : List ℤ) (xs : List Seen) → i < length g.scopes → AreLong g i xs → HasEach (demands g i) (verdict_at g i a xs)
verdict_long g i a xs h l =
    let s = some_scope g.scopes i h in
    let next : suc i ≡ i + 1 = omega arith in
    let after : demands g (suc i) ≡ demands_after g s.0.kind s.0.condition (demands g i) = ap (demands g) next ∙ demands_step g i s.0 s.1 in
    let m : EachHas (demands_after g s.0.kind s.0.condition (demands g i)) xs = subst (λ (d : List Condition). EachHas d xs) after l in
    subst (HasEach (demands g i)) (verdict_is g i s.0 a xs s.1) (kind_long s.0.kind s.0.condition g (demands g i) a xs m)

stuck_kind : (g : Game) (k : Kind) (d : List Condition) (a : List ℤ) → HasEach d (stuck_verdict g k d a)
stuck_kind g Exists d a = tt
stuck_kind g Forall d a = values_long g d a (numbers_for d [])

pub stuck_long : (scopes : List Scope) (g : Game) (d : List Condition) (a : List ℤ) → HasEach d (stuck_of scopes g d a)
stuck_long [] g d a = tt
stuck_long (s ∷ scopes) g d a = stuck_kind g s.kind d a

pub goal_long : (g : Game) (holds : Bool) (d : List Condition) (a : List ℤ) → HasEach d (goal_verdict g holds d a)
goal_long g true d a = values_long g d a (numbers_for d [])
goal_long g false d a = tt
