-- The verdict of a universal position means what it says, where those of its leaves do.
use Rattle.std.proofs.Common.{◌≡◌, ◌⊎◌, inl, inr, ℕ, Bool, true, false, ◌||◌, List, [], ◌∷◌, ◌++◌, map, refl, sym, ap, ◌∙◌, subst, ℤ, pos, Option, Some, None, cond}
use Rattle.std.specs.Prelude.{slice_get}
use Rattle.qc_model.specs.declared.problem.AggId.{AggId}
use Rattle.qc_model.specs.declared.problem.Kind.TheVariants.{Forall}
use Rattle.qc_model.specs.declared.problem.Sense.{Sense}
use Rattle.qc_model.specs.declared.problem.Sense.TheVariants.{Min, Max}
use Rattle.qc_model.specs.declared.problem.Fold.{Fold}
use Rattle.qc_model.specs.declared.problem.Fold.TheVariants.{Sum, Least, Greatest}
use Rattle.qc_model.specs.declared.problem.Target.{Target}
use Rattle.qc_model.specs.declared.problem.Target.TheVariants.{Var, Aggregate as Agg}
use Rattle.qc_model.specs.declared.problem.Aggregate.{Aggregate}
use Rattle.qc_model.specs.declared.problem.Condition.{Condition}
use Rattle.qc_model.specs.Content.{Game}
use Rattle.qc_model.specs.Lists.{Among}
use Rattle.qc_model.specs.Game.{IsMove, moves}
use Rattle.qc_model.specs.Plan.{Plan, finish, choose, answer, Turn, Covers}
use Rattle.qc_model.specs.Value.{value}
use Rattle.qc_model.specs.Demands.{vector, IsBestVector, demands_through}
use Rattle.qc_model.specs.Verdict.{Verdict, lost, exact, at_most, unknown, is_lost, is_exact, some_node, each_node, exact_vectors, first_value}
use Rattle.qc_model.specs.Bottlenecks.{bottleneck_last}
use Rattle.qc_model.specs.ForallVerdict.{entry_value, entry_values, numbers_for, known_numbers, is_known, one_sided, first_entry_bound, bounded_forall, forall_verdict}
use Rattle.qc_model.specs.ForallVerdict.{fold_bound as bound_by_fold}
use Rattle.qc_model.proofs.Moves.{moves_from}
use Rattle.model_laws.specs.Positions.{AtMost}
use Rattle.model_laws.specs.Branches.{IsAggregate, fold_of_aggregate, fold_named, AllKnown}
use Rattle.model_laws.specs.Distinct.{Distinct, IsReordering}
use Rattle.model_laws.specs.Verdicts.{Means, Claim, barred, skipped, marked, reaches, seen_in, none_skipped, tuples_of, EachClaim, IsComplete}
use Rattle.model_laws.proofs.Better.{IsBetter, better_false, and_first, and_second, unbeaten}
use Rattle.model_laws.proofs.Folds.{not_better_self}
use Rattle.model_laws.proofs.Listed.{better_or_not}
use Rattle.model_laws.proofs.Existence.{neither_better}
use Rattle.model_laws.proofs.Bounds.{branch_at, greatest_bound, least_bound}
use Rattle.model_laws.proofs.Leaves.{best_of_leaves, bound_of_leaves}

-- a best vector bounds the first value
pub best_at_most : (g : Game) (e : List Condition) (u : List ℤ) (P : Plan → Type 0) (w : List ℤ) → IsBestVector g e u P w → AtMost g e u P (first_value w)
best_at_most g [] u P w b = tt
best_at_most g (c ∷ e) u P [] b = λ s o. (let q : value g b.some.0 c.target u ∷ vector g e u b.some.0 ≡ [] = b.some.2 in cc)
best_at_most g (c ∷ e) u P (x ∷ w) b = λ s o. better_false c.sense (value g s c.target u) x (λ k. unbeaten g (c ∷ e) u P (x ∷ w) b s o (inl k))

abbrev vector_of : Verdict → List ℤ
vector_of lost = []
vector_of (exact w) = w
vector_of (at_most p) = []
vector_of unknown = []

abbrev number_of : Verdict → ℤ
number_of lost = pos 0
number_of (exact w) = first_value w
number_of (at_most p) = p
number_of unknown = pos 0

means_exact : (g : Game) (e : List Condition) (u : List ℤ) (P : Plan → Type 0) (v : Verdict) → is_exact v ≡ true → Means g e u P v → IsBestVector g e u P (vector_of v)
means_exact g e u P lost q h = cc
means_exact g e u P (exact w) q h = h
means_exact g e u P (at_most p) q h = cc
means_exact g e u P unknown q h = cc

means_known : (g : Game) (e : List Condition) (u : List ℤ) (P : Plan → Type 0) (v : Verdict) → is_known v ≡ true → Means g e u P v → AtMost g e u P (number_of v)
means_known g e u P lost q h = cc
means_known g e u P (exact w) q h = best_at_most g e u P w h
means_known g e u P (at_most p) q h = h
means_known g e u P unknown q h = cc

pub means_lost : (g : Game) (e : List Condition) (u : List ℤ) (P : Plan → Type 0) (v : Verdict) → is_lost v ≡ true → Means g e u P v → (s : Plan) → ¬ P s
means_lost g e u P lost q h = h
means_lost g e u P (exact w) q h = cc
means_lost g e u P (at_most p) q h = cc
means_lost g e u P unknown q h = cc

pub means_cond : (g : Game) (d : List Condition) (u : List ℤ) (P : Plan → Type 0) (v w : Verdict) (b : Bool) → (b ≡ true → Means g d u P v) → (b ≡ false → Means g d u P w) → Means g d u P (cond b v w)
means_cond g d u P v w true f h = f refl
means_cond g d u P v w false f h = h refl

-- equal lists of numbers, or not
same_or_not : (xs ys : List ℤ) → (xs ≡ ys) ⊎ (¬ (xs ≡ ys))
same_or_not [] [] = inl refl
same_or_not [] (y ∷ ys) = inr (λ e. cc)
same_or_not (x ∷ xs) [] = inr (λ e. cc)
same_or_not (x ∷ xs) (y ∷ ys) = step (better_or_not Min x y) (better_or_not Min y x) (same_or_not xs ys)
  where
    differ : (x y : ℤ) → IsBetter Min x y → ¬ (x ≡ y)
    differ x y b e = not_better_self Min y (subst (λ z. IsBetter Min z y) e b)

    step : IsBetter Min x y ⊎ (¬ IsBetter Min x y) → IsBetter Min y x ⊎ (¬ IsBetter Min y x) → (xs ≡ ys) ⊎ (¬ (xs ≡ ys)) → (x ∷ xs ≡ y ∷ ys) ⊎ (¬ (x ∷ xs ≡ y ∷ ys))
    step (inl b) k h = inr (λ e. differ x y b (let q : x ≡ y = cc in q))
    step (inr n) (inl b) h = inr (λ e. differ y x b (let q : y ≡ x = cc in q))
    step (inr n) (inr m) (inl q) = let r : x ≡ y = neither_better Min x y n m in inl cc
    step (inr n) (inr m) (inr q) = inr (λ e. q (let r : xs ≡ ys = cc in r))

-- the verdict of the first leaf at a tuple
abbrev pick_here : {A : Type 0} → A ⊎ (¬ A) → Verdict → Verdict → Verdict
pick_here (inl x) v w = v
pick_here (inr n) v w = w

abbrev verdict_at : List ℤ → List Claim → Verdict
verdict_at t [] = unknown
verdict_at t (barred ∷ ls) = verdict_at t ls
verdict_at t (skipped ∷ ls) = verdict_at t ls
verdict_at t (marked m ∷ ls) = verdict_at t ls
verdict_at t (reaches u v ∷ ls) = pick_here (same_or_not t u) v (verdict_at t ls)

pick_same : {A : Type 0} (d : A ⊎ (¬ A)) (v w : Verdict) → A → pick_here d v w ≡ v
pick_same (inl x) v w y = refl
pick_same (inr n) v w y = absurd (n y)

pick_other : {A : Type 0} (d : A ⊎ (¬ A)) (v w : Verdict) → ¬ A → pick_here d v w ≡ w
pick_other (inl x) v w n = absurd (n x)
pick_other (inr m) v w n = refl

map_same_on : {X : Type 0} (f h : List ℤ → X) (ts : List (List ℤ)) → ((t : List ℤ) → Among t ts → f t ≡ h t) → map f ts ≡ map h ts
map_same_on f h [] k = refl
map_same_on f h (t ∷ ts) k = ap (λ z. z ∷ map f ts) (k t (inl refl)) ∙ ap (λ zs. h t ∷ zs) (map_same_on f h ts (λ u m. k u (inr m)))

-- what is read off each verdict, by the tuples
by_tuples : {X : Type 0} (f : Verdict → X) (u : List ℤ) (v : Verdict) (ls : List Claim) → Distinct (tuples_of (reaches u v ∷ ls)) →
    f v ∷ map (λ t. f (verdict_at t ls)) (tuples_of ls) ≡ map (λ t. f (verdict_at t (reaches u v ∷ ls))) (tuples_of (reaches u v ∷ ls))
by_tuples f u v ls d =
    ap (λ z. f z ∷ map (λ t. f (verdict_at t ls)) (tuples_of ls)) (sym (pick_same (same_or_not u u) v (verdict_at u ls) refl))
    ∙ ap (λ zs. f (verdict_at u (reaches u v ∷ ls)) ∷ zs)
    (map_same_on (λ t. f (verdict_at t ls)) (λ t. f (verdict_at t (reaches u v ∷ ls))) (tuples_of ls)
    (λ t m. ap f (sym (pick_other (same_or_not t u) v (verdict_at t ls) (λ q. d.0 (subst (λ z. Among z (tuples_of ls)) q m))))))

-- where all are known, the numbers are one for each tuple
numbers_by_tuples : (ls : List Claim) → Distinct (tuples_of ls) → each_node is_known (map seen_in ls) ≡ true → known_numbers (map seen_in ls) ≡ map (λ t. number_of (verdict_at t ls)) (tuples_of ls)
numbers_by_tuples [] d e = refl
numbers_by_tuples (barred ∷ ls) d e = numbers_by_tuples ls d e
numbers_by_tuples (skipped ∷ ls) d e = cc
numbers_by_tuples (marked m ∷ ls) d e = numbers_by_tuples ls d e
numbers_by_tuples (reaches u lost ∷ ls) d e = cc
numbers_by_tuples (reaches u (exact w) ∷ ls) d e = ap (λ zs. first_value w ∷ zs) (numbers_by_tuples ls d.1 e) ∙ by_tuples number_of u (exact w) ls d
numbers_by_tuples (reaches u (at_most p) ∷ ls) d e = ap (λ zs. p ∷ zs) (numbers_by_tuples ls d.1 e) ∙ by_tuples number_of u (at_most p) ls d
numbers_by_tuples (reaches u unknown ∷ ls) d e = cc

-- where all are exact, the vectors are
vectors_by_tuples : (ls : List Claim) → Distinct (tuples_of ls) → each_node is_exact (map seen_in ls) ≡ true → exact_vectors (map seen_in ls) ≡ map (λ t. vector_of (verdict_at t ls)) (tuples_of ls)
vectors_by_tuples [] d e = refl
vectors_by_tuples (barred ∷ ls) d e = vectors_by_tuples ls d e
vectors_by_tuples (skipped ∷ ls) d e = cc
vectors_by_tuples (marked m ∷ ls) d e = vectors_by_tuples ls d e
vectors_by_tuples (reaches u lost ∷ ls) d e = cc
vectors_by_tuples (reaches u (exact w) ∷ ls) d e = ap (λ zs. w ∷ zs) (vectors_by_tuples ls d.1 e) ∙ by_tuples vector_of u (exact w) ls d
vectors_by_tuples (reaches u (at_most p) ∷ ls) d e = cc
vectors_by_tuples (reaches u unknown ∷ ls) d e = cc

-- what holds of each leaf's verdict holds at each tuple
at_each : (p : Verdict → Bool) (ls : List Claim) → each_node p (map seen_in ls) ≡ true → (t : List ℤ) → Among t (tuples_of ls) → p (verdict_at t ls) ≡ true
at_each p [] e t m = absurd m
at_each p (barred ∷ ls) e t m = at_each p ls e t m
at_each p (skipped ∷ ls) e t m = cc
at_each p (marked n ∷ ls) e t m = at_each p ls e t m
at_each p (reaches u v ∷ ls) e t m = step (same_or_not t u) (λ k. at_each p ls (and_second (p v) (each_node p (map seen_in ls)) e) t k) m
  where
    step : (d : (t ≡ u) ⊎ (¬ (t ≡ u))) → (Among t (tuples_of ls) → p (verdict_at t ls) ≡ true) → (t ≡ u) ⊎ Among t (tuples_of ls) → p (pick_here d v (verdict_at t ls)) ≡ true
    step (inl q) f m = and_first (p v) (each_node p (map seen_in ls)) e
    step (inr n) f m = elim m [ inl q ↦ absurd (n q) | inr k ↦ f k ]

pub each_unskipped : (p : Verdict → Bool) (ls : List Claim) → each_node p (map seen_in ls) ≡ true → none_skipped ls ≡ true
each_unskipped p [] q = refl
each_unskipped p (barred ∷ ls) q = each_unskipped p ls q
each_unskipped p (skipped ∷ ls) q = cc
each_unskipped p (marked m ∷ ls) q = each_unskipped p ls q
each_unskipped p (reaches t v ∷ ls) q = each_unskipped p ls (and_second (p v) (each_node p (map seen_in ls)) q)

module _ (g : Game) (i : ℕ) (a : List ℤ) (O : List ℤ → Plan → Type 0) (C : List ℤ → Plan → Type 0) where
  abbrev Here : Plan → Type 0
  Here s = Turn Forall s C (Covers g i a O)

  lost_at : (e : List Condition) (t : List ℤ) (v : Verdict) → IsMove g i a t → is_lost v ≡ true → Means g e (a ++ t) (O (a ++ t)) v → (s : Plan) → ¬ Here s
  lost_at e t v m q h finish o = o
  lost_at e t v m q h (choose u s) o = o
  lost_at e t v m q h (answer l) o =
      let r = branch_at g (Var (record { 0 = 0 })) a (λ t s. O (a ++ t) s) l t o.each (subst (Among t) (sym o.tuples) (moves_from g i a t m)) in
      means_lost g e (a ++ t) (O (a ++ t)) v q h r.0 r.1

  -- each leaf means what it says
  at_means : (e : List Condition) (ls : List Claim) → EachClaim g e i a O ls → (t : List ℤ) → Among t (tuples_of ls) → Means g e (a ++ t) (O (a ++ t)) (verdict_at t ls)
  at_means e [] h t m = absurd m
  at_means e (barred ∷ ls) h t m = at_means e ls h.1 t m
  at_means e (skipped ∷ ls) h t m = at_means e ls h.1 t m
  at_means e (marked n ∷ ls) h t m = at_means e ls h.1 t m
  at_means e (reaches u v ∷ ls) h t m = step (same_or_not t u) (λ n. at_means e ls h.1 t n) m
    where
      step : (d : (t ≡ u) ⊎ (¬ (t ≡ u))) → (Among t (tuples_of ls) → Means g e (a ++ t) (O (a ++ t)) (verdict_at t ls)) → Among t (u ∷ tuples_of ls) → Means g e (a ++ t) (O (a ++ t)) (pick_here d v (verdict_at t ls))
      step (inl q) f m = subst (λ z. Means g e (a ++ z) (O (a ++ z)) v) (sym q) h.0.1
      step (inr n) f m = elim m [ inl q ↦ absurd (n q) | inr k ↦ f k ]

  -- a lost leaf
  lost_leaf : (e : List Condition) (ls : List Claim) → EachClaim g e i a O ls → some_node is_lost (map seen_in ls) ≡ true → (s : Plan) → ¬ Here s
  lost_leaf e [] h q s o = cc
  lost_leaf e (barred ∷ ls) h q s o = lost_leaf e ls h.1 q s o
  lost_leaf e (skipped ∷ ls) h q s o = lost_leaf e ls h.1 q s o
  lost_leaf e (marked m ∷ ls) h q s o = lost_leaf e ls h.1 q s o
  lost_leaf e (reaches t v ∷ ls) h q s o = step (is_lost v) refl q (λ k. lost_leaf e ls h.1 k s o)
    where
      step : (b : Bool) → is_lost v ≡ b → (b || some_node is_lost (map seen_in ls)) ≡ true → (some_node is_lost (map seen_in ls) ≡ true → ⊥) → ⊥
      step true w k f = lost_at e t v h.0.0 w h.0.1 s o
      step false w k f = f k

  -- each known number is one after an allowed tuple
  known_leaves : (e : List Condition) (ls : List Claim) → EachClaim g e i a O ls → AllKnown g e i a O (known_numbers (map seen_in ls))
  known_leaves e [] h = tt
  known_leaves e (barred ∷ ls) h = known_leaves e ls h.1
  known_leaves e (skipped ∷ ls) h = known_leaves e ls h.1
  known_leaves e (marked m ∷ ls) h = known_leaves e ls h.1
  known_leaves e (reaches t lost ∷ ls) h = known_leaves e ls h.1
  known_leaves e (reaches t (exact w) ∷ ls) h = (record { tuple = t; is_move = h.0.0; bound = best_at_most g e (a ++ t) (O (a ++ t)) w h.0.1 }, known_leaves e ls h.1)
  known_leaves e (reaches t (at_most p) ∷ ls) h = (record { tuple = t; is_move = h.0.0; bound = h.0.1 }, known_leaves e ls h.1)
  known_leaves e (reaches t unknown ∷ ls) h = known_leaves e ls h.1

  exact_leaves : (d : List Condition) (ls : List Claim) → bottleneck_last g d ≡ true → EachClaim g (demands_through g d) i a O ls → each_node is_exact (map seen_in ls) ≡ true →
      IsReordering (moves g i a) (tuples_of ls) → IsBestVector g d a Here (entry_values g d a (numbers_for d (exact_vectors (map seen_in ls))))
  exact_leaves d ls h k q r =
      subst (λ ws. IsBestVector g d a Here (entry_values g d a (numbers_for d ws))) (sym (vectors_by_tuples ls r.second q))
      (best_of_leaves g i a O C d (λ t. vector_of (verdict_at t ls)) (tuples_of ls) h r
      (λ t m. (let n = r.there t (moves_from g i a t m) in
      means_exact g (demands_through g d) (a ++ t) (O (a ++ t)) (verdict_at t ls) (at_each is_exact ls q t n) (at_means (demands_through g d) ls k t n))))

  fold_leaves : (s : Sense) (x : Target) (d : List Condition) (ls : List Claim) → IsAggregate x → EachClaim g (demands_through g (record { sense = s; target = x } ∷ d)) i a O ls →
      each_node is_known (map seen_in ls) ≡ true → IsReordering (moves g i a) (tuples_of ls) → AtMost g (record { sense = s; target = x } ∷ d) a Here (entry_value g a (λ q. known_numbers (map seen_in ls)) x)
  fold_leaves s x d ls h k q r =
      let c : Condition = record { sense = s; target = x } in
      subst (λ ns. AtMost g (c ∷ d) a Here (entry_value g a (λ q. ns) x)) (sym (numbers_by_tuples ls r.second q))
      (bound_of_leaves g i a O C s x d (λ t. number_of (verdict_at t ls)) (tuples_of ls) h r
      (λ t m. (let n = r.there t (moves_from g i a t m) in
      means_known g (demands_through g (c ∷ d)) (a ++ t) (O (a ++ t)) (verdict_at t ls) (at_each is_known ls q t n) (at_means (demands_through g (c ∷ d)) ls k t n))))

  one_sided_means : (s : Sense) (r : AggId) (d : List Condition) (b : Option Aggregate) (ns : List ℤ) → fold_named g (Agg r) ≡ fold_of_aggregate b →
      AllKnown g (demands_through g (record { sense = s; target = Agg r } ∷ d)) i a O ns → Means g (record { sense = s; target = Agg r } ∷ d) a Here (one_sided s b ns)
  one_sided_means s r d None ns q k = tt
  one_sided_means s r d (Some b) [] q k = tt
  one_sided_means s r d (Some b) (n ∷ ns) q k = by_fold s b.fold q k
    where
      by_fold : (s : Sense) (f : Fold) → fold_named g (Agg r) ≡ Some f → AllKnown g (demands_through g (record { sense = s; target = Agg r } ∷ d)) i a O (n ∷ ns) →
          Means g (record { sense = s; target = Agg r } ∷ d) a Here (bound_by_fold s f n ns)
      by_fold Min (Greatest z) q k = greatest_bound g i a O C (Agg r) d z n ns q k
      by_fold Max (Least z) q k = least_bound g i a O C (Agg r) d z n ns q k
      by_fold Min Sum q k = tt
      by_fold Min (Least z) q k = tt
      by_fold Max Sum q k = tt
      by_fold Max (Greatest z) q k = tt

  first_entry_means : (s : Sense) (t : Target) (d : List Condition) (ls : List Claim) → EachClaim g (demands_through g (record { sense = s; target = t } ∷ d)) i a O ls → IsComplete g i a ls →
      Means g (record { sense = s; target = t } ∷ d) a Here (first_entry_bound g s t (map seen_in ls))
  first_entry_means s (Var x) d ls k c = tt
  first_entry_means s (Agg r) d ls k c =
      let e : Condition = record { sense = s; target = Agg r } in
      means_cond g (e ∷ d) a Here _ _ (each_node is_known (map seen_in ls))
      (λ q. fold_leaves s (Agg r) d ls tt k q (c (each_unskipped is_known ls q)))
      (λ _. one_sided_means s r d (slice_get g.aggregates r.0) (known_numbers (map seen_in ls)) refl (known_leaves (demands_through g (e ∷ d)) ls k))

  bounded_means : (d : List Condition) (ls : List Claim) → EachClaim g (demands_through g d) i a O ls → IsComplete g i a ls → Means g d a Here (bounded_forall g d (map seen_in ls))
  bounded_means [] ls k c = tt
  bounded_means (e ∷ d) ls k c = first_entry_means e.sense e.target d ls k c

  pub leaves_mean : (d : List Condition) (ls : List Claim) → bottleneck_last g d ≡ true → EachClaim g (demands_through g d) i a O ls → IsComplete g i a ls → Means g d a Here (forall_verdict g d a (map seen_in ls))
  leaves_mean d ls h k c =
      means_cond g d a Here _ _ (some_node is_lost (map seen_in ls))
      (λ q. lost_leaf (demands_through g d) ls k q)
      (λ _. means_cond g d a Here _ _ (each_node is_exact (map seen_in ls))
      (λ q. exact_leaves d ls h k q (c (each_unskipped is_exact ls q)))
      (λ _. bounded_means d ls k c))
