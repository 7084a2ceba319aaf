-- Folds in any order of the branches.
use Rattle.std.proofs.Common.{◌≡◌, ◌⊎◌, inl, inr, ℕ, zero, suc, Bool, true, false, List, [], ◌∷◌, ◌++◌, map, filter, take, drop, refl, sym, ap, ◌∙◌, subst, ℤ, ◌≤ℤ◌, ◌+ℤ◌, arith, cond}
use Rattle.std.specs.List.{flat_map}
use Rattle.std.proofs.lemmas.Int.{ints}
use Rattle.qc_model.specs.declared.problem.Fold.{Fold}
use Rattle.qc_model.specs.declared.problem.Fold.TheVariants.{Sum, Least, Greatest}
use Rattle.qc_model.specs.Content.{Game}
use Rattle.qc_model.specs.Lists.{Among, tuples}
use Rattle.qc_model.specs.Domains.{declared_box}
use Rattle.qc_model.specs.Game.{before, scope_domains, allows, moves}
use Rattle.qc_model.specs.Value.{sum_of, fold_of, least_or, greatest_or}
use Rattle.qc_model.proofs.Moves.{among_either, among_map, of_map, of_flat_map, of_filter}
use Rattle.model_laws.specs.Distinct.{Distinct, EachDistinct, IsReordering}
use Rattle.model_laws.proofs.Folds.{greatest_is_one, least_is_one, greatest_bounds, least_bounds}

-- the list without one of its items
record Without {X : Type 0} (t : X) (us : List X) : Type 0 where
  rest : List X
  sums : (p : X → ℤ) → sum_of (map p us) ≡ p t +ℤ sum_of (map p rest)
  split : (u : X) → Among u us → (u ≡ t) ⊎ Among u rest
  within : (u : X) → Among u rest → Among u us
  distinct : Distinct us → Distinct rest × (¬ Among t rest)

swap_sum : (x y z : ℤ) → x +ℤ (y +ℤ z) ≡ y +ℤ (x +ℤ z)
swap_sum x y z = omega (arith, ints)

without : {X : Type 0} (t : X) (us : List X) → Among t us → Without t us
without t [] m = absurd m
without t (u ∷ us) m = elim m [ inl e ↦ here e | inr n ↦ there n (without t us n) ]
  where
    here : t ≡ u → Without t (u ∷ us)
    here e = record {
      rest = us;
      sums = λ p. ap (λ z. p z +ℤ sum_of (map p us)) (sym e);
      split = λ v k. elim k [ inl q ↦ inl (q ∙ sym e) | inr n ↦ inr n ];
      within = λ v k. inr k;
      distinct = λ h. (h.1, λ k. h.0 (subst (λ z. Among z us) e k));
    }

    there : Among t us → Without t us → Without t (u ∷ us)
    there n r = record {
      rest = u ∷ r.rest;
      sums = λ p. ap (λ z. p u +ℤ z) (r.sums p) ∙ swap_sum (p u) (p t) (sum_of (map p r.rest));
      split = λ v k. elim k [ inl q ↦ inr (inl q) | inr n ↦ elim (r.split v n) [ inl q ↦ inl q | inr w ↦ inr (inr w) ] ];
      within = λ v k. elim k [ inl q ↦ inl q | inr n ↦ inr (r.within v n) ];
      distinct = λ h. (let d = r.distinct h.1 in ((λ k. h.0 (r.within u k), d.0), λ k. elim k [ inl q ↦ h.0 (subst (λ z. Among z us) q n) | inr w ↦ d.1 w ]));
    }

sums_same : {X : Type 0} (p : X → ℤ) (ts us : List X) → Distinct ts → Distinct us → ((x : X) → Among x ts → Among x us) → ((x : X) → Among x us → Among x ts) → sum_of (map p ts) ≡ sum_of (map p us)
sums_same p [] [] d e f b = refl
sums_same p [] (u ∷ us) d e f b = absurd (b u (inl refl))
sums_same p (t ∷ ts) us d e f b =
    let r = without t us (f t (inl refl)) in
    let k = r.distinct e in
    ap (λ z. p t +ℤ z) (sums_same p ts r.rest d.1 k.0
    (λ x m. elim (r.split x (f x (inr m))) [ inl q ↦ absurd (d.0 (subst (λ z. Among z ts) q m)) | inr n ↦ n ])
    (λ x m. elim (b x (r.within x m)) [ inl q ↦ absurd (k.1 (subst (λ z. Among z r.rest) q m)) | inr n ↦ n ]))
    ∙ sym (r.sums p)

neither_less : (x y : ℤ) → x ≤ℤ y → y ≤ℤ x → x ≡ y
neither_less x y h k = omega (arith, ints)

-- with the same numbers, the least and the greatest are the same
least_same : (d : ℤ) (xs ys : List ℤ) (x y : ℤ) → ((z : ℤ) → Among z (x ∷ xs) → Among z (y ∷ ys)) → ((z : ℤ) → Among z (y ∷ ys) → Among z (x ∷ xs)) → least_or d (x ∷ xs) ≡ least_or d (y ∷ ys)
least_same d xs ys x y f b = neither_less (least_or d (x ∷ xs)) (least_or d (y ∷ ys))
    (least_bounds d (least_or d (y ∷ ys)) (x ∷ xs) (b (least_or d (y ∷ ys)) (least_is_one d y ys)))
    (least_bounds d (least_or d (x ∷ xs)) (y ∷ ys) (f (least_or d (x ∷ xs)) (least_is_one d x xs)))

greatest_same : (d : ℤ) (xs ys : List ℤ) (x y : ℤ) → ((z : ℤ) → Among z (x ∷ xs) → Among z (y ∷ ys)) → ((z : ℤ) → Among z (y ∷ ys) → Among z (x ∷ xs)) → greatest_or d (x ∷ xs) ≡ greatest_or d (y ∷ ys)
greatest_same d xs ys x y f b = neither_less (greatest_or d (x ∷ xs)) (greatest_or d (y ∷ ys))
    (greatest_bounds d (greatest_or d (x ∷ xs)) (y ∷ ys) (f (greatest_or d (x ∷ xs)) (greatest_is_one d x xs)))
    (greatest_bounds d (greatest_or d (y ∷ ys)) (x ∷ xs) (b (greatest_or d (y ∷ ys)) (greatest_is_one d y ys)))

map_within : {X : Type 0} (p : X → ℤ) (ts us : List X) → ((x : X) → Among x ts → Among x us) → (z : ℤ) → Among z (map p ts) → Among z (map p us)
map_within p ts us f z m = let r = of_map p z ts m in subst (λ y. Among y (map p us)) (sym r.2) (among_map p r.0 us (f r.0 r.1))

-- a fold is the same in any order of the branches
pub folds_same : {X : Type 0} (f : Fold) (p : X → ℤ) (ts us : List X) → IsReordering ts us → fold_of f (map p ts) ≡ fold_of f (map p us)
folds_same Sum p ts us h = sums_same p ts us h.first h.second h.there h.back
folds_same (Least d) p [] [] h = refl
folds_same (Least d) p [] (u ∷ us) h = absurd (h.back u (inl refl))
folds_same (Least d) p (t ∷ ts) [] h = absurd (h.there t (inl refl))
folds_same (Least d) p (t ∷ ts) (u ∷ us) h = least_same d (map p ts) (map p us) (p t) (p u) (map_within p (t ∷ ts) (u ∷ us) h.there) (map_within p (u ∷ us) (t ∷ ts) h.back)
folds_same (Greatest d) p [] [] h = refl
folds_same (Greatest d) p [] (u ∷ us) h = absurd (h.back u (inl refl))
folds_same (Greatest d) p (t ∷ ts) [] h = absurd (h.there t (inl refl))
folds_same (Greatest d) p (t ∷ ts) (u ∷ us) h = greatest_same d (map p ts) (map p us) (p t) (p u) (map_within p (t ∷ ts) (u ∷ us) h.there) (map_within p (u ∷ us) (t ∷ ts) h.back)

-- the allowed tuples are all different, where the domains have no repeats
pub distinct_append : {X : Type 0} (xs ys : List X) → Distinct xs → Distinct ys → ((x : X) → Among x xs → ¬ Among x ys) → Distinct (xs ++ ys)
distinct_append [] ys d e f = e
distinct_append (x ∷ xs) ys d e f = (λ m. elim (among_either x xs ys m) [ inl n ↦ d.0 n | inr n ↦ f x (inl refl) n ], distinct_append xs ys d.1 e (λ z m. f z (inr m)))

distinct_cons : (v : ℤ) (ts : List (List ℤ)) → Distinct ts → Distinct (map (λ t. v ∷ t) ts)
distinct_cons v [] d = tt
distinct_cons v (t ∷ ts) d = (λ m. (let r = of_map (λ t. v ∷ t) (v ∷ t) ts m in d.0 (subst (λ z. Among z ts) (sym (tail t r.0 r.2)) r.1)), distinct_cons v ts d.1)
  where
    tail : (t u : List ℤ) → v ∷ t ≡ v ∷ u → t ≡ u
    tail t u e = cc

distinct_tuples_by : (ts : List (List ℤ)) (d : List ℤ) → Distinct ts → Distinct d → Distinct (flat_map (λ v. map (λ t. v ∷ t) ts) d)
distinct_tuples_by ts [] k e = tt
distinct_tuples_by ts (v ∷ d) k e = distinct_append (map (λ t. v ∷ t) ts) (flat_map (λ v. map (λ t. v ∷ t) ts) d) (distinct_cons v ts k) (distinct_tuples_by ts d k e.1) apart
  where
    head : (x : List ℤ) (v w : ℤ) (t u : List ℤ) → x ≡ v ∷ t → x ≡ w ∷ u → w ≡ v
    head x v w t u p q = cc

    apart : (x : List ℤ) → Among x (map (λ t. v ∷ t) ts) → ¬ Among x (flat_map (λ v. map (λ t. v ∷ t) ts) d)
    apart x m n =
        let r = of_map (λ t. v ∷ t) x ts m in
        let s = of_flat_map (λ v. map (λ t. v ∷ t) ts) x d n in
        let q = of_map (λ t. s.0 ∷ t) x ts s.2 in
        e.0 (subst (λ z. Among z d) (head x v s.0 r.0 q.0 r.2 q.2) s.1)

distinct_tuples : (ds : List (List ℤ)) → EachDistinct ds → Distinct (tuples ds)
distinct_tuples [] h = (λ m. m, tt)
distinct_tuples (d ∷ ds) h = distinct_tuples_by (tuples ds) d (distinct_tuples ds h.1) h.0

pub distinct_filter : {X : Type 0} (p : X → Bool) (xs : List X) → Distinct xs → Distinct (filter p xs)
distinct_filter p [] d = tt
distinct_filter p (x ∷ xs) d = by (p x) (distinct_filter p xs d.1)
  where
    by : (b : Bool) → Distinct (filter p xs) → Distinct (cond b (x ∷ filter p xs) (filter p xs))
    by true k = (λ m. d.0 (of_filter p x xs m).0, k)
    by false k = k

each_take : (n : ℕ) (ds : List (List ℤ)) → EachDistinct ds → EachDistinct (take n ds)
each_take zero ds h = tt
each_take (suc n) [] h = tt
each_take (suc n) (d ∷ ds) h = (h.0, each_take n ds h.1)

each_drop : (n : ℕ) (ds : List (List ℤ)) → EachDistinct ds → EachDistinct (drop n ds)
each_drop zero ds h = h
each_drop (suc n) [] h = tt
each_drop (suc n) (d ∷ ds) h = each_drop n ds h.1

pub moves_distinct : (g : Game) (i : ℕ) (a : List ℤ) → EachDistinct (declared_box g) → Distinct (moves g i a)
moves_distinct g i a h = distinct_filter (λ t. allows g i (a ++ t)) (tuples (scope_domains g i)) (distinct_tuples (scope_domains g i) (each_drop (before g i) (take (before g (suc i)) (declared_box g)) (each_take (before g (suc i)) (declared_box g) h)))
