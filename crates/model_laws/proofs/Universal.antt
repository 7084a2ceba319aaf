-- Universal positions: the best vector, from the best vectors of the branches.
use Rattle.std.proofs.Common.{◌≡◌, ◌⊎◌, inl, inr, ℕ, zero, suc, Bool, true, false, not, ◌||◌, List, [], ◌∷◌, ◌++◌, map, drop, refl, sym, ap, ◌∙◌, subst, ℤ, ◌+ℤ◌, pos, cond, arith}
use Rattle.std.specs.Prelude.{slice_get, slice_index_or, Option, Some, None, ⊤}
use Rattle.std.specs.List.{list_all}
use Rattle.std.proofs.lemmas.Int.{ints}
use Rattle.std.proofs.lemmas.Bool.{or_cases, or_left, or_right}
use Rattle.qc_model.specs.declared.problem.Kind.TheVariants.{Forall}
use Rattle.qc_model.specs.declared.problem.Sense.{Sense}
use Rattle.qc_model.specs.declared.problem.Sense.TheVariants.{Min, Max}
use Rattle.qc_model.specs.declared.problem.Fold.{Fold}
use Rattle.qc_model.specs.declared.problem.Fold.TheVariants.{Sum, Least, Greatest}
use Rattle.qc_model.specs.declared.problem.Target.{Target}
use Rattle.qc_model.specs.declared.problem.Target.TheVariants.{Var, Aggregate as Agg}
use Rattle.qc_model.specs.declared.problem.Aggregate.{Aggregate}
use Rattle.qc_model.specs.declared.problem.Scope.{Scope}
use Rattle.qc_model.specs.declared.problem.Condition.{Condition}
use Rattle.qc_model.specs.Content.{Game}
use Rattle.qc_model.specs.Game.{moves}
use Rattle.qc_model.specs.Plan.{Plan, finish, choose, answer, Entries, no_entries, entry, entry_tuples, EachEntry, Turn, Covers}
use Rattle.qc_model.specs.Value.{value, branch_values, inner_target, aggregate_fold, sum_of}
use Rattle.qc_model.specs.Optimal.{Optimal}
use Rattle.qc_model.specs.Demands.{vector, IsBestVector, is_aggregate, names, first_namings, demand_within, demands_through, place_among, place_of}
use Rattle.qc_model.specs.Bottlenecks.{is_sum, is_bottleneck_fold, is_bottleneck, names_no_other, bottleneck_last}
use Rattle.qc_model.specs.Verdict.{first_value}
use Rattle.qc_model.specs.ForallVerdict.{entry_value, entry_values, numbers_for}
use Rattle.model_laws.specs.Branches.{NeverBetter, BestAfter}
use Rattle.model_laws.proofs.Better.{IsBetter, IsBetterVector, not_better, better_false, and_first, and_second, vector_false, unbeaten}
use Rattle.model_laws.proofs.Folds.{aggregate_not_better, fold_not_better, not_better_self}
use Rattle.model_laws.proofs.Namings.{is_itself, keep, fresh, namings_fresh, names_either, named_is, fresh_once, first_named, asked, Columns, columns}

-- no vector is better than itself
pub vector_not_self : (d : List Condition) (v : List ℤ) → ¬ IsBetterVector d v v
vector_not_self [] v k = k
vector_not_self (c ∷ d) [] k = k
vector_not_self (c ∷ d) (x ∷ v) k = elim k [ inl b ↦ not_better_self c.sense x b | inr r ↦ vector_not_self d v r.1 ]

abbrev pub fold_at : Game → ℕ → List ℤ → ℤ
fold_at g q xs = aggregate_fold (slice_get g.aggregates q) xs

-- the values of a list are the same where the folds of its aggregates are
pub entries_same : (g : Game) (d : List Condition) (a : List ℤ) (ns ms : ℕ → List ℤ) → ((q : ℕ) → names q d ≡ true → fold_at g q (ns q) ≡ fold_at g q (ms q)) →
    entry_values g d a ns ≡ entry_values g d a ms
entries_same g [] a ns ms f = refl
entries_same g (c ∷ d) a ns ms f =
    ap (λ z. z ∷ entry_values g d a ns) (one c.target (λ q n. f q (or_left (is_aggregate q c.target) (names q d) n)))
    ∙ ap (λ zs. entry_value g a ms c.target ∷ zs) (entries_same g d a ns ms (λ q n. f q (or_right (is_aggregate q c.target) (names q d) n)))
  where
    one : (t : Target) → ((q : ℕ) → is_aggregate q t ≡ true → fold_at g q (ns q) ≡ fold_at g q (ms q)) → entry_value g a ns t ≡ entry_value g a ms t
    one (Var x) f = refl
    one (Agg q) f = f q.0 (is_itself q.0)

-- the vectors of the branches
abbrev pub branch_vectors : Game → List Condition → Entries → List ℤ → List (List ℤ)
branch_vectors g e no_entries a = []
branch_vectors g e (entry t s rest) a = vector g e (a ++ t) s ∷ branch_vectors g e rest a

vector_at : (g : Game) (e : List Condition) (k : ℕ) (c : Condition) (u : List ℤ) (s : Plan) → slice_get e k ≡ Some c → value g s c.target u ≡ slice_index_or (vector g e u s) k (pos 0)
vector_at g [] k c u s h = cc
vector_at g (b ∷ e) zero c u s h = let q : b ≡ c = cc in ap (λ z. value g s z.target u) (sym q)
vector_at g (b ∷ e) (suc k) c u s h = vector_at g e k c u s h

values_at : (g : Game) (e : List Condition) (k : ℕ) (c : Condition) (l : Entries) (a : List ℤ) → slice_get e k ≡ Some c →
    branch_values g l c.target a ≡ map (λ w. slice_index_or w k (pos 0)) (branch_vectors g e l a)
values_at g e k c no_entries a h = refl
values_at g e k c (entry t s rest) a h =
    ap (λ z. z ∷ branch_values g rest c.target a) (vector_at g e k c (a ++ t) s h)
    ∙ ap (λ zs. slice_index_or (vector g e (a ++ t) s) k (pos 0) ∷ zs) (values_at g e k c rest a h)

-- an answer's values are those of its branches' vectors
abbrev pub numbers_under : Game → Entries → List ℤ → ℕ → List ℤ
numbers_under g l a q = branch_values g l (inner_target (slice_get g.aggregates q)) a

pub vector_under : (g : Game) (a : List ℤ) (l : Entries) (d : List Condition) → vector g d a (answer l) ≡ entry_values g d a (numbers_under g l a)
vector_under g a l [] = refl
vector_under g a l (c ∷ d) = ap (λ z. z ∷ vector g d a (answer l)) (one c.target) ∙ ap (λ zs. entry_value g a (numbers_under g l a) c.target ∷ zs) (vector_under g a l d)
  where
    one : (t : Target) → value g (answer l) t a ≡ entry_value g a (numbers_under g l a) t
    one (Var x) = refl
    one (Agg q) = refl

pub vector_is : (g : Game) (a : List ℤ) (l : Entries) (d : List Condition) → vector g d a (answer l) ≡ entry_values g d a (numbers_for d (branch_vectors g (demands_through g d) l a))
vector_is g a l d = vector_under g a l d ∙ entries_same g d a (numbers_under g l a) (numbers_for d (branch_vectors g (demands_through g d) l a)) same
  where
    same : (q : ℕ) → names q d ≡ true → fold_at g q (numbers_under g l a q) ≡ fold_at g q (numbers_for d (branch_vectors g (demands_through g d) l a) q)
    same q n =
        let r = asked g q (first_namings [] d) (first_named q [] d (inr n)) in
        ap (fold_at g q) (ap (λ t. branch_values g l t a) (sym r.target) ∙ values_at g (demands_through g d) (place_of q d) r.entry l a r.at_place)

-- a vector of the list's length that isn't better, place by place
abbrev pub Beaten : List Condition → List ℤ → List ℤ → Type 0
Beaten [] xs ys = ⊤
Beaten (c ∷ d) [] ys = ⊥
Beaten (c ∷ d) (x ∷ xs) [] = ⊥
Beaten (c ∷ d) (x ∷ xs) (y ∷ ys) = (¬ IsBetter c.sense x y) × (x ≡ y → Beaten d xs ys)

abbrev pub EachBeaten : List Condition → List (List ℤ) → List (List ℤ) → Type 0
EachBeaten d [] [] = ⊤
EachBeaten d [] (w ∷ ws) = ⊥
EachBeaten d (v ∷ vs) [] = ⊥
EachBeaten d (v ∷ vs) (w ∷ ws) = Beaten d v w × EachBeaten d vs ws

firsts : (c : Condition) (d : List Condition) (vs ws : List (List ℤ)) → EachBeaten (c ∷ d) vs ws → NeverBetter c.sense (map first_value vs) (map first_value ws)
firsts c d [] [] b = tt
firsts c d [] (w ∷ ws) b = absurd b
firsts c d (v ∷ vs) [] b = absurd b
firsts c d ([] ∷ vs) (w ∷ ws) b = absurd b.0
firsts c d ((x ∷ v) ∷ vs) ([] ∷ ws) b = absurd b.0
firsts c d ((x ∷ v) ∷ vs) ((y ∷ w) ∷ ws) b = (better_false c.sense x y b.0.0, firsts c d vs ws b.1)

rests : (c : Condition) (d : List Condition) (vs ws : List (List ℤ)) → EachBeaten (c ∷ d) vs ws → map first_value vs ≡ map first_value ws → EachBeaten d (map (λ w. drop 1 w) vs) (map (λ w. drop 1 w) ws)
rests c d [] [] b e = tt
rests c d [] (w ∷ ws) b e = absurd b
rests c d (v ∷ vs) [] b e = absurd b
rests c d ([] ∷ vs) (w ∷ ws) b e = absurd b.0
rests c d ((x ∷ v) ∷ vs) ([] ∷ ws) b e = absurd b.0
rests c d ((x ∷ v) ∷ vs) ((y ∷ w) ∷ ws) b e =
    let p : x ≡ y = cc in
    let q : map first_value vs ≡ map first_value ws = cc in
    (b.0.1 p, rests c d vs ws b.1 q)

-- a sum that is no worse, where no number is better, forces each number
pub sum_forces : (s : Sense) (xs ys : List ℤ) → NeverBetter s xs ys → sum_of xs ≡ sum_of ys → xs ≡ ys
sum_forces s [] [] h e = refl
sum_forces s [] (y ∷ ys) h e = absurd h
sum_forces s (x ∷ xs) [] h e = absurd h
sum_forces s (x ∷ xs) (y ∷ ys) h e =
    let r = by s x y (sum_of xs) (sum_of ys) (not_better s x y h.0) (not_better s (sum_of xs) (sum_of ys) (fold_not_better Sum s xs ys h.1)) e in
    let t : xs ≡ ys = sum_forces s xs ys h.1 r.1 in
    let p : x ≡ y = r.0 in
    cc
  where
    by : (s : Sense) (x y m n : ℤ) → ¬ IsBetter s x y → ¬ IsBetter s m n → x +ℤ m ≡ y +ℤ n → (x ≡ y) × (m ≡ n)
    by Min x y m n h k e = (grind (arith, ints), grind (arith, ints))
    by Max x y m n h k e = (grind (arith, ints), grind (arith, ints))

-- the sums that a list names force each branch's best, and the last aggregate that it names is no better: where each branch is
-- beaten, so is the whole
module _ (g : Game) (a : List ℤ) (ns ms : ℕ → List ℤ) where
  abbrev Same : List Condition → Type 0
  Same p = (q : ℕ) → names q p ≡ true → fold_at g q (ns q) ≡ fold_at g q (ms q)

  -- where nothing but the aggregate q is named, and it has the same fold
  alone : (t : Target) (d : List Condition) → list_all (λ b. names_no_other t b.target) d ≡ true → ((q : ℕ) → is_aggregate q t ≡ true → fold_at g q (ns q) ≡ fold_at g q (ms q)) → Same d
  alone t [] h f q n = cc
  alone t (c ∷ d) h f q n = elim (or_cases (is_aggregate q c.target) (names q d) n) [
    | inl e ↦ by c.target e (and_first (names_no_other t c.target) (list_all (λ b. names_no_other t b.target) d) h)
    | inr e ↦ alone t d (and_second (names_no_other t c.target) (list_all (λ b. names_no_other t b.target) d) h) f q e
  ]
    where
      by : (u : Target) → is_aggregate q u ≡ true → names_no_other t u ≡ true → fold_at g q (ns q) ≡ fold_at g q (ms q)
      by (Var x) e k = cc
      by (Agg r) e k = f q (subst (λ z. is_aggregate z t ≡ true) (named_is q (Agg r) e).1 k)

  pub beaten : (p d : List Condition) (vs ws : List (List ℤ)) → bottleneck_last g d ≡ true → ((q : ℕ) → names q p ≡ true → ns q ≡ ms q) →
      Columns ns (fresh p d) vs → Columns ms (fresh p d) ws → EachBeaten (fresh p d) vs ws → ¬ IsBetterVector d (entry_values g d a ns) (entry_values g d a ms)
  beaten p [] vs ws l f m n b k = k
  beaten p (c ∷ d) vs ws l f m n b k =
      by c.sense c.target (and_first (not (is_bottleneck g c.target) || list_all (λ z. names_no_other c.target z.target) d) (bottleneck_last g d) l) m n b
      (λ vs ws f m n b. beaten p d vs ws (and_second (not (is_bottleneck g c.target) || list_all (λ z. names_no_other c.target z.target) d) (bottleneck_last g d) l) f m n b)
      (λ vs ws f m n b. beaten (p ++ c ∷ []) d vs ws (and_second (not (is_bottleneck g c.target) || list_all (λ z. names_no_other c.target z.target) d) (bottleneck_last g d) l) f m n b)
      k
    where
      Later : List Condition → Type 0
      Later q = (vs ws : List (List ℤ)) → ((r : ℕ) → names r q ≡ true → ns r ≡ ms r) → Columns ns (fresh q d) vs → Columns ms (fresh q d) ws → EachBeaten (fresh q d) vs ws →
          ¬ IsBetterVector d (entry_values g d a ns) (entry_values g d a ms)

      by : (s : Sense) (t : Target) → (not (is_bottleneck g t) || list_all (λ z. names_no_other t z.target) d) ≡ true →
          Columns ns (keep p (record { sense = s; target = t }) t (fresh p d) (fresh (p ++ record { sense = s; target = t } ∷ []) d)) vs →
          Columns ms (keep p (record { sense = s; target = t }) t (fresh p d) (fresh (p ++ record { sense = s; target = t } ∷ []) d)) ws →
          EachBeaten (keep p (record { sense = s; target = t }) t (fresh p d) (fresh (p ++ record { sense = s; target = t } ∷ []) d)) vs ws →
          Later p → Later (p ++ record { sense = s; target = t } ∷ []) →
          ¬ (IsBetter s (entry_value g a ns t) (entry_value g a ms t) ⊎ ((entry_value g a ns t ≡ entry_value g a ms t) × IsBetterVector d (entry_values g d a ns) (entry_values g d a ms)))
      by s (Var x) o m n b here next k = elim k [ inl w ↦ not_better_self s (slice_index_or a x.0 (pos 0)) w | inr r ↦ here vs ws f m n b r.1 ]
      by s (Agg q) o m n b here next k = split (names q.0 p) refl m n b
        where
          x : Condition
          x = record { sense = s; target = Agg q }

          known : names q.0 p ≡ true → fold_at g q.0 (ns q.0) ≡ fold_at g q.0 (ms q.0)
          known e = ap (fold_at g q.0) (f q.0 e)

          -- the sum forces the branches, and a bottleneck is the last that is named
          after : fold_at g q.0 (ns q.0) ≡ fold_at g q.0 (ms q.0) → ns q.0 ≡ map first_value vs → ms q.0 ≡ map first_value ws →
              Columns ns (fresh (p ++ x ∷ []) d) (map (λ w. drop 1 w) vs) → Columns ms (fresh (p ++ x ∷ []) d) (map (λ w. drop 1 w) ws) → EachBeaten (x ∷ fresh (p ++ x ∷ []) d) vs ws →
              ¬ IsBetterVector d (entry_values g d a ns) (entry_values g d a ms)
          after e u v m n b w = elim (or_cases (not (is_bottleneck g (Agg q))) (list_all (λ z. names_no_other (Agg q) z.target) d) o) [
            | inl i ↦ (let forced : map first_value vs ≡ map first_value ws = folded (slice_get g.aggregates q.0) i (ap (fold_at g q.0) (sym u) ∙ e ∙ ap (fold_at g q.0) v) in
                next (map (λ w. drop 1 w) vs) (map (λ w. drop 1 w) ws)
                (λ r h. elim (names_either r p x h) [ inl y ↦ f r y | inr y ↦ subst (λ z. ns z ≡ ms z) (named_is r (Agg q) y).1 (u ∙ forced ∙ sym v) ])
                m n (rests x (fresh (p ++ x ∷ []) d) vs ws b forced) w)
            | inr i ↦ vector_not_self d (entry_values g d a ms)
                (subst (λ zs. IsBetterVector d zs (entry_values g d a ms))
                (entries_same g d a ns ms (alone (Agg q) d i (λ r h. subst (λ z. fold_at g z (ns z) ≡ fold_at g z (ms z)) (named_is r (Agg q) h).1 e))) w)
          ]
            where
              folded : (z : Option Aggregate) → not (is_bottleneck_fold z) ≡ true → aggregate_fold z (map first_value vs) ≡ aggregate_fold z (map first_value ws) → map first_value vs ≡ map first_value ws
              folded None i e = cc
              folded (Some z) i e = summed z.fold i e
                where
                  summed : (h : Fold) → not (not (is_sum h)) ≡ true → aggregate_fold (Some (record { name = z.name; scope = z.scope; fold = h; target = z.target })) (map first_value vs) ≡ aggregate_fold (Some (record { name = z.name; scope = z.scope; fold = h; target = z.target })) (map first_value ws) → map first_value vs ≡ map first_value ws
                  summed Sum i e = sum_forces s (map first_value vs) (map first_value ws) (firsts x (fresh (p ++ x ∷ []) d) vs ws b) e
                  summed (Least z) i e = cc
                  summed (Greatest z) i e = cc

          split : (y : Bool) → names q.0 p ≡ y → Columns ns (cond y (fresh p d) (x ∷ fresh (p ++ x ∷ []) d)) vs → Columns ms (cond y (fresh p d) (x ∷ fresh (p ++ x ∷ []) d)) ws →
              EachBeaten (cond y (fresh p d) (x ∷ fresh (p ++ x ∷ []) d)) vs ws → ⊥
          split true y m n b = elim k [
            | inl w ↦ not_better_self s (fold_at g q.0 (ms q.0)) (subst (λ z. IsBetter s z (fold_at g q.0 (ms q.0))) (known y) w)
            | inr r ↦ here vs ws f m n b r.1
          ]
          split false y m n b = elim k [
            | inl w ↦ not_better s (fold_at g q.0 (map first_value vs)) (fold_at g q.0 (map first_value ws))
                (aggregate_not_better (slice_get g.aggregates q.0) s (map first_value vs) (map first_value ws) (firsts x (fresh (p ++ x ∷ []) d) vs ws b))
                (subst (λ z. IsBetter s (fold_at g q.0 (map first_value vs)) (fold_at g q.0 z)) n.0 (subst (λ z. IsBetter s (fold_at g q.0 z) (fold_at g q.0 (ms q.0))) m.0 w))
            | inr r ↦ after r.0 m.0 n.0 m.1 n.1 b r.1
          ]

-- vectors of plans have the list's length
beaten_is : (g : Game) (e : List Condition) (u : List ℤ) (s r : Plan) → ¬ IsBetterVector (map (demand_within g) e) (vector g (map (demand_within g) e) u s) (vector g (map (demand_within g) e) u r) →
    Beaten e (vector g (map (demand_within g) e) u s) (vector g (map (demand_within g) e) u r)
beaten_is g [] u s r n = tt
beaten_is g (c ∷ e) u s r n = (λ k. n (inl k), λ q. beaten_is g e u s r (λ k. n (inr (q, k))))

each_beaten : (g : Game) (e : List Condition) (a : List ℤ) (O : List ℤ → Plan → Type 0) (l : Entries) (ws : List (List ℤ)) →
    BestAfter g (map (demand_within g) e) a O (entry_tuples l) ws → EachEntry (λ t s. O (a ++ t) s) l → EachBeaten e (branch_vectors g (map (demand_within g) e) l a) ws
each_beaten g e a O no_entries [] b h = tt
each_beaten g e a O no_entries (w ∷ ws) b h = absurd b
each_beaten g e a O (entry t s rest) [] b h = absurd b
each_beaten g e a O (entry t s rest) (w ∷ ws) b h =
    let v = map (demand_within g) e in (
      subst (Beaten e (vector g v (a ++ t) s)) b.0.some.2
          (beaten_is g e (a ++ t) s b.0.some.0 (λ k. unbeaten g v (a ++ t) (O (a ++ t)) w b.0 s h.0 (subst (IsBetterVector v (vector g v (a ++ t) s)) b.0.some.2 k))),
      each_beaten g e a O rest ws b.1 h.1,
    )

-- the strategies of the best vectors, one for each tuple
pub record Answered (g : Game) (e : List Condition) (a : List ℤ) (O : List ℤ → Plan → Type 0) (ts ws : List (List ℤ)) : Type 0 where
  pub entries : Entries
  pub tuples : entry_tuples entries ≡ ts
  pub each : EachEntry (λ t s. O (a ++ t) s) entries
  pub vectors : branch_vectors g e entries a ≡ ws

pub answered : (g : Game) (e : List Condition) (a : List ℤ) (O : List ℤ → Plan → Type 0) (ts ws : List (List ℤ)) → BestAfter g e a O ts ws → Answered g e a O ts ws
answered g e a O [] [] b = record { entries = no_entries; tuples = refl; each = tt; vectors = refl }
answered g e a O [] (w ∷ ws) b = absurd b
answered g e a O (t ∷ ts) [] b = absurd b
answered g e a O (t ∷ ts) (w ∷ ws) b =
    let r = answered g e a O ts ws b.1 in
    let s = b.0.some in
    record {
      entries = entry t s.0 r.entries;
      tuples = ap (λ us. t ∷ us) r.tuples;
      each = (s.1, r.each);
      vectors = ap (λ z. z ∷ branch_vectors g e r.entries a) s.2 ∙ ap (λ zs. w ∷ zs) r.vectors;
    }

-- the numbers at the places are those of the columns
pub numbers_columns : (d : List Condition) (ws : List (List ℤ)) → Columns (numbers_for d ws) (fresh [] d) ws
numbers_columns d ws =
    columns (numbers_for d ws) (fresh [] d) ws (fresh_once [] d)
    (λ q n. ap (λ e. map (λ w. slice_index_or w (place_among q e) (pos 0)) ws) (namings_fresh [] d))

module _ (g : Game) (i : ℕ) (a : List ℤ) (O : List ℤ → Plan → Type 0) (C : List ℤ → Plan → Type 0) where
  pub universal_best : (d : List Condition) (ws : List (List ℤ)) → bottleneck_last g d ≡ true → BestAfter g (demands_through g d) a O (moves g i a) ws →
      IsBestVector g d a (λ s. Turn Forall s C (Covers g i a O)) (entry_values g d a (numbers_for d ws))
  universal_best d ws h b = record {
    some = (answer r.entries, record { tuples = r.tuples; each = r.each }, vector_is g a r.entries d ∙ ap (λ vs. entry_values g d a (numbers_for d vs)) r.vectors);
    none_better = λ s o. vector_false d (vector g d a s) (entry_values g d a (numbers_for d ws)) (none s o);
  }
    where
      r : Answered g (demands_through g d) a O (moves g i a) ws
      r = answered g (demands_through g d) a O (moves g i a) ws b

      none : (s : Plan) → Turn Forall s C (Covers g i a O) → ¬ IsBetterVector d (vector g d a s) (entry_values g d a (numbers_for d ws))
      none finish o k = o
      none (choose t s) o k = o
      none (answer l) o k =
          let vs = branch_vectors g (demands_through g d) l a in
          beaten g a (numbers_for d vs) (numbers_for d ws) [] d vs ws h (λ q n. cc) (numbers_columns d vs) (numbers_columns d ws)
          (subst (λ e. EachBeaten e vs ws) (namings_fresh [] d)
          (each_beaten g (first_namings [] d) a O l ws (subst (λ ts. BestAfter g (demands_through g d) a O ts ws) (sym o.tuples) b) o.each))
          (subst (λ zs. IsBetterVector d zs (entry_values g d a (numbers_for d ws))) (vector_is g a l d) k)

-- the same for optimal strategies
pub optimal_universal : (g : Game) (later : List Scope) (x : Option Condition) (i : ℕ) (a : List ℤ) (d : List Condition) (ws : List (List ℤ)) →
    bottleneck_last g d ≡ true → BestAfter g (demands_through g d) a (Optimal g later (suc i)) (moves g i a) ws →
    IsBestVector g d a (Optimal g (record { kind = Forall; condition = x } ∷ later) i a) (entry_values g d a (numbers_for d ws))
optimal_universal g later x i a d ws h b = universal_best g i a (Optimal g later (suc i)) _ d ws h b
