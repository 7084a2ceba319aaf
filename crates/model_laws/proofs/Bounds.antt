-- Universal positions: what bounds of the branches say of the first value.
use Rattle.std.proofs.Common.{◌≡◌, inl, inr, ℕ, List, [], ◌∷◌, ◌++◌, map, sym, ap, subst, ℤ, ◌<ℤ◌, Option, Some, None, arith}
use Rattle.std.specs.Prelude.{slice_get, ◌≤ℤ◌}
use Rattle.std.proofs.lemmas.Int.{ints}
use Rattle.qc_model.specs.declared.problem.Kind.TheVariants.{Forall}
use Rattle.qc_model.specs.declared.problem.Sense.{Sense}
use Rattle.qc_model.specs.declared.problem.Sense.TheVariants.{Min, Max}
use Rattle.qc_model.specs.declared.problem.Fold.{Fold}
use Rattle.qc_model.specs.declared.problem.Fold.TheVariants.{Least, Greatest}
use Rattle.qc_model.specs.declared.problem.Target.{Target}
use Rattle.qc_model.specs.declared.problem.Target.TheVariants.{Var, Aggregate as Agg}
use Rattle.qc_model.specs.declared.problem.Aggregate.{Aggregate}
use Rattle.qc_model.specs.declared.problem.AggId.{AggId}
use Rattle.qc_model.specs.declared.problem.Condition.{Condition}
use Rattle.qc_model.specs.Content.{Game}
use Rattle.qc_model.specs.Lists.{Among}
use Rattle.qc_model.specs.Game.{moves}
use Rattle.qc_model.specs.Plan.{Plan, finish, choose, answer, Entries, no_entries, entry, entry_tuples, EachEntry, Turn, Covers}
use Rattle.qc_model.specs.Value.{value, branch_values, inner_target, aggregate_fold, fold_of, least_or, greatest_or}
use Rattle.qc_model.specs.Demands.{demand_within, demands_through}
use Rattle.qc_model.specs.ForallVerdict.{entry_value}
use Rattle.model_laws.specs.Positions.{AtMost}
use Rattle.model_laws.specs.Branches.{NeverBetter, AtMostAfter, IsKnown, AllKnown, IsAggregate, fold_of_aggregate, fold_named}
use Rattle.model_laws.proofs.Better.{IsBetter, not_better, better_false}
use Rattle.qc_model.proofs.Moves.{moves_from}
use Rattle.model_laws.proofs.Folds.{aggregate_not_better, greatest_is_one, least_is_one, greatest_bounds, least_bounds}
use Rattle.model_laws.proofs.Namings.{fresh, namings_fresh}

each_bound : (g : Game) (c : Condition) (e : List Condition) (a : List ℤ) (O : List ℤ → Plan → Type 0) (l : Entries) (ps : List ℤ) →
    AtMostAfter g (c ∷ e) a O (entry_tuples l) ps → EachEntry (λ t s. O (a ++ t) s) l → NeverBetter c.sense (branch_values g l c.target a) ps
each_bound g c e a O no_entries [] b h = tt
each_bound g c e a O no_entries (p ∷ ps) b h = absurd b
each_bound g c e a O (entry t s rest) [] b h = absurd b
each_bound g c e a O (entry t s rest) (p ∷ ps) b h = (b.0 s h.0, each_bound g c e a O rest ps b.1 h.1)

-- the value in the branch of a tuple
pub branch_at : (g : Game) (x : Target) (a : List ℤ) (R : List ℤ → Plan → Type 0) (l : Entries) (t : List ℤ) → EachEntry R l → Among t (entry_tuples l) →
    (s : Plan) × R t s × Among (value g s x (a ++ t)) (branch_values g l x a)
branch_at g x a R no_entries t e m = absurd m
branch_at g x a R (entry u s rest) t e m = elim m [
  | inl q ↦ (s, subst (λ v. R v s) (sym q) e.0, inl (ap (λ v. value g s x (a ++ v)) q))
  | inr n ↦ (let r = branch_at g x a R rest t e.1 n in (r.0, r.1, inr r.2))
]

known_one : (g : Game) (e : List Condition) (i : ℕ) (a : List ℤ) (O : List ℤ → Plan → Type 0) (p : ℤ) (ps : List ℤ) → AllKnown g e i a O ps → Among p ps → IsKnown g e i a O p
known_one g e i a O p [] h m = absurd m
known_one g e i a O p (x ∷ ps) h m = elim m [ inl q ↦ subst (IsKnown g e i a O) (sym q) h.0 | inr n ↦ known_one g e i a O p ps h.1 n ]

-- a branch that is no better bounds the fold
greatest_branch : (b : Option Aggregate) (f : ℤ) (v p : ℤ) (vs : List ℤ) → fold_of_aggregate b ≡ Some (Greatest f) → Among v vs → ¬ (v <ℤ p) → ¬ (aggregate_fold b vs <ℤ p)
greatest_branch None f v p vs e m n k = cc
greatest_branch (Some b) f v p [] e m n k = absurd m
greatest_branch (Some b) f v p (x ∷ vs) e m n k = folded b.fold (cc) k
  where
    folded : (w : Fold) → w ≡ Greatest f → fold_of w (x ∷ vs) <ℤ p → ⊥
    folded w q k = let h : v ≤ℤ greatest_or f (x ∷ vs) = greatest_bounds f v (x ∷ vs) m in let k' : greatest_or f (x ∷ vs) <ℤ p = subst (λ z. fold_of z (x ∷ vs) <ℤ p) q k in against v (greatest_or f (x ∷ vs)) p h k' n
      where
        against : (v w p : ℤ) → v ≤ℤ w → w <ℤ p → ¬ (v <ℤ p) → ⊥
        against v w p h k n = grind (arith, ints)

least_branch : (b : Option Aggregate) (f : ℤ) (v p : ℤ) (vs : List ℤ) → fold_of_aggregate b ≡ Some (Least f) → Among v vs → ¬ (p <ℤ v) → ¬ (p <ℤ aggregate_fold b vs)
least_branch None f v p vs e m n k = cc
least_branch (Some b) f v p [] e m n k = absurd m
least_branch (Some b) f v p (x ∷ vs) e m n k = folded b.fold (cc) k
  where
    folded : (w : Fold) → w ≡ Least f → p <ℤ fold_of w (x ∷ vs) → ⊥
    folded w q k = let h : least_or f (x ∷ vs) ≤ℤ v = least_bounds f v (x ∷ vs) m in let k' : p <ℤ least_or f (x ∷ vs) = subst (λ z. p <ℤ fold_of z (x ∷ vs)) q k in against v (least_or f (x ∷ vs)) p h k' n
      where
        against : (v w p : ℤ) → w ≤ℤ v → p <ℤ w → ¬ (p <ℤ v) → ⊥
        against v w p h k n = grind (arith, ints)

-- the list after the scope begins with the target of the aggregate that is named first
abbrev pub later_of : Game → AggId → Sense → List Condition → List Condition
later_of g q s d = map (demand_within g) (fresh (record { sense = s; target = Agg q } ∷ []) d)

pub first_demand : (g : Game) (q : AggId) (s : Sense) (d : List Condition) →
    demands_through g (record { sense = s; target = Agg q } ∷ d) ≡ record { sense = s; target = inner_target (slice_get g.aggregates q.0) } ∷ later_of g q s d
first_demand g q s d = ap (map (demand_within g)) (namings_fresh (record { sense = s; target = Agg q } ∷ []) d)

module _ (g : Game) (i : ℕ) (a : List ℤ) (O : List ℤ → Plan → Type 0) (C : List ℤ → Plan → Type 0) where
  -- the fold of bounds of all branches is a bound
  pub fold_bound : (s : Sense) (t : Target) (d : List Condition) (ps : List ℤ) → IsAggregate t →
      AtMostAfter g (demands_through g (record { sense = s; target = t } ∷ d)) a O (moves g i a) ps →
      AtMost g (record { sense = s; target = t } ∷ d) a (λ s. Turn Forall s C (Covers g i a O)) (entry_value g a (λ q. ps) t)
  fold_bound s (Var v) d ps h b p o = absurd h
  fold_bound s (Agg q) d ps h b finish o = absurd o
  fold_bound s (Agg q) d ps h b (choose t p) o = absurd o
  fold_bound s (Agg q) d ps h b (answer l) o =
      let x : Condition = record { sense = s; target = inner_target (slice_get g.aggregates q.0) } in
      let e = later_of g q s d in
      aggregate_not_better (slice_get g.aggregates q.0) s (branch_values g l x.target a) ps
      (each_bound g x e a O l ps (subst (λ ts. AtMostAfter g (x ∷ e) a O ts ps) (sym o.tuples) (subst (λ z. AtMostAfter g z a O (moves g i a) ps) (first_demand g q s d) b)) o.each)

  -- one known branch bounds the greatest under Min and the least under Max
  one_bound : (q : AggId) (s : Sense) (d : List Condition) (p : ℤ) → IsKnown g (demands_through g (record { sense = s; target = Agg q } ∷ d)) i a O p →
      (l : Entries) → Covers g i a O l → (R : ℤ → Type 0) →
      ((v : ℤ) (vs : List ℤ) → Among v vs → (¬ IsBetter s v p) → R (aggregate_fold (slice_get g.aggregates q.0) vs)) → R (value g (answer l) (Agg q) a)
  one_bound q s d p b l o R f =
      let x : Condition = record { sense = s; target = inner_target (slice_get g.aggregates q.0) } in
      let r = branch_at g x.target a (λ t s. O (a ++ t) s) l b.tuple o.each (subst (Among b.tuple) (sym o.tuples) (moves_from g i a b.tuple b.is_move)) in
      let n : AtMost g (x ∷ later_of g q s d) (a ++ b.tuple) (O (a ++ b.tuple)) p = subst (λ z. AtMost g z (a ++ b.tuple) (O (a ++ b.tuple)) p) (first_demand g q s d) b.bound in
      f (value g r.0 x.target (a ++ b.tuple)) (branch_values g l x.target a) r.2 (not_better s (value g r.0 x.target (a ++ b.tuple)) p (n r.0 r.1))

  pub greatest_bound : (t : Target) (d : List Condition) (f p : ℤ) (ps : List ℤ) → fold_named g t ≡ Some (Greatest f) →
      AllKnown g (demands_through g (record { sense = Min; target = t } ∷ d)) i a O (p ∷ ps) →
      AtMost g (record { sense = Min; target = t } ∷ d) a (λ s. Turn Forall s C (Covers g i a O)) (greatest_or f (p ∷ ps))
  greatest_bound (Var v) d f p ps e b s o = cc
  greatest_bound (Agg q) d f p ps e b finish o = absurd o
  greatest_bound (Agg q) d f p ps e b (choose t s) o = absurd o
  greatest_bound (Agg q) d f p ps e b (answer l) o =
      better_false Min (value g (answer l) (Agg q) a) (greatest_or f (p ∷ ps))
      (one_bound q Min d (greatest_or f (p ∷ ps)) (known_one g (demands_through g (record { sense = Min; target = Agg q } ∷ d)) i a O (greatest_or f (p ∷ ps)) (p ∷ ps) b (greatest_is_one f p ps)) l o
      (λ z. ¬ (z <ℤ greatest_or f (p ∷ ps)))
      (λ v vs m n. greatest_branch (slice_get g.aggregates q.0) f v (greatest_or f (p ∷ ps)) vs e m n))

  pub least_bound : (t : Target) (d : List Condition) (f p : ℤ) (ps : List ℤ) → fold_named g t ≡ Some (Least f) →
      AllKnown g (demands_through g (record { sense = Max; target = t } ∷ d)) i a O (p ∷ ps) →
      AtMost g (record { sense = Max; target = t } ∷ d) a (λ s. Turn Forall s C (Covers g i a O)) (least_or f (p ∷ ps))
  least_bound (Var v) d f p ps e b s o = cc
  least_bound (Agg q) d f p ps e b finish o = absurd o
  least_bound (Agg q) d f p ps e b (choose t s) o = absurd o
  least_bound (Agg q) d f p ps e b (answer l) o =
      better_false Max (value g (answer l) (Agg q) a) (least_or f (p ∷ ps))
      (one_bound q Max d (least_or f (p ∷ ps)) (known_one g (demands_through g (record { sense = Max; target = Agg q } ∷ d)) i a O (least_or f (p ∷ ps)) (p ∷ ps) b (least_is_one f p ps)) l o
      (λ z. ¬ (least_or f (p ∷ ps) <ℤ z))
      (λ v vs m n. least_branch (slice_get g.aggregates q.0) f v (least_or f (p ∷ ps)) vs e m n))
