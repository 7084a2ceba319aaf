-- Positions after which the same is allowed and the same numbers come out: the same strategies are optimal there.
use Rattle.std.proofs.Common.{◌≡◌, ◌⊎◌, inl, inr, ℕ, suc, ◌+◌, ◌≤◌, Bool, true, false, cond, List, [], ◌∷◌, ◌++◌, length, filter, refl, sym, ap, ◌∙◌, subst, arith, ℤ, pos, Option, Some, None}
use Rattle.std.specs.Prelude.{slice_get, slice_index_or}
use Rattle.std.specs.Prelude.{⊤}
use Rattle.std.proofs.lemmas.List.{length-append}
use Rattle.qc_model.specs.declared.problem.Kind.{Kind}
use Rattle.qc_model.specs.declared.problem.Kind.TheVariants.{Exists, Forall}
use Rattle.qc_model.specs.declared.problem.Target.{Target}
use Rattle.qc_model.specs.declared.problem.Target.TheVariants.{Var, Aggregate as Agg}
use Rattle.qc_model.specs.declared.problem.Condition.{Condition}
use Rattle.qc_model.specs.declared.problem.Scope.{Scope}
use Rattle.qc_model.specs.Content.{Game}
use Rattle.qc_model.specs.Demands.{vector}
use Rattle.qc_model.specs.Domains.{InBox, declared_box}
use Rattle.qc_model.specs.Game.{before, scope_domains, allows, IsMove, moves}
use Rattle.qc_model.specs.Lists.{Among, tuples}
use Rattle.qc_model.specs.Optimal.{is_better, NoBetterChoice, ChoosesBest, Optimal}
use Rattle.qc_model.specs.Plan.{Plan, finish, choose, answer, Entries, no_entries, entry, entry_tuples, EachEntry, Turn, Covers}
use Rattle.qc_model.specs.Value.{aggregate_fold, inner_target, value, branch_values}
use Rattle.qc_model.proofs.Moves.{moves_to, tuples_to}
use Rattle.proof_meaning.proofs.Passing.{move_count}
use Rattle.dense_meaning.proofs.WholePlays.{append_none}
use Rattle.dense_laws.proofs.Close.{append_more}
use Rattle.dense_laws.proofs.Tuple.{tuple_lies, tuple_long}

-- the variable x has the same value after both positions, whatever comes
abbrev pub SameValue : ℕ → List ℤ → List ℤ → Type 0
SameValue x a b = (u : List ℤ) → slice_index_or (a ++ u) x (pos 0) ≡ slice_index_or (b ++ u) x (pos 0)

-- a variable that is one of these; an aggregate is looked at by its own target
abbrev pub IsOf : (ℕ → Type 0) → Target → Type 0
IsOf N (Var x) = N x.0
IsOf N (Agg q) = ⊤

abbrev pub EachOf : (ℕ → Type 0) → List Condition → Type 0
EachOf N [] = ⊤
EachOf N (c ∷ d) = IsOf N c.target × EachOf N d

-- so of the condition of each scope
abbrev pub WishOf : (ℕ → Type 0) → Option Condition → Type 0
WishOf N None = ⊤
WishOf N (Some c) = IsOf N c.target

abbrev pub EachWish : (ℕ → Type 0) → List Scope → Type 0
EachWish N [] = ⊤
EachWish N (s ∷ later) = WishOf N s.condition × EachWish N later

-- numbers are the same, where each variable with N has the same value, and each aggregate's target is one of these
module _ (g : Game) (N : ℕ → Type 0) (inner : (q : ℕ) → (slice_get g.aggregates q ≡ None) ⊎ IsOf N (inner_target (slice_get g.aggregates q))) where
  abbrev pub SameValues : List ℤ → List ℤ → Type 0
  SameValues a b = (x : ℕ) → N x → SameValue x a b

  pub values_next : (a b t : List ℤ) → SameValues a b → SameValues (a ++ t) (b ++ t)
  values_next a b t h x n u =
      ap (λ w. slice_index_or w x (pos 0)) (append_more a t u) ∙ (h x n (t ++ u) ∙ ap (λ w. slice_index_or w x (pos 0)) (sym (append_more b t u)))

  here : (a b : List ℤ) (x : ℕ) → N x → SameValues a b → slice_index_or a x (pos 0) ≡ slice_index_or b x (pos 0)
  here a b x n h = ap (λ w. slice_index_or w x (pos 0)) (sym (append_none a)) ∙ (h x n [] ∙ ap (λ w. slice_index_or w x (pos 0)) (append_none b))

  mutual
    pub value_same : (r : Plan) (t : Target) (a b : List ℤ) → IsOf N t → SameValues a b → value g r t a ≡ value g r t b
    value_same finish (Var x) a b n h = here a b x.0 n h
    value_same finish (Agg q) a b n h = refl
    value_same (choose u s) t a b n h = value_same s t (a ++ u) (b ++ u) n (values_next a b u h)
    value_same (answer l) (Var x) a b n h = here a b x.0 n h
    value_same (answer l) (Agg q) a b n h = folded q.0 (inner q.0) (λ m. branches_same l (inner_target (slice_get g.aggregates q.0)) a b m h)
      where
        folded : (k : ℕ) → (slice_get g.aggregates k ≡ None) ⊎ IsOf N (inner_target (slice_get g.aggregates k)) →
            (IsOf N (inner_target (slice_get g.aggregates k)) → branch_values g l (inner_target (slice_get g.aggregates k)) a ≡ branch_values g l (inner_target (slice_get g.aggregates k)) b) →
            aggregate_fold (slice_get g.aggregates k) (branch_values g l (inner_target (slice_get g.aggregates k)) a) ≡ aggregate_fold (slice_get g.aggregates k) (branch_values g l (inner_target (slice_get g.aggregates k)) b)
        folded k (inl e) f =
            ap (λ o. aggregate_fold o (branch_values g l (inner_target (slice_get g.aggregates k)) a)) e ∙ sym (ap (λ o. aggregate_fold o (branch_values g l (inner_target (slice_get g.aggregates k)) b)) e)
        folded k (inr m) f = ap (aggregate_fold (slice_get g.aggregates k)) (f m)

    branches_same : (l : Entries) (t : Target) (a b : List ℤ) → IsOf N t → SameValues a b → branch_values g l t a ≡ branch_values g l t b
    branches_same no_entries t a b n h = refl
    branches_same (entry u s rest) t a b n h =
        ap (λ v. v ∷ branch_values g rest t a) (value_same s t (a ++ u) (b ++ u) n (values_next a b u h)) ∙ ap (λ vs. value g s t (b ++ u) ∷ vs) (branches_same rest t a b n h)

  pub vector_same : (r : Plan) (d : List Condition) (a b : List ℤ) → EachOf N d → SameValues a b → vector g d a r ≡ vector g d b r
  vector_same r [] a b n h = refl
  vector_same r (c ∷ d) a b n h = ap (λ v. v ∷ vector g d a r) (value_same r c.target a b n.0 h) ∙ ap (λ vs. value g r c.target b ∷ vs) (vector_same r d a b n.1 h)

  -- from scope i on the same is allowed
  pub record SameAfter (i : ℕ) (a b : List ℤ) : Type 0 where
    pub count : length a ≡ before g i
    pub other : length b ≡ before g i
    pub declared : InBox a (declared_box g)
    pub other_declared : InBox b (declared_box g)
    pub allowed : (k : ℕ) (u : List ℤ) → i ≤ k → length (a ++ u) ≡ before g (suc k) → InBox (a ++ u) (declared_box g) → InBox (b ++ u) (declared_box g) → allows g k (a ++ u) ≡ allows g k (b ++ u)
    pub values : SameValues a b

  pub same_back : (i : ℕ) (a b : List ℤ) → SameAfter i a b → SameAfter i b a
  same_back i a b h = record {
    count = h.other;
    other = h.count;
    declared = h.other_declared;
    other_declared = h.declared;
    allowed = λ k u l n j m. sym (h.allowed k u l (long u n) m j);
    values = λ x n u. sym (h.values x n u);
  }
    where
      long : {m : ℕ} (u : List ℤ) → length (b ++ u) ≡ m → length (a ++ u) ≡ m
      long u n = let c = h.count in let o = h.other in omega (arith, length-append a u, length-append b u, n)

  pub move_same : (i : ℕ) (a b t : List ℤ) → SameAfter i a b → IsMove g i a t → IsMove g i b t
  move_same i a b t h m = record {
    is_tuple = m.is_tuple;
    is_allowed = sym (h.allowed i t (omega arith) (tuple_long g i a t h.count m.is_tuple) (tuple_lies g i a t (declared_box g) h.count h.declared m.is_tuple) (tuple_lies g i b t (declared_box g) h.other h.other_declared m.is_tuple)) ∙ m.is_allowed;
  }

  pub same_next : (i : ℕ) (a b t : List ℤ) → SameAfter i a b → IsMove g i a t → SameAfter (suc i) (a ++ t) (b ++ t)
  same_next i a b t h m = record {
    count = move_count g i a t h.count m;
    other = move_count g i b t h.other (move_same i a b t h m);
    declared = tuple_lies g i a t (declared_box g) h.count h.declared m.is_tuple;
    other_declared = tuple_lies g i b t (declared_box g) h.other h.other_declared m.is_tuple;
    allowed = λ k u l n j o.
        (ap (allows g k) (append_more a t u)
        ∙ (h.allowed k (t ++ u) (omega arith) (ap length (sym (append_more a t u)) ∙ n) (subst (λ w. InBox w (declared_box g)) (append_more a t u) j) (subst (λ w. InBox w (declared_box g)) (append_more b t u) o)
        ∙ ap (allows g k) (sym (append_more b t u))));
    values = values_next a b t h.values;
  }

  filter_same : {X : Type 0} (p q : X → Bool) (xs : List X) → ((x : X) → Among x xs → p x ≡ q x) → filter p xs ≡ filter q xs
  filter_same p q [] f = refl
  filter_same p q (x ∷ xs) f = by (p x) (q x) (f x (inl refl)) (filter_same p q xs (λ y m. f y (inr m)))
    where
      by : (c d : Bool) → c ≡ d → filter p xs ≡ filter q xs → cond c (x ∷ filter p xs) (filter p xs) ≡ cond d (x ∷ filter q xs) (filter q xs)
      by true true e k = ap (λ ys. x ∷ ys) k
      by true false e k = cc
      by false true e k = cc
      by false false e k = k

  moves_same : (i : ℕ) (a b : List ℤ) → SameAfter i a b → moves g i a ≡ moves g i b
  moves_same i a b h = filter_same (λ t. allows g i (a ++ t)) (λ t. allows g i (b ++ t)) (tuples (scope_domains g i)) (λ t m.
      (let l = tuples_to (scope_domains g i) t m in
      h.allowed i t (omega arith) (tuple_long g i a t h.count l) (tuple_lies g i a t (declared_box g) h.count h.declared l) (tuple_lies g i b t (declared_box g) h.other h.other_declared l)))

  -- optimal strategies
  module _ (goal : before g (suc (length g.scopes)) ≡ before g (length g.scopes)) where
    pub optimal_same : (later : List Scope) (i : ℕ) → EachWish N later → i + length later ≡ length g.scopes → (a b : List ℤ) → SameAfter i a b → (r : Plan) → Optimal g later i a r → Optimal g later i b r
    optimal_same [] i w n a b h r o = (o.0, ap (allows g i) (sym (append_none b)) ∙ (sym same ∙ (ap (allows g i) (append_none a) ∙ o.1)))
      where
        wide : before g i ≡ before g (suc i)
        wide = let e : i ≡ length g.scopes = omega arith in ap (before g) e ∙ (sym goal ∙ ap (λ k. before g (suc k)) (sym e))

        same : allows g i (a ++ []) ≡ allows g i (b ++ [])
        same = h.allowed i [] (omega arith) (ap length (append_none a) ∙ (h.count ∙ wide)) (subst (λ z. InBox z (declared_box g)) (sym (append_none a)) h.declared) (subst (λ z. InBox z (declared_box g)) (sym (append_none b)) h.other_declared)
    optimal_same (s ∷ later) i w n a b h r o =
        by s.kind s.condition w.0 r o
        (λ t m q p. optimal_same later (suc i) w.1 (omega arith) (a ++ t) (b ++ t) (same_next i a b t h m) q p)
        (λ t m q p. optimal_same later (suc i) w.1 (omega arith) (b ++ t) (a ++ t) (same_next i b a t (same_back i a b h) m) q p)
      where
        Over : List ℤ → List ℤ → Type 0
        Over c d = (t : List ℤ) → IsMove g i c t → (q : Plan) → Optimal g later (suc i) (c ++ t) q → Optimal g later (suc i) (d ++ t) q

        best : (x : Option Condition) (t : List ℤ) (q : Plan) → WishOf N x → Over b a → NoBetterChoice x g i a (Optimal g later (suc i)) t q → NoBetterChoice x g i b (Optimal g later (suc i)) t q
        best None t q w back k = tt
        best (Some c) t q w back k = λ u r m p.
            subst (λ z. is_better c.sense (value g r c.target (b ++ u)) z ≡ false) (value_same q c.target (a ++ t) (b ++ t) w (values_next a b t h.values))
            (subst (λ z. is_better c.sense z (value g q c.target (a ++ t)) ≡ false) (value_same r c.target (a ++ u) (b ++ u) w (values_next a b u h.values))
            (k u r (move_same i b a u (same_back i a b h) m) (back u m r p)))

        each : Over a b → (l : Entries) → ((t : List ℤ) → Among t (entry_tuples l) → IsMove g i a t) → EachEntry (λ t q. Optimal g later (suc i) (a ++ t) q) l → EachEntry (λ t q. Optimal g later (suc i) (b ++ t) q) l
        each to no_entries m k = tt
        each to (entry t q rest) m k = (to t (m t (inl refl)) q k.0, each to rest (λ u j. m u (inr j)) k.1)

        by : (k : Kind) (x : Option Condition) → WishOf N x → (r : Plan) → Turn k r (ChoosesBest x g i a (Optimal g later (suc i))) (Covers g i a (Optimal g later (suc i))) → Over a b → Over b a →
            Turn k r (ChoosesBest x g i b (Optimal g later (suc i))) (Covers g i b (Optimal g later (suc i)))
        by Exists x w finish o to back = absurd o
        by Exists x w (choose t q) o to back = record { is_move = move_same i a b t h o.is_move; after = to t o.is_move q o.after; best = best x t q w back o.best }
        by Exists x w (answer l) o to back = absurd o
        by Forall x w finish o to back = absurd o
        by Forall x w (choose t q) o to back = absurd o
        by Forall x w (answer l) o to back = record { tuples = o.tuples ∙ moves_same i a b h; each = each to l (λ t m. moves_to g i a t (subst (Among t) o.tuples m)) o.each }
