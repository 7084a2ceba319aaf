-- The old game and the one with opposing scopes agree at places that belong together; at an added scope nothing is chosen.
use Rattle.std.proofs.Common.{◌≡◌, refl, sym, ap, ◌∙◌, subst, ℕ, zero, suc, ◌+◌, Bool, true, false, cond, List, [], ◌∷◌, ◌++◌, drop, take, map, filter, IsTrue}
use Rattle.std.specs.Prelude.{nat_lt, ◌==◌, ◌&&◌, count_by, slice_get, ℤ}
use Rattle.std.specs.List.{list_all}
use Rattle.std.proofs.lemmas.List.Sums.{sum_by-cons}
use Rattle.qc_model.specs.declared.problem.Variable.{Variable}
use Rattle.qc_model.specs.declared.problem.Aggregate.{Aggregate}
use Rattle.qc_model.specs.Content.{Game, Rule}
use Rattle.qc_model.specs.Domains.{domain_values, declared_box}
use Rattle.qc_model.specs.Holds.{holds_on}
use Rattle.qc_model.specs.Lists.{LiesIn, tuples}
use Rattle.qc_model.specs.Game.{before, scope_domains, allows, IsMove, moves}
use Rattle.qc_model.specs.Value.{aggregate_fold, inner_target}
use Rattle.qc_pessimist.specs.Opposed.{moved, move_variable, move_aggregate, move_rule, opposed_game}
use Rattle.qc_pessimist.proofs.Numbers.{moved_lt, moved_up_to, moved_eq, moved_beside}

-- scope i of the one is scope j of the other
pub record SameScope (g h : Game) (i j : ℕ) : Type 0 where
  pub domains : scope_domains h j ≡ scope_domains g i
  pub allowed : (vs : List ℤ) → allows h j vs ≡ allows g i vs

-- scope j has no variables and no restriction
pub record IsPass (h : Game) (j : ℕ) : Type 0 where
  pub domains : scope_domains h j ≡ []
  pub allowed : (vs : List ℤ) → IsTrue (allows h j vs)

-- each aggregate folds the same target in the same way
pub record SameAggregates (g h : Game) : Type 0 where
  pub folds : (q : ℕ) (xs : List ℤ) → aggregate_fold (slice_get h.aggregates q) xs ≡ aggregate_fold (slice_get g.aggregates q) xs
  pub targets : (q : ℕ) → inner_target (slice_get h.aggregates q) ≡ inner_target (slice_get g.aggregates q)

counted : (f : ℕ → ℕ) (m n : ℕ) → ((k : ℕ) → nat_lt (f k) m ≡ nat_lt k n) → (xs : List Variable) →
    count_by (λ (x : Variable). nat_lt x.scope.0 m) (map (move_variable f) xs) ≡ count_by (λ (x : Variable). nat_lt x.scope.0 n) xs
counted f m n e [] = refl
counted f m n e (x ∷ xs) =
    sum_by-cons (λ (y : Variable). cond (nat_lt y.scope.0 m) 1 0) (move_variable f x) (map (move_variable f) xs)
    ∙ ap (λ t. cond t 1 0 + count_by (λ (y : Variable). nat_lt y.scope.0 m) (map (move_variable f) xs)) (e x.scope.0)
    ∙ ap (λ k. cond (nat_lt x.scope.0 n) 1 0 + k) (counted f m n e xs)
    ∙ sym (sum_by-cons (λ (y : Variable). cond (nat_lt y.scope.0 n) 1 0) x xs)

same_box : (f : ℕ → ℕ) (xs : List Variable) → map (λ (x : Variable). domain_values x.domain) (map (move_variable f) xs) ≡ map (λ (x : Variable). domain_values x.domain) xs
same_box f [] = refl
same_box f (x ∷ xs) = ap (λ ds. domain_values x.domain ∷ ds) (same_box f xs)

-- the rules of one owner hold on the same values
held : (f : ℕ → ℕ) (m n : ℕ) → ((k : ℕ) → (f k == m) ≡ (k == n)) → (vs : List ℤ) (cs : List Rule) →
    list_all (λ c. holds_on c vs) (filter (λ (c : Rule). c.owner.0 == m) (map (move_rule f) cs)) ≡ list_all (λ c. holds_on c vs) (filter (λ (c : Rule). c.owner.0 == n) cs)
held f m n e vs [] = refl
held f m n e vs (c ∷ cs) =
    ap (λ t. list_all (λ c. holds_on c vs) (cond t (move_rule f c ∷ filter (λ (c : Rule). c.owner.0 == m) (map (move_rule f) cs)) (filter (λ (c : Rule). c.owner.0 == m) (map (move_rule f) cs)))) (e c.owner.0) ∙ here (c.owner.0 == n) (held f m n e vs cs)
  where
    here : (t : Bool) → list_all (λ c. holds_on c vs) (filter (λ (c : Rule). c.owner.0 == m) (map (move_rule f) cs)) ≡ list_all (λ c. holds_on c vs) (filter (λ (c : Rule). c.owner.0 == n) cs) →
        list_all (λ c. holds_on c vs) (cond t (move_rule f c ∷ filter (λ (c : Rule). c.owner.0 == m) (map (move_rule f) cs)) (filter (λ (c : Rule). c.owner.0 == m) (map (move_rule f) cs)))
        ≡ list_all (λ c. holds_on c vs) (cond t (c ∷ filter (λ (c : Rule). c.owner.0 == n) cs) (filter (λ (c : Rule). c.owner.0 == n) cs))
    here true h = ap (λ t. holds_on c vs && t) h
    here false h = h

-- no rule has this owner
unowned : (f : ℕ → ℕ) (m : ℕ) → ((k : ℕ) → (f k == m) ≡ false) → (cs : List Rule) → filter (λ (c : Rule). c.owner.0 == m) (map (move_rule f) cs) ≡ []
unowned f m e [] = refl
unowned f m e (c ∷ cs) =
    ap (λ t. cond t (move_rule f c ∷ filter (λ (c : Rule). c.owner.0 == m) (map (move_rule f) cs)) (filter (λ (c : Rule). c.owner.0 == m) (map (move_rule f) cs))) (e c.owner.0)
    ∙ unowned f m e cs

same_fold : (f : ℕ → ℕ) (qs : List Aggregate) (k : ℕ) (xs : List ℤ) → aggregate_fold (slice_get (map (move_aggregate f) qs) k) xs ≡ aggregate_fold (slice_get qs k) xs
same_fold f [] k xs = refl
same_fold f (x ∷ qs) zero xs = refl
same_fold f (x ∷ qs) (suc k) xs = same_fold f qs k xs

same_target : (f : ℕ → ℕ) (qs : List Aggregate) (k : ℕ) → inner_target (slice_get (map (move_aggregate f) qs) k) ≡ inner_target (slice_get qs k)
same_target f [] k = refl
same_target f (x ∷ qs) zero = refl
same_target f (x ∷ qs) (suc k) = same_target f qs k

nothing_between : {X : Type 0} (n : ℕ) (xs : List X) → drop n (take n xs) ≡ []
nothing_between zero [] = refl
nothing_between zero (x ∷ xs) = refl
nothing_between (suc n) [] = refl
nothing_between (suc n) (x ∷ xs) = nothing_between n xs

module _ (q : ℕ → Bool) (g : Game) where
  pub before_moved : (i : ℕ) → before (opposed_game q g) (moved q 0 g.scopes i) ≡ before g i
  before_moved i = counted (moved q 0 g.scopes) (moved q 0 g.scopes i) i (λ k. moved_lt q 0 g.scopes k i) g.variables

  pub before_next : (i : ℕ) → before (opposed_game q g) (suc (moved q 0 g.scopes i)) ≡ before g (suc i)
  before_next i = counted (moved q 0 g.scopes) (suc (moved q 0 g.scopes i)) (suc i) (λ k. moved_up_to q 0 g.scopes k i) g.variables

  pub same_declared : declared_box (opposed_game q g) ≡ declared_box g
  same_declared = same_box (moved q 0 g.scopes) g.variables

  pub same_scope : (i : ℕ) → SameScope g (opposed_game q g) i (moved q 0 g.scopes i)
  same_scope i = record {
    domains =
        ap (λ n. drop n (take (before (opposed_game q g) (suc (moved q 0 g.scopes i))) (declared_box (opposed_game q g)))) (before_moved i)
        ∙ ap (λ n. drop (before g i) (take n (declared_box (opposed_game q g)))) (before_next i)
        ∙ ap (λ ds. drop (before g i) (take (before g (suc i)) ds)) same_declared;
    allowed = λ vs. held (moved q 0 g.scopes) (moved q 0 g.scopes i) i (λ k. moved_eq q 0 g.scopes k i) vs g.constraints;
  }

  -- where a scope is added after scope i
  pub added_is_pass : (i : ℕ) → moved q 0 g.scopes (suc i) ≡ suc (suc (moved q 0 g.scopes i)) → IsPass (opposed_game q g) (suc (moved q 0 g.scopes i))
  added_is_pass i e = record {
    domains =
        ap (λ n. drop n (take (before (opposed_game q g) (suc (suc (moved q 0 g.scopes i)))) (declared_box (opposed_game q g)))) (before_next i)
        ∙ ap (λ n. drop (before g (suc i)) (take (before (opposed_game q g) n) (declared_box (opposed_game q g)))) (sym e)
        ∙ ap (λ n. drop (before g (suc i)) (take n (declared_box (opposed_game q g)))) (before_moved (suc i))
        ∙ nothing_between (before g (suc i)) (declared_box (opposed_game q g));
    allowed = λ vs. ap (list_all (λ c. holds_on c vs)) (unowned (moved q 0 g.scopes) (suc (moved q 0 g.scopes i)) (moved_beside q 0 g.scopes i e) g.constraints);
  }

  pub same_aggregates : SameAggregates g (opposed_game q g)
  same_aggregates = record {
    folds = λ k xs. same_fold (moved q 0 g.scopes) g.aggregates k xs;
    targets = λ k. same_target (moved q 0 g.scopes) g.aggregates k;
  }

-- scopes that belong together have the same allowed tuples
pub move_to : (g h : Game) (i j : ℕ) → SameScope g h i j → (a t : List ℤ) → IsMove g i a t → IsMove h j a t
move_to g h i j e a t m = record { is_tuple = subst (LiesIn t) (sym e.domains) m.is_tuple; is_allowed = e.allowed (a ++ t) ∙ m.is_allowed }

pub move_from : (g h : Game) (i j : ℕ) → SameScope g h i j → (a t : List ℤ) → IsMove h j a t → IsMove g i a t
move_from g h i j e a t m = record { is_tuple = subst (LiesIn t) e.domains m.is_tuple; is_allowed = sym (e.allowed (a ++ t)) ∙ m.is_allowed }

same_filter : (p r : List ℤ → Bool) → ((t : List ℤ) → p t ≡ r t) → (ts : List (List ℤ)) → filter p ts ≡ filter r ts
same_filter p r e [] = refl
same_filter p r e (t ∷ ts) =
    ap (λ b. cond b (t ∷ filter p ts) (filter p ts)) (e t) ∙ ap (λ us. cond (r t) (t ∷ us) us) (same_filter p r e ts)

pub same_moves : (g h : Game) (i j : ℕ) → SameScope g h i j → (a : List ℤ) → moves h j a ≡ moves g i a
same_moves g h i j e a =
    ap (λ ds. filter (λ t. allows h j (a ++ t)) (tuples ds)) e.domains
    ∙ same_filter (λ t. allows h j (a ++ t)) (λ t. allows g i (a ++ t)) (λ t. e.allowed (a ++ t)) (tuples (scope_domains g i))

-- at a scope without variables and restriction the one choice is the empty one
pub pass_is_move : (h : Game) (j : ℕ) → IsPass h j → (a : List ℤ) → IsMove h j a []
pass_is_move h j e a = record { is_tuple = subst (LiesIn []) (sym e.domains) tt; is_allowed = e.allowed (a ++ []) }

pub pass_is_empty : (h : Game) (j : ℕ) → IsPass h j → (a t : List ℤ) → IsMove h j a t → t ≡ []
pass_is_empty h j e a t m = empty t (subst (LiesIn t) e.domains m.is_tuple)
  where
    empty : (t : List ℤ) → LiesIn t [] → t ≡ []
    empty [] k = refl
    empty (x ∷ t) k = absurd k
