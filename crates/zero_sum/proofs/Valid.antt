-- The bounded game of a valid game is valid, where its value is a number and it has room for one more constraint.
use Rattle.std.proofs.Common.{◌≡◌, refl, sym, ap, ◌∙◌, subst, ℕ, zero, suc, ◌+◌, ◌<◌, ◌≤◌, Bool, true, false, ◌&&◌, ◌||◌, not, List, [], ◌∷◌, ◌++◌, map, length, cond, arith, ℤ}
use Rattle.std.specs.Prelude.{nat_lt, nat_le, Option, Some, None, slice_get}
use Rattle.std.specs.List.{list_all, list_any}
use Rattle.std.proofs.lemmas.List.{length-map}
use Rattle.std.proofs.lemmas.Bool.Decides.{nat_tests}
use Rattle.qc_model.specs.declared.problem.Kind.{Kind}
use Rattle.qc_model.specs.declared.problem.Kind.TheVariants.{Exists, Forall}
use Rattle.qc_model.specs.declared.problem.Sense.{Sense}
use Rattle.qc_model.specs.declared.problem.Sense.TheVariants.{Min, Max}
use Rattle.qc_model.specs.declared.problem.Target.{Target}
use Rattle.qc_model.specs.declared.problem.Target.TheVariants.{Var, Aggregate as Agg}
use Rattle.qc_model.specs.declared.problem.VarId.{VarId}
use Rattle.qc_model.specs.declared.problem.ScopeId.{ScopeId}
use Rattle.qc_model.specs.declared.problem.Condition.{Condition}
use Rattle.qc_model.specs.declared.problem.Scope.{Scope}
use Rattle.qc_model.specs.declared.problem.Variable.{Variable}
use Rattle.qc_model.specs.declared.problem.Aggregate.{Aggregate}
use Rattle.qc_model.specs.Content.{Game, Rule}
use Rattle.qc_model.specs.Block.{of_kind}
use Rattle.qc_model.specs.Value.{inner_target}
use Rattle.qc_model.specs.Game.{before}
use Rattle.std.specs.Str.{bytes_eq}
use Rattle.std.proofs.lemmas.Bool.{and_parts, and_from}
use Rattle.qc_model.specs.Names.{is_name, names_differ}
use Rattle.qc_model.specs.Demands.{demands_after}
use Rattle.qc_model.specs.Sees.{IsVisible, IsVisibleHere, AtUniversal, ScopeSees, SeesRight, aggregates_in}
use Rattle.qc_model.specs.Bottlenecks.{bottlenecks_last}
use Rattle.qc_model.specs.Valid.{IsValid, is_number, is_variable_with, is_integer_domain, is_declared_by, is_constraint, is_in_order, is_target, is_scope, is_universal, is_fold, is_aggregate_of}
use Rattle.qc_model.proofs.Before.{before_up}
use Rattle.qc_model.proofs.InOrder.{stands_after}
use Rattle.model_laws.proofs.Seen.{after_visible}
use Rattle.zero_sum.specs.declared.stake.Stake.{Stake}
use Rattle.zero_sum.specs.Stake.{is_by_worst, only_wish, stake_past, stake_from, stake_by, stake_of}
use Rattle.zero_sum.specs.Bounded.{bound, with_rule, plain, bounded_game}
use Rattle.zero_sum.specs.Refusals.{HasRoom}
use Rattle.zero_sum.proofs.Kept.{swap}
use Rattle.zero_sum.proofs.Places.{found, passed}
use Rattle.zero_sum.proofs.Wishes.{OneWish, one_wish}

-- constraints with one more: their order, their number, and tests of all of them
below_is : (m n : ℕ) → m < n → nat_lt m n ≡ true
below_is m n h = grind (arith, nat_tests)

other_way : (m n : ℕ) → nat_le m n ≡ false → nat_le n m ≡ true
other_way m n h = grind (arith, nat_tests)

abbrev owners : List Rule → List ℕ
owners cs = map (λ (c : Rule). c.owner.0) cs

order_with : (n : ℕ) (r : Rule) (cs : List Rule) → is_in_order n (owners cs) ≡ true → r.owner.0 < n → is_in_order n (owners (with_rule r cs)) ≡ true
order_with n r [] h lt = below_is r.owner.0 n lt
order_with n r (c ∷ []) h lt = by (nat_le c.owner.0 r.owner.0) refl
  where
    by : (b : Bool) → nat_le c.owner.0 r.owner.0 ≡ b → is_in_order n (owners (cond b (c ∷ r ∷ []) (r ∷ c ∷ []))) ≡ true
    by true e = and_from _ _ e (below_is r.owner.0 n lt)
    by false e = and_from _ _ (other_way c.owner.0 r.owner.0 e) h
order_with n r (c ∷ d ∷ rest) h lt = by (nat_le c.owner.0 r.owner.0) refl (order_with n r (d ∷ rest) (and_parts _ _ h).1 lt)
  where
    after : (w : Bool) → nat_le c.owner.0 r.owner.0 ≡ true → is_in_order n (owners (cond w (d ∷ with_rule r rest) (r ∷ d ∷ rest))) ≡ true →
        is_in_order n (c.owner.0 ∷ owners (cond w (d ∷ with_rule r rest) (r ∷ d ∷ rest))) ≡ true
    after true e k = and_from _ _ (and_parts (nat_le c.owner.0 d.owner.0) (is_in_order n (d.owner.0 ∷ owners rest)) h).0 k
    after false e k = and_from _ _ e k

    by : (b : Bool) → nat_le c.owner.0 r.owner.0 ≡ b → is_in_order n (owners (with_rule r (d ∷ rest))) ≡ true →
        is_in_order n (owners (cond b (c ∷ with_rule r (d ∷ rest)) (r ∷ c ∷ d ∷ rest))) ≡ true
    by true e k = after (nat_le d.owner.0 r.owner.0) e k
    by false e k = and_from _ _ (other_way c.owner.0 r.owner.0 e) h

length_with : (r : Rule) (cs : List Rule) → length (with_rule r cs) ≡ length cs + 1
length_with r [] = refl
length_with r (c ∷ rest) = by (nat_le c.owner.0 r.owner.0) (length_with r rest)
  where
    by : (b : Bool) → length (with_rule r rest) ≡ length rest + 1 → length (cond b (c ∷ with_rule r rest) (r ∷ c ∷ rest)) ≡ length (c ∷ rest) + 1
    by true e = omega arith
    by false e = omega arith

all_rule : (p : Rule → Bool) (r : Rule) (cs : List Rule) → list_all p (with_rule r cs) ≡ (p r && list_all p cs)
all_rule p r [] = refl
all_rule p r (c ∷ rest) = by (nat_le c.owner.0 r.owner.0) (all_rule p r rest)
  where
    by : (b : Bool) → list_all p (with_rule r rest) ≡ (p r && list_all p rest) → list_all p (cond b (c ∷ with_rule r rest) (r ∷ c ∷ rest)) ≡ (p r && list_all p (c ∷ rest))
    by true e = ap (λ w. p c && w) e ∙ swap (p c) (p r) (list_all p rest)
    by false e = refl

-- the names of the variables alone
all_front : {X : Type 0} (p : X → Bool) (xs ys : List X) → list_all p (xs ++ ys) ≡ true → list_all p (xs ++ []) ≡ true
all_front p [] ys h = refl
all_front p (x ∷ xs) ys h = and_from _ _ (and_parts _ _ h).0 (all_front p xs ys (and_parts _ _ h).1)

neither : (a b : Bool) → not (a || b) ≡ true → (a ≡ false) × (not b ≡ true)
neither true b e = absurd cc
neither false b e = (refl, e)

none_front : {X : Type 0} (p : X → Bool) (xs ys : List X) → not (list_any p (xs ++ ys)) ≡ true → not (list_any p (xs ++ [])) ≡ true
none_front p [] ys h = refl
none_front p (x ∷ xs) ys h =
    let r = neither (p x) (list_any p (xs ++ ys)) h in
    ap (λ b. not (b || list_any p (xs ++ []))) r.0 ∙ none_front p xs ys r.1

differ_front : (xs ys : List (List ℕ)) → names_differ (xs ++ ys) ≡ true → names_differ (xs ++ []) ≡ true
differ_front [] ys h = refl
differ_front (x ∷ xs) ys h = and_from _ _ (none_front (bytes_eq x) xs ys (and_parts _ _ h).0) (differ_front xs ys (and_parts _ _ h).1)

-- scopes without conditions
scope_is : (xs : List Variable) (ks : List Scope) → list_all (is_scope xs) (map plain ks) ≡ true
scope_is xs [] = refl
scope_is xs (s ∷ ks) = and_from _ _ (by s.kind) (scope_is xs ks)
  where
    by : (k : Kind) → of_kind k true true ≡ true
    by Exists = refl
    by Forall = refl

module _ (g : Game) (z : Stake) (v : ℤ) where
  plain_sees : (ks : List Scope) (i : ℕ) → SeesRight (bounded_game g z v) (map plain ks) i
  plain_sees [] i = tt
  plain_sees (s ∷ ks) i = (by s.kind, plain_sees ks (suc i))
    where
      by : (k : Kind) → ScopeSees k (bounded_game g z v) (map plain ks) (suc i) None []
      by Exists = tt
      by Forall = tt

  plain_last : (ks : List Scope) → bottlenecks_last (bounded_game g z v) (map plain ks) [] ≡ true
  plain_last [] = refl
  plain_last (s ∷ ks) = by s.kind (plain_last ks)
    where
      by : (k : Kind) → bottlenecks_last (bounded_game g z v) (map plain ks) [] ≡ true →
          (of_kind k true true && bottlenecks_last (bounded_game g z v) (map plain ks) (demands_after (bounded_game g z v) k None [])) ≡ true
      by Exists h = h
      by Forall h = h

-- what is at stake is an integer variable that is declared where the player answers for it
pub record Sound (g : Game) (z : Stake) : Type 0 where
  pub integer : is_variable_with is_integer_domain (slice_get g.variables z.variable.0) ≡ true
  pub declared : z.variable.0 < before g (suc z.place.0)
  pub within : z.place.0 ≤ length g.scopes

sound_at : (g : Game) (z : Stake) (x : VarId) (n : ℕ) → z.variable ≡ x → n ≡ z.place.0 → is_variable_with is_integer_domain (slice_get g.variables x.0) ≡ true → x.0 < before g (suc n) → n ≤ length g.scopes → Sound g z
sound_at g z x n e k a b d = record {
  integer = subst (λ (y : VarId). is_variable_with is_integer_domain (slice_get g.variables y.0) ≡ true) (sym e) a;
  declared = subst (λ (y : VarId). y.0 < before g (suc z.place.0)) (sym e) (subst (λ m. x.0 < before g (suc m)) k b);
  within = subst (λ m. m ≤ length g.scopes) k d;
}

pub all_get : {X : Type 0} (p : X → Bool) (xs : List X) (k : ℕ) (x : X) → list_all p xs ≡ true → slice_get xs k ≡ Some x → p x ≡ true
all_get p [] k x h e = absurd cc
all_get p (y ∷ ys) zero x h e = let same : y ≡ x = cc in subst (λ w. p w ≡ true) same (and_parts _ _ h).0
all_get p (y ∷ ys) (suc k) x h e = all_get p ys k x (and_parts _ _ h).1 e

inner_is : (g : Game) → IsValid g → (c : Sense) (k : ℕ) → is_by_worst c (slice_get g.aggregates k) ≡ true → is_target g.variables (inner_target (slice_get g.aggregates k)) ≡ true
inner_is g valid c k h = by (slice_get g.aggregates k) refl h
  where
    by : (o : Option Aggregate) → slice_get g.aggregates k ≡ o → is_by_worst c o ≡ true → is_target g.variables (inner_target o) ≡ true
    by None e h = absurd cc
    by (Some q) e h = (and_parts (is_universal (slice_get g.scopes q.scope.0) && is_fold q.fold) (is_target g.variables q.target) (all_get (is_aggregate_of g) g.aggregates k q valid.aggregates e)).1

module _ (g : Game) (valid : IsValid g) (c : Sense) (z : Stake) where
  abbrev Walk : List Scope → ℕ → Type 0
  Walk later i =
      (p : Option ℕ) (t : Target) → IsVisible g later i t → is_target g.variables t ≡ true → ((n : ℕ) → p ≡ Some n → suc n ≡ i) → stake_from g c later i p t ≡ Some z → Sound g z

  one_on : (i n : ℕ) → Some i ≡ Some n → suc n ≡ suc i
  one_on i n e = let same : i ≡ n = cc in omega arith

  walk_past : (x : Option Condition) (later : List Scope) (i : ℕ) → i < length g.scopes → Walk later (suc i) → (k : Kind) (p : Option ℕ) (t : Target) → ScopeSees k g later (suc i) x (aggregates_in g i) →
      AtUniversal k (IsVisibleHere g i t) (IsVisible g later (suc i) t) → is_target g.variables t ≡ true → ((n : ℕ) → p ≡ Some n → suc n ≡ i) →
      stake_past k g c i (stake_from g c later (suc i)) p t ≡ Some z → Sound g z
  walk_past x later i lt f Exists p t s w target b e = f (Some i) t w target (one_on i) e
  walk_past x later i lt f Forall p (Var y) s w target b e =
      let place = found c y p z e in
      let up = b z.place.0 place.place in
      sound_at g z y z.place.0 place.variable refl target (subst (λ m. y.0 < before g m) (sym up) w) (omega arith)
  walk_past x later i lt f Forall p (Agg q) s w target b e =
      let h = passed c (slice_get g.aggregates q.0) _ z e in
      f None (inner_target (slice_get g.aggregates q.0)) (after_visible g later Forall x i (record { sense = c; target = Agg q } ∷ []) (w, tt) s).0 (inner_is g valid c q.0 h.worst) (λ n k. absurd (none_is n k)) h.rest
    where
      none_is : (n : ℕ) → None ≡ Some n → ⊥
      none_is n k = cc

  same_number : (i n : ℕ) → Some i ≡ Some n → i ≡ n
  same_number i n e = cc

  walk : (later : List Scope) (i : ℕ) → i + length later ≡ length g.scopes → SeesRight g later i → Walk later i
  walk [] i n s p (Var x) w target b e =
      let place = found c x (Some i) z e in
      let up = before_up g i in
      sound_at g z x i place.variable (same_number i z.place.0 place.place) target (omega arith) (omega arith)
  walk [] i n s p (Agg q) w target b e = absurd cc
  walk (k ∷ later) i n s p t w target b e = walk_past k.condition later i (omega arith) (walk later (suc i) (omega arith) s.1) k.kind p t s.0 w target b e

pub stake_sound : (g : Game) (z : Stake) → IsValid g → stake_of g ≡ Some z → Sound g z
stake_sound g z valid e = by (only_wish g.scopes) refl e
  where
    first_scope : (c : Condition) → OneWish c g.scopes → stake_from g c.sense g.scopes 0 None c.target ≡ Some z → Sound g z
    first_scope c one e =
        let many : length g.scopes ≡ suc (length one.later) = ap length one.first in
        let sees = subst (λ ks. SeesRight g ks 0) one.first valid.sees in
        walk g valid c.sense z one.later 1 (omega (arith, many)) sees.1 (Some 0) c.target sees.0
        (and_parts _ _ (subst (λ ks. list_all (is_scope g.variables) ks ≡ true) one.first valid.scopes)).0
        (one_on g valid c.sense z 0) (subst (λ ks. stake_from g c.sense ks 0 None c.target ≡ Some z) one.first e)

    by : (x : Option Condition) → only_wish g.scopes ≡ x → stake_by g x ≡ Some z → Sound g z
    by None w e = absurd cc
    by (Some c) w e = first_scope c (one_wish c g.scopes w) e

-- so the bound is a constraint of its place
declared_at : (g : Game) (z : Stake) → IsValid g → Sound g z → is_declared_by z.place.0 (slice_get g.variables z.variable.0) ≡ true
declared_at g z valid s = by (slice_get g.variables z.variable.0) refl s.integer
  where
    later_is : (m n : ℕ) → nat_le m n ≡ false → suc n ≤ m
    later_is m n h = grind (arith, nat_tests)

    test : (x : Variable) → slice_get g.variables z.variable.0 ≡ Some x → (b : Bool) → nat_le x.scope.0 z.place.0 ≡ b → b ≡ true
    test x at true e = refl
    test x at false e =
        let lt = s.declared in
        let after = stands_after (λ (y : Variable). y.scope.0) (length g.scopes) (suc z.place.0) g.variables z.variable.0 x valid.variable_order at (later_is x.scope.0 z.place.0 e) in
        absurd (omega arith)

    by : (o : Option Variable) → slice_get g.variables z.variable.0 ≡ o → is_variable_with is_integer_domain o ≡ true → is_declared_by z.place.0 o ≡ true
    by None at h = absurd cc
    by (Some x) at h = test x at (nat_le x.scope.0 z.place.0) refl

bound_is : (xs : List Variable) (c : Sense) (x : VarId) (p : ScopeId) (v : ℤ) → is_variable_with is_integer_domain (slice_get xs x.0) ≡ true → is_number v ≡ true → is_declared_by p.0 (slice_get xs x.0) ≡ true →
    is_constraint xs (bound (record { sense = c; variable = x; place = p }) v) ≡ true
bound_is xs Min x p v a b d = and_from _ _ (and_from _ _ (and_from _ _ a (and_from _ _ b refl)) refl) (and_from _ _ d refl)
bound_is xs Max x p v a b d = and_from _ _ (and_from _ _ (and_from _ _ b (and_from _ _ a refl)) refl) (and_from _ _ d refl)

pub bounded_is_valid : (g : Game) (z : Stake) (v : ℤ) → IsValid g → stake_of g ≡ Some z → HasRoom g v → IsValid (bounded_game g z v)
bounded_is_valid g z v valid e room =
    let s = stake_sound g z valid e in
    let number = room.0 in
    let more = room.1 in
    let within = s.within in
    record {
      few_scopes = rw length-map valid.few_scopes;
      few_variables = valid.few_variables;
      few_aggregates = omega arith;
      few_constraints = rw length_with more;
      variable_order = rw length-map valid.variable_order;
      constraint_order = rw length-map (order_with (length g.scopes + 1) (bound z v) g.constraints valid.constraint_order (omega arith));
      aggregate_order = refl;
      names = all_front is_name (map (λ (x : Variable). x.name) g.variables) (map (λ (q : Aggregate). q.name) g.aggregates) valid.names;
      distinct_names = differ_front (map (λ (x : Variable). x.name) g.variables) (map (λ (q : Aggregate). q.name) g.aggregates) valid.distinct_names;
      domains = valid.domains;
      widths = valid.widths;
      scopes = scope_is g.variables g.scopes;
      aggregates = refl;
      constraints = all_rule (is_constraint g.variables) (bound z v) g.constraints ∙ and_from _ _ (bound_is g.variables z.sense z.variable z.place v s.integer number (declared_at g z valid s)) valid.constraints;
      sees = plain_sees g z v g.scopes 0;
      bottlenecks = plain_last g z v g.scopes;
    }

-- what comes of the draft
pub draft_is_valid : (g h : Game) (z : Stake) (v : ℤ) → IsValid g → stake_of g ≡ Some z → HasRoom g v → h ≡ bounded_game g z v → IsValid h
draft_is_valid g h z v valid e room made = subst IsValid (sym made) (bounded_is_valid g z v valid e room)
