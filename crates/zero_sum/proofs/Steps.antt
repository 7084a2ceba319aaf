-- One more part made, in the loops and recursions that go over scopes and constraints by number.
use Rattle.std.proofs.Common.{◌≡◌, refl, sym, ap, ◌∙◌, ℕ, zero, suc, ◌+◌, ◌<◌, ◌≤◌, Bool, true, false, ◌&&◌, ◌||◌, List, [], ◌∷◌, ◌++◌, take, drop, map, length, append_assoc, arith, ℤ, cond}
use Rattle.std.specs.Prelude.{Option, Some, None, slice_get, is_none, is_some, not, nat_le}
use Rattle.std.specs.List.{list_all}
use Rattle.std.proofs.lemmas.Bool.Decides.{nat_tests}
use Rattle.qc_model.specs.declared.problem.Kind.{Kind}
use Rattle.qc_model.specs.declared.problem.Kind.TheVariants.{Forall}
use Rattle.qc_model.specs.declared.problem.Target.TheVariants.{Var, Aggregate as Agg}
use Rattle.qc_model.specs.declared.problem.VarId.{VarId}
use Rattle.qc_model.specs.declared.problem.AggId.{AggId}
use Rattle.qc_model.specs.Value.{aggregate_fold, inner_target}
use Rattle.zero_sum.specs.declared.stake.Stake.{Stake}
use Rattle.qc_model.specs.declared.problem.Sense.{Sense}
use Rattle.qc_model.specs.declared.problem.Target.{Target}
use Rattle.qc_model.specs.declared.problem.Condition.{Condition}
use Rattle.qc_model.specs.declared.problem.Scope.{Scope}
use Rattle.qc_model.specs.Content.{Game, Rule}
use Rattle.zero_sum.specs.Stake.{is_as_good, is_by_worst, is_free, stake_at, stake_past, stake_from, defaults_past, defaults_from}
use Rattle.zero_sum.specs.Bounded.{with_rule}

next : (i : ℕ) → suc i ≡ i + 1
next i = omega arith

pub drop_here : {X : Type 0} (xs : List X) (i : ℕ) (x : X) → slice_get xs i ≡ Some x → drop i xs ≡ x ∷ drop (i + 1) xs
drop_here [] i x h = absurd cc
drop_here (y ∷ ys) zero x h = cc
drop_here (y ∷ ys) (suc i) x h = drop_here ys i x h ∙ ap (λ n. x ∷ drop n (y ∷ ys)) (shift i)
  where
    shift : (i : ℕ) → suc (i + 1) ≡ suc i + 1
    shift i = omega arith

pub drop_all : {X : Type 0} (xs : List X) (i : ℕ) → i ≡ length xs → drop i xs ≡ []
drop_all xs i e = ap (λ n. drop n xs) e ∙ none xs
  where
    none : {X : Type 0} (xs : List X) → drop (length xs) xs ≡ []
    none [] = refl
    none (x ∷ xs) = none xs

pub map_step : {X Y : Type 0} (f : X → Y) (xs : List X) (i : ℕ) (x : X) (y : Y) (had now all : List Y) → slice_get xs i ≡ Some x →
    had ++ map f (drop i xs) ≡ all → now ≡ had ++ y ∷ [] → y ≡ f x → now ++ map f (drop (i + 1) xs) ≡ all
map_step f xs i x y had now all at before first e =
    ap (λ ys. ys ++ map f (drop (i + 1) xs)) (first ∙ ap (λ z. had ++ z ∷ []) e)
    ∙ append_assoc had (f x ∷ []) (map f (drop (i + 1) xs))
    ∙ ap (λ ys. had ++ map f ys) (sym (drop_here xs i x at))
    ∙ before

pub copy_step : {X : Type 0} (xs : List X) (i : ℕ) (x y : X) (had now all : List X) → slice_get xs i ≡ Some x →
    had ++ drop i xs ≡ all → now ≡ had ++ y ∷ [] → y ≡ x → now ++ drop (i + 1) xs ≡ all
copy_step xs i x y had now all at before first e =
    ap (λ ys. ys ++ drop (i + 1) xs) (first ∙ ap (λ z. had ++ z ∷ []) e)
    ∙ append_assoc had (x ∷ []) (drop (i + 1) xs)
    ∙ ap (λ ys. had ++ ys) (sym (drop_here xs i x at))
    ∙ before

-- what is at stake, by the scope with the number i and those after it
pub stake_step : (g : Game) (c : Sense) (i : ℕ) (s : Scope) (k : Kind) (p : Option ℕ) (t : Target) → slice_get g.scopes i ≡ Some s → s.kind ≡ k →
    stake_from g c (drop i g.scopes) i p t ≡ stake_past k g c i (stake_from g c (drop (i + 1) g.scopes) (i + 1)) p t
stake_step g c i s k p t at e =
    ap (λ ks. stake_from g c ks i p t) (drop_here g.scopes i s at)
    ∙ ap (λ n. stake_past s.kind g c i (stake_from g c (drop (i + 1) g.scopes) n) p t) (next i)
    ∙ ap (λ j. stake_past j g c i (stake_from g c (drop (i + 1) g.scopes) (i + 1)) p t) e

pub defaults_step : (g : Game) (c : Sense) (v : ℤ) (i : ℕ) (s : Scope) (k : Kind) (t : Target) → slice_get g.scopes i ≡ Some s → s.kind ≡ k →
    defaults_from g c v (drop i g.scopes) i t ≡ defaults_past k g c v i (defaults_from g c v (drop (i + 1) g.scopes) (i + 1)) t
defaults_step g c v i s k t at e =
    ap (λ ks. defaults_from g c v ks i t) (drop_here g.scopes i s at)
    ∙ ap (λ n. defaults_past s.kind g c v i (defaults_from g c v (drop (i + 1) g.scopes) n) t) (next i)
    ∙ ap (λ j. defaults_past j g c v i (defaults_from g c v (drop (i + 1) g.scopes) (i + 1)) t) e

plain_step : (ks : List Scope) (i : ℕ) (s : Scope) → slice_get ks i ≡ Some s →
    list_all (λ (s : Scope). is_none s.condition) (drop i ks) ≡ (is_none s.condition && list_all (λ (s : Scope). is_none s.condition) (drop (i + 1) ks))
plain_step ks i s at = ap (list_all (λ (s : Scope). is_none s.condition)) (drop_here ks i s at)

none_is : (x : Option Condition) (b : Bool) → is_some x ≡ not b → is_none x ≡ b
none_is None true e = refl
none_is None false e = absurd cc
none_is (Some c) true e = absurd cc
none_is (Some c) false e = refl

pub plain_more : (ks : List Scope) (i : ℕ) (s : Scope) (b r : Bool) → slice_get ks i ≡ Some s → is_some s.condition ≡ not b → b ≡ true → r ≡ list_all (λ (s : Scope). is_none s.condition) (drop (i + 1) ks) →
    r ≡ list_all (λ (s : Scope). is_none s.condition) (drop i ks)
plain_more ks i s b r at is true_is h = h ∙ sym (plain_step ks i s at ∙ ap (λ w. w && list_all (λ (s : Scope). is_none s.condition) (drop (i + 1) ks)) (none_is s.condition b is ∙ true_is))

pub plain_not : (ks : List Scope) (i : ℕ) (s : Scope) (b : Bool) → slice_get ks i ≡ Some s → is_some s.condition ≡ not b → b ≡ false → b ≡ list_all (λ (s : Scope). is_none s.condition) (drop i ks)
plain_not ks i s b at is false_is = false_is ∙ sym (plain_step ks i s at ∙ ap (λ w. w && list_all (λ (s : Scope). is_none s.condition) (drop (i + 1) ks)) (none_is s.condition b is ∙ false_is))

pub stake_variable : (g : Game) (c : Sense) (i : ℕ) (s : Scope) (p : Option ℕ) (t : Target) (x : VarId) (r : Option Stake) → slice_get g.scopes i ≡ Some s → s.kind ≡ Forall → t ≡ Var x →
    r ≡ stake_at c x p → r ≡ stake_from g c (drop i g.scopes) i p t
stake_variable g c i s p t x r at k e h =
    h ∙ sym (stake_step g c i s Forall p t at k ∙ ap (stake_past Forall g c i (stake_from g c (drop (i + 1) g.scopes) (i + 1)) p) e)

pub stake_inner : (g : Game) (c : Sense) (i : ℕ) (s : Scope) (p : Option ℕ) (t : Target) (q : AggId) (w : Option Target) (u : Target) (r : Option Stake) → slice_get g.scopes i ≡ Some s → s.kind ≡ Forall → t ≡ Agg q →
    w ≡ cond (is_by_worst c (slice_get g.aggregates q.0)) (Some (inner_target (slice_get g.aggregates q.0))) None → w ≡ Some u →
    r ≡ stake_from g c (drop (i + 1) g.scopes) (i + 1) None u → r ≡ stake_from g c (drop i g.scopes) i p t
stake_inner g c i s p t q w u r at k e worst some h =
    h ∙ sym (stake_step g c i s Forall p t at k ∙ ap (stake_past Forall g c i (stake_from g c (drop (i + 1) g.scopes) (i + 1)) p) e
    ∙ pick (is_by_worst c (slice_get g.aggregates q.0)) (inner_target (slice_get g.aggregates q.0)) (sym worst ∙ some))
  where
    pick : (b : Bool) (x : Target) → cond b (Some x) None ≡ Some u →
        cond b (stake_from g c (drop (i + 1) g.scopes) (i + 1) None x) None ≡ stake_from g c (drop (i + 1) g.scopes) (i + 1) None u
    pick true x e = let same : x ≡ u = cc in ap (stake_from g c (drop (i + 1) g.scopes) (i + 1) None) same
    pick false x e = absurd cc

pub stake_none : (g : Game) (c : Sense) (i : ℕ) (s : Scope) (p : Option ℕ) (t : Target) (q : AggId) (w : Option Target) → slice_get g.scopes i ≡ Some s → s.kind ≡ Forall → t ≡ Agg q →
    w ≡ cond (is_by_worst c (slice_get g.aggregates q.0)) (Some (inner_target (slice_get g.aggregates q.0))) None → w ≡ None →
    None ≡ stake_from g c (drop i g.scopes) i p t
stake_none g c i s p t q w at k e worst none =
    sym (stake_step g c i s Forall p t at k ∙ ap (stake_past Forall g c i (stake_from g c (drop (i + 1) g.scopes) (i + 1)) p) e
    ∙ pick (is_by_worst c (slice_get g.aggregates q.0)) (inner_target (slice_get g.aggregates q.0)) (sym worst ∙ none))
  where
    pick : (b : Bool) (x : Target) → cond b (Some x) None ≡ None → cond b (stake_from g c (drop (i + 1) g.scopes) (i + 1) None x) None ≡ None
    pick true x e = absurd cc
    pick false x e = refl

pub defaults_variable : (g : Game) (c : Sense) (v : ℤ) (i : ℕ) (s : Scope) (t : Target) (x : VarId) → slice_get g.scopes i ≡ Some s → s.kind ≡ Forall → t ≡ Var x → true ≡ defaults_from g c v (drop i g.scopes) i t
defaults_variable g c v i s t x at k e =
    sym (defaults_step g c v i s Forall t at k ∙ ap (defaults_past Forall g c v i (defaults_from g c v (drop (i + 1) g.scopes) (i + 1))) e)

module _ (g : Game) (c : Sense) (v : ℤ) (i : ℕ) (s : Scope) (t : Target) (q : AggId) (b : Bool) (at : slice_get g.scopes i ≡ Some s) (k : s.kind ≡ Forall) (e : t ≡ Agg q)
    (fits : b ≡ (is_free g i || is_as_good c (aggregate_fold (slice_get g.aggregates q.0) []) v)) where
  through : defaults_from g c v (drop i g.scopes) i t ≡ (b && defaults_from g c v (drop (i + 1) g.scopes) (i + 1) (inner_target (slice_get g.aggregates q.0)))
  through =
      defaults_step g c v i s Forall t at k ∙ ap (defaults_past Forall g c v i (defaults_from g c v (drop (i + 1) g.scopes) (i + 1))) e
      ∙ ap (λ w. w && defaults_from g c v (drop (i + 1) g.scopes) (i + 1) (inner_target (slice_get g.aggregates q.0))) (sym fits)

  pub defaults_more : (u : Target) (r : Bool) → b ≡ true → u ≡ inner_target (slice_get g.aggregates q.0) → r ≡ defaults_from g c v (drop (i + 1) g.scopes) (i + 1) u → r ≡ defaults_from g c v (drop i g.scopes) i t
  defaults_more u r fit inner h =
      h ∙ ap (defaults_from g c v (drop (i + 1) g.scopes) (i + 1)) inner
      ∙ sym (through ∙ ap (λ w. w && defaults_from g c v (drop (i + 1) g.scopes) (i + 1) (inner_target (slice_get g.aggregates q.0))) fit)

  pub defaults_not : b ≡ false → b ≡ defaults_from g c v (drop i g.scopes) i t
  defaults_not miss = miss ∙ sym (through ∙ ap (λ w. w && defaults_from g c v (drop (i + 1) g.scopes) (i + 1) (inner_target (slice_get g.aggregates q.0))) miss)

-- one more constraint behind those of earlier places stands where the first later one stood
pub stands_behind : (r : Rule) (cs : List Rule) (k : ℕ) → k ≤ length cs → ((j : ℕ) (c : Rule) → j < k → slice_get cs j ≡ Some c → c.owner.0 ≤ r.owner.0) →
    ((c : Rule) → slice_get cs k ≡ Some c → r.owner.0 < c.owner.0) → take k cs ++ r ∷ drop k cs ≡ with_rule r cs
stands_behind r [] zero le before first = refl
stands_behind r [] (suc k) le before first = absurd (omega arith)
stands_behind r (c ∷ cs) zero le before first = sym (ap (λ b. cond b (c ∷ with_rule r cs) (r ∷ c ∷ cs)) (later c.owner.0 r.owner.0 (first c refl)))
  where
    later : (m n : ℕ) → n < m → nat_le m n ≡ false
    later m n h = grind (arith, nat_tests)
stands_behind r (c ∷ cs) (suc k) le before first =
    ap (λ ds. c ∷ ds) (stands_behind r cs k (omega arith) (λ j d lt at. before (suc j) d (omega arith) at) (λ d at. first d at))
    ∙ sym (ap (λ b. cond b (c ∷ with_rule r cs) (r ∷ c ∷ cs)) (earlier c.owner.0 r.owner.0 (before 0 c (omega arith) refl)))
  where
    earlier : (m n : ℕ) → m ≤ n → nat_le m n ≡ true
    earlier m n h = grind (arith, nat_tests)

-- the constraints with the one put in at that place
pub put_behind : (r e : Rule) (cs items slice now : List Rule) (k : ℕ) → now ≡ take k items ++ e ∷ drop k items → items ≡ cs → e ≡ r → slice ≡ items → k ≤ length slice →
    ((j : ℕ) (c : Rule) → j < k → slice_get slice j ≡ Some c → c.owner.0 ≤ r.owner.0) → ((c : Rule) → slice_get slice k ≡ Some c → r.owner.0 < c.owner.0) → now ≡ with_rule r cs
put_behind r e cs items slice now k put same is all le before first =
    put ∙ ap (λ ds. take k ds ++ e ∷ drop k ds) (sym all) ∙ ap (λ c. take k slice ++ c ∷ drop k slice) is ∙ stands_behind r slice k le before first ∙ ap (with_rule r) (all ∙ same)
