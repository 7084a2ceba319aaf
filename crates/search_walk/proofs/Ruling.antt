-- What a scope's own tree aims at, and which values its incumbent rules out.
use Rattle.std.proofs.Common.{◌≡◌, ◌∙◌, ◌≤◌, ◌<◌, ℕ, zero, suc, refl, sym, ap, subst, arith, Bool, true, false, not, ◌&&◌, ◌||◌, cond, List, [], ◌∷◌, map, length, drop, ℤ, pos, negsuc, ◌+ℤ◌, ◌-ℤ◌, ◌≤ℤ◌, ◌<ℤ◌, ◌+◌, Option, None, Some, inl, inr, add-one, drop_of_length-le}
use Rattle.std.specs.Prelude.{◌⊎◌, ◌==◌, slice_get, int_lt, int_le, nat_lt, is_none, is_some, IfSome}
use Rattle.std.specs.Int.{int_max, int_min}
use Rattle.std.specs.Ordering.{int_eq}
use Rattle.std.proofs.lemmas.Int.{ints}
use Rattle.std.proofs.lemmas.Bool.Decides.{nat_tests, Decides-int_eq}
use Rattle.std.specs.List.{list_all}
use Rattle.std.proofs.lemmas.Bool.{and_from, and_parts}
use Rattle.qc_model.specs.declared.problem.Kind.{Kind}
use Rattle.qc_model.specs.declared.problem.Kind.TheVariants.{Exists, Forall}
use Rattle.qc_model.specs.declared.problem.Sense.{Sense}
use Rattle.qc_model.specs.declared.problem.Sense.TheVariants.{Min, Max}
use Rattle.qc_model.specs.declared.problem.Target.{Target}
use Rattle.qc_model.specs.declared.problem.Target.TheVariants.{Var, Aggregate as Agg}
use Rattle.qc_model.specs.declared.problem.VarId.{VarId}
use Rattle.qc_model.specs.declared.problem.Condition.{Condition}
use Rattle.qc_model.specs.declared.problem.Scope.{Scope}
use Rattle.qc_model.specs.declared.problem.Variable.{Variable}
use Rattle.qc_model.specs.Content.{Game}
use Rattle.qc_model.specs.Block.{of_kind, no_condition_to}
use Rattle.qc_model.specs.Demands.{demands, demands_after}
use Rattle.qc_model.specs.Domains.{is_within}
use Rattle.qc_model.specs.ExistsVerdict.{best_vector, beats}
use Rattle.qc_model.specs.Game.{before}
use Rattle.qc_model.specs.Optimal.{is_better}
use Rattle.qc_model.specs.Sees.{AtUniversal, IsVisible, AllVisible}
use Rattle.qc_model.specs.Valid.{is_number}
use Rattle.qc_model.specs.Verdict.{lost, exact, at_most, unknown, Seen, seen_barred, seen_skipped, seen_bound, seen_node, is_exact, some_node, exact_vectors, first_value, is_none_of}
use Rattle.joins.specs.Bests.{AllLong, incumbent_by}
use Rattle.joins.specs.Joins.{StandsAt, game_of}
use Rattle.joins.specs.Verdicts.{scope_wishes, wishes_at, scope_incumbent, incumbent_at, kind_wishes, kind_incumbent}
use Rattle.joins.specs.declared.joins.Joins.{Joins}
use Rattle.joins.proofs.AtScope.{stands_long}
use Rattle.qc_model.proofs.InOrder.{below_within}
use Rattle.proof_tree.specs.Place.{owner_of, tracked_target, tracked_first, tracked_variable, next_scopes, list_after}
use Rattle.search_box.specs.Bounds.{tracked_as}
use Rattle.search_walk.specs.Aims.{tracked_at, sense_of, asks_one, IsAim, IsKept, IsKeptTo, AreRuledOut, IsRuledOut, IsSpan, IsNoWorse, IsWorse, NoneWorse, AreWorse}
use Rattle.search_parts.specs.Beaten.{firsts, is_beaten}
use Rattle.search_walk.specs.declared.aim.Aim.{Aim}
use Rattle.search_walk.specs.declared.aim.Worse.{Worse}
use Rattle.search_parts.proofs.Beating.{none_beats_first, first_is_one, no_better_through}
use Rattle.search_walk.proofs.Here.{demands_next}
use Rattle.search_walk.proofs.Places.{next_at}

-- ---- what the wishes of a scope say of what is tracked there
tracked_so : (g : Game) (ss : List Scope) (i : ℕ) (own d : List Condition) → scope_wishes ss g own ≡ d → tracked_variable g ss i (list_after g ss own) ≡ tracked_first g (next_scopes ss) (suc i) d
tracked_so g [] i own d e = ap (tracked_first g [] (suc i)) e
tracked_so g (s ∷ later) i own d e = by s.kind e
  where
    by : (k : Kind) → kind_wishes k s.condition g own ≡ d → of_kind k (tracked_first g later (suc i) (demands_after g k s.condition own)) None ≡ tracked_first g later (suc i) d
    by Exists e = ap (tracked_first g later (suc i)) e
    by Forall e = ap (tracked_first g later (suc i)) e

pub tracked_by : (g : Game) (i : ℕ) (d : List Condition) → wishes_at g i ≡ d → tracked_at g i ≡ tracked_first g (drop (suc i) g.scopes) (suc i) d
tracked_by g i d e = tracked_so g (drop i g.scopes) i (demands g i) d e ∙ ap (λ (ss : List Scope). tracked_first g ss (suc i) d) (next_at i g.scopes)

wishes_so : (g : Game) (ss : List Scope) (own : List Condition) (c : Condition) (d : List Condition) → scope_wishes ss g own ≡ c ∷ d → list_after g ss own ≡ c ∷ d
wishes_so g [] own c d e = cc
wishes_so g (s ∷ later) own c d e = by s.kind e
  where
    by : (k : Kind) → kind_wishes k s.condition g own ≡ c ∷ d → demands_after g k s.condition own ≡ c ∷ d
    by Exists e = e
    by Forall e = cc

pub wishes_are : (g : Game) (i : ℕ) (c : Condition) (d : List Condition) → i < length g.scopes → wishes_at g i ≡ c ∷ d → demands g (suc i) ≡ c ∷ d
wishes_are g i c d h e = sym (demands_next g g.scopes i [] h) ∙ wishes_so g (drop i g.scopes) (demands g i) c d e

-- ---- what is visible is a variable of the game
var_there : (g : Game) (later : List Scope) (j : ℕ) (x : VarId) → IsVisible g later j (Var x) → x.0 < length g.variables
var_there g [] j x h = let m = below_within (λ (v : Variable). v.scope.0) j g.variables in omega (arith, h, m)
var_there g (s ∷ later) j x h = by s.kind h (var_there g later (suc j) x)
  where
    by : (k : Kind) → AtUniversal k (x.0 < before g j) (IsVisible g later (suc j) (Var x)) → (IsVisible g later (suc j) (Var x) → x.0 < length g.variables) → x.0 < length g.variables
    by Exists h rest = rest h
    by Forall h rest = let m = below_within (λ (v : Variable). v.scope.0) j g.variables in omega (arith, h, m)

pub target_there : (g : Game) (i : ℕ) (c : Condition) (d : List Condition) (x : VarId) → i < length g.scopes → ((j : ℕ) → j ≤ length g.scopes → AllVisible g (drop j g.scopes) j (demands g j)) → wishes_at g i ≡ c ∷ d → c.target ≡ Var x → x.0 < length g.variables
target_there g i c d x h visible e t =
    let all = subst (λ dd. AllVisible g (drop (suc i) g.scopes) (suc i) dd) (wishes_are g i c d h e) (visible (suc i) (omega (arith, h))) in
    var_there g (drop (suc i) g.scopes) (suc i) x (subst (λ (y : Target). IsVisible g (drop (suc i) g.scopes) (suc i) y) t all.0)

-- ---- the aim
pub aims_at_nothing : (g : Game) (i : ℕ) → wishes_at g i ≡ [] → tracked_at g i ≡ None
aims_at_nothing g i e = tracked_by g i [] e

pub aims_at_fold : (g : Game) (i : ℕ) (c : Condition) (d : List Condition) (t : Target) → wishes_at g i ≡ c ∷ d → c.target ≡ t → ((x : VarId) → t ≡ Var x → ⊥) → tracked_at g i ≡ None
aims_at_fold g i c d (Agg q) e f none = tracked_by g i (c ∷ d) e ∙ ap (tracked_target g (drop (suc i) g.scopes) (suc i) c.sense) f
aims_at_fold g i c d (Var x) e f none = absurd (none x refl)

aim_by : (g : Game) (i : ℕ) (c : Condition) (d : List Condition) (x : VarId) (v : Variable) → wishes_at g i ≡ c ∷ d → c.target ≡ Var x → slice_get g.variables x.0 ≡ Some v →
    tracked_at g i ≡ cond (no_condition_to v.scope.0 (drop (suc i) g.scopes) (suc i)) (Some (tracked_as c.sense x)) None
aim_by g i c d x v e f h =
    tracked_by g i (c ∷ d) e
    ∙ (ap (tracked_target g (drop (suc i) g.scopes) (suc i) c.sense) f ∙ ap (λ (o : Option Variable). cond (no_condition_to (owner_of o) (drop (suc i) g.scopes) (suc i)) (Some (tracked_as c.sense x)) None) h)

pub aim_taken : (g : Game) (i : ℕ) (c : Condition) (d : List Condition) (x : VarId) (v : Variable) (b : Bool) → wishes_at g i ≡ c ∷ d → c.target ≡ Var x → slice_get g.variables x.0 ≡ Some v → b ≡ no_condition_to v.scope.0 (drop (suc i) g.scopes) (suc i) → b ≡ false → tracked_at g i ≡ None
aim_taken g i c d x v b e f h q r = aim_by g i c d x v e f h ∙ ap (λ b. cond b (Some (tracked_as c.sense x)) None) (sym q ∙ r)

pub aim_is : (g : Game) (i : ℕ) (c : Condition) (d : List Condition) (a : Aim) (v : Variable) (b : Bool) → wishes_at g i ≡ c ∷ d → c.target ≡ Var a.variable → slice_get g.variables a.variable.0 ≡ Some v → b ≡ no_condition_to v.scope.0 (drop (suc i) g.scopes) (suc i) → b ≡ true →
    c.sense ≡ a.sense → is_none_of d ≡ a.is_alone → a.variable.0 < length g.variables → IsAim g i a
aim_is g i c d a v b e f h q r s alone there = record {
  tracked = aim_by g i c d a.variable v e f h ∙ (ap (λ b. cond b (Some (tracked_as c.sense a.variable)) None) (sym q ∙ r) ∙ ap (λ (k : Sense). Some (tracked_as k a.variable)) s);
  sense = ap sense_of e ∙ ap Some s;
  alone = ap asks_one e ∙ alone;
  exists = there;
}

-- ---- the incumbent
pub incumbent_so : (g : Game) (ss : List Scope) (own : List Condition) (c : Condition) (d : List Condition) (xs : List Seen) → scope_wishes ss g own ≡ c ∷ d → scope_incumbent ss g own xs ≡ incumbent_by (some_node is_exact xs) (best_vector (c ∷ d) (exact_vectors xs))
incumbent_so g [] own c d xs e = cc
incumbent_so g (s ∷ later) own c d xs e = by s.kind e
  where
    by : (k : Kind) → kind_wishes k s.condition g own ≡ c ∷ d → kind_incumbent k s.condition g own xs ≡ incumbent_by (some_node is_exact xs) (best_vector (c ∷ d) (exact_vectors xs))
    by Exists e = ap (λ dd. incumbent_by (some_node is_exact xs) (best_vector dd (exact_vectors xs))) e
    by Forall e = cc

no_vectors : (xs : List Seen) → some_node is_exact xs ≡ false → exact_vectors xs ≡ []
no_vectors [] e = refl
no_vectors (seen_barred ∷ xs) e = no_vectors xs e
no_vectors (seen_skipped ∷ xs) e = no_vectors xs e
no_vectors (seen_bound m ∷ xs) e = no_vectors xs e
no_vectors (seen_node lost ∷ xs) e = no_vectors xs e
no_vectors (seen_node (exact v) ∷ xs) e = cc
no_vectors (seen_node (at_most p) ∷ xs) e = no_vectors xs e
no_vectors (seen_node unknown ∷ xs) e = no_vectors xs e

pub some_vectors : (xs : List Seen) → some_node is_exact xs ≡ true → is_none_of (exact_vectors xs) ≡ false
some_vectors [] e = cc
some_vectors (seen_barred ∷ xs) e = some_vectors xs e
some_vectors (seen_skipped ∷ xs) e = some_vectors xs e
some_vectors (seen_bound m ∷ xs) e = some_vectors xs e
some_vectors (seen_node lost ∷ xs) e = some_vectors xs e
some_vectors (seen_node (exact v) ∷ xs) e = refl
some_vectors (seen_node (at_most p) ∷ xs) e = some_vectors xs e
some_vectors (seen_node unknown ∷ xs) e = some_vectors xs e

-- the wishes of a scope with an aim
pub record Wishes (g : Game) (i : ℕ) (a : Aim) : Type 0 where
  pub first : Condition
  pub others : List Condition
  pub are : wishes_at g i ≡ first ∷ others
  pub sense : first.sense ≡ a.sense
  pub alone : is_none_of others ≡ a.is_alone

pub wishes_of : (g : Game) (i : ℕ) (a : Aim) → IsAim g i a → Wishes g i a
wishes_of g i a m = by (wishes_at g i) refl m.sense m.alone
  where
    by : (d : List Condition) → wishes_at g i ≡ d → sense_of d ≡ Some a.sense → asks_one d ≡ a.is_alone → Wishes g i a
    by [] e s t = cc
    by (c ∷ d) e s t = record { first = c; others = d; are = e; sense = same s; alone = t }
      where
        same : Some c.sense ≡ Some a.sense → c.sense ≡ a.sense
        same q = cc

-- ---- what follows of the incumbent
module _ (g : Game) (joins : Joins) (i : ℕ) (a : Aim) (m : IsAim g i a) where
  w : Wishes g i a
  w = wishes_of g i a m

  abbrev best_of : List Seen → ℤ
  best_of xs = first_value (best_vector (w.first ∷ w.others) (exact_vectors xs))

  -- without one nothing is reached
  pub none_reached : ((xs : List Seen) → StandsAt joins i xs → None ≡ incumbent_at g i xs) → NoneWorse g i joins
  none_reached none t e v n xs s = by (some_node is_exact xs) refl (none xs s ∙ incumbent_so g (drop i g.scopes) (demands g i) w.first w.others xs w.are)
    where
      by : (b : Bool) → some_node is_exact xs ≡ b → None ≡ incumbent_by b (best_vector (w.first ∷ w.others) (exact_vectors xs)) → list_all (λ n. not (is_better t.sense n v)) (firsts xs) ≡ true
      by true e q = cc
      by false e q = ap (λ vs. list_all (λ n. not (is_better t.sense n v)) (map first_value vs)) (no_vectors xs e)

  record Reached (best : ℤ) (xs : List Seen) : Type 0 where
    pub is_best : best ≡ best_of xs
    pub some : is_none_of (exact_vectors xs) ≡ false

  reached_so : (best : ℤ) (xs : List Seen) → Some best ≡ incumbent_at g i xs → Reached best xs
  reached_so best xs q = by (some_node is_exact xs) refl (q ∙ incumbent_so g (drop i g.scopes) (demands g i) w.first w.others xs w.are)
    where
      by : (b : Bool) → some_node is_exact xs ≡ b → Some best ≡ incumbent_by b (best_vector (w.first ∷ w.others) (exact_vectors xs)) → Reached best xs
      by true e q = record { is_best = cc; some = some_vectors xs e }
      by false e q = cc

  no_better_each : (s : Sense) (best v : ℤ) (ns : List ℤ) → is_better s best v ≡ false → list_all (λ n. not (is_better s n best)) ns ≡ true → list_all (λ n. not (is_better s n v)) ns ≡ true
  no_better_each s best v [] e h = refl
  no_better_each s best v (n ∷ ns) e h =
      let r = and_parts (not (is_better s n best)) _ h in
      and_from (not (is_better s n v)) _ (no_better_through s n best v (unnot (is_better s n best) r.0) (ap not e)) (no_better_each s best v ns e r.1)
    where
      unnot : (b : Bool) → not b ≡ true → b ≡ false
      unnot true e = cc
      unnot false e = refl

  not_first : (x y : Bool) → (x || y) ≡ false → x ≡ false
  not_first true y e = cc
  not_first false y e = refl

  module _ (same : game_of joins ≡ g) (scope : i < length g.scopes) (best : ℤ) (said : (xs : List Seen) → StandsAt joins i xs → Some best ≡ incumbent_at g i xs) where
    long : (xs : List Seen) → StandsAt joins i xs → AllLong (w.first ∷ w.others) (exact_vectors xs)
    long xs s = stands_long joins i xs w.first w.others (subst (λ (f : Game). i < length f.scopes) (sym same) scope) s (ap (λ (f : Game). wishes_at f i) same ∙ w.are)

    -- what the best doesn't beat is no worse than what is reached
    stays : (v : ℤ) → beats a.sense a.is_alone best v ≡ false → IsNoWorse joins i a.sense v
    stays v e xs s =
        let r = reached_so best xs (said xs s) in
        let none = none_beats_first w.first w.others (exact_vectors xs) (long xs s) in
        let least : list_all (λ n. not (is_better a.sense n best)) (firsts xs) ≡ true = subst (λ b. list_all (λ n. not (is_better a.sense n b)) (firsts xs) ≡ true) (sym r.is_best) (subst (λ k. list_all (λ n. not (is_better k n (best_of xs))) (firsts xs) ≡ true) w.sense none) in
        no_better_each a.sense best v (firsts xs) (not_first (is_better a.sense best v) _ e) least

    -- what it beats is beaten
    goes : (v : ℤ) (xs : List Seen) → StandsAt joins i xs → beats a.sense a.is_alone best v ≡ true → is_beaten (wishes_at g i) (firsts xs) v ≡ true
    goes v xs s e =
        let r = reached_so best xs (said xs s) in
        let b : beats w.first.sense (is_none_of w.others) (best_of xs) v ≡ true = ap (λ (k : Sense). beats k (is_none_of w.others) (best_of xs) v) w.sense ∙ (ap (λ alone. beats a.sense alone (best_of xs) v) w.alone ∙ (ap (λ n. beats a.sense a.is_alone n v) (sym r.is_best) ∙ e)) in
        ap (λ d. is_beaten d (firsts xs) v) w.are ∙ first_is_one (λ n. beats w.first.sense (is_none_of w.others) n v) w.first w.others (exact_vectors xs) (long xs s) r.some b

    pub none_ruled : AreRuledOut a best None → NoneWorse g i joins
    none_ruled none t e v n =
        let k : a.sense ≡ t.sense = same_sense (sym m.tracked ∙ e) in
        subst (λ (z : Sense). IsNoWorse joins i z v) k (stays v (none v n))
      where
        same_sense : Some (tracked_as a.sense a.variable) ≡ Some t → a.sense ≡ t.sense
        same_sense q = cc

    pub ruled_worse : (r : Worse) → IsRuledOut a best r → IsWorse g i joins r
    ruled_worse r k = record {
      tracked = m.tracked ∙ (ap (λ (z : Sense). Some (tracked_as z a.variable)) (sym k.sense) ∙ ap (λ (y : VarId). Some (tracked_as r.sense y)) (sym k.variable));
      exists = subst (λ (y : VarId). y.0 < length g.variables) (sym k.variable) m.exists;
      lo = k.lo;
      hi = k.hi;
      goes = λ v before n inside s. goes v before s (sym (k.same v n) ∙ inside);
      stays = λ v n outside. subst (λ (z : Sense). IsNoWorse joins i z v) (sym k.sense) (stays v (sym (k.same v n) ∙ outside));
    }

pub worse_so : (g : Game) (joins : Joins) (i : ℕ) (a : Aim) (r : Option Worse) → IsAim g i a → game_of joins ≡ g → i < length g.scopes → (best : ℤ) → ((xs : List Seen) → StandsAt joins i xs → Some best ≡ incumbent_at g i xs) → AreRuledOut a best r → AreWorse g i joins r
worse_so g joins i a None m same scope best said k = none_ruled g joins i a m same scope best said k
worse_so g joins i a (Some r) m same scope best said k = ruled_worse g joins i a m same scope best said r k

-- nothing is optimised
pub nothing_worse : (g : Game) (joins : Joins) (i : ℕ) → tracked_at g i ≡ None → NoneWorse g i joins
nothing_worse g joins i e t f = let q : None ≡ Some t = sym e ∙ f in absurd cc

-- ---- the values that are ruled out, from one number to another
from_least : (v : ℤ) → is_number v ≡ true → (negsuc 999999999 ≤ℤ v) × (v ≤ℤ pos 1000000000)
from_least v n = (grind (arith, ints, nat_tests), grind (arith, ints, nat_tests))

numbers_are : (v : ℤ) → negsuc 999999999 ≤ℤ v → v ≤ℤ pos 1000000000 → is_number v ≡ true
numbers_are v l h = grind (arith, ints, nat_tests)

same_test : (a b : Bool) → (a ≡ true → b ≡ true) → (b ≡ true → a ≡ true) → a ≡ b
same_test true b f g = sym (f refl)
same_test false true f g = g refl
same_test false false f g = refl

both_same : (a b c d : Bool) → a ≡ b → c ≡ d → (a && c) ≡ (b && d)
both_same a b c d e f = ap (λ x. x && c) e ∙ ap (λ x. b && x) f

pub kept_is : (a : Aim) (lo hi low high : ℤ) → low ≡ int_max lo (negsuc 999999999) → high ≡ int_min hi (pos 1000000000) → int_lt (pos 1000000000) lo ≡ false → int_lt hi (negsuc 999999999) ≡ false →
    IsKept a lo hi (record { sense = a.sense; variable = a.variable; lo = low; hi = high })
kept_is a lo hi low high l h e f = record {
  sense = refl;
  variable = refl;
  lo = ap is_number l ∙ above (int_lt (negsuc 999999999) lo) refl;
  hi = ap is_number h ∙ below (int_lt (pos 1000000000) hi) refl;
  same = λ v n.
      both_same (int_le low v) (int_le lo v) (int_le v high) (int_le v hi) (ap (λ k. int_le k v) l ∙ from (int_lt (negsuc 999999999) lo) refl v (from_least v n).0)
      (ap (int_le v) h ∙ upto (int_lt (pos 1000000000) hi) refl v (from_least v n).1);
}
  where
    above : (b : Bool) → int_lt (negsuc 999999999) lo ≡ b → is_number (cond b lo (negsuc 999999999)) ≡ true
    above true p = numbers_are lo (omega (arith, ints, p)) (omega (arith, ints, e))
    above false p = refl

    below : (b : Bool) → int_lt (pos 1000000000) hi ≡ b → is_number (cond b (pos 1000000000) hi) ≡ true
    below true p = refl
    below false p = numbers_are hi (omega (arith, ints, f)) (omega (arith, ints, p))

    from : (b : Bool) → int_lt (negsuc 999999999) lo ≡ b → (v : ℤ) → negsuc 999999999 ≤ℤ v → int_le (cond b lo (negsuc 999999999)) v ≡ int_le lo v
    from true p v n = refl
    from false p v n = same_test (int_le (negsuc 999999999) v) (int_le lo v) (λ q. grind (arith, ints)) (λ q. grind (arith, ints))

    upto : (b : Bool) → int_lt (pos 1000000000) hi ≡ b → (v : ℤ) → v ≤ℤ pos 1000000000 → int_le v (cond b (pos 1000000000) hi) ≡ int_le v hi
    upto true p v n = same_test (int_le v (pos 1000000000)) (int_le v hi) (λ q. grind (arith, ints)) (λ q. grind (arith, ints))
    upto false p v n = refl

ruled_by : (a : Aim) (best lo hi : ℤ) → ((v : ℤ) → is_number v ≡ true → is_within lo hi v ≡ beats a.sense a.is_alone best v) → (r : Option Worse) → IsKeptTo a lo hi r → AreRuledOut a best r
ruled_by a best lo hi same None k = λ v n. sym (same v n) ∙ k v n
ruled_by a best lo hi same (Some r) k = record { sense = k.sense; variable = k.variable; lo = k.lo; hi = k.hi; same = λ v n. k.same v n ∙ same v n }

beats_so : (a : Aim) (s : Sense) (alone : Bool) (best v : ℤ) (b : Bool) → a.sense ≡ s → a.is_alone ≡ alone → b ≡ beats s alone best v → b ≡ beats a.sense a.is_alone best v
beats_so a s alone best v b e f q = q ∙ (ap (λ (k : Sense). beats k alone best v) (sym e) ∙ ap (λ c. beats a.sense c best v) (sym f))

as_good : (x y : ℤ) (b : Bool) → (b || int_eq x y) ≡ true → (b ≡ true) ⊎ (x ≡ y)
as_good x y true e = inl refl
as_good x y false e = inr ((Decides-int_eq x y).0 e)

pub above_alone : (a : Aim) (best : ℤ) (r : Option Worse) → a.sense ≡ Min → a.is_alone ≡ true → IsKeptTo a best (pos 1000000000) r → AreRuledOut a best r
above_alone a best r e f k = ruled_by a best best (pos 1000000000) (λ v n. beats_so a Min true best v (is_within best (pos 1000000000) v) e f (same_test _ _ (there v (from_least v n).1) (back v (from_least v n).1))) r k
  where
    there : (v : ℤ) → v ≤ℤ pos 1000000000 → is_within best (pos 1000000000) v ≡ true → (int_lt best v || int_eq best v) ≡ true
    there v n q = by (int_lt best v) refl (and_parts (int_le best v) (int_le v (pos 1000000000)) q).0
      where
        by : (b : Bool) → int_lt best v ≡ b → int_le best v ≡ true → (b || int_eq best v) ≡ true
        by true p l = refl
        by false p l = (Decides-int_eq best v).1 (omega (arith, ints, p, l))

    back : (v : ℤ) → v ≤ℤ pos 1000000000 → (int_lt best v || int_eq best v) ≡ true → is_within best (pos 1000000000) v ≡ true
    back v n q = and_from (int_le best v) (int_le v (pos 1000000000)) (elim (as_good best v (int_lt best v) q) [ inl p ↦ grind (arith, ints) | inr p ↦ grind (arith, ints) ]) (grind (arith, ints))

pub above_others : (a : Aim) (best next : ℤ) (r : Option Worse) → a.sense ≡ Min → a.is_alone ≡ false → next ≡ best +ℤ pos 1 → IsKeptTo a next (pos 1000000000) r → AreRuledOut a best r
above_others a best next r e f s k = ruled_by a best next (pos 1000000000) (λ v n. beats_so a Min false best v (is_within next (pos 1000000000) v) e f (same_test _ _ (there v (from_least v n).1) (back v (from_least v n).1))) r k
  where
    there : (v : ℤ) → v ≤ℤ pos 1000000000 → is_within next (pos 1000000000) v ≡ true → (int_lt best v || false) ≡ true
    there v n q = let l = (and_parts (int_le next v) (int_le v (pos 1000000000)) q).0 in ap (λ b. b || false) (below best v (omega (arith, ints, l, s)))
      where
        below : (x y : ℤ) → x <ℤ y → int_lt x y ≡ true
        below x y h = grind (arith, ints)

    back : (v : ℤ) → v ≤ℤ pos 1000000000 → (int_lt best v || false) ≡ true → is_within next (pos 1000000000) v ≡ true
    back v n q = and_from (int_le next v) (int_le v (pos 1000000000)) (upto next v (omega (arith, ints, only (int_lt best v) q, s))) (grind (arith, ints))
      where
        upto : (x y : ℤ) → x ≤ℤ y → int_le x y ≡ true
        upto x y h = grind (arith, ints)

        only : (b : Bool) → (b || false) ≡ true → b ≡ true
        only true e = refl
        only false e = e

pub below_alone : (a : Aim) (best : ℤ) (r : Option Worse) → a.sense ≡ Max → a.is_alone ≡ true → IsKeptTo a (negsuc 999999999) best r → AreRuledOut a best r
below_alone a best r e f k = ruled_by a best (negsuc 999999999) best (λ v n. beats_so a Max true best v (is_within (negsuc 999999999) best v) e f (same_test _ _ (there v (from_least v n).0) (back v (from_least v n).0))) r k
  where
    there : (v : ℤ) → negsuc 999999999 ≤ℤ v → is_within (negsuc 999999999) best v ≡ true → (int_lt v best || int_eq best v) ≡ true
    there v n q = by (int_lt v best) refl (and_parts (int_le (negsuc 999999999) v) (int_le v best) q).1
      where
        by : (b : Bool) → int_lt v best ≡ b → int_le v best ≡ true → (b || int_eq best v) ≡ true
        by true p l = refl
        by false p l = (Decides-int_eq best v).1 (omega (arith, ints, p, l))

    back : (v : ℤ) → negsuc 999999999 ≤ℤ v → (int_lt v best || int_eq best v) ≡ true → is_within (negsuc 999999999) best v ≡ true
    back v n q = and_from (int_le (negsuc 999999999) v) (int_le v best) (grind (arith, ints)) (elim (as_good best v (int_lt v best) q) [ inl p ↦ grind (arith, ints) | inr p ↦ grind (arith, ints) ])

pub below_others : (a : Aim) (best next : ℤ) (r : Option Worse) → a.sense ≡ Max → a.is_alone ≡ false → next ≡ best -ℤ pos 1 → IsKeptTo a (negsuc 999999999) next r → AreRuledOut a best r
below_others a best next r e f s k = ruled_by a best (negsuc 999999999) next (λ v n. beats_so a Max false best v (is_within (negsuc 999999999) next v) e f (same_test _ _ (there v (from_least v n).0) (back v (from_least v n).0))) r k
  where
    there : (v : ℤ) → negsuc 999999999 ≤ℤ v → is_within (negsuc 999999999) next v ≡ true → (int_lt v best || false) ≡ true
    there v n q = let l = (and_parts (int_le (negsuc 999999999) v) (int_le v next) q).1 in ap (λ b. b || false) (below v best (omega (arith, ints, l, s)))
      where
        below : (x y : ℤ) → x <ℤ y → int_lt x y ≡ true
        below x y h = grind (arith, ints)

    back : (v : ℤ) → negsuc 999999999 ≤ℤ v → (int_lt v best || false) ≡ true → is_within (negsuc 999999999) next v ≡ true
    back v n q = and_from (int_le (negsuc 999999999) v) (int_le v next) (grind (arith, ints)) (upto v next (omega (arith, ints, only (int_lt v best) q, s)))
      where
        upto : (x y : ℤ) → x ≤ℤ y → int_le x y ≡ true
        upto x y h = grind (arith, ints)

        only : (b : Bool) → (b || false) ≡ true → b ≡ true
        only true e = refl
        only false e = e

-- ---- scopes that have a condition
read_first : (ss : List Scope) (k : ℕ) (later : List Scope) (s r : Scope) → drop k ss ≡ s ∷ later → slice_get ss k ≡ Some r → r ≡ s
read_first [] k later s r e f = cc
read_first (x ∷ ss) zero later s r e f = cc
read_first (x ∷ ss) (suc k) later s r e f = read_first ss k later s r e f

pub wished_is : (ss : List Scope) (k last : ℕ) (later : List Scope) (r s : Scope) (b : Bool) → drop k ss ≡ s ∷ later → slice_get ss k ≡ Some r → k ≤ last → b ≡ is_some r.condition → b ≡ not (nat_lt last k || is_none s.condition)
wished_is ss k last later r s b e f le q =
    let same = read_first ss k later s r e f in
    q ∙ (ap (λ (x : Scope). is_some x.condition) same ∙ (opposite s.condition ∙ ap (λ c. not (c || is_none s.condition)) (sym (within k last le))))
  where
    within : (k last : ℕ) → k ≤ last → nat_lt last k ≡ false
    within k last le = grind (arith, nat_tests)

    opposite : (o : Option Condition) → is_some o ≡ not (false || is_none o)
    opposite None = refl
    opposite (Some c) = refl

record At (ss : List Scope) (k : ℕ) : Type 0 where
  pub here : Scope
  pub later : List Scope
  pub at : drop k ss ≡ here ∷ later
  pub after : drop (suc k) ss ≡ later

scope_there : (ss : List Scope) (k : ℕ) → k < length ss → At ss k
scope_there [] k h = absurd (omega arith)
scope_there (s ∷ ss) zero h = record { here = s; later = ss; at = refl; after = refl }
scope_there (s ∷ ss) (suc k) h = let r = scope_there ss k (omega arith) in record { here = r.here; later = r.later; at = r.at; after = r.after }

-- what a test of the scope k says of those from it on
abbrev pub IsTest : List Scope → ℕ → ℕ → Bool → Type 0
IsTest ss last k b = (later : List Scope) (s : Scope) → drop k ss ≡ s ∷ later → b ≡ not (nat_lt last k || is_none s.condition)

pub free_stops : (ss : List Scope) (last k : ℕ) (b : Bool) → k < length ss → IsTest ss last k b → b ≡ true → no_condition_to last (drop k ss) k ≡ false
free_stops ss last k b h test e =
    let r = scope_there ss k h in
    ap (λ (rs : List Scope). no_condition_to last rs k) r.at ∙ by (nat_lt last k || is_none r.here.condition) (sym e ∙ test r.later r.here r.at)
  where
    by : (c : Bool) → true ≡ not c → (c && no_condition_to last (At.later (scope_there ss k h)) (suc k)) ≡ false
    by true q = cc
    by false q = refl

pub free_goes_on : (ss : List Scope) (last k : ℕ) (b : Bool) → k < length ss → IsTest ss last k b → b ≡ false → no_condition_to last (drop (k + 1) ss) (k + 1) ≡ no_condition_to last (drop k ss) k
free_goes_on ss last k b h test e =
    let r = scope_there ss k h in
    ap (λ n. no_condition_to last (drop n ss) n) (add-one k)
    ∙ (ap (λ (rs : List Scope). no_condition_to last rs (suc k)) r.after ∙ (by (nat_lt last k || is_none r.here.condition) r.later (sym e ∙ test r.later r.here r.at) ∙ ap (λ (rs : List Scope). no_condition_to last rs k) (sym r.at)))
  where
    by : (c : Bool) (later : List Scope) → false ≡ not c → no_condition_to last later (suc k) ≡ (c && no_condition_to last later (suc k))
    by true later q = refl
    by false later q = cc

pub free_ends : (ss : List Scope) (last k : ℕ) → length ss ≤ k → no_condition_to last (drop k ss) k ≡ true
free_ends ss last k h = ap (λ (rs : List Scope). no_condition_to last rs k) (drop_of_length-le ss h)

pub none_counted : (d : List Condition) (b : Bool) → b ≡ (length d == 0) → is_none_of d ≡ b
none_counted [] b e = sym e
none_counted (c ∷ d) b e = sym (e ∙ more (length d))
  where
    more : (n : ℕ) → (suc n == 0) ≡ false
    more n = grind (arith, nat_tests)

-- ---- values that are worse than what was found
pub span_of : (g : Game) (i : ℕ) (a b : Aim) (best : ℤ) (r : Option Worse) → IsAim g i a → AreRuledOut b best r → b.sense ≡ a.sense → b.variable ≡ a.variable → IfSome r (IsSpan g i)
span_of g i a b best None m k s x = tt
span_of g i a b best (Some w) m k s x =
    let sense = k.sense ∙ s in
    let variable = k.variable ∙ x in
    record {
      tracked = m.tracked ∙ (ap (λ (z : Sense). Some (tracked_as z a.variable)) (sym sense) ∙ ap (λ (y : VarId). Some (tracked_as w.sense y)) (sym variable));
      exists = subst (λ (y : VarId). y.0 < length g.variables) (sym variable) m.exists;
      lo = k.lo;
      hi = k.hi;
    }
