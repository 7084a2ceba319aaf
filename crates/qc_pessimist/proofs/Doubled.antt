-- The demanded lists of the new game: those of the old one, with some entries doubled by one of the same target. So no
-- bottleneck comes before a different aggregate where none did.
use Rattle.std.proofs.Common.{◌≡◌, refl, sym, ap, ◌∙◌, ℕ, zero, suc, Bool, true, false, not, cond, List, [], ◌∷◌, ◌++◌, map, arith}
use Rattle.std.specs.Prelude.{◌&&◌, ◌||◌, ◌==◌, Option, Some, None, slice_get}
use Rattle.std.specs.List.{list_all, list_any}
use Rattle.std.proofs.lemmas.Bool.Decides.{nat_tests}
use Rattle.std.proofs.lemmas.Bool.{and_parts, and_from}
use Rattle.qc_model.specs.declared.problem.Kind.{Kind}
use Rattle.qc_model.specs.declared.problem.Kind.TheVariants.{Exists, Forall}
use Rattle.qc_model.specs.declared.problem.Target.{Target}
use Rattle.qc_model.specs.declared.problem.Target.TheVariants.{Var, Aggregate as Agg}
use Rattle.qc_model.specs.declared.problem.Condition.{Condition}
use Rattle.qc_model.specs.declared.problem.Aggregate.{Aggregate}
use Rattle.qc_model.specs.declared.problem.Scope.{Scope}
use Rattle.qc_model.specs.Content.{Game}
use Rattle.qc_model.specs.Block.{of_kind}
use Rattle.qc_model.specs.Demands.{is_aggregate, names, with_naming, first_namings, target_within, demand_within, demands_through, with_condition, demands_after}
use Rattle.qc_model.specs.Bottlenecks.{is_bottleneck, is_bottleneck_fold, names_no_other, bottleneck_last, bottlenecks_last}
use Rattle.qc_pessimist.specs.Worst.{chosen_wish}
use Rattle.qc_pessimist.specs.Opposed.{opposed, added, with_opposing, moved, move_aggregate, opposed_game}
use Rattle.qc_pessimist.proofs.Agree.{same_aggregates}

-- the second list has the targets of the first, some of them twice
data Doubled : List Condition → List Condition → Type 0 where
  nothing : Doubled [] []
  once : (c x : Condition) (d e : List Condition) → x.target ≡ c.target → Doubled d e → Doubled (c ∷ d) (x ∷ e)
  twice : (c x y : Condition) (d e : List Condition) → x.target ≡ c.target → y.target ≡ c.target → Doubled d e → Doubled (c ∷ d) (x ∷ y ∷ e)

no_other_still : (t : Target) (d e : List Condition) → Doubled d e → list_all (λ (b : Condition). names_no_other t b.target) d ≡ true → list_all (λ (b : Condition). names_no_other t b.target) e ≡ true
no_other_still t _ _ nothing h = refl
no_other_still t _ _ (once c x d e same k) h =
    let p = and_parts (names_no_other t c.target) (list_all (λ (b : Condition). names_no_other t b.target) d) h in
    and_from (names_no_other t x.target) (list_all (λ (b : Condition). names_no_other t b.target) e) (ap (names_no_other t) same ∙ p.0) (no_other_still t d e k p.1)
no_other_still t _ _ (twice c x y d e same also k) h =
    let p = and_parts (names_no_other t c.target) (list_all (λ (b : Condition). names_no_other t b.target) d) h in
    and_from (names_no_other t x.target) (names_no_other t y.target && list_all (λ (b : Condition). names_no_other t b.target) e) (ap (names_no_other t) same ∙ p.0)
    (and_from (names_no_other t y.target) (list_all (λ (b : Condition). names_no_other t b.target) e) (ap (names_no_other t) also ∙ p.0) (no_other_still t d e k p.1))

itself : (n : ℕ) → (n == n) ≡ true
itself n = grind (arith, nat_tests)

no_other_itself : (t : Target) → names_no_other t t ≡ true
no_other_itself (Var x) = refl
no_other_itself (Agg q) = itself q.0

either_still : (a b c : Bool) → (b ≡ true → c ≡ true) → (a || b) ≡ true → (a || c) ≡ true
either_still true b c f h = refl
either_still false b c f h = f h

either_too : (a b c : Bool) → b ≡ true → (a || c) ≡ true → (a || (b && c)) ≡ true
either_too true b c e h = refl
either_too false true c e h = h
either_too false false c e h = absurd cc

module _ (g h : Game) (same : (t : Target) → is_bottleneck h t ≡ is_bottleneck g t) where
  last_still : (d e : List Condition) → Doubled d e → bottleneck_last g d ≡ true → bottleneck_last h e ≡ true
  last_still _ _ nothing b = refl
  last_still _ _ (once c x d e t k) b =
      let p = and_parts (not (is_bottleneck g c.target) || list_all (λ (b : Condition). names_no_other c.target b.target) d) (bottleneck_last g d) b in
      and_from (not (is_bottleneck h x.target) || list_all (λ (b : Condition). names_no_other x.target b.target) e) (bottleneck_last h e)
      (head c x d e t k p.0) (last_still d e k p.1)
    where
      head : (c x : Condition) (d e : List Condition) → x.target ≡ c.target → Doubled d e → (not (is_bottleneck g c.target) || list_all (λ (b : Condition). names_no_other c.target b.target) d) ≡ true →
          (not (is_bottleneck h x.target) || list_all (λ (b : Condition). names_no_other x.target b.target) e) ≡ true
      head c x d e t k p =
          ap (λ u. not (is_bottleneck h u) || list_all (λ (b : Condition). names_no_other u b.target) e) t
          ∙ ap (λ v. not v || list_all (λ (b : Condition). names_no_other c.target b.target) e) (same c.target)
          ∙ either_still (not (is_bottleneck g c.target)) (list_all (λ (b : Condition). names_no_other c.target b.target) d) (list_all (λ (b : Condition). names_no_other c.target b.target) e)
          (no_other_still c.target d e k) p
  last_still _ _ (twice c x y d e t u k) b =
      let p = and_parts (not (is_bottleneck g c.target) || list_all (λ (b : Condition). names_no_other c.target b.target) d) (bottleneck_last g d) b in
      and_from (not (is_bottleneck h x.target) || list_all (λ (b : Condition). names_no_other x.target b.target) (y ∷ e)) (bottleneck_last h (y ∷ e))
      (ap (λ z. not (is_bottleneck h z) || (names_no_other z y.target && list_all (λ (b : Condition). names_no_other z b.target) e)) t
      ∙ either_too (not (is_bottleneck h c.target)) (names_no_other c.target y.target) (list_all (λ (b : Condition). names_no_other c.target b.target) e)
      (ap (names_no_other c.target) u ∙ no_other_itself c.target) (head c d e k p.0))
      (and_from (not (is_bottleneck h y.target) || list_all (λ (b : Condition). names_no_other y.target b.target) e) (bottleneck_last h e)
      (ap (λ z. not (is_bottleneck h z) || list_all (λ (b : Condition). names_no_other z b.target) e) u ∙ head c d e k p.0) (last_still d e k p.1))
    where
      head : (c : Condition) (d e : List Condition) → Doubled d e → (not (is_bottleneck g c.target) || list_all (λ (b : Condition). names_no_other c.target b.target) d) ≡ true →
          (not (is_bottleneck h c.target) || list_all (λ (b : Condition). names_no_other c.target b.target) e) ≡ true
      head c d e k p =
          ap (λ v. not v || list_all (λ (b : Condition). names_no_other c.target b.target) e) (same c.target)
          ∙ either_still (not (is_bottleneck g c.target)) (list_all (λ (b : Condition). names_no_other c.target b.target) d) (list_all (λ (b : Condition). names_no_other c.target b.target) e)
          (no_other_still c.target d e k) p

-- the same targets, place by place
abbrev targets : List Condition → List Target
targets d = map (λ (c : Condition). c.target) d

any_by_targets : (q : ℕ) (d : List Condition) → names q d ≡ list_any (is_aggregate q) (targets d)
any_by_targets q [] = refl
any_by_targets q (c ∷ d) = ap (λ b. is_aggregate q c.target || b) (any_by_targets q d)

same_names : (q : ℕ) (d e : List Condition) → targets e ≡ targets d → names q e ≡ names q d
same_names q d e h = any_by_targets q e ∙ ap (list_any (is_aggregate q)) h ∙ sym (any_by_targets q d)

targets_end : (d : List Condition) (c : Condition) → targets (d ++ c ∷ []) ≡ targets d ++ c.target ∷ []
targets_end [] c = refl
targets_end (x ∷ d) c = ap (λ ts. x.target ∷ ts) (targets_end d c)

named_still : (c x : Condition) (t : Target) (p r : List Condition) → x.target ≡ c.target → targets r ≡ targets p → targets (with_naming r x t) ≡ targets (with_naming p c t)
named_still c x (Var v) p r e s = s
named_still c x (Agg q) p r e s = ap (λ b. targets (cond b r (r ++ x ∷ []))) (same_names q.0 p r s) ∙ by (names q.0 p)
  where
    by : (b : Bool) → targets (cond b r (r ++ x ∷ [])) ≡ targets (cond b p (p ++ c ∷ []))
    by true = s
    by false = targets_end r x ∙ ap (λ ts. ts ++ x.target ∷ []) s ∙ ap (λ t. targets p ++ t ∷ []) e ∙ sym (targets_end p c)

named_at_end : (q : ℕ) (p : List Condition) (x : Condition) → is_aggregate q x.target ≡ true → names q (p ++ x ∷ []) ≡ true
named_at_end q [] x e = ap (λ b. b || false) e
named_at_end q (c ∷ p) x e = by (is_aggregate q c.target) (named_at_end q p x e)
  where
    by : (b : Bool) → names q (p ++ x ∷ []) ≡ true → (b || names q (p ++ x ∷ [])) ≡ true
    by true k = refl
    by false k = k

-- an entry of the same target adds nothing
named_once : (x y : Condition) (t : Target) (r : List Condition) → x.target ≡ t → with_naming (with_naming r x t) y t ≡ with_naming r x t
named_once x y (Var v) r e = refl
named_once x y (Agg q) r e = by (names q.0 r) refl
  where
    by : (b : Bool) → names q.0 r ≡ b → cond (names q.0 (cond (names q.0 r) r (r ++ x ∷ []))) (cond (names q.0 r) r (r ++ x ∷ [])) (cond (names q.0 r) r (r ++ x ∷ []) ++ y ∷ []) ≡ cond (names q.0 r) r (r ++ x ∷ [])
    by true k =
        ap (λ b. cond (names q.0 (cond b r (r ++ x ∷ []))) (cond b r (r ++ x ∷ [])) (cond b r (r ++ x ∷ []) ++ y ∷ [])) k
        ∙ ap (λ b. cond b r (r ++ y ∷ [])) k ∙ sym (ap (λ b. cond b r (r ++ x ∷ [])) k)
    by false k =
        ap (λ b. cond (names q.0 (cond b r (r ++ x ∷ []))) (cond b r (r ++ x ∷ [])) (cond b r (r ++ x ∷ []) ++ y ∷ [])) k
        ∙ ap (λ b. cond b (r ++ x ∷ []) ((r ++ x ∷ []) ++ y ∷ [])) (named_at_end q.0 r x (ap (is_aggregate q.0) e ∙ itself q.0))
        ∙ sym (ap (λ b. cond b r (r ++ x ∷ [])) k)

namings_still : (d e : List Condition) → Doubled d e → (p r : List Condition) → targets r ≡ targets p → targets (first_namings r e) ≡ targets (first_namings p d)
namings_still _ _ nothing p r s = s
namings_still _ _ (once c x d e t k) p r s =
    ap (λ u. targets (first_namings (with_naming r x u) e)) t
    ∙ namings_still d e k (with_naming p c c.target) (with_naming r x c.target) (named_still c x c.target p r t s)
namings_still _ _ (twice c x y d e t u k) p r s =
    ap (λ z. targets (first_namings (with_naming (with_naming r x z) y y.target) e)) t
    ∙ ap (λ z. targets (first_namings (with_naming (with_naming r x c.target) y z) e)) u
    ∙ ap (λ z. targets (first_namings z e)) (named_once x y c.target r t)
    ∙ namings_still d e k (with_naming p c c.target) (with_naming r x c.target) (named_still c x c.target p r t s)

module _ (g h : Game) (within : (t : Target) → target_within h t ≡ target_within g t) where
  doubled_within : (d e : List Condition) → targets e ≡ targets d → Doubled (map (demand_within g) d) (map (demand_within h) e)
  doubled_within [] [] s = nothing
  doubled_within [] (x ∷ e) s = absurd cc
  doubled_within (c ∷ d) [] s = absurd cc
  doubled_within (c ∷ d) (x ∷ e) s =
      let first : x.target ≡ c.target = cc in
      let later : targets e ≡ targets d = cc in
      once (demand_within g c) (demand_within h x) (map (demand_within g) d) (map (demand_within h) e) (within x.target ∙ ap (target_within g) first) (doubled_within d e later)

  doubled_through : (d e : List Condition) → Doubled d e → Doubled (demands_through g d) (demands_through h e)
  doubled_through d e k = doubled_within (first_namings [] d) (first_namings [] e) (namings_still d e k [] [] refl)

doubled_condition : (x : Option Condition) (d e : List Condition) → Doubled d e → Doubled (with_condition x d) (with_condition x e)
doubled_condition None d e k = k
doubled_condition (Some c) d e k = once c c d e refl k

module _ (q : ℕ → Bool) (g : Game) where
  bottleneck_same : (t : Target) → is_bottleneck (opposed_game q g) t ≡ is_bottleneck g t
  bottleneck_same (Var x) = refl
  bottleneck_same (Agg k) = fold_same (moved q 0 g.scopes) g.aggregates k.0
    where
      fold_same : (f : ℕ → ℕ) (qs : List Aggregate) (k : ℕ) → is_bottleneck_fold (slice_get (map (move_aggregate f) qs) k) ≡ is_bottleneck_fold (slice_get qs k)
      fold_same f [] k = refl
      fold_same f (x ∷ qs) zero = refl
      fold_same f (x ∷ qs) (suc k) = fold_same f qs k

  within_same : (t : Target) → target_within (opposed_game q g) t ≡ target_within g t
  within_same (Var x) = refl
  within_same (Agg k) = (same_aggregates q g).targets k.0

  at_scope : (b : Bool) (k : Kind) (x : Option Condition) (later : List Scope) (d e : List Condition) → Doubled d e → of_kind k true (bottleneck_last g d) ≡ true →
      ((e : List Condition) → Doubled (demands_after g k x d) e → bottlenecks_last (opposed_game q g) later e ≡ true) →
      (of_kind k true (bottleneck_last (opposed_game q g) e) && bottlenecks_last (opposed_game q g) (added (chosen_wish b k x) ++ later) (demands_after (opposed_game q g) k x e)) ≡ true
  at_scope false Exists x later d e t o f = f (with_condition x e) (doubled_condition x d e t)
  at_scope true Exists None later d e t o f = f e t
  at_scope true Exists (Some c) later d e t o f = f (opposed c ∷ c ∷ e) (twice c (opposed c) c d e refl refl t)
  at_scope false Forall x later d e t o f =
      and_from (bottleneck_last (opposed_game q g) e) (bottlenecks_last (opposed_game q g) later (demands_through (opposed_game q g) e)) (last_still g (opposed_game q g) bottleneck_same d e t o)
      (f (demands_through (opposed_game q g) e) (doubled_through g (opposed_game q g) within_same d e t))
  at_scope true Forall x later d e t o f =
      and_from (bottleneck_last (opposed_game q g) e) (bottlenecks_last (opposed_game q g) later (demands_through (opposed_game q g) e)) (last_still g (opposed_game q g) bottleneck_same d e t o)
      (f (demands_through (opposed_game q g) e) (doubled_through g (opposed_game q g) within_same d e t))

  bottlenecks_still : (later : List Scope) (i : ℕ) (d e : List Condition) → Doubled d e → bottlenecks_last g later d ≡ true → bottlenecks_last (opposed_game q g) (with_opposing q i later) e ≡ true
  bottlenecks_still [] i d e t h = refl
  bottlenecks_still (s ∷ later) i d e t h =
      let p = and_parts (of_kind s.kind true (bottleneck_last g d)) (bottlenecks_last g later (demands_after g s.kind s.condition d)) h in
      at_scope (q i) s.kind s.condition (with_opposing q (suc i) later) d e t p.0
      (λ f k. bottlenecks_still later (suc i) (demands_after g s.kind s.condition d) f k p.1)

  pub bottlenecks_stay : bottlenecks_last g g.scopes [] ≡ true → bottlenecks_last (opposed_game q g) (with_opposing q 0 g.scopes) [] ≡ true
  bottlenecks_stay h = bottlenecks_still g.scopes 0 [] [] nothing h
