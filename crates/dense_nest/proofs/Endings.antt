-- What a scope's own tree comes to, by its join and its tally.
use Rattle.std.proofs.Common.{◌≡◌, ℕ, zero, suc, ◌<◌, Bool, true, false, ◌&&◌, cond, Option, Some, None, List, [], ◌∷◌, length, drop, slice_get, refl, sym, ap, ◌∙◌, subst, ℤ}
use Rattle.std.specs.Option.{option_map}
use Rattle.qc_model.specs.declared.problem.Kind.{Kind}
use Rattle.qc_model.specs.declared.problem.Kind.TheVariants.{Exists, Forall}
use Rattle.qc_model.specs.declared.problem.Condition.{Condition}
use Rattle.qc_model.specs.declared.problem.Scope.{Scope}
use Rattle.qc_model.specs.Content.{Game}
use Rattle.qc_model.specs.Demands.{demands}
use Rattle.qc_model.specs.Verdict.{Verdict, lost, exact, at_most, unknown, Seen, is_lost, each_node, bounds, is_none_of}
use Rattle.qc_model.specs.ExistsVerdict.{best_number}
use Rattle.joins.specs.Joins.{IsLong}
use Rattle.joins.specs.Sizes.{AreLong}
use Rattle.joins.proofs.AtScope.{some_scope}
use Rattle.joins.proofs.Lengths.{verdict_long}
use Rattle.model_levels.specs.Spans.{kind_at}
use Rattle.joins.specs.Verdicts.{verdict_at, scope_verdict, own_at, scope_own as scope_own_joined}
use Rattle.proof_tree.specs.Place.{position}
use Rattle.dense_tree.specs.Place.{Setting, Place}
use Rattle.dense_tree.specs.Verdicts.{scope_comes_to, scope_own, best_of, loosened, upper_bound}
use Rattle.dense_nest.specs.Tallies.{best_held}

-- ---- which scope comes first
first_at : (xs : List Scope) (i : ℕ) (k : Kind) → option_map (λ (s : Scope). s.kind) (slice_get xs i) ≡ Some k → (s : Scope) × (more : List Scope) × (drop i xs ≡ s ∷ more) × (s.kind ≡ k)
first_at [] i k e = absurd (none e)
  where
    none : ◌≡◌ {A = Option Kind} None (Some k) → ⊥
    none q = cc
first_at (s ∷ xs) zero k e = (s, xs, refl, same e)
  where
    same : ◌≡◌ {A = Option Kind} (Some s.kind) (Some k) → s.kind ≡ k
    same q = cc
first_at (s ∷ xs) (suc i) k e = first_at xs i k e

-- ---- without best values
no_bests : (s : Setting) (p : Place) (later : List Scope) (seen : List Seen) → scope_verdict later s.game p.list (position s.game p.number p.box) seen ≡ scope_comes_to s p later seen []
no_bests s p [] seen = refl
no_bests s p (scope ∷ later) seen = by scope.kind
  where
    by : (k : Kind) → scope_verdict (record scope { kind = k } ∷ later) s.game p.list (position s.game p.number p.box) seen ≡ scope_comes_to s p (record scope { kind = k } ∷ later) seen []
    by Exists = refl
    by Forall = refl

own_here : (s : Setting) (p : Place) (later : List Scope) (seen : List Seen) → scope_own_joined later s.game p.list seen ≡ scope_own s p later seen
own_here s p [] seen = refl
own_here s p (scope ∷ later) seen = by scope.kind
  where
    by : (k : Kind) → scope_own_joined (record scope { kind = k } ∷ later) s.game p.list seen ≡ scope_own s p (record scope { kind = k } ∷ later) seen
    by Exists = refl
    by Forall = refl

-- ---- at a place of scope i
module _ (s : Setting) (p : Place) (i : ℕ) (number : p.number ≡ i) (list : p.list ≡ demands s.game i) (later : p.later ≡ drop i s.game.scopes) where
  pub joined_is : (a : List ℤ) (seen : List Seen) → a ≡ position s.game i p.box → verdict_at s.game i a seen ≡ scope_comes_to s p p.later seen []
  joined_is a seen at =
      ap (λ ss. scope_verdict ss s.game (demands s.game i) a seen) (sym later)
      ∙ (ap (λ d. scope_verdict p.later s.game d a seen) (sym list)
      ∙ (ap (λ b. scope_verdict p.later s.game p.list b seen) (at ∙ ap (λ j. position s.game j p.box) (sym number)) ∙ no_bests s p p.later seen))

  pub own_is : (seen : List Seen) → own_at s.game i seen ≡ scope_own s p p.later seen
  own_is seen =
      ap (λ ss. scope_own_joined ss s.game (demands s.game i) seen) (sym later)
      ∙ (ap (λ d. scope_own_joined p.later s.game d seen) (sym list) ∙ own_here s p p.later seen)

  -- no best value is held
  pub none_is : (a : List ℤ) (seen : List Seen) (bests : List ℤ) → a ≡ position s.game i p.box → None ≡ best_held (demands s.game i) bests → verdict_at s.game i a seen ≡ scope_comes_to s p p.later seen bests
  none_is a seen bests at none = joined_is a seen at ∙ ap (scope_comes_to s p p.later seen) (sym (empty (demands s.game i) bests none))
    where
      empty : (d : List Condition) (bests : List ℤ) → None ≡ best_held d bests → bests ≡ []
      empty d [] e = refl
      empty [] (v ∷ bests) e = cc
      empty (c ∷ d) (v ∷ bests) e = cc

  -- the opponent's scope
  pub opponent_is : (a : List ℤ) (seen : List Seen) (bests : List ℤ) → a ≡ position s.game i p.box → kind_at s.game i ≡ Some Forall → verdict_at s.game i a seen ≡ scope_comes_to s p p.later seen bests
  opponent_is a seen bests at kind =
      let f = first_at s.game.scopes i Forall kind in
      joined_is a seen at
      ∙ (ap (λ ss. scope_comes_to s p ss seen []) (later ∙ f.2)
      ∙ (by f.0 f.1 f.3 ∙ ap (λ ss. scope_comes_to s p ss seen bests) (sym (later ∙ f.2))))
    where
      by : (scope : Scope) (more : List Scope) → scope.kind ≡ Forall → scope_comes_to s p (scope ∷ more) seen [] ≡ scope_comes_to s p (scope ∷ more) seen bests
      by scope more e =
          ap (λ k. scope_comes_to s p (record scope { kind = k } ∷ more) seen []) e ∙ sym (ap (λ k. scope_comes_to s p (record scope { kind = k } ∷ more) seen bests) e)

  -- the player's, with a best value
  pub best_is : (seen : List Seen) (bests : List ℤ) (best : ℤ) → Some best ≡ best_held (demands s.game i) bests → kind_at s.game i ≡ Some Exists → best_of (demands s.game i) seen bests ≡ scope_comes_to s p p.later seen bests
  best_is seen bests best held kind =
      let f = first_at s.game.scopes i Exists kind in
      ap (λ d. best_of d seen bests) (sym list)
      ∙ (by f.0 f.1 bests f.3 held ∙ ap (λ ss. scope_comes_to s p ss seen bests) (sym (later ∙ f.2)))
    where
      by : (scope : Scope) (more : List Scope) (bests : List ℤ) → scope.kind ≡ Exists → Some best ≡ best_held (demands s.game i) bests → best_of p.list seen bests ≡ scope_comes_to s p (scope ∷ more) seen bests
      by scope more [] e h = cc
      by scope more (v ∷ bests) e h = sym (ap (λ k. scope_comes_to s p (record scope { kind = k } ∷ more) seen (v ∷ bests)) e)

  -- a vector has a value for each entry
  pub comes_long : (seen : List Seen) (bests : List ℤ) → i < length s.game.scopes → AreLong s.game i seen → IsLong s.game i (scope_comes_to s p p.later seen bests)
  comes_long seen [] l long = subst (IsLong s.game i) (joined_is (position s.game i p.box) seen refl) (verdict_long s.game i (position s.game i p.box) seen l long)
  comes_long seen (v ∷ bests) l long = let f = some_scope s.game.scopes i l in by f.0.kind (ap (option_map (λ (r : Scope). r.kind)) f.1)
    where
      best_long : (d : List Condition) → IsLong s.game i (best_of d seen (v ∷ bests))
      best_long [] = tt
      best_long (c ∷ d) = with_test (each_node is_lost seen && is_none_of (bounds seen))
        where
          with_test : (b : Bool) → IsLong s.game i (cond b (at_most (best_number c.sense (v ∷ bests))) unknown)
          with_test true = tt
          with_test false = tt

      by : (k : Kind) → kind_at s.game i ≡ Some k → IsLong s.game i (scope_comes_to s p p.later seen (v ∷ bests))
      by Forall e = subst (IsLong s.game i) (opponent_is (position s.game i p.box) seen (v ∷ bests) refl e) (verdict_long s.game i (position s.game i p.box) seen l long)
      by Exists e =
          let f = first_at s.game.scopes i Exists e in
          let here : IsLong s.game i (scope_comes_to s p (f.0 ∷ f.1) seen (v ∷ bests)) = subst (λ k. IsLong s.game i (scope_comes_to s p (record (f.0) { kind = k } ∷ f.1) seen (v ∷ bests))) (sym f.3) (best_long p.list) in
          subst (λ ss. IsLong s.game i (scope_comes_to s p ss seen (v ∷ bests))) (sym (later ∙ f.2)) here

pub long_loosened : (g : Game) (i : ℕ) (s : Setting) (p : Place) (v : Verdict) → IsLong g i v → IsLong g i (loosened s p v)
long_loosened g i s p lost h = tt
long_loosened g i s p (exact w) h = by p.loose p.list
  where
    by : (b : Bool) (d : List Condition) → IsLong g i (cond b (upper_bound s p d w) (exact w))
    by true [] = tt
    by true (c ∷ d) = tt
    by false d = h
long_loosened g i s p (at_most n) h = tt
long_loosened g i s p unknown h = tt
