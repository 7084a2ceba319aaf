-- What a level of a problem's scope says of that scope.
use Rattle.std.proofs.Common.{◌≡◌, ℕ, zero, suc, ◌≤◌, List, [], ◌∷◌, length, take, drop, Some, refl, ap, ◌∙◌, sym, arith, ℤ}
use Rattle.std.specs.Prelude.{slice_get}
use Rattle.std.specs.Option.{option_map}
use Rattle.std.proofs.Math.Seq.{take_all}
use Rattle.qc_model.specs.declared.problem.Kind.{Kind}
use Rattle.qc_model.specs.declared.problem.Kind.TheVariants.{Exists, Forall}
use Rattle.qc_model.specs.declared.problem.Scope.{Scope}
use Rattle.qc_model.specs.Content.{Game}
use Rattle.qc_model.specs.Game.{before}
use Rattle.model_levels.specs.declared.level.Level.{Level}
use Rattle.model_levels.specs.Spans.{kind_at}
use Rattle.check_box.specs.Placed.{values_to}
use Rattle.qc_play.specs.Stuck.{nothing_answered, stuck_strategy, stuck_counterstrategy}

module _ (l : Level) (g : Game) (i : ℕ) (problem : l.problem.now ≡ g) (number : l.number ≡ i) where
  pub level_from : l.from ≡ before g i
  level_from = l.has_from ∙ (ap (λ u. before u l.number) problem ∙ ap (before g) number)

  pub level_stop : l.stop ≡ before g (suc i)
  level_stop = l.has_stop ∙ (ap (λ u. before u (suc l.number)) problem ∙ ap (λ j. before g (suc j)) number)

  pub level_kind : kind_at g i ≡ Some l.kind
  level_kind = sym (ap (λ u. kind_at u l.number) problem ∙ ap (kind_at g) number) ∙ l.has_kind

  pub level_within : l.stop ≤ length g.variables
  level_within = let a = l.stop_within in let b = ap (λ (u : Game). length u.variables) problem in omega (arith, a, b)

-- the scope itself, and the later ones
pub record IsFirst (k : Kind) (ss : List Scope) : Type 0 where
  pub scope : Scope
  pub later : List Scope
  pub split : ss ≡ scope ∷ later
  pub kind : scope.kind ≡ k

pub first_scope : (ss : List Scope) (i : ℕ) (k : Kind) → option_map (λ (s : Scope). s.kind) (slice_get ss i) ≡ Some k → IsFirst k (drop i ss)
first_scope [] i k e = cc
first_scope (s ∷ ss) zero k e = record { scope = s; later = ss; split = refl; kind = cc }
first_scope (s ∷ ss) (suc i) k e = first_scope ss i k e

-- what answers an owner who is stuck
pub stuck_strategy_at : (g : Game) (i : ℕ) (k : Kind) → kind_at g i ≡ Some k → stuck_strategy (drop i g.scopes) ≡ nothing_answered Forall k
stuck_strategy_at g i k e = let f = first_scope g.scopes i k e in ap stuck_strategy f.split ∙ ap (nothing_answered Forall) f.kind

pub stuck_counterstrategy_at : (g : Game) (i : ℕ) (k : Kind) → kind_at g i ≡ Some k → stuck_counterstrategy (drop i g.scopes) ≡ nothing_answered Exists k
stuck_counterstrategy_at g i k e = let f = first_scope g.scopes i k e in ap stuck_counterstrategy f.split ∙ ap (nothing_answered Exists) f.kind

-- all values stand before the goal
pub all_values : (g : Game) (i : ℕ) (vs : List ℤ) → i ≡ length g.scopes → before g (length g.scopes) ≡ length g.variables → length vs ≡ length g.variables → values_to g i vs ≡ vs
all_values g i vs e all each = ap (λ j. values_to g j vs) e ∙ (ap (λ n. take n vs) (all ∙ sym each) ∙ take_all (length vs) vs (omega arith))
