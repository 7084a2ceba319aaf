-- Boxes that look the same from a scope on.
use Rattle.std.specs.Prelude.{◌≡◌, ◌<◌, ◌==◌, ℕ, nat_le, Bool, true, false, not, ◌&&◌, ◌||◌, List, length, IsTrue, IsFalse, Option, Some, None, ℤ}
use Rattle.std.specs.List.{list_any}
use Rattle.qc_model.specs.declared.problem.Target.{Target}
use Rattle.qc_model.specs.declared.problem.Target.TheVariants.{Var, Aggregate as Agg}
use Rattle.qc_model.specs.declared.problem.Condition.{Condition}
use Rattle.qc_model.specs.Content.{Game, Rule}
use Rattle.qc_model.specs.Lists.{Among}
use Rattle.qc_model.specs.Domains.{Box, values_left, is_single}
use Rattle.qc_model.specs.Game.{before}
use Rattle.qc_model.specs.Demands.{target_within}
use Rattle.proof_tree.specs.Place.{position}
use Rattle.proof_alike.specs.Reading.{read_alone, seen_of}

-- x is one of the numbers
abbrev pub is_among : List ℕ → ℕ → Bool
is_among xs x = list_any (λ y. y == x) xs

-- the constraint is of a scope from i on, or of the goal, and reads x by value
abbrev pub constrains : ℕ → ℕ → Rule → Bool
constrains i x c = nat_le i c.owner.0 && is_among (read_alone c) x

abbrev pub is_variable : ℕ → Target → Bool
is_variable x (Var y) = y.0 == x
is_variable x (Agg q) = false

-- the target is x, or an aggregate whose own target is x
abbrev pub mentions : Game → ℕ → Target → Bool
mentions g x t = is_variable x (target_within g t)

abbrev pub condition_mentions : Game → ℕ → Option Condition → Bool
condition_mentions g x None = false
condition_mentions g x (Some c) = mentions g x c.target

-- a condition or an aggregate of the game mentions x
abbrev pub is_named : Game → ℕ → Bool
is_named g x = list_any (λ s. condition_mentions g x s.condition) g.scopes || list_any (λ q. mentions g x q.target) g.aggregates

-- a constraint of a scope from i on, or of the goal, reads x by value, or a condition or an aggregate mentions it
abbrev pub is_seen : Game → ℕ → ℕ → Bool
is_seen g i x = list_any (constrains i x) g.constraints || is_named g x

-- x is seen, or a variable of a scope from i on
abbrev pub is_looked_at : Game → ℕ → ℕ → Bool
is_looked_at g i x = nat_le (before g i) x || is_seen g i x

-- what the constraint sees of the values of the variables before scope i, besides those that are looked at
abbrev pub sees : Game → ℕ → List ℤ → Rule → List ℤ
sees g i vs c = seen_of (λ x. not (is_looked_at g i x)) vs c

-- the boxes leave the same to each variable that is looked at from scope i on, and one value each to each other one; and
-- each constraint of a scope from i on, or of the goal, sees the same in both
pub record AreAlike (g : Game) (i : ℕ) (a b : Box) : Type 0 where
  pub size : length a ≡ length b
  pub same : (x : ℕ) → IsTrue (is_looked_at g i x) → values_left a x ≡ values_left b x
  pub others : (x : ℕ) → x < length a → IsFalse (is_looked_at g i x) → (is_single (values_left a x) ≡ true) × (is_single (values_left b x) ≡ true)
  pub rules : (c : Rule) → Among c g.constraints → IsTrue (nat_le i c.owner.0) → sees g i (position g i a) c ≡ sees g i (position g i b) c
