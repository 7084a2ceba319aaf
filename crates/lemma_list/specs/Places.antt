-- Who chooses what, and where a lemma stands.
use Rattle.std.specs.Prelude.{ℕ, suc, max, nat_le, nat_lt, Bool, true, false, ◌&&◌, cond, List, [], ◌∷◌, slice_get, Option, Some, None}
use Rattle.qc_model.specs.declared.problem.Kind.{Kind}
use Rattle.qc_model.specs.declared.problem.Kind.TheVariants.{Exists}
use Rattle.qc_model.specs.declared.problem.Scope.{Scope}
use Rattle.qc_model.specs.declared.problem.Variable.{Variable}
use Rattle.qc_model.specs.Content.{Game}
use Rattle.qc_model.specs.Block.{of_kind}
use Rattle.qc_model.specs.Counter.{opposite}
use Rattle.lemma_list.specs.declared.lemma.Literal.{Literal}
use Rattle.lemma_list.specs.Lemmas.{Lemma}

abbrev pub is_kind : Kind → Kind → Bool
is_kind k l = of_kind k (of_kind l true false) (of_kind l false true)

-- who owns scope j, and keeps its restriction; the goal is the player's
abbrev pub kind_of : Option Scope → Kind
kind_of None = Exists
kind_of (Some s) = s.kind

abbrev pub side_at : Game → ℕ → Kind
side_at g j = kind_of (slice_get g.scopes j)

-- P holds of the number of the variable's scope
abbrev pub of_its_scope : (ℕ → Bool) → Option Variable → Bool
of_its_scope p None = false
of_its_scope p (Some x) = p x.scope.0

-- x is a variable of a scope of this kind, with at least this number
abbrev pub is_chosen_from : Kind → Game → ℕ → ℕ → Bool
is_chosen_from k g i x = of_its_scope (λ j. is_kind k (side_at g j) && nat_le i j) (slice_get g.variables x)

-- x is a variable of a scope before this one
abbrev pub is_chosen_before : Game → ℕ → ℕ → Bool
is_chosen_before g i x = of_its_scope (λ j. nat_lt j i) (slice_get g.variables x)

-- the position after the variable's scope
abbrev pub after_scope : Option Variable → ℕ
after_scope None = 0
after_scope (Some x) = suc x.scope.0

-- the position after the last scope with a literal on a variable of this side, or the start. A position is told by the
-- number of the scope that it stands before
abbrev pub place_of : Game → Kind → List Literal → ℕ
place_of g k [] = 0
place_of g k (l ∷ ls) = max (cond (is_chosen_from k g 0 l.x.0) (after_scope (slice_get g.variables l.x.0)) 0) (place_of g k ls)

abbrev pub place : Game → Lemma → ℕ
place g m = place_of g m.loser m.literals

-- x is a variable that the winner has still to choose at the lemma's position
abbrev pub is_winners : Game → Lemma → ℕ → Bool
is_winners g m x = is_chosen_from (opposite m.loser) g (place g m) x

-- y is one too, of a scope after that of x: the winner may choose it in answer to x
abbrev pub is_answer : Game → Lemma → ℕ → ℕ → Bool
is_answer g m x y = is_winners g m y && of_its_scope (λ i. is_chosen_from (opposite m.loser) g (suc i) y) (slice_get g.variables x)
