-- Where a plan goes until its first answer or its end.
use Rattle.std.proofs.Common.{◌≡◌, ℕ, suc, List, [], ◌∷◌, ◌++◌, refl}
use Rattle.std.specs.Prelude.{ℤ, pos, slice_index_or}
use Rattle.qc_model.specs.declared.problem.Kind.{Kind}
use Rattle.qc_model.specs.declared.problem.Kind.TheVariants.{Exists, Forall}
use Rattle.qc_model.specs.declared.problem.VarId.{VarId}
use Rattle.qc_model.specs.declared.problem.Target.TheVariants.{Var}
use Rattle.qc_model.specs.declared.problem.Scope.{Scope}
use Rattle.qc_model.specs.Content.{Game}
use Rattle.qc_model.specs.Domains.{Box, InBox}
use Rattle.qc_model.specs.Plan.{Plan, finish, choose, answer, Turn, Covers}
use Rattle.qc_model.specs.Value.{value}
use Rattle.qc_model.specs.Optimal.{ChoosesBest, Optimal}
use Rattle.proof_tree.specs.Good.{Good, GoodThrough}
use Rattle.proof_tree.specs.Meaning.{PlanLies}

-- the values after the choices that the plan begins with
abbrev pub reach : List ℤ → Plan → List ℤ
reach a finish = a
reach a (choose t s) = reach (a ++ t) s
reach a (answer l) = a

pub lies_to : (box : Box) (a : List ℤ) (s : Plan) → PlanLies box a s → InBox (reach a s) box
lies_to box a finish h = h
lies_to box a (choose t s) h = lies_to box (a ++ t) s h
lies_to box a (answer l) h = h

pub lies_from : (box : Box) (a : List ℤ) (s : Plan) → InBox (reach a s) box → PlanLies box a s
lies_from box a finish h = h
lies_from box a (choose t s) h = lies_from box (a ++ t) s h
lies_from box a (answer l) h = h

-- an optimal strategy begins with good values
pub plan_good : (g : Game) (later : List Scope) (i : ℕ) (a : List ℤ) (s : Plan) → Optimal g later i a s → Good g later i a (reach a s)
plan_good g [] i a finish h = (refl, h.1)
plan_good g [] i a (choose t s) h = absurd h.0
plan_good g [] i a (answer l) h = absurd h.0
plan_good g (scope ∷ later) i a s h = turn scope.kind s h (plan_good g later (suc i))
  where
    turn : (k : Kind) (s : Plan) → Turn k s (ChoosesBest scope.condition g i a (Optimal g later (suc i))) (Covers g i a (Optimal g later (suc i))) →
        ((b : List ℤ) (r : Plan) → Optimal g later (suc i) b r → Good g later (suc i) b (reach b r)) → GoodThrough k g i a (λ b. Good g later (suc i) b (reach a s)) (reach a s)
    turn Exists finish h f = absurd h
    turn Exists (choose t s) h f = (t, h.is_move, f (a ++ t) s h.after)
    turn Exists (answer l) h f = absurd h
    turn Forall finish h f = absurd h
    turn Forall (choose t s) h f = absurd h
    turn Forall (answer l) h f = refl

-- a variable's value is found where the plan goes
pub value_reach : (g : Game) (s : Plan) (x : VarId) (a : List ℤ) → value g s (Var x) a ≡ slice_index_or (reach a s) x.0 (pos 0)
value_reach g finish x a = refl
value_reach g (choose t s) x a = value_reach g s x (a ++ t)
value_reach g (answer l) x a = refl
