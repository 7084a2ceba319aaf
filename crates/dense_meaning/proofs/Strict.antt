-- Nodes without open variables.
use Rattle.std.proofs.Common.{◌≡◌, ℕ, suc, Bool, List, [], ◌∷◌, ◌++◌, length, drop, refl, sym, subst, ℤ}
use Rattle.qc_model.specs.declared.problem.Condition.{Condition}
use Rattle.qc_model.specs.declared.problem.Scope.{Scope}
use Rattle.qc_model.specs.Content.{Game}
use Rattle.qc_model.specs.Domains.{InBox, Box, declared_box}
use Rattle.qc_model.specs.declared.problem.Kind.{Kind}
use Rattle.qc_model.specs.declared.problem.Kind.TheVariants.{Exists, Forall}
use Rattle.qc_model.specs.Lists.{Among}
use Rattle.qc_model.specs.Plan.{Plan, finish, choose, answer, Turn, Covers}
use Rattle.qc_model.specs.Optimal.{Optimal, ChoosesBest}
use Rattle.qc_model.specs.Verdict.{Verdict, lost, exact, at_most, unknown}
use Rattle.qc_model.proofs.Before.{before-zero}
use Rattle.qc_model.proofs.Moves.{moves_to}
use Rattle.model_laws.specs.Verdicts.{MeansAt}
use Rattle.proof_tree.specs.Fair.{LeavesRest}
use Rattle.proof_tree.specs.Finding.{Finding}
use Rattle.proof_tree.specs.Good.{Good, GoodThrough}
use Rattle.proof_tree.specs.Meaning.{VerdictMeans, PlanLies, IsOptimalIn}
use Rattle.proof_meaning.proofs.Boxes.{in_front}
use Rattle.proof_meaning.proofs.Entering.{farther}
use Rattle.proof_meaning.proofs.Passing.{move_count}
use Rattle.dense_meaning.specs.Throughout.{IsPositionIn, PlaysLie, IsOptimalWithin, Says}
use Rattle.dense_meaning.specs.Plays.{NeverStuck, HasAllPlays}
use Rattle.dense_meaning.proofs.Removing.{stay}
use Rattle.dense_meaning.proofs.Declared.{all_declared, each_lies, next_position, rest_lies}

plan_lies : (box : Box) (s : Plan) (a : List ℤ) → PlaysLie box a s → PlanLies box a s
plan_lies box finish a h = h
plan_lies box (choose t s) a h = plan_lies box s (a ++ t) h
plan_lies box (answer l) a h = h.0

as_in : (g : Game) (later : List Scope) (i : ℕ) (a : List ℤ) (box : Box) (r : Plan) → IsOptimalWithin g later i box a r → IsOptimalIn g later i a box r
as_in g later i a box r o = record { optimal = o.optimal; lies = plan_lies box r a o.lies }

pub strict_says : (v : Verdict) (g : Game) (later : List Scope) (i : ℕ) (d : List Condition) (a : List ℤ) (box : Box) (f : Finding) (is_bounded : Bool) →
    VerdictMeans v g later i d a box f is_bounded → Says v g later i d box a
strict_says lost g later i d a box f b h = λ r o. h.none r (as_in g later i a box r o)
strict_says (exact v) g later i d a box f b h = record { some = (f.strategy, h.is_optimal.optimal, h.has_vector); best = λ r o. h.best r (as_in g later i a box r o) }
strict_says (at_most p) g later i d a box f b h = λ r o. h r (as_in g later i a box r o)
strict_says unknown g later i d a box f b h = tt

-- where a plan goes to begins where it is
plan_front : (box : Box) (s : Plan) (a : List ℤ) → PlanLies box a s → InBox a box
plan_front box finish a h = h
plan_front box (choose t s) a h = in_front a t box (plan_front box s (a ++ t) h)
plan_front box (answer l) a h = h

-- past the block the domains are the declared ones
pub plan_to_end : (g : Game) (later : List Scope) (i : ℕ) (a : List ℤ) (box : Box) (r : Plan) → IsPositionIn g i box a → LeavesRest g later i a box → Optimal g later i a r → PlanLies box a r → PlaysLie box a r
plan_to_end g [] i a box finish at rest o h = h
plan_to_end g [] i a box (choose t r) at rest o h = absurd o.0
plan_to_end g [] i a box (answer l) at rest o h = absurd o.0
plan_to_end g (s ∷ later) i a box r at rest o h =
    by (λ t r at rest o h. plan_to_end g later (suc i) (a ++ t) box r at rest o h) s.kind rest r o h
  where
    by : ((t : List ℤ) (r : Plan) → IsPositionIn g (suc i) box (a ++ t) → LeavesRest g later (suc i) (a ++ t) box → Optimal g later (suc i) (a ++ t) r → PlanLies box (a ++ t) r → PlaysLie box (a ++ t) r) →
        (k : Kind) → ((w : List ℤ) → GoodThrough k g i a (λ b. Good g later (suc i) b w) w → InBox w box → drop (length w) box ≡ drop (length w) (declared_box g)) →
        (r : Plan) → Turn k r (ChoosesBest s.condition g i a (Optimal g later (suc i))) (Covers g i a (Optimal g later (suc i))) → PlanLies box a r → PlaysLie box a r
    by on Exists f finish o h = absurd o
    by on Exists f (choose t r) o h =
        on t r (record { count = move_count g i a t at.count o.is_move; lies = plan_front box r (a ++ t) h }) (λ w k j. f w (t, o.is_move, k) j) o.after h
    by on Exists f (answer l) o h = absurd o
    by on Forall f finish o h = absurd o
    by on Forall f (choose t r) o h = absurd o
    by on Forall f (answer l) o h =
        let e = f a refl at.lies in (
          h,
          each_lies g later i box a (λ t m r o. rest_lies g later (suc i) box (a ++ t) (farther g a t box e) (next_position g i box a t at e m) r o) l
              (λ u m. moves_to g i a u (subst (Among u) o.tuples m)) o.each,
        )

pub strict_lies : (g : Game) (later : List Scope) (i : ℕ) (a : List ℤ) (box : Box) (r : Plan) → IsPositionIn g i box a → LeavesRest g later i a box →
    IsOptimalIn g later i a box r → IsOptimalWithin g later i box a r
strict_lies g later i a box r at rest o = record { optimal = o.optimal; lies = plan_to_end g later i a box r at rest o.optimal o.lies }

-- all optimal strategies lie in a box that keeps all plays
all_within : (g : Game) (later : List Scope) (i : ℕ) (box : Box) (a : List ℤ) → NeverStuck g later i (declared_box g) → IsPositionIn g i (declared_box g) a → HasAllPlays g later i a box →
    (r : Plan) → Optimal g later i a r → IsOptimalWithin g later i box a r
all_within g later i box a free at f r o =
    record { optimal = o; lies = stay g later i (declared_box g) box free a at (λ w p _. f w p) r o (all_declared g later i a at r o) }

pub says_of_all : (v : Verdict) (g : Game) (later : List Scope) (i : ℕ) (d : List Condition) (box : Box) (a : List ℤ) → NeverStuck g later i (declared_box g) → IsPositionIn g i (declared_box g) a →
    HasAllPlays g later i a box → Says v g later i d box a → MeansAt g later i a d v
says_of_all lost g later i d box a free at f h = λ r o. h r (all_within g later i box a free at f r o)
says_of_all (exact v) g later i d box a free at f h = record { some = h.some; none_better = λ r o. h.best r (all_within g later i box a free at f r o) }
says_of_all (at_most p) g later i [] box a free at f h = tt
says_of_all (at_most p) g later i (c ∷ d) box a free at f h = λ r o. h r (all_within g later i box a free at f r o)
says_of_all unknown g later i d box a free at f h = tt

-- plays have declared values
play_declared : (g : Game) (later : List Scope) (i : ℕ) (a : List ℤ) → IsPositionIn g i (declared_box g) a → HasAllPlays g later i a (declared_box g)
play_declared g [] i a at w h = subst (λ u. InBox u (declared_box g)) (sym h.0) at.lies
play_declared g (s ∷ later) i a at w h =
    play_declared g later (suc i) (a ++ h.0) (next_position g i (declared_box g) a h.0 at refl h.1) w h.2

pub root_has_all : (g : Game) → HasAllPlays g g.scopes 0 [] (declared_box g)
root_has_all g = play_declared g g.scopes 0 [] (record { count = sym (before-zero g); lies = tt })
