-- Back from boxes to the game.
use Rattle.std.proofs.Common.{◌≡◌, inl, inr, ℕ, suc, List, [], ◌∷◌, ◌++◌, length, drop, refl, subst, ℤ}
use Rattle.qc_model.specs.declared.problem.Kind.{Kind}
use Rattle.qc_model.specs.declared.problem.Kind.TheVariants.{Exists, Forall}
use Rattle.qc_model.specs.declared.problem.Condition.{Condition}
use Rattle.qc_model.specs.declared.problem.Scope.{Scope}
use Rattle.qc_model.specs.Content.{Game}
use Rattle.qc_model.specs.Lists.{Among}
use Rattle.qc_model.specs.Domains.{Box, declared_box}
use Rattle.qc_model.specs.Game.{IsMove, Wins}
use Rattle.qc_model.specs.Plan.{Plan, finish, choose, answer, Entries, no_entries, entry, entry_tuples, EachEntry, Turn, Covers}
use Rattle.qc_model.specs.Optimal.{Optimal, ChoosesBest}
use Rattle.qc_model.specs.Verdict.{lost, exact}
use Rattle.qc_model.proofs.Moves.{moves_to}
use Rattle.qc_model.proofs.Plans.{optimal_wins}
use Rattle.model_laws.proofs.Existence.{optimal_exists}
use Rattle.proof_meaning.proofs.Entering.{declared_move, farther}
use Rattle.proof_meaning.proofs.Passing.{move_count}
use Rattle.dense_meaning.specs.Throughout.{IsPositionIn, PlaysLie, EachLies, Says}
use Rattle.dense_meaning.specs.Plays.{NeverStuck, HasAllPlays}
use Rattle.dense_meaning.proofs.Removing.{stay}

abbrev AllLie : Game → List Scope → ℕ → Box → List ℤ → Type 0
AllLie g later i box a = (t : List ℤ) → IsMove g i a t → (r : Plan) → Optimal g later (suc i) (a ++ t) r → PlaysLie box (a ++ t) r

pub each_lies : (g : Game) (later : List Scope) (i : ℕ) (box : Box) (a : List ℤ) → AllLie g later i box a → (l : Entries) → ((t : List ℤ) → Among t (entry_tuples l) → IsMove g i a t) →
    EachEntry (λ t r. Optimal g later (suc i) (a ++ t) r) l → EachLies box a l
each_lies g later i box a on no_entries m e = tt
each_lies g later i box a on (entry t r rest) m e = (on t (m t (inl refl)) r e.0, each_lies g later i box a on rest (λ u n. m u (inr n)) e.1)

-- a position, and a move from it, where all later domains are the declared ones
pub next_position : (g : Game) (i : ℕ) (box : Box) (a t : List ℤ) → IsPositionIn g i box a → drop (length a) box ≡ drop (length a) (declared_box g) → IsMove g i a t → IsPositionIn g (suc i) box (a ++ t)
next_position g i box a t at e m = record { count = move_count g i a t at.count m; lies = declared_move g i a t box at.count at.lies e m }

-- there each play of a strategy lies in the box
pub rest_lies : (g : Game) (later : List Scope) (i : ℕ) (box : Box) (a : List ℤ) → drop (length a) box ≡ drop (length a) (declared_box g) → IsPositionIn g i box a →
    (r : Plan) → Optimal g later i a r → PlaysLie box a r
rest_lies g [] i box a e at finish o = at.lies
rest_lies g [] i box a e at (choose t r) o = absurd o.0
rest_lies g [] i box a e at (answer l) o = absurd o.0
rest_lies g (s ∷ later) i box a e at r o =
    by (λ t m r o. rest_lies g later (suc i) box (a ++ t) (farther g a t box e) (next_position g i box a t at e m) r o) s.kind r o
  where
    by : AllLie g later i box a → (k : Kind) → (r : Plan) → Turn k r (ChoosesBest s.condition g i a (Optimal g later (suc i))) (Covers g i a (Optimal g later (suc i))) → PlaysLie box a r
    by on Exists finish o = absurd o
    by on Exists (choose t r) o = on t o.is_move r o.after
    by on Exists (answer l) o = absurd o
    by on Forall finish o = absurd o
    by on Forall (choose t r) o = absurd o
    by on Forall (answer l) o = (at.lies, each_lies g later i box a on l (λ u m. moves_to g i a u (subst (Among u) o.tuples m)) o.each)

-- as where all domains are
pub all_declared : (g : Game) (later : List Scope) (i : ℕ) (a : List ℤ) → IsPositionIn g i (declared_box g) a → (r : Plan) → Optimal g later i a r → PlaysLie (declared_box g) a r
all_declared g later i a at r o = rest_lies g later i (declared_box g) a refl at r o

pub lost_declared : (g : Game) (later : List Scope) (i : ℕ) (d : List Condition) (a : List ℤ) → IsPositionIn g i (declared_box g) a → Says lost g later i d (declared_box g) a → ¬ Wins g later i a
lost_declared g later i d a at h w =
    let s = optimal_exists g later i a w in h s.0 (record { optimal = s.1; lies = all_declared g later i a at s.0 s.1 })

pub lost_in_all : (g : Game) (later : List Scope) (i : ℕ) (d : List Condition) (box : Box) (a : List ℤ) → NeverStuck g later i (declared_box g) → IsPositionIn g i (declared_box g) a →
    HasAllPlays g later i a box → Says lost g later i d box a → ¬ Wins g later i a
lost_in_all g later i d box a free at f h w =
    let s = optimal_exists g later i a w in
    h s.0 (record { optimal = s.1; lies = stay g later i (declared_box g) box free a at (λ u p _. f u p) s.0 s.1 (all_declared g later i a at s.0 s.1) })

pub won_is_won : (g : Game) (later : List Scope) (i : ℕ) (d : List Condition) (box : Box) (a v : List ℤ) → Says (exact v) g later i d box a → Wins g later i a
won_is_won g later i d box a v h = optimal_wins g later i a h.some.0 h.some.1
