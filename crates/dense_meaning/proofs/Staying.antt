-- Strategies are played on where the opponent is never stuck.
use Rattle.std.proofs.Common.{ℕ, zero, suc, List, [], ◌∷◌, ◌++◌, take, refl, sym, subst, ℤ}
use Rattle.qc_model.specs.declared.problem.Kind.{Kind}
use Rattle.qc_model.specs.declared.problem.Kind.TheVariants.{Exists, Forall}
use Rattle.qc_model.specs.declared.problem.Scope.{Scope}
use Rattle.qc_model.specs.Content.{Game}
use Rattle.qc_model.specs.Lists.{Among}
use Rattle.qc_model.specs.Domains.{InBox, Box}
use Rattle.qc_model.specs.Game.{IsMove}
use Rattle.qc_model.specs.Plan.{Plan, finish, choose, answer, Turn, Covers}
use Rattle.qc_model.specs.Optimal.{Optimal, ChoosesBest}
use Rattle.qc_model.proofs.Moves.{moves_from}
use Rattle.proof_meaning.proofs.Passing.{move_count}
use Rattle.dense_meaning.specs.Throughout.{IsPositionIn, PlaysLie, IsOptimalWithin}
use Rattle.dense_meaning.specs.Plays.{NeverStuck, OpponentHasMoves, GoesOn}
use Rattle.dense_meaning.proofs.PlansLie.{lie_front}
use Rattle.dense_meaning.proofs.AfterScopes.{entry_at}

-- what is known of the next scope
abbrev Follows : Game → List Scope → ℕ → ℕ → Box → Type 0
Follows g later n i box =
    (b : List ℤ) → IsPositionIn g i box b → (r : Plan) → Optimal g later i b r → PlaysLie box b r → (w : List ℤ) × GoesOn g later n i b w × InBox w box

-- a play of the strategy through the next n scopes, in the box
pub follow : (g : Game) (later : List Scope) (n i : ℕ) (box : Box) → NeverStuck g (take n later) i box → (a : List ℤ) → IsPositionIn g i box a → (r : Plan) → Optimal g later i a r → PlaysLie box a r →
    (w : List ℤ) × GoesOn g later n i a w × InBox w box
follow g later zero i box free a at r o h = (a, refl, at.lies)
follow g [] (suc n) i box free a at r o h = (a, (refl, o.1), at.lies)
follow g (s ∷ later) (suc n) i box free a at r o h = by (follow g later n (suc i) box free.1) s.kind free.0 r o h
  where
    on : Follows g later n (suc i) box → (t : List ℤ) (r : Plan) → IsMove g i a t → Optimal g later (suc i) (a ++ t) r → PlaysLie box (a ++ t) r → (w : List ℤ) × ((t : List ℤ) × IsMove g i a t × GoesOn g later n (suc i) (a ++ t) w) × InBox w box
    on f t r m o h =
        let q = f (a ++ t) (record { count = move_count g i a t at.count m; lies = lie_front box r (a ++ t) h }) r o h in
        (q.0, (t, m, q.1), q.2)

    by : Follows g later n (suc i) box → (k : Kind) → OpponentHasMoves k g i box → (r : Plan) → Turn k r (ChoosesBest s.condition g i a (Optimal g later (suc i))) (Covers g i a (Optimal g later (suc i))) → PlaysLie box a r →
        (w : List ℤ) × ((t : List ℤ) × IsMove g i a t × GoesOn g later n (suc i) (a ++ t) w) × InBox w box
    by e Exists f finish o h = absurd o
    by e Exists f (choose t r) o h = on e t r o.is_move o.after h
    by e Exists f (answer l) o h = absurd o
    by e Forall f finish o h = absurd o
    by e Forall f (choose t r) o h = absurd o
    by e Forall f (answer l) o h =
        let t = f a at in
        let q = entry_at box (Optimal g later (suc i)) a t.0 l o.each h.1 (subst (Among t.0) (sym o.tuples) (moves_from g i a t.0 t.1)) in
        on e t.0 q.0 t.1 q.1 q.2

pub plays_lost : (g : Game) (later : List Scope) (n i : ℕ) (box : Box) → NeverStuck g (take n later) i box → ((a w : List ℤ) → IsPositionIn g i box a → GoesOn g later n i a w → ¬ InBox w box) →
    (a : List ℤ) → IsPositionIn g i box a → (r : Plan) → ¬ IsOptimalWithin g later i box a r
plays_lost g later n i box free none a at r o = let q = follow g later n i box free a at r o.optimal o.lies in none a q.0 at q.1 q.2

-- what he isn't in all scopes he isn't in the first of them
pub never_front : (g : Game) (later : List Scope) (n i : ℕ) (box : Box) → NeverStuck g later i box → NeverStuck g (take n later) i box
never_front g later zero i box f = tt
never_front g [] (suc n) i box f = tt
never_front g (s ∷ later) (suc n) i box f = (f.0, never_front g later n (suc i) box f.1)
