-- Rules that are wrong, each with a small game that shows it.
use Rattle.std.proofs.Common.{◌≡◌, inl, inr, ℕ, suc, true, false, List, [], ◌∷◌, ◌≤◌, refl, sym, subst, arith, ℤ, Option, None, Some}
use Rattle.std.specs.Prelude.{pos, IsTrue}
use Rattle.qc_model.specs.declared.problem.Condition.{Condition}
use Rattle.qc_model.specs.declared.problem.Scope.{Scope}
use Rattle.qc_model.specs.declared.problem.Pred.TheVariants.{IntLe, IntLt}
use Rattle.qc_model.specs.declared.problem.Arg.TheVariants.{Num}
use Rattle.qc_model.specs.declared.problem.Argument.TheVariants.{One}
use Rattle.qc_model.specs.Content.{Game}
use Rattle.qc_model.specs.Domains.{Box, InBox, declared_box}
use Rattle.qc_model.specs.Game.{allows, IsMove}
use Rattle.qc_model.specs.Plan.{Plan, finish, choose, answer, no_entries}
use Rattle.qc_model.specs.Lists.{Among}
use Rattle.qc_model.specs.declared.problem.Sense.TheVariants.{Max}
use Rattle.qc_model.specs.Optimal.{Optimal, is_better}
use Rattle.qc_model.specs.ForallVerdict.{entry_values, numbers_for}
use Rattle.qc_model.specs.Verdict.{lost, exact, at_most, first_value}
use Rattle.qc_model.proofs.Moves.{moves_from, moves_to}
use Rattle.model_laws.proofs.CaseGames.{variable, rule, one_var, of_variable, maximise, exists, forall_scope, blocked}
use Rattle.model_laws.specs.Positions.{existential, universal}
use Rattle.model_laws.specs.Verdicts.{HasNoMove}
use Rattle.dense_meaning.specs.Throughout.{IsPositionIn, Throughout}
use Rattle.dense_meaning.specs.Plays.{IsPlay, KeepsThrough, KeepsPlays, KeepsFrom}
use Rattle.dense_meaning.specs.Kept.{LooksAtOwn}
use Rattle.dense_meaning.proofs.EndsOfPlay.{opponent_stuck}
use Rattle.dense_meaning.proofs.Staying.{plays_lost}
use Rattle.dense_meaning.proofs.Targets.{target_left}

-- exists; var 0..1: x; forall; var 1..1: y; constraint int_le(y,x); goal; constraint int_lt(x,1); solve;
-- With x = 0 the opponent has no move, so the player has won; with x = 1 the goal fails. No play keeps all the constraints
abbrev pub yielding : Game
yielding = record {
  scopes = exists None ∷ forall_scope ∷ [];
  variables = variable 0 (pos 0) (pos 1) ∷ variable 1 (pos 1) (pos 1) ∷ [];
  aggregates = [];
  constraints = rule 1 IntLe (one_var 1 ∷ one_var 0 ∷ []) ∷ rule 2 IntLt (one_var 0 ∷ One (Num (pos 1)) ∷ []) ∷ [];
}

-- the opponent's restriction looks at an earlier variable, so that he may be stuck at one position and not at another
not_own : ¬ LooksAtOwn yielding 1
not_own h = let q = h 0 (rule 1 IntLe (one_var 1 ∷ one_var 0 ∷ [])) refl refl in absurd (below q.1.0)
  where
    below : 1 ≤ 0 → ⊥
    below l = omega arith

-- what the opponent's own restriction leaves
abbrev pub without_zero : Box
without_zero = (pos 1 ∷ []) ∷ (pos 1 ∷ []) ∷ []

fails : IsTrue (allows yielding 2 (pos 1 ∷ pos 1 ∷ [])) → ⊥
fails h = cc

stuck_at_zero : (t : List ℤ) → IsMove yielding 1 (pos 0 ∷ []) t → ⊥
stuck_at_zero t m = moves_from yielding 1 (pos 0 ∷ []) t m

one_at_one : (t : List ℤ) → IsMove yielding 1 (pos 1 ∷ []) t → t ≡ pos 1 ∷ []
one_at_one t m = elim (moves_from yielding 1 (pos 1 ∷ []) t m) [ inl e ↦ e | inr n ↦ absurd n ]

no_play : (a w : List ℤ) → IsPositionIn yielding 1 (declared_box yielding) a → IsPlay yielding (forall_scope ∷ []) 1 a w → ⊥
no_play [] w at p = absurd (omega (arith, at.count))
no_play (x ∷ y ∷ a) w at p = absurd (omega (arith, at.count))
no_play (x ∷ []) w at p = elim at.lies.0 [
  | inl e ↦ stuck_at_zero p.0 (subst (λ (z : ℤ). IsMove yielding 1 (z ∷ []) p.0) e p.1)
  | inr k ↦ elim k [
    | inl e ↦
        let q = one_at_one p.0 (subst (λ (z : ℤ). IsMove yielding 1 (z ∷ []) p.0) e p.1) in
        fails (subst (λ t. IsTrue (allows yielding 2 (pos 1 ∷ t))) q (subst (λ (z : ℤ). IsTrue (allows yielding 2 (z ∷ p.0))) e p.2.1))
    | inr n ↦ n
  ]
]

wider : (w : List ℤ) → InBox w without_zero → InBox w (declared_box yielding)
wider [] h = tt
wider (x ∷ []) h = elim h.0 [ inl e ↦ (inr (inl e), tt) | inr n ↦ absurd n ]
wider (x ∷ y ∷ []) h = elim h.0 [ inl e ↦ (inr (inl e), h.1) | inr n ↦ absurd n ]
wider (x ∷ y ∷ z ∷ w) h = absurd h.1.1

-- with x = 1 all is lost
lost_at_one : Throughout lost yielding (forall_scope ∷ []) 1 [] without_zero
lost_at_one =
    plays_lost yielding (forall_scope ∷ []) 2 1 without_zero (moves, tt)
    (λ a w at p j. no_play a w (record { count = at.count; lies = wider a at.lies }) p)
  where
    moves : (a : List ℤ) → IsPositionIn yielding 1 without_zero a → (t : List ℤ) × IsMove yielding 1 a t
    moves [] at = absurd (omega (arith, at.count))
    moves (x ∷ y ∷ a) at = absurd (omega (arith, at.count))
    moves (x ∷ []) at = elim at.lies.0 [ inl e ↦ (pos 1 ∷ [], subst (λ (z : ℤ). IsMove yielding 1 (z ∷ []) (pos 1 ∷ [])) (sym e) (moves_to yielding 1 (pos 1 ∷ []) (pos 1 ∷ []) (inl refl))) | inr n ↦ absurd n ]

-- with x = 0 it isn't
won_at_zero : ¬ Throughout lost yielding (forall_scope ∷ []) 1 [] (declared_box yielding)
won_at_zero h =
    h (pos 0 ∷ []) (record { count = refl; lies = (inl refl, tt) }) (answer no_entries)
    (record { optimal = record { tuples = refl; each = tt }; lies = ((inl refl, tt), tt) })

-- values that are on no play may not go where the opponent may be stuck: they may be those that stick him
stuck_opponents_count : ¬ ((g : Game) (later : List Scope) (i : ℕ) (d : List Condition) (box small : Box) → KeepsPlays g later i box small →
    Throughout lost g later i d small → Throughout lost g later i d box)
stuck_opponents_count h =
    won_at_zero (h yielding (forall_scope ∷ []) 1 [] (declared_box yielding) without_zero (λ a w at p j. absurd (no_play a w at p)) lost_at_one)

-- nor may the opponent's own restriction take values of earlier variables that are open
earlier_values_stay : ¬ ((g : Game) (later : List Scope) (x : Option Condition) (i : ℕ) (d : List Condition) (box small : Box) →
    KeepsThrough g (universal x ∷ later) 1 i box small → KeepsFrom g (suc i) box small →
    Throughout lost g (universal x ∷ later) i d small → Throughout lost g (universal x ∷ later) i d box)
earlier_values_stay h = won_at_zero (h yielding [] None 1 [] (declared_box yielding) without_zero keeps rest lost_at_one)
  where
    keeps : KeepsThrough yielding (forall_scope ∷ []) 1 1 (declared_box yielding) without_zero
    keeps [] w at p j = absurd (omega (arith, at.count))
    keeps (x ∷ y ∷ a) w at p j = absurd (omega (arith, at.count))
    keeps (x ∷ []) w at p j = elim at.lies.0 [
      | inl e ↦ absurd (stuck_at_zero p.0 (subst (λ (z : ℤ). IsMove yielding 1 (z ∷ []) p.0) e p.1))
      | inr k ↦ elim k [
        | inl e ↦
            let q = one_at_one p.0 (subst (λ (z : ℤ). IsMove yielding 1 (z ∷ []) p.0) e p.1) in
            subst (λ u. InBox u without_zero) (sym p.2) (subst (λ t. InBox (x ∷ t) without_zero) (sym q) (inl e, (inl refl, tt)))
        | inr n ↦ absurd n
      ]
    ]

    rest : KeepsFrom yielding 2 (declared_box yielding) without_zero
    rest [] h k = tt
    rest (x ∷ []) h k = k
    rest (x ∷ y ∷ []) h k = k
    rest (x ∷ y ∷ z ∷ w) h k = absurd h.1.1

-- exists maximize x; var 0..1: w; exists; var 0..1: x; constraint int_le(x,w); forall; var 0..1: y;
-- constraint int_lt(y,0); goal; solve;
-- The opponent is always stuck, so the game comes to the greatest x, which is 1
abbrev pub given_up : Game
given_up = record {
  scopes = exists (Some (maximise (of_variable 1))) ∷ exists None ∷ forall_scope ∷ [];
  variables = variable 0 (pos 0) (pos 1) ∷ variable 1 (pos 0) (pos 1) ∷ variable 2 (pos 0) (pos 1) ∷ [];
  aggregates = [];
  constraints = rule 1 IntLe (one_var 1 ∷ one_var 0 ∷ []) ∷ rule 2 IntLt (one_var 2 ∷ One (Num (pos 0)) ∷ []) ∷ [];
}

stuck : (b : List ℤ) → IsPositionIn given_up 2 (declared_box given_up) b → HasNoMove given_up 2 b
stuck [] at t m = absurd (omega (arith, at.count))
stuck (u ∷ []) at t m = absurd (omega (arith, at.count))
stuck (u ∷ v ∷ []) at t m = moves_from given_up 2 (u ∷ v ∷ []) t m
stuck (u ∷ v ∷ w ∷ b) at t m = absurd (omega (arith, at.count))

-- it is won at each position there, and comes to 1 at most, the best value left
won_throughout : Throughout (exact []) given_up (forall_scope ∷ []) 2 [] (declared_box given_up)
won_throughout = opponent_stuck given_up [] None 2 [] (declared_box given_up) [] refl stuck (λ a at. refl)

at_most_one : Throughout (at_most (pos 1)) given_up (forall_scope ∷ []) 2 (maximise (of_variable 1) ∷ []) (declared_box given_up)
at_most_one = target_left given_up (forall_scope ∷ []) 2 Max (record { 0 = 1 }) [] (declared_box given_up) (pos 1) (omega arith) best
  where
    best : (v : ℤ) → Among v (pos 0 ∷ pos 1 ∷ []) → is_better Max v (pos 1) ≡ false
    best v m = elim m [
      | inl e ↦ subst (λ (z : ℤ). is_better Max z (pos 1) ≡ false) (sym e) refl
      | inr k ↦ elim k [ inl e ↦ subst (λ (z : ℤ). is_better Max z (pos 1) ≡ false) (sym e) refl | inr n ↦ absurd n ]
    ]

-- what one position is worth against an opponent who is stuck is no bound for the others in the box
first_value_is_no_bound : ¬ ((g : Game) (later : List Scope) (x : Option Condition) (i : ℕ) (d : List Condition) (box : Box) (a : List ℤ) →
    ((b : List ℤ) → IsPositionIn g i box b → HasNoMove g i b) → IsPositionIn g i box a →
    Throughout (at_most (first_value (entry_values g d a (numbers_for d [])))) g (universal x ∷ later) i d box)
first_value_is_no_bound h =
    worth_one
    (h given_up [] None 2 (maximise (of_variable 1) ∷ []) (declared_box given_up) (pos 0 ∷ pos 0 ∷ []) stuck (record { count = refl; lies = (inl refl, (inl refl, tt)) })
    (pos 1 ∷ pos 1 ∷ []) (record { count = refl; lies = (inr (inl refl), (inr (inl refl), tt)) }) (answer no_entries)
    (record { optimal = record { tuples = refl; each = tt }; lies = ((inr (inl refl), (inr (inl refl), tt)), tt) }))
  where
    worth_one : true ≡ false → ⊥
    worth_one e = cc

-- a scope without an allowed tuple doesn't come to what stands behind it
choices_need_moves : ¬ ((v : List ℤ) (g : Game) (later : List Scope) (i : ℕ) (box : Box) →
    Throughout (exact v) g later (suc i) [] box → Throughout (exact v) g (existential None ∷ later) i [] box)
choices_need_moves h =
    let q = h [] (blocked (exists None)) [] 0 (declared_box (blocked (exists None))) won [] (record { count = refl; lies = tt }) in none q.some.0 q.some.1
  where
    won : Throughout (exact []) (blocked (exists None)) [] 1 [] (declared_box (blocked (exists None)))
    won a at = record { some = (finish, (tt, refl), refl); best = λ r o. refl }

    none : (s : Plan) → Optimal (blocked (exists None)) (existential None ∷ []) 0 [] s → ⊥
    none finish o = o
    none (choose t r) o = moves_from (blocked (exists None)) 0 [] t o.is_move
    none (answer l) o = o
