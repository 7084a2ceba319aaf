-- Plays worked out.
use Rattle.std.proofs.Common.{◌≡◌, ◌⊎◌, inl, inr, refl, sym, ap, subst}
use Rattle.std.specs.Prelude.{List, [], ◌∷◌, ◌++◌, codes, true, false, ℤ, pos}
use Rattle.proof_tree.specs.Text.{place_text}
use Rattle.qc_model.specs.declared.problem.Kind.{Kind}
use Rattle.qc_model.specs.declared.problem.Kind.TheVariants.{Exists, Forall}
use Rattle.qc_model.specs.declared.problem.Domain.TheVariants.{Range}
use Rattle.qc_model.specs.declared.problem.Arg.TheVariants.{Var}
use Rattle.qc_model.specs.declared.problem.Argument.TheVariants.{One}
use Rattle.qc_model.specs.declared.problem.Pred.TheVariants.{IntEq, IntLt}
use Rattle.qc_model.specs.Content.{Game}
use Rattle.qc_model.specs.Plan.{Plan, finish, choose, answer, no_entries, entry}
use Rattle.qc_model.specs.declared.problem.Scope.{Scope}
use Rattle.qc_model.specs.Game.{IsMove}
use Rattle.qc_model.specs.Counter.{HasEntry, CanPassBlock, CounterWins}
use Rattle.qc_play.specs.Ends.{IsSound}
use Rattle.proof_tree.proofs.Build.{var, scope, variable, rule}
use Rattle.qc_play.specs.Play.{play_of, Play, Turn, Ending, at_goal, stuck_at, hopeless_at, missing_at, not_allowed_at}
use Rattle.qc_play.specs.PlayText.{play_text, turn_line, unused_line}

abbrev tuple : Kind → ℤ → Turn
tuple k v = record { kind = k; tuple = v ∷ [] }

abbrev played : List Turn → Ending → List ℤ → Play
played ts e ms = record { turns = ts; ending = e; left = ms }

-- exists; var 0..1: x; forall; var 0..1: y; goal; constraint int_eq(x,y); solve;
abbrev guess : Game
guess = record {
  scopes = scope Exists ∷ scope Forall ∷ [];
  variables = variable 0 (Range (pos 0) (pos 1)) ∷ variable 1 (Range (pos 0) (pos 1)) ∷ [];
  aggregates = [];
  constraints = rule 2 IntEq (One (Var (var 0)) ∷ One (Var (var 1)) ∷ []) ∷ [];
}

-- whatever x is, y is the other number
abbrev other : Plan
other = answer (entry (pos 0 ∷ []) (choose (pos 1 ∷ []) finish) (entry (pos 1 ∷ []) (choose (pos 0 ∷ []) finish) no_entries))

x_is_zero : play_of guess Forall other (pos 0 ∷ []) ≡ played (tuple Exists (pos 0) ∷ tuple Forall (pos 1) ∷ []) (at_goal false) []
x_is_zero = refl

x_is_one_of_two_moves : play_of guess Forall other (pos 1 ∷ pos 7 ∷ []) ≡ played (tuple Exists (pos 1) ∷ tuple Forall (pos 0) ∷ []) (at_goal false) (pos 7 ∷ [])
x_is_one_of_two_moves = refl

x_is_two : play_of guess Forall other (pos 2 ∷ []) ≡ played [] (not_allowed_at 0) (pos 2 ∷ [])
x_is_two = refl

-- a reply to 0 alone: 1 is taken to be hopeless
abbrev half : Plan
half = answer (entry (pos 0 ∷ []) (choose (pos 1 ∷ []) finish) no_entries)

x_without_reply : play_of guess Forall half (pos 1 ∷ []) ≡ played (tuple Exists (pos 1) ∷ []) (hopeless_at 0) []
x_without_reply = refl

-- exists; var 0..1: x; forall; var 0..1: y; constraint int_lt(y,x); goal; constraint int_lt(y,x); solve;
abbrev below : Game
below = record {
  scopes = scope Exists ∷ scope Forall ∷ [];
  variables = variable 0 (Range (pos 0) (pos 1)) ∷ variable 1 (Range (pos 0) (pos 1)) ∷ [];
  aggregates = [];
  constraints = rule 1 IntLt (One (Var (var 1)) ∷ One (Var (var 0)) ∷ []) ∷ rule 2 IntLt (One (Var (var 1)) ∷ One (Var (var 0)) ∷ []) ∷ [];
}

-- x is 0, and nothing is below it
abbrev least : Plan
least = choose (pos 0 ∷ []) (answer no_entries)

nothing_below : play_of below Exists least (pos 0 ∷ []) ≡ played (tuple Exists (pos 0) ∷ []) (stuck_at 1) (pos 0 ∷ [])
nothing_below = refl

-- x is 1, and y has to be 0
abbrev greatest : Plan
greatest = choose (pos 1 ∷ []) (answer (entry (pos 0 ∷ []) finish no_entries))

y_is_zero : play_of below Exists greatest (pos 0 ∷ []) ≡ played (tuple Exists (pos 1) ∷ tuple Forall (pos 0) ∷ []) (at_goal true) []
y_is_zero = refl

y_is_missing : play_of below Exists greatest [] ≡ played (tuple Exists (pos 1) ∷ []) (missing_at 1) []
y_is_missing = refl

y_is_too_great : play_of below Exists greatest (pos 1 ∷ []) ≡ played (tuple Exists (pos 1) ∷ []) (not_allowed_at 1) (pos 1 ∷ [])
y_is_too_great = refl

-- the text of a play
text_of_a_play : play_text (play_of guess Forall other (pos 1 ∷ pos 7 ∷ [])) ≡
    turn_line 0 Exists (pos 1 ∷ []) ++ (turn_line 1 Forall (pos 0 ∷ []) ++ (codes "goal false\n" ++ unused_line 1))
text_of_a_play = refl

text_without_reply : play_text (play_of guess Forall half (pos 1 ∷ [])) ≡ turn_line 0 Exists (pos 1 ∷ []) ++ ((codes "hopeless " ++ (place_text 0 ++ codes "\n")) ++ unused_line 0)
text_without_reply = refl

-- the opponent's tree is one to play by: the premise of the theorem can be met
abbrev after_x : List Scope
after_x = scope Forall ∷ []

takes_one : CounterWins guess after_x 1 (pos 0 ∷ []) (choose (pos 1 ∷ []) finish)
takes_one = record { is_move = record { is_tuple = (inr (inl refl), tt); is_allowed = refl }; after = (tt, λ e. cc) }

takes_zero : CounterWins guess after_x 1 (pos 1 ∷ []) (choose (pos 0 ∷ []) finish)
takes_zero = record { is_move = record { is_tuple = (inl refl, tt); is_allowed = refl }; after = (tt, λ e. cc) }

replies : (t : List ℤ) → IsMove guess 0 [] t →
    HasEntry (CounterWins guess after_x 1) [] t (entry (pos 0 ∷ []) (choose (pos 1 ∷ []) finish) (entry (pos 1 ∷ []) (choose (pos 0 ∷ []) finish) no_entries)) ⊎ (¬ CanPassBlock guess after_x 1 t)
replies [] m = absurd m.is_tuple
replies (v ∷ []) m = elim m.is_tuple.0 [
  | inl e ↦ inl (inl (ap (λ z. z ∷ []) (sym e), subst (λ z. CounterWins guess after_x 1 (z ∷ []) (choose (pos 1 ∷ []) finish)) (sym e) takes_one))
  | inr n ↦ elim n [
    | inl e ↦ inl (inr (inl (ap (λ z. z ∷ []) (sym e), subst (λ z. CounterWins guess after_x 1 (z ∷ []) (choose (pos 0 ∷ []) finish)) (sym e) takes_zero)))
    | inr k ↦ absurd k
  ]
]
replies (v ∷ w ∷ t) m = absurd m.is_tuple.1

other_is_sound : IsSound Forall guess guess.scopes 0 [] other
other_is_sound = record { wins = replies; once = ((λ m. elim m [ inl e ↦ zero_is_not_one e | inr k ↦ k ], (λ k. k, tt)), (tt, (tt, tt))) }
  where
    zero_is_not_one : ¬ (pos 0 ∷ [] ≡ pos 1 ∷ [])
    zero_is_not_one e = let h : pos 0 ≡ pos 1 = cc in cc

-- and the player's
greatest_is_optimal : IsSound Exists below below.scopes 0 [] greatest
greatest_is_optimal = record {
  is_move = record { is_tuple = (inr (inl refl), tt); is_allowed = refl };
  after = record { tuples = refl; each = ((tt, refl), tt) };
  best = tt;
}
