-- What a reason shows: that the loser of a lemma loses in a box.
use Rattle.std.specs.Prelude.{ℕ, suc, ◌==◌, nat_le, Bool, true, false, not, ◌&&◌, ◌||◌, List, [], ◌∷◌, length, slice_get, Option, Some, None, ℤ, pos}
use Rattle.std.specs.List.{list_any, list_all}
use Rattle.qc_model.specs.declared.problem.Kind.TheVariants.{Forall}
use Rattle.qc_model.specs.declared.problem.Arg.{Arg}
use Rattle.qc_model.specs.declared.problem.Arg.TheVariants.{Var, Num}
use Rattle.qc_model.specs.declared.problem.Argument.{Argument}
use Rattle.qc_model.specs.declared.problem.Argument.TheVariants.{Many}
use Rattle.qc_model.specs.Content.{Game, Rule}
use Rattle.qc_model.specs.Domains.{Box, values_left, has_value}
use Rattle.qc_model.specs.Block.{is_owned_within}
use Rattle.qc_model.specs.Counter.{opposite}
use Rattle.qc_model.specs.Left.{is_only}
use Rattle.qc_model.specs.Meaning.{Meaning, clause, meaning_of}
use Rattle.qc_model.specs.Refuted.{left_to}
use Rattle.lemma_list.specs.declared.lemma.Literal.{Literal}
use Rattle.lemma_list.specs.declared.lemma.Reason.{Reason}
use Rattle.lemma_list.specs.declared.lemma.Reason.TheVariants.{Constraint, Lemma as Earlier}
use Rattle.lemma_list.specs.Lemmas.{Lemma}
use Rattle.lemma_list.specs.Places.{is_kind, side_at, place}
use Rattle.lemma_list.specs.Literals.{meets}
use Rattle.lemma_list.specs.Sums.{last_scope, is_refuted, is_kept, is_sum_shown}

-- the lemmas so far, without those that aren't named any more
abbrev pub Known : Type 0
Known = List (Option Lemma)

abbrev pub if_known : Option (Option Lemma) → Option Lemma
if_known None = None
if_known (Some m) = m

abbrev pub lemma_at : Known → ℕ → Option Lemma
lemma_at known n = if_known (slice_get known n)

-- P holds of each constraint and its number, which begins with k
abbrev pub all_rules : (ℕ → Rule → Bool) → ℕ → List Rule → Bool
all_rules p k [] = true
all_rules p k (c ∷ cs) = p k c && all_rules p (suc k) cs

-- play goes on: the winner's restrictions from one scope to the one before another are kept in the box
abbrev pub goes_on : Game → Lemma → ℕ → ℕ → Box → Bool
goes_on g m from stop box =
    all_rules (λ k c. not (is_owned_within from stop c && is_kind (opposite m.loser) (side_at g c.owner.0)) || is_kept g m k c box) 0 g.constraints

-- the scope of a constraint, and the place of a lemma: play has to go on up to there
abbrev pub owner_of : Option Rule → ℕ
owner_of None = 0
owner_of (Some c) = c.owner.0

abbrev pub place_in : Game → Option Lemma → ℕ
place_in g None = 0
place_in g (Some n) = place g n

abbrev pub reason_place : Game → Known → Reason → ℕ
reason_place g known (Constraint c) = owner_of (slice_get g.constraints c.0)
reason_place g known (Earlier n) = place_in g (lemma_at known n.0)

-- an item of a clause comes to v: it has that value alone, or it is a variable that the winner may still answer with it,
-- and not one of the items on the clause's other side
abbrev pub is_item : ℕ → Arg → Bool
is_item x (Var y) = x == y.0
is_item x (Num n) = false

abbrev pub answered : (ℕ → Bool) → Box → List Arg → ℤ → Arg → Bool
answered answers box others v (Var y) = answers y.0 && has_value (values_left box y.0) v && not (list_any (is_item y.0) others)
answered answers box others v (Num n) = false

abbrev pub comes_to : (ℕ → Bool) → Box → List Arg → ℤ → Arg → Bool
comes_to answers box others v x = is_only v (left_to box x) || answered answers box others v x

-- each item of the clause is false, or the winner may make it so
abbrev pub falsified_as : (ℕ → Bool) → Box → Meaning → List Argument → Bool
falsified_as answers box clause (Many xs ∷ Many ys ∷ []) = list_all (comes_to answers box ys (pos 0)) xs && list_all (comes_to answers box xs (pos 1)) ys
falsified_as answers box m args = false

abbrev pub is_falsified : (ℕ → Bool) → Rule → Box → Bool
is_falsified answers c box = falsified_as answers box (meaning_of c.pred) c.args

-- a constraint of the loser, of the scope before the lemma's position or a later one, is refuted; the winner may answer
-- with the values of some variables
abbrev pub rule_shows : Game → Lemma → (ℕ → Bool) → Box → ℕ → Option Rule → Bool
rule_shows g m answers box k None = false
rule_shows g m answers box k (Some c) =
    is_kind m.loser (side_at g c.owner.0) && nat_le (place g m) (suc c.owner.0) && (is_refuted g m k c box || is_falsified answers c box)

-- each value left meets the literals, or the winner may answer with one that does
abbrev pub is_met : (ℕ → Bool) → List Literal → Box → Literal → Bool
is_met answers ls box l =
    list_all (meets ls l.x.0) (values_left box l.x.0) || (answers l.x.0 && list_any (meets ls l.x.0) (values_left box l.x.0))

-- a lemma of the same loser, of the same position or a later one, holds
abbrev pub lemma_shows : Game → Lemma → (ℕ → Bool) → Box → Option Lemma → Bool
lemma_shows g m answers box None = false
lemma_shows g m answers box (Some n) =
    is_kind m.loser n.loser && nat_le (place g m) (place g n) && list_all (is_met answers n.literals box) n.literals
    && list_all (is_sum_shown g m (last_scope g n) box) n.sums

abbrev pub reason_shows : Game → Known → Lemma → (ℕ → Bool) → Box → Reason → Bool
reason_shows g known m answers box (Constraint c) = rule_shows g m answers box c.0 (slice_get g.constraints c.0)
reason_shows g known m answers box (Earlier n) = lemma_shows g m answers box (lemma_at known n.0)

-- the reason shows it, where play is known to go on to the scope with the number passed
abbrev pub shows : Game → Known → Lemma → (ℕ → Bool) → ℕ → Box → Box → Reason → Bool
shows g known m answers passed before box r = goes_on g m passed (reason_place g known r) before && reason_shows g known m answers box r

-- the goal is kept, and play goes on to it: the opponent loses
abbrev pub goal_shows : Game → Lemma → ℕ → Box → Bool
goal_shows g m passed box =
    is_kind m.loser Forall && goes_on g m passed (length g.scopes) box && all_rules (λ k c. not (c.owner.0 == length g.scopes) || is_kept g m k c box) 0 g.constraints
