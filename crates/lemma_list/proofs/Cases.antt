-- Small games with lists of lemmas that prove who loses them, and lists that are just wrong.
use Rattle.std.proofs.Common.{◌≡◌, ℕ, true, false, List, [], ◌∷◌, refl}
use Rattle.std.specs.Prelude.{ℤ, pos, negsuc, codes}
use Rattle.qc_model.specs.declared.problem.Kind.{Kind}
use Rattle.qc_model.specs.declared.problem.Kind.TheVariants.{Exists, Forall}
use Rattle.qc_model.specs.declared.problem.Arg.TheVariants.{Num}
use Rattle.qc_model.specs.declared.problem.Argument.TheVariants.{One, Many, Numbers}
use Rattle.qc_model.specs.declared.problem.Pred.TheVariants.{IntLe, IntLt, IntNe, IntPlus, IntLinEq, IntLinLe, ArrayVarIntElement, BoolClause}
use Rattle.qc_model.specs.declared.problem.Domain.TheVariants.{Bits, Range}
use Rattle.qc_model.specs.Content.{Game}
use Rattle.qc_model.specs.Game.{allows}
use Rattle.lemma_list.specs.declared.lemma.Ending.TheVariants.{Emptied, Goal}
use Rattle.lemma_list.specs.Lemmas.{Entry}
use Rattle.lemma_list.specs.InPlace.{proves}
use Rattle.lemma_list.proofs.Build.{scope, variable, var, rule, is, sum, constraint, lemma, cut, choose, lost, with_sums, loses, forgets}

-- forall; var 0..2: y; constraint int_ne(y,1); exists; var 0..3: z; constraint int_le(z,2); forall; var 0..1: u; exists; var 0..3: t;
-- goal; constraint int_lin_eq([1,1,-1],[z,u,t],0); constraint int_lin_le([1,-1],[y,z],0); solve;
abbrev pub turns : Game
turns = record {
  scopes = scope Forall ∷ scope Exists ∷ scope Forall ∷ scope Exists ∷ [];
  variables =
      variable 0 (codes "y") (Range (pos 0) (pos 2)) ∷ variable 1 (codes "z") (Range (pos 0) (pos 3))
      ∷ variable 2 (codes "u") (Range (pos 0) (pos 1)) ∷ variable 3 (codes "t") (Range (pos 0) (pos 3)) ∷ [];
  aggregates = [];
  constraints =
      rule 0 IntNe (One (var 0) ∷ One (Num (pos 1)) ∷ []) ∷ rule 1 IntLe (One (var 1) ∷ One (Num (pos 2)) ∷ [])
      ∷ rule 4 IntLinEq (Numbers (pos 1 ∷ pos 1 ∷ negsuc 0 ∷ []) ∷ Many (var 1 ∷ var 2 ∷ var 3 ∷ []) ∷ One (Num (pos 0)) ∷ [])
      ∷ rule 4 IntLinLe (Numbers (pos 1 ∷ negsuc 0 ∷ []) ∷ Many (var 0 ∷ var 1 ∷ []) ∷ One (Num (pos 0)) ∷ []) ∷ [];
}

-- where z is 2 and u is 1 the player takes 3 for t; and from the start it takes 2 for z, and 2 for t where u isn't 1
abbrev pub two_turns : List Entry
two_turns =
    loses Forall (is 1 (pos 2) (pos 2) ∷ is 2 (pos 1) (pos 1) ∷ []) (choose 3 (pos 3) ∷ []) Goal
    ∷ loses Forall [] (choose 1 (pos 2) ∷ choose 3 (pos 2) ∷ cut 2 (pos 1) (pos 1) (lemma 0) ∷ []) Goal ∷ []

pub turns_proved : proves turns Forall two_turns ≡ true
turns_proved = refl

-- each lemma says who loses, and the last who loses the game
other_side : proves turns Exists two_turns ≡ false
other_side = refl

-- literals ascend
in_order : proves turns Forall
    (loses Forall (is 2 (pos 1) (pos 1) ∷ is 1 (pos 2) (pos 2) ∷ []) (choose 3 (pos 3) ∷ []) Goal
    ∷ loses Forall [] (choose 1 (pos 2) ∷ choose 3 (pos 2) ∷ cut 2 (pos 1) (pos 1) (lemma 0) ∷ []) Goal ∷ []) ≡ false
in_order = refl

-- they stand before the position: t isn't chosen there yet
before_place : proves turns Forall (loses Forall (is 2 (pos 1) (pos 1) ∷ is 3 (pos 3) (pos 3) ∷ []) [] Goal ∷ []) ≡ false
before_place = refl

-- a lemma holds where its literals do: z isn't 1
not_met : proves turns Forall
    (loses Forall (is 1 (pos 2) (pos 2) ∷ is 2 (pos 1) (pos 1) ∷ []) (choose 3 (pos 3) ∷ []) Goal
    ∷ loses Forall [] (choose 1 (pos 1) ∷ choose 3 (pos 1) ∷ cut 2 (pos 1) (pos 1) (lemma 0) ∷ []) Goal ∷ []) ≡ false
not_met = refl

-- z is 3: its owner may not choose that
not_allowed : proves turns Forall (loses Forall [] (choose 1 (pos 3) ∷ choose 3 (pos 3) ∷ cut 2 (pos 0) (pos 0) (constraint 2) ∷ []) Goal ∷ []) ≡ false
not_allowed = refl

-- a lemma that was forgotten isn't named, and none is forgotten twice
forgotten : proves turns Forall
    (loses Forall (is 1 (pos 2) (pos 2) ∷ is 2 (pos 1) (pos 1) ∷ []) (choose 3 (pos 3) ∷ []) Goal ∷ forgets 0
    ∷ loses Forall [] (choose 1 (pos 2) ∷ choose 3 (pos 2) ∷ cut 2 (pos 1) (pos 1) (lemma 0) ∷ []) Goal ∷ []) ≡ false
forgotten = refl

two_by_two : List Entry
two_by_two =
    loses Forall (is 1 (pos 2) (pos 2) ∷ is 2 (pos 1) (pos 1) ∷ []) (choose 3 (pos 3) ∷ []) Goal
    ∷ loses Forall (is 1 (pos 2) (pos 2) ∷ is 2 (pos 0) (pos 1) ∷ []) (choose 3 (pos 2) ∷ cut 2 (pos 1) (pos 1) (lemma 0) ∷ []) Goal ∷ forgets 0
    ∷ loses Forall [] (choose 1 (pos 2) ∷ []) (lost (lemma 1)) ∷ []

unneeded : proves turns Forall two_by_two ≡ true
unfolding two_by_two
unneeded = refl

forgotten_twice : proves turns Forall
    (loses Forall (is 1 (pos 2) (pos 2) ∷ is 2 (pos 1) (pos 1) ∷ []) (choose 3 (pos 3) ∷ []) Goal ∷ forgets 0 ∷ forgets 0
    ∷ loses Forall [] (choose 1 (pos 2) ∷ choose 3 (pos 2) ∷ cut 2 (pos 1) (pos 1) (constraint 2) ∷ []) Goal ∷ []) ≡ false
forgotten_twice = refl

-- exists; var 0..1: x; forall; var 0..1: y; constraint int_le(y,x); goal; constraint int_ne(y,1); solve;
abbrev pub limited : Game
limited = record {
  scopes = scope Exists ∷ scope Forall ∷ [];
  variables = variable 0 (codes "x") (Range (pos 0) (pos 1)) ∷ variable 1 (codes "y") (Range (pos 0) (pos 1)) ∷ [];
  aggregates = [];
  constraints = rule 1 IntLe (One (var 1) ∷ One (var 0) ∷ []) ∷ rule 2 IntNe (One (var 1) ∷ One (Num (pos 1)) ∷ []) ∷ [];
}

-- the player takes 0 for x, so y can't be 1
pub limited_won : proves limited Forall (loses Forall [] (choose 0 (pos 0) ∷ cut 1 (pos 1) (pos 1) (constraint 0) ∷ []) Goal ∷ []) ≡ true
limited_won = refl

-- play goes on after y = 1 only where that is allowed, as it isn't where x is 0
not_reached : proves limited Exists (loses Exists [] (choose 1 (pos 1) ∷ []) (lost (constraint 1)) ∷ []) ≡ false
not_reached = refl

-- it is where x is 1, but the player needn't take that
reached : proves limited Exists
    (loses Exists (is 0 (pos 1) (pos 1) ∷ []) (choose 1 (pos 1) ∷ []) (lost (constraint 1)) ∷ loses Exists [] (cut 0 (pos 1) (pos 1) (lemma 0) ∷ []) (lost (lemma 0)) ∷ []) ≡ false
reached = refl

-- a reason is a constraint that the loser has to keep
by_the_winners : proves limited Exists (loses Exists [] (choose 1 (pos 1) ∷ cut 0 (pos 0) (pos 0) (constraint 0) ∷ []) (lost (constraint 1)) ∷ []) ≡ false
by_the_winners = refl

-- exists; var 0..2: x; forall; var 0..2: y; exists; var 0..1: z; goal; constraint int_lin_eq([1,1,-1],[x,z,y],0); solve;
abbrev pub met_halfway : Game
met_halfway = record {
  scopes = scope Exists ∷ scope Forall ∷ scope Exists ∷ [];
  variables = variable 0 (codes "x") (Range (pos 0) (pos 2)) ∷ variable 1 (codes "y") (Range (pos 0) (pos 2)) ∷ variable 2 (codes "z") (Range (pos 0) (pos 1)) ∷ [];
  aggregates = [];
  constraints = rule 3 IntLinEq (Numbers (pos 1 ∷ pos 1 ∷ negsuc 0 ∷ []) ∷ Many (var 0 ∷ var 2 ∷ var 1 ∷ []) ∷ One (Num (pos 0)) ∷ []) ∷ [];
}

-- the opponent takes 0 for y where x is more than that, and else 2
pub halfway_lost : proves met_halfway Exists
    (loses Exists (is 0 (pos 1) (pos 2) ∷ []) (choose 1 (pos 0) ∷ []) (lost (constraint 0)) ∷ loses Exists [] (choose 1 (pos 2) ∷ cut 0 (pos 1) (pos 2) (lemma 0) ∷ []) (lost (constraint 0)) ∷ []) ≡ true
halfway_lost = refl

-- exists; var 0..1: x; goal; constraint int_ne(x,N); solve;
abbrev pub not_that : ℤ → Game
not_that n = record {
  scopes = scope Exists ∷ [];
  variables = variable 0 (codes "x") (Range (pos 0) (pos 1)) ∷ [];
  aggregates = [];
  constraints = rule 1 IntNe (One (var 0) ∷ One (Num n) ∷ []) ∷ [];
}

-- the opponent doesn't choose the player's variable
not_its_own : proves (not_that (pos 0)) Exists (loses Exists [] (choose 0 (pos 0) ∷ []) (lost (constraint 0)) ∷ []) ≡ false
not_its_own = refl

its_own : proves (not_that (pos 0)) Forall (loses Forall [] (choose 0 (pos 1) ∷ []) Goal ∷ []) ≡ true
its_own = refl

-- nor does the player's choice lose values
not_the_winners : proves (not_that (pos 0)) Forall (loses Forall [] (cut 0 (pos 0) (pos 0) (constraint 0) ∷ []) Goal ∷ []) ≡ false
not_the_winners = refl

-- exists; var 0..1: x; constraint int_lt(1,x); goal; solve;
abbrev pub no_move : Game
no_move = record {
  scopes = scope Exists ∷ [];
  variables = variable 0 (codes "x") (Range (pos 0) (pos 1)) ∷ [];
  aggregates = [];
  constraints = rule 0 IntLt (One (Num (pos 1)) ∷ One (var 0) ∷ []) ∷ [];
}

-- the goal counts only where the player's restrictions are kept
goal_without_move : proves no_move Forall (loses Forall [] [] Goal ∷ []) ≡ false
goal_without_move = refl

pub lost_at_once : proves no_move Exists (loses Exists [] [] (lost (constraint 0)) ∷ []) ≡ true
lost_at_once = refl

pub emptied : proves no_move Exists (loses Exists [] (cut 0 (pos 0) (pos 1) (constraint 0) ∷ []) Emptied ∷ []) ≡ true
emptied = refl

-- a value is left
not_emptied : proves no_move Exists (loses Exists [] (cut 0 (pos 0) (pos 0) (constraint 0) ∷ []) Emptied ∷ []) ≡ false
not_emptied = refl

-- nothing follows where none is left, and a cut is of values that are
nothing_after : proves no_move Exists (loses Exists [] (cut 0 (pos 0) (pos 1) (constraint 0) ∷ []) (lost (constraint 0)) ∷ []) ≡ false
nothing_after = refl

nothing_cut : proves no_move Exists (loses Exists [] (cut 0 (pos 2) (pos 3) (constraint 0) ∷ []) (lost (constraint 0)) ∷ []) ≡ false
nothing_cut = refl

-- FIRST; var bool: a; SECOND; var bool: b; exists; var bool: c; goal; constraint bool_clause([a,b],[]); constraint bool_clause([],[a,b]); solve;
-- so a and b are to differ
abbrev pub differing : Kind → Kind → Game
differing first second = record {
  scopes = scope first ∷ scope second ∷ scope Exists ∷ [];
  variables = variable 0 (codes "a") Bits ∷ variable 1 (codes "b") Bits ∷ variable 2 (codes "c") Bits ∷ [];
  aggregates = [];
  constraints = rule 3 BoolClause (Many (var 0 ∷ var 1 ∷ []) ∷ Many [] ∷ []) ∷ rule 3 BoolClause (Many [] ∷ Many (var 0 ∷ var 1 ∷ []) ∷ []) ∷ [];
}

-- the opponent answers each value of x with the same one of the other, by clauses
abbrev pub same_again : ℕ → List Entry
same_again x = loses Exists [] (cut x (pos 0) (pos 0) (constraint 0) ∷ cut x (pos 1) (pos 1) (constraint 1) ∷ []) Emptied ∷ []

pub differing_lost : proves (differing Exists Forall) Exists (same_again 0) ≡ true
differing_lost = refl

-- where the opponent chooses first, the player wins: the opponent doesn't answer what comes after
no_answer_before : proves (differing Forall Exists) Exists (same_again 1) ≡ false
no_answer_before = refl

-- nor does an answer hold for other values: with b chosen, a has another
one_value : proves (differing Exists Forall) Exists (loses Exists [] (choose 1 (pos 0) ∷ cut 0 (pos 0) (pos 0) (constraint 0) ∷ cut 0 (pos 1) (pos 1) (constraint 1) ∷ []) Emptied ∷ []) ≡ false
one_value = refl

-- the same by lemmas, whose literal on b the opponent answers
abbrev by_lemmas : ℕ → List Entry
by_lemmas x =
    loses Exists (is 0 (pos 0) (pos 0) ∷ is 1 (pos 0) (pos 0) ∷ is 2 (pos 0) (pos 1) ∷ []) [] (lost (constraint 0))
    ∷ loses Exists (is 0 (pos 1) (pos 1) ∷ is 1 (pos 1) (pos 1) ∷ is 2 (pos 0) (pos 1) ∷ []) [] (lost (constraint 1))
    ∷ loses Exists [] (cut x (pos 0) (pos 0) (lemma 0) ∷ cut x (pos 1) (pos 1) (lemma 1) ∷ []) Emptied ∷ []

differing_by_lemmas : proves (differing Exists Forall) Exists (by_lemmas 0) ≡ true
differing_by_lemmas = refl

not_by_lemmas : proves (differing Forall Exists) Exists (by_lemmas 1) ≡ false
not_by_lemmas = refl

-- exists; var bool: a; forall; var bool: u; exists; var bool: x; goal; constraint bool_clause([a,u],[]); constraint bool_clause([],[a]); solve;
abbrev pub in_between : Game
in_between = record {
  scopes = scope Exists ∷ scope Forall ∷ scope Exists ∷ [];
  variables = variable 0 (codes "a") Bits ∷ variable 1 (codes "u") Bits ∷ variable 2 (codes "x") Bits ∷ [];
  aggregates = [];
  constraints = rule 3 BoolClause (Many (var 0 ∷ var 1 ∷ []) ∷ Many [] ∷ []) ∷ rule 3 BoolClause (Many [] ∷ Many (var 0 ∷ []) ∷ []) ∷ [];
}

-- where a is 0 the player loses, since u may be 0; but not where u is 1 already. So a lemma of a position isn't named at a
-- later one
earlier_position : proves in_between Exists
    (loses Exists (is 0 (pos 0) (pos 0) ∷ []) (choose 1 (pos 0) ∷ []) (lost (constraint 0)) ∷ loses Exists (is 0 (pos 0) (pos 0) ∷ is 2 (pos 0) (pos 1) ∷ []) [] (lost (lemma 0))
    ∷ loses Exists [] (cut 0 (pos 1) (pos 1) (constraint 1) ∷ []) (lost (lemma 1)) ∷ []) ≡ false
earlier_position = refl

won_already : allows in_between 3 (pos 0 ∷ pos 1 ∷ pos 0 ∷ []) ≡ true
won_already = refl

same_position : proves in_between Exists
    (loses Exists (is 0 (pos 0) (pos 0) ∷ []) (choose 1 (pos 0) ∷ []) (lost (constraint 0)) ∷ loses Exists (is 0 (pos 0) (pos 0) ∷ []) [] (lost (lemma 0))
    ∷ loses Exists [] (cut 0 (pos 1) (pos 1) (constraint 1) ∷ []) (lost (lemma 1)) ∷ []) ≡ true
same_position = refl

-- a lemma of the other side shows nothing
other_lemma : proves in_between Forall
    (loses Exists (is 0 (pos 0) (pos 0) ∷ []) (choose 1 (pos 0) ∷ []) (lost (constraint 0)) ∷ loses Forall [] (choose 0 (pos 0) ∷ []) (lost (lemma 0)) ∷ []) ≡ false
other_lemma = refl

-- exists; var 0..1: x; var 0..1: y; forall; var 0..1: u; exists; var 0..1: z; goal; constraint int_lin_le([1,1,1,1],[x,y,z,2],LIMIT); solve;
abbrev pub summed : ℤ → Game
summed limit = record {
  scopes = scope Exists ∷ scope Forall ∷ scope Exists ∷ [];
  variables =
      variable 0 (codes "x") (Range (pos 0) (pos 1)) ∷ variable 0 (codes "y") (Range (pos 0) (pos 1))
      ∷ variable 1 (codes "u") (Range (pos 0) (pos 1)) ∷ variable 2 (codes "z") (Range (pos 0) (pos 1)) ∷ [];
  aggregates = [];
  constraints =
      rule 3 IntLinLe (Numbers (pos 1 ∷ pos 1 ∷ pos 1 ∷ pos 1 ∷ []) ∷ Many (var 0 ∷ var 1 ∷ var 3 ∷ Num (pos 2) ∷ []) ∷ One (Num limit) ∷ []) ∷ [];
}

-- where x and y come to 1 at most the player takes 0 for z, and wins up to 3; and it takes 0 for x. The literal on u,
-- which says nothing, tells the position
abbrev pub by_their_sum : List Entry
by_their_sum =
    with_sums Forall (is 2 (pos 0) (pos 1) ∷ []) (sum 0 (pos 0) (pos 1) ∷ []) (choose 3 (pos 0) ∷ []) Goal ∷ loses Forall [] (choose 0 (pos 0) ∷ []) (lost (lemma 0)) ∷ []

pub sum_proved : proves (summed (pos 3)) Forall by_their_sum ≡ true
sum_proved = refl

-- the number 2 among the items counts once, in the constraint and not in the literal: the sum is 2 at least, which is
-- more than 1, and 4 at most where x is 0
each_term : proves (summed (pos 1)) Forall by_their_sum ≡ false
each_term = refl

abbrev one_too_many : List Entry
one_too_many =
    with_sums Exists (is 3 (pos 1) (pos 1) ∷ []) (sum 0 (pos 0) (pos 1) ∷ []) [] (lost (constraint 0)) ∷ loses Exists [] (cut 3 (pos 1) (pos 1) (lemma 0) ∷ []) (lost (lemma 0)) ∷ []

once_only : proves (summed (pos 4)) Exists one_too_many ≡ false
once_only = refl

pub not_at_all : proves (summed (pos 1)) Exists (loses Exists [] [] (lost (constraint 0)) ∷ []) ≡ true
not_at_all = refl

-- the sum isn't shown where x and y may both be 1
not_shown : proves (summed (pos 3)) Forall
    (with_sums Forall (is 2 (pos 0) (pos 1) ∷ []) (sum 0 (pos 0) (pos 1) ∷ []) (choose 3 (pos 0) ∷ []) Goal ∷ loses Forall [] [] (lost (lemma 0)) ∷ []) ≡ false
not_shown = refl

-- it is known to the lemma that has it, and no other
unknown : proves (summed (pos 3)) Forall (loses Forall (is 2 (pos 0) (pos 1) ∷ []) (choose 3 (pos 0) ∷ []) Goal ∷ loses Forall [] (choose 0 (pos 0) ∷ []) (lost (lemma 0)) ∷ []) ≡ false
unknown = refl

-- exists; var 0..1: x; forall; var 0..1: y; goal; constraint int_lin_le([1,1],[x,y],0); solve;
abbrev pub two_terms : Game
two_terms = record {
  scopes = scope Exists ∷ scope Forall ∷ [];
  variables = variable 0 (codes "x") (Range (pos 0) (pos 1)) ∷ variable 1 (codes "y") (Range (pos 0) (pos 1)) ∷ [];
  aggregates = [];
  constraints = rule 2 IntLinLe (Numbers (pos 1 ∷ pos 1 ∷ []) ∷ Many (var 0 ∷ var 1 ∷ []) ∷ One (Num (pos 0)) ∷ []) ∷ [];
}

-- a lemma's sum is of the terms before its last scope: y, which may be 1, counts besides
last_term : proves two_terms Forall
    (with_sums Forall (is 1 (pos 0) (pos 1) ∷ []) (sum 0 (pos 0) (pos 0) ∷ []) [] Goal ∷ loses Forall [] (choose 0 (pos 0) ∷ []) (lost (lemma 0)) ∷ []) ≡ false
last_term = refl

-- exists; var 0..3: x; var 0..3: y; forall; var 0..1: u; exists; var 0..6: z; goal; constraint PRED(x,y,..); solve;
abbrev pub compared : Game
compared = record {
  scopes = scope Exists ∷ scope Forall ∷ scope Exists ∷ [];
  variables =
      variable 0 (codes "x") (Range (pos 0) (pos 3)) ∷ variable 0 (codes "y") (Range (pos 0) (pos 3))
      ∷ variable 1 (codes "u") (Range (pos 0) (pos 1)) ∷ variable 2 (codes "z") (Range (pos 0) (pos 6)) ∷ [];
  aggregates = [];
  constraints =
      rule 3 IntLe (One (var 0) ∷ One (var 1) ∷ []) ∷ rule 3 IntLt (One (var 0) ∷ One (var 1) ∷ []) ∷ rule 3 IntPlus (One (var 0) ∷ One (var 1) ∷ One (var 3) ∷ []) ∷ [];
}

-- x - y is -1 at most, and x + y is 3: so x is at most y, less than it, and z is 3
by_differences : proves compared Forall
    (with_sums Forall (is 2 (pos 0) (pos 1) ∷ []) (sum 0 (negsuc 2) (pos 0) ∷ sum 1 (negsuc 2) (negsuc 0) ∷ sum 2 (pos 3) (pos 3) ∷ []) (choose 3 (pos 3) ∷ []) Goal
    ∷ loses Forall [] (choose 0 (pos 1) ∷ choose 1 (pos 2) ∷ []) (lost (lemma 0)) ∷ []) ≡ true
by_differences = refl

not_less : proves compared Forall
    (with_sums Forall (is 2 (pos 0) (pos 1) ∷ []) (sum 0 (negsuc 2) (pos 0) ∷ sum 1 (negsuc 2) (pos 0) ∷ sum 2 (pos 3) (pos 3) ∷ []) (choose 3 (pos 3) ∷ []) Goal
    ∷ loses Forall [] (choose 0 (pos 1) ∷ choose 1 (pos 2) ∷ []) (lost (lemma 0)) ∷ []) ≡ false
not_less = refl

not_three : proves compared Forall
    (with_sums Forall (is 2 (pos 0) (pos 1) ∷ []) (sum 0 (negsuc 2) (pos 0) ∷ sum 1 (negsuc 2) (negsuc 0) ∷ sum 2 (pos 3) (pos 4) ∷ []) (choose 3 (pos 3) ∷ []) Goal
    ∷ loses Forall [] (choose 0 (pos 1) ∷ choose 1 (pos 2) ∷ []) (lost (lemma 0)) ∷ []) ≡ false
not_three = refl

-- a sum is of a linear constraint
no_sum : proves (not_that (pos 0)) Forall (with_sums Forall [] (sum 0 (pos 0) (pos 1) ∷ []) (choose 0 (pos 1) ∷ []) Goal ∷ loses Forall [] (choose 0 (pos 1) ∷ []) Goal ∷ []) ≡ false
no_sum = refl

-- exists; var 0..1: a; var 0..1: b; constraint int_lin_le([1,1],[a,b],1); forall; var 1..2: i;
-- constraint array_var_int_element(i,[a,b],0); goal; constraint int_lt(1,0); solve;
abbrev pub picks : Game
picks = record {
  scopes = scope Exists ∷ scope Forall ∷ [];
  variables =
      variable 0 (codes "a") (Range (pos 0) (pos 1)) ∷ variable 0 (codes "b") (Range (pos 0) (pos 1))
      ∷ variable 1 (codes "i") (Range (pos 1) (pos 2)) ∷ [];
  aggregates = [];
  constraints =
      rule 0 IntLinLe (Numbers (pos 1 ∷ pos 1 ∷ []) ∷ Many (var 0 ∷ var 1 ∷ []) ∷ One (Num (pos 1)) ∷ [])
      ∷ rule 1 ArrayVarIntElement (One (var 2) ∷ Many (var 0 ∷ var 1 ∷ []) ∷ One (Num (pos 0)) ∷ [])
      ∷ rule 2 IntLt (One (Num (pos 1)) ∷ One (Num (pos 0)) ∷ []) ∷ [];
}

-- where a is 0 the opponent takes 1 for i, whatever b is; and where it is 1, so that b is 0, 2
by_index : proves picks Exists
    (loses Exists (is 0 (pos 0) (pos 0) ∷ []) (choose 2 (pos 1) ∷ []) (lost (constraint 2))
    ∷ loses Exists [] (cut 0 (pos 0) (pos 0) (lemma 0) ∷ cut 1 (pos 1) (pos 1) (constraint 0) ∷ choose 2 (pos 2) ∷ []) (lost (constraint 2)) ∷ []) ≡ true
by_index = refl

-- where b is 0 it may not take 1, since a may be 1
another_index : proves picks Exists
    (loses Exists (is 1 (pos 0) (pos 0) ∷ []) (choose 2 (pos 1) ∷ []) (lost (constraint 2))
    ∷ loses Exists [] (cut 1 (pos 0) (pos 0) (lemma 0) ∷ cut 0 (pos 1) (pos 1) (constraint 0) ∷ choose 2 (pos 1) ∷ []) (lost (constraint 2)) ∷ []) ≡ false
another_index = refl
