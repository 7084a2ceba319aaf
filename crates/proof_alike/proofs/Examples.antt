-- Boxes that look the same, and what the law asks of them and of the tree.
use Rattle.std.proofs.Common.{◌≡◌, inl, inr, ℕ, zero, suc, ◌<◌, Bool, true, false, [], ◌∷◌, length, drop, refl, sym, subst, arith, ℤ, None}
use Rattle.std.specs.Prelude.{pos, negsuc, codes, nat_le, IsTrue, IsFalse}
use Rattle.qc_model.specs.declared.problem.Kind.TheVariants.{Exists}
use Rattle.qc_model.specs.declared.problem.Arg.TheVariants.{Var, Num}
use Rattle.qc_model.specs.declared.problem.Argument.TheVariants.{One, Many, Numbers}
use Rattle.qc_model.specs.declared.problem.Pred.TheVariants.{IntLt, IntLinLe, IntPlus, BoolClause}
use Rattle.qc_model.specs.declared.problem.Domain.TheVariants.{Bits, Range}
use Rattle.qc_model.specs.Closed.{refutes_at}
use Rattle.qc_model.specs.Content.{Game, Rule}
use Rattle.qc_model.specs.Demands.{demands}
use Rattle.qc_model.specs.Domains.{Box, values_left, is_single}
use Rattle.qc_model.specs.Lists.{Among}
use Rattle.proof_tree.specs.Place.{position}
use Rattle.proof_tree.specs.Tree.{Tree, tree, cases, empty}
use Rattle.proof_tree.specs.InPlace.{in_place}
use Rattle.proof_tree.proofs.Build.{var, scope, variable, rule, prune}
use Rattle.proof_alike.specs.Alike.{is_looked_at, sees, AreAlike}
use Rattle.proof_alike.specs.Looking.{looks}

-- exists; var 0..1: x; exists; var 0..1: y; constraint int_lt(y,0); constraint int_lt(1,0); goal; solve;
abbrev game : Game
game = record {
  scopes = scope Exists ∷ scope Exists ∷ [];
  variables = record { name = codes "x"; scope = record { 0 = 0 }; domain = Range (pos 0) (pos 1) }
      ∷ record { name = codes "y"; scope = record { 0 = 1 }; domain = Range (pos 0) (pos 1) } ∷ [];
  aggregates = [];
  constraints = rule 1 IntLt (One (Var (var 1)) ∷ One (Num (pos 0)) ∷ []) ∷ rule 1 IntLt (One (Num (pos 1)) ∷ One (Num (pos 0)) ∷ []) ∷ [];
}

-- from the second scope on nothing looks at x
abbrev x_is_0 : Box
x_is_0 = (pos 0 ∷ []) ∷ (pos 0 ∷ pos 1 ∷ []) ∷ []

abbrev x_is_1 : Box
x_is_1 = (pos 1 ∷ []) ∷ (pos 0 ∷ pos 1 ∷ []) ∷ []

they_look_the_same : AreAlike game 1 x_is_0 x_is_1
they_look_the_same = record { size = refl; same = same; others = others; rules = rules }
  where
    same : (x : ℕ) → IsTrue (is_looked_at game 1 x) → values_left x_is_0 x ≡ values_left x_is_1 x
    same zero h = cc
    same (suc zero) h = refl
    same (suc (suc x)) h = refl

    others : (x : ℕ) → x < length x_is_0 → IsFalse (is_looked_at game 1 x) → (is_single (values_left x_is_0 x) ≡ true) × (is_single (values_left x_is_1 x) ≡ true)
    others zero l h = (refl, refl)
    others (suc zero) l h = cc
    others (suc (suc x)) l h = absurd (omega arith)

    rules : (c : Rule) → Among c game.constraints → IsTrue (nat_le 1 c.owner.0) → sees game 1 (position game 1 x_is_0) c ≡ sees game 1 (position game 1 x_is_1) c
    rules c m h = elim m [
      | inl q ↦ subst (λ r. sees game 1 (position game 1 x_is_0) r ≡ sees game 1 (position game 1 x_is_1) r) (sym q) refl
      | inr n ↦ elim n [
        | inl q ↦ subst (λ r. sees game 1 (position game 1 x_is_0) r ≡ sees game 1 (position game 1 x_is_1) r) (sym q) refl
        | inr k ↦ absurd k
      ]
    ]

-- y can't be below 0
abbrev own_removal : Tree
own_removal = tree None (cases (prune 1 (pos 0) (pos 1) 0 ∷ []) empty)

own_looks : looks game 1 own_removal ≡ true
own_looks = refl

in_both : (in_place game own_removal (drop 1 game.scopes) 1 (demands game 1) x_is_0 None ≡ true) × (in_place game own_removal (drop 1 game.scopes) 1 (demands game 1) x_is_1 None ≡ true)
in_both = (refl, refl)

-- 1 isn't below 0, so any value of any variable may be removed; x has 0 in one of the boxes alone
abbrev foreign_removal : Tree
foreign_removal = tree None (cases (prune 0 (pos 0) (pos 0) 1 ∷ []) empty)

foreign_looks_away : looks game 1 foreign_removal ≡ false
foreign_looks_away = refl

in_one : (in_place game foreign_removal (drop 1 game.scopes) 1 (demands game 1) x_is_0 None ≡ true) × (in_place game foreign_removal (drop 1 game.scopes) 1 (demands game 1) x_is_1 None ≡ false)
in_one = (refl, refl)

-- a variable that nothing looks at counts where it has no value left
abbrev none_for_x : Box
none_for_x = [] ∷ (pos 0 ∷ pos 1 ∷ []) ∷ []

abbrev nothing_left : Tree
nothing_left = tree None (cases [] empty)

empty_in_one : (in_place game nothing_left (drop 1 game.scopes) 1 (demands game 1) none_for_x None ≡ true) × (in_place game nothing_left (drop 1 game.scopes) 1 (demands game 1) x_is_0 None ≡ false)
empty_in_one = (refl, refl)

-- exists; var 0..2: x; var 0..2: y; exists; var 0..2: z; constraint int_lin_le([1,1,1],[x,y,z],1); goal; solve;
abbrev sum : Rule
sum = rule 1 IntLinLe (Numbers (pos 1 ∷ pos 1 ∷ pos 1 ∷ []) ∷ Many (Var (var 0) ∷ Var (var 1) ∷ Var (var 2) ∷ []) ∷ One (Num (pos 1)) ∷ [])

abbrev summing : Game
summing = record {
  scopes = scope Exists ∷ scope Exists ∷ [];
  variables = variable 0 (Range (pos 0) (pos 2)) ∷ variable 0 (Range (pos 0) (pos 2)) ∷ variable 1 (Range (pos 0) (pos 2)) ∷ [];
  aggregates = [];
  constraints = sum ∷ [];
}

abbrev sum_box : ℤ → ℤ → Box
sum_box x y = (x ∷ []) ∷ (y ∷ []) ∷ (pos 0 ∷ pos 1 ∷ pos 2 ∷ []) ∷ []

abbrev none_and_two : Box
none_and_two = sum_box (pos 0) (pos 2)

abbrev one_and_one : Box
one_and_one = sum_box (pos 1) (pos 1)

abbrev none_and_one : Box
none_and_one = sum_box (pos 0) (pos 1)

-- x and y come to 2 in two of the boxes, by other values
sums_look_the_same : AreAlike summing 1 none_and_two one_and_one
sums_look_the_same = record { size = refl; same = same; others = others; rules = rules }
  where
    same : (x : ℕ) → IsTrue (is_looked_at summing 1 x) → values_left none_and_two x ≡ values_left one_and_one x
    same zero h = cc
    same (suc zero) h = cc
    same (suc (suc zero)) h = refl
    same (suc (suc (suc x))) h = refl

    others : (x : ℕ) → x < length none_and_two → IsFalse (is_looked_at summing 1 x) → (is_single (values_left none_and_two x) ≡ true) × (is_single (values_left one_and_one x) ≡ true)
    others zero l h = (refl, refl)
    others (suc zero) l h = (refl, refl)
    others (suc (suc zero)) l h = cc
    others (suc (suc (suc x))) l h = absurd (omega arith)

    rules : (c : Rule) → Among c summing.constraints → IsTrue (nat_le 1 c.owner.0) → sees summing 1 (position summing 1 none_and_two) c ≡ sees summing 1 (position summing 1 one_and_one) c
    rules c m h = elim m [
      | inl q ↦ subst (λ r. sees summing 1 (position summing 1 none_and_two) r ≡ sees summing 1 (position summing 1 one_and_one) r) (sym q) refl
      | inr k ↦ absurd k
    ]

-- and to 1 in the third
sums_differ : (sees summing 1 (position summing 1 none_and_two) sum ≡ pos 2 ∷ []) × (sees summing 1 (position summing 1 none_and_one) sum ≡ pos 1 ∷ [])
sums_differ = (refl, refl)

-- so where they come to 2 no value is left to z
abbrev sum_removal : Tree
sum_removal = tree None (cases (prune 2 (pos 0) (pos 2) 0 ∷ []) empty)

sum_in_two : (in_place summing sum_removal (drop 1 summing.scopes) 1 (demands summing 1) none_and_two None ≡ true) × (in_place summing sum_removal (drop 1 summing.scopes) 1 (demands summing 1) one_and_one None ≡ true)
    × (in_place summing sum_removal (drop 1 summing.scopes) 1 (demands summing 1) none_and_one None ≡ false)
sum_in_two = (refl, refl, refl)

-- the sum lets the value of x go too: such a removal is legal, and looks away
abbrev early_removal : Tree
early_removal = tree None (cases (prune 0 (pos 0) (pos 0) 0 ∷ []) empty)

early_looks_away : looks summing 1 early_removal ≡ false
early_looks_away = refl

early_in_one : (in_place summing early_removal (drop 1 summing.scopes) 1 (demands summing 1) none_and_two None ≡ true) × (in_place summing early_removal (drop 1 summing.scopes) 1 (demands summing 1) one_and_one None ≡ false)
early_in_one = (refl, refl)

-- exists; var 0..2: x; var 0..2: y; exists; var 0..2: z; constraint int_plus(x,z,y); goal; solve;
abbrev difference : Rule
difference = rule 1 IntPlus (One (Var (var 0)) ∷ One (Var (var 2)) ∷ One (Var (var 1)) ∷ [])

abbrev differing : Game
differing = record {
  scopes = scope Exists ∷ scope Exists ∷ [];
  variables = variable 0 (Range (pos 0) (pos 2)) ∷ variable 0 (Range (pos 0) (pos 2)) ∷ variable 1 (Range (pos 0) (pos 2)) ∷ [];
  aggregates = [];
  constraints = difference ∷ [];
}

abbrev one_and_none : Box
one_and_none = sum_box (pos 1) (pos 0)

abbrev two_and_one : Box
two_and_one = sum_box (pos 2) (pos 1)

-- x exceeds y by 1 in two of the boxes, by other values
pluses_look_the_same : AreAlike differing 1 one_and_none two_and_one
pluses_look_the_same = record { size = refl; same = same; others = others; rules = rules }
  where
    same : (x : ℕ) → IsTrue (is_looked_at differing 1 x) → values_left one_and_none x ≡ values_left two_and_one x
    same zero h = cc
    same (suc zero) h = cc
    same (suc (suc zero)) h = refl
    same (suc (suc (suc x))) h = refl

    others : (x : ℕ) → x < length one_and_none → IsFalse (is_looked_at differing 1 x) → (is_single (values_left one_and_none x) ≡ true) × (is_single (values_left two_and_one x) ≡ true)
    others zero l h = (refl, refl)
    others (suc zero) l h = (refl, refl)
    others (suc (suc zero)) l h = cc
    others (suc (suc (suc x))) l h = absurd (omega arith)

    rules : (c : Rule) → Among c differing.constraints → IsTrue (nat_le 1 c.owner.0) → sees differing 1 (position differing 1 one_and_none) c ≡ sees differing 1 (position differing 1 two_and_one) c
    rules c m h = elim m [
      | inl q ↦ subst (λ r. sees differing 1 (position differing 1 one_and_none) r ≡ sees differing 1 (position differing 1 two_and_one) r) (sym q) refl
      | inr k ↦ absurd k
    ]

-- and is the same in the third
pluses_differ : (sees differing 1 (position differing 1 one_and_none) difference ≡ pos 1 ∷ []) × (sees differing 1 (position differing 1 one_and_one) difference ≡ pos 0 ∷ [])
pluses_differ = (refl, refl)

-- so where it exceeds y no value is left to z
abbrev plus_removal : Tree
plus_removal = tree None (cases (prune 2 (pos 0) (pos 2) 0 ∷ []) empty)

plus_in_two : (in_place differing plus_removal (drop 1 differing.scopes) 1 (demands differing 1) one_and_none None ≡ true)
    × (in_place differing plus_removal (drop 1 differing.scopes) 1 (demands differing 1) two_and_one None ≡ true)
    × (in_place differing plus_removal (drop 1 differing.scopes) 1 (demands differing 1) one_and_one None ≡ false)
plus_in_two = (refl, refl, refl)

-- int_plus(x,x,3): a variable that stands twice counts twice, and a number counts
abbrev doubled : Rule
doubled = rule 1 IntPlus (One (Var (var 0)) ∷ One (Var (var 0)) ∷ One (Num (pos 3)) ∷ [])

doubled_counts : (sees differing 1 (position differing 1 one_and_none) doubled ≡ negsuc 0 ∷ []) × (sees differing 1 (position differing 1 two_and_one) doubled ≡ pos 1 ∷ [])
doubled_counts = (refl, refl)

-- exists; var bool: x; var bool: y; exists; var bool: z; constraint bool_clause([x,z],[y]); goal; solve;
abbrev either : Rule
either = rule 1 BoolClause (Many (Var (var 0) ∷ Var (var 2) ∷ []) ∷ Many (Var (var 1) ∷ []) ∷ [])

abbrev choosing : Game
choosing = record {
  scopes = scope Exists ∷ scope Exists ∷ [];
  variables = variable 0 Bits ∷ variable 0 Bits ∷ variable 1 Bits ∷ [];
  aggregates = [];
  constraints = either ∷ [];
}

abbrev clause_box : ℤ → ℤ → Box
clause_box x y = (x ∷ []) ∷ (y ∷ []) ∷ (pos 0 ∷ pos 1 ∷ []) ∷ []

-- x satisfies the clause, y does, and neither
abbrev by_x : Box
by_x = clause_box (pos 1) (pos 1)

abbrev by_y : Box
by_y = clause_box (pos 0) (pos 0)

abbrev by_neither : Box
by_neither = clause_box (pos 0) (pos 1)

clauses_look_the_same : AreAlike choosing 1 by_x by_y
clauses_look_the_same = record { size = refl; same = same; others = others; rules = rules }
  where
    same : (x : ℕ) → IsTrue (is_looked_at choosing 1 x) → values_left by_x x ≡ values_left by_y x
    same zero h = cc
    same (suc zero) h = cc
    same (suc (suc zero)) h = refl
    same (suc (suc (suc x))) h = refl

    others : (x : ℕ) → x < length by_x → IsFalse (is_looked_at choosing 1 x) → (is_single (values_left by_x x) ≡ true) × (is_single (values_left by_y x) ≡ true)
    others zero l h = (refl, refl)
    others (suc zero) l h = (refl, refl)
    others (suc (suc zero)) l h = cc
    others (suc (suc (suc x))) l h = absurd (omega arith)

    rules : (c : Rule) → Among c choosing.constraints → IsTrue (nat_le 1 c.owner.0) → sees choosing 1 (position choosing 1 by_x) c ≡ sees choosing 1 (position choosing 1 by_y) c
    rules c m h = elim m [
      | inl q ↦ subst (λ r. sees choosing 1 (position choosing 1 by_x) r ≡ sees choosing 1 (position choosing 1 by_y) r) (sym q) refl
      | inr k ↦ absurd k
    ]

clauses_differ : (sees choosing 1 (position choosing 1 by_x) either ≡ []) × (sees choosing 1 (position choosing 1 by_neither) either ≡ pos 0 ∷ pos 0 ∷ pos 1 ∷ [])
clauses_differ = (refl, refl)

-- z can't be 0 where neither does
abbrev refutes_z_at_0 : Box → Bool
refutes_z_at_0 b = refutes_at either b 2 (pos 0)

forced_in_one : (refutes_z_at_0 by_x ≡ false) × (refutes_z_at_0 by_y ≡ false) × (refutes_z_at_0 by_neither ≡ true)
forced_in_one = (refl, refl, refl)
