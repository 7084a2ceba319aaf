-- When a node comes to what an earlier node came to.
use Rattle.std.specs.Prelude.{ℕ, zero, suc, ◌==◌, nat_le, Bool, true, false, not, ◌&&◌, ◌||◌, cond, Option, Some, None, List, [], ◌∷◌, ◌++◌, take, drop, is_none, ℤ}
use Rattle.std.specs.List.{list_any, list_all}
use Rattle.qc_model.specs.Arguments.{variables_of}
use Rattle.qc_model.specs.Content.{Game, Rule}
use Rattle.qc_model.specs.Domains.{Box, declared_box, values_left, is_single}
use Rattle.qc_model.specs.Game.{before}
use Rattle.qc_model.specs.Lists.{same_values}
use Rattle.lemma_list.specs.Entailment.{entailed_by}
use Rattle.proof_tree.specs.Place.{position}
use Rattle.proof_alike.specs.Alike.{is_among, is_named, is_seen, sees}
use Rattle.dense_tree.specs.Place.{Place}

-- the test holds of each number below n
abbrev pub each_below : ℕ → (ℕ → Bool) → Bool
each_below zero p = true
each_below (suc n) p = p n && each_below n p

-- the constraint is of a scope from i on, or of the goal
abbrev pub is_from : ℕ → Rule → Bool
is_from i c = nat_le i c.owner.0

-- such a constraint has x, or a condition or an aggregate mentions it
abbrev pub is_read : Game → ℕ → ℕ → Bool
is_read g i x = list_any (λ c. is_from i c && is_among (variables_of c.args) x) g.constraints || is_named g x

-- each earlier variable that is read from scope i on has one value
abbrev pub reads_one_position : Game → ℕ → Box → Bool
reads_one_position g i box = each_below (before g i) (λ x. not (is_read g i x) || is_single (values_left box x))

-- what is left to the variables before scope i, and all declared values of the others
abbrev pub declared_from : Game → ℕ → Box → Box
declared_from g i box = take (before g i) box ++ drop (before g i) (declared_box g)

-- what a constraint sees of the position: nothing where it holds whatever comes, by the declared domains of what comes. What is left
-- to those won't do: a sum that has taken values looks as if it held
abbrev pub views : Game → ℕ → Box → Rule → List ℤ
views g i box c = cond (entailed_by c (declared_from g i box)) [] (sees g i (position g i box) c)

-- the positions look the same from scope i on
abbrev pub look_same : Game → ℕ → Box → Box → Bool
look_same g i a b =
    each_below (before g i) (λ x. not (is_seen g i x) || same_values (values_left a x) (values_left b x))
    && list_all (λ c. not (is_from i c) || same_values (views g i a c) (views g i b c)) g.constraints

abbrev pub same_horizon : Option ℕ → Option ℕ → Bool
same_horizon None None = true
same_horizon None (Some k) = false
same_horizon (Some k) None = false
same_horizon (Some k) (Some l) = k == l

abbrev pub same_left : Box → Box → Bool
same_left [] [] = true
same_left [] (e ∷ es) = false
same_left (d ∷ ds) [] = false
same_left (d ∷ ds) (e ∷ es) = same_values d e && same_left ds es

-- what is said below a horizon is so where nobody passes it: in a loose part there may be positions of which that isn't known, so of a
-- loose node only what has no horizon is told again
abbrev pub tells_of_all : Place → Bool
tells_of_all q = not q.loose || is_none q.horizon

-- what a bound above took isn't missed: none of the block stands above either place, or as much is left to what comes
abbrev pub misses_nothing : Game → Place → Place → Bool
misses_nothing g p q =
    not (p.bounded || q.bounded) || same_left (drop (before g p.number) p.box) (drop (before g p.number) q.box)

-- a node at p comes to what the one at q came to
abbrev pub are_alike : Game → Place → Place → Bool
are_alike g p q =
    (p.number == q.number) && same_horizon p.horizon q.horizon && tells_of_all q && misses_nothing g p q
    && reads_one_position g p.number p.box && reads_one_position g p.number q.box && look_same g p.number p.box q.box
