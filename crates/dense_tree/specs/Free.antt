-- Free games: the opponent always has a move. And which constraints are in force at a scope, and what they may take.
use Rattle.std.specs.Prelude.{ℕ, suc, ◌==◌, Bool, true, false, not, ◌&&◌, ◌||◌, cond, Option, Some, None, List, [], ◌∷◌, length, slice_get, ℤ}
use Rattle.std.specs.List.{list_any}
use Rattle.qc_model.specs.declared.problem.Scope.{Scope}
use Rattle.qc_model.specs.Block.{of_kind, force_stop}
use Rattle.qc_model.specs.Content.{Game}
use Rattle.qc_model.specs.Domains.{declared_box}
use Rattle.qc_model.specs.Game.{restriction}
use Rattle.qc_model.specs.Verdict.{is_none_of}
use Rattle.proof_tree.specs.Place.{owner_of}
use Rattle.dense_closing.specs.Takes.{Takes}
use Rattle.dense_tree.specs.Tree.{Given}
use Rattle.dense_tree.specs.Tuples.{all_hold, is_tuple_of, box_taken}

-- no constraint stands in the scope
abbrev pub is_unrestricted : Game → ℕ → Bool
is_unrestricted g i = is_none_of (restriction g i)

abbrev pub is_universal : Option Scope → Bool
is_universal None = false
is_universal (Some s) = of_kind s.kind false true

-- a tuple of scope i that its owner can take whatever was chosen before: its restriction holds throughout the declared domains
abbrev pub is_always_allowed : Game → ℕ → List ℤ → Bool
is_always_allowed g i t = is_tuple_of g i (declared_box g) t && all_hold (restriction g i) (box_taken g i (declared_box g) t)

abbrev pub gives : Game → ℕ → Given → Bool
gives g i u = (u.scope.0 == i) && is_always_allowed g i u.tuple

-- the owner of scope i is never stuck: nothing restricts it, or a tuple is given that it can always take
abbrev pub is_never_stuck : Game → List Given → ℕ → Bool
is_never_stuck g us i = is_unrestricted g i || list_any (gives g i) us

-- nor is the opponent from scope i on; later has the scopes from there on
abbrev pub is_free_from : Game → List Given → List Scope → ℕ → Bool
is_free_from g us [] i = true
is_free_from g us (s ∷ later) i = of_kind s.kind true (is_never_stuck g us i) && is_free_from g us later (suc i)

abbrev pub is_free : Game → List Given → Bool
is_free g us = is_free_from g us g.scopes 0

-- a constraint of the opponent takes values of its own scope's variables alone, and any other one takes none of the opponent's
abbrev pub takes : Game → Takes
takes g c x =
    let owner = owner_of (slice_get g.variables x) in
    cond (is_universal (slice_get g.scopes c.owner.0)) (owner == c.owner.0) (not (is_universal (slice_get g.scopes owner)))

-- closing is joint at an existential scope of a free game, and at a universal one without a restriction
abbrev pub is_joint : Game → List Given → List Scope → ℕ → Bool
is_joint g us [] i = false
is_joint g us (s ∷ later) i = is_free g us && of_kind s.kind true (is_unrestricted g i)

-- the first number whose constraints aren't in force at scope i: joint closing takes in the goal
abbrev pub joint_stop : Game → List Given → List Scope → ℕ → ℕ
joint_stop g us later i = cond (is_joint g us later i) (suc (length g.scopes)) (force_stop later i)
