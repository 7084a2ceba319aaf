-- What a dense certificate proves.
use Rattle.std.specs.Prelude.{◌==◌, nat_lt, Bool, true, false, not, ◌&&◌, Option, Some, None, List, [], ◌∷◌, slice_get, ℤ}
use Rattle.std.specs.List.{list_all}
use Rattle.qc_model.specs.Content.{Game}
use Rattle.qc_model.specs.Verdict.{is_exact, is_lost, is_unknown}
use Rattle.proof_tree.specs.declared.tree.Outcome.{Outcome}
use Rattle.proof_tree.specs.declared.tree.Outcome.TheVariants.{True, False, Open}
use Rattle.proof_tree.specs.Proves.{optimises_first, is_value}
use Rattle.dense_tree.specs.Tree.{Node, Given, Certificate}
use Rattle.dense_tree.specs.Counts.{turns_of, opens_of}
use Rattle.dense_tree.specs.Free.{is_universal, is_unrestricted, is_always_allowed}
use Rattle.dense_tree.specs.Read.{NodeRead, read_root}

-- a tuple is given of a universal scope with a restriction, and its owner can always take it
abbrev pub given_placed : Game → Given → Bool
given_placed g u =
    is_universal (slice_get g.scopes u.scope.0) && not (is_unrestricted g u.scope.0) && is_always_allowed g u.scope.0 u.tuple

-- scope after scope, one tuple each
abbrev pub are_in_order : List Given → Bool
are_in_order [] = true
are_in_order (u ∷ []) = true
are_in_order (u ∷ v ∷ us) = nat_lt u.scope.0 v.scope.0 && are_in_order (v ∷ us)

-- what the root comes to shows the outcome; an optimum stands beside True alone
abbrev pub shows : Game → Node → NodeRead → Outcome → Option ℤ → Bool
shows g t r True None = is_exact r.verdict && not (optimises_first g.scopes)
shows g t r True (Some v) = is_exact r.verdict && optimises_first g.scopes && is_value v r.own
shows g t r False None = is_lost r.verdict
shows g t r False (Some v) = false
shows g t r (Open n) None = is_unknown r.verdict && (turns_of t == n) && nat_lt 0 (opens_of t)
shows g t r (Open n) (Some v) = false

-- the certificate proves what it states: its given tuples and its lines are in place, and its root shows it
abbrev pub proves : Game → Outcome → Option ℤ → Certificate → Bool
proves g outcome optimum c =
    let r = read_root g c in
    are_in_order c.given && list_all (given_placed g) c.given && r.placed && shows g c.root r outcome optimum
