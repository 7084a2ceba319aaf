-- The tree of a solution nests few parts, and has few ends.
use Rattle.std.proofs.Common.{◌≤◌, ◌^◌, ◌&&◌, ℕ, ℤ, Option, arith}
use Rattle.std.specs.Prelude.{IsTrue}
use Rattle.std.proofs.lemmas.Bool.{and_parts}
use Rattle.qc_model.specs.Content.{Game}
use Rattle.qc_model.specs.Valid.{IsValid}
use Rattle.proof_tree.specs.declared.tree.Outcome.{Outcome}
use Rattle.proof_tree.specs.Counts.{depth_of, ends_of}
use Rattle.proof_tree.specs.InPlace.{root_in_place}
use Rattle.proof_tree.specs.Order.{opens_last, is_joined}
use Rattle.proof_tree.specs.Pieces.{each_case, goes_at_one}
use Rattle.proof_tree.specs.Proves.{shows}
use Rattle.proof_tree.specs.Read.{root_finding}
use Rattle.proof_tree.specs.Tree.{Tree}
use Rattle.proof_tree.proofs.EndsByTurns.{tree_ends}
use Rattle.game_search.specs.Solution.{Solution}

-- as the law of nesting has it
abbrev IsShallow : Type 0
IsShallow = (g : Game) (t : Tree) → IsValid g → IsTrue (root_in_place g t) → IsTrue (each_case goes_at_one t) → depth_of t ≤ 564

pub solution_depth : (g : Game) (turns : ℕ) (outcome : Outcome) (optimum : Option ℤ) (t : Tree) → IsValid g → IsShallow → Solution g turns outcome optimum t → depth_of t ≤ 1000
solution_depth g turns outcome optimum t valid shallow s =
    let placed = (and_parts (root_in_place g t) (shows g t (root_finding g t) outcome optimum) s.proves).0 in
    let joined = (and_parts (each_case opens_last t && each_case goes_at_one t && each_case is_joined t) _ s.in_order).0 in
    let ones = (and_parts (each_case opens_last t) (each_case goes_at_one t) (and_parts (each_case opens_last t && each_case goes_at_one t) (each_case is_joined t) joined).0).1 in
    let few = shallow g t valid placed ones in
    omega (arith, few)

pub solution_ends : (g : Game) (turns : ℕ) (outcome : Outcome) (optimum : Option ℤ) (t : Tree) → turns ≤ 10000000 → Solution g turns outcome optimum t → ends_of t ≤ 2 ^ 30
solution_ends g turns outcome optimum t small s =
    let few = tree_ends t in
    let spent = s.few in
    omega (arith, few, spent, small)
