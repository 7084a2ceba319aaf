use Rattle.std.proofs.Common.{◌≤◌, ◌^◌, sym, subst, refl}
use Rattle.proof_tree.specs.Counts.{depth_of, ends_of}
use Rattle.game_search.specs.Solution.{Solution}
use Rattle.game_search.proofs.Trees.{solution_depth, solution_ends}
use Rattle.game_search.proofs.certify.solve.Goals as goal

pub to_tree-requires : goal.to_tree-requires
to_tree-requires c =
    let s = c.in_ok-flat.ensures.solution in
    record { tree = record { tree = s.tree; is_lines = s.is_lines; shallow = solution_depth c.args.problem.now c.args.turns _ _ s.tree c.known.ensures c.nesting_is_shallow.ensures.both s.solution } }

pub invariant_of-result : goal.invariant_of-result
invariant_of-result c =
    let g = c.args.problem.now in
    let s = c.in_ok-flat.ensures.solution in
    let same = sym (c.in_ok-root.ensures s.tree s.is_lines) in
    record {
      shallow = subst (λ t. depth_of t ≤ 1000) same (solution_depth g c.args.turns _ _ s.tree c.known.ensures c.nesting_is_shallow.ensures.both s.solution);
      few_ends = subst (λ t. ends_of t ≤ 2 ^ 30) same (solution_ends g c.args.turns _ _ s.tree c.requires.turns s.solution);
      worded = refl;
    }

pub returns-clause-solution : goal.returns-clause-solution
returns-clause-solution c =
    let s = c.in_ok-flat.ensures.solution in
    subst (λ t. Solution c.args.problem.now c.args.turns c.in_ok-flat.flat.outcome c.in_ok-flat.flat.optimum t) (sym (c.in_ok-root.ensures s.tree s.is_lines)) s.solution
