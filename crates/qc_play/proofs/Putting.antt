-- Lines that are put behind others.
use Rattle.std.proofs.Common.{◌≡◌, ◌∙◌, ◌<◌, ◌≤◌, ◌+◌, ℕ, List, [], ◌∷◌, ◌++◌, length, map, get_or, drop, sym, ap, subst, arith, append-nil, append_assoc}
use Rattle.std.proofs.lemmas.List.{drop_more, drop_all}
use Rattle.proof_tree.specs.declared.line.Line.{Line}
use Rattle.proof_tree.specs.declared.tree.Step.{Step}
use Rattle.proof_tree.specs.declared.tree.Piece.{Piece}
use Rattle.proof_tree.specs.Counts.{branch_weight, case_weight}
use Rattle.proof_tree.specs.Lines.{step_line, upto_lines, case_lines, branches_lines}
use Rattle.proof_tree.specs.Shape.{branches_of, case_of}

-- these lines stand behind those that stood there
abbrev pub IsPut : List Line → List Line → List Line → Type 0
IsPut old new ls = new ≡ old ++ ls

pub none_put : (old : List Line) → IsPut old old []
none_put old = sym (append-nil old)

pub both_put : (old mid new xs ys : List Line) → IsPut old mid xs → IsPut mid new ys → IsPut old new (xs ++ ys)
both_put old mid new xs ys e f = f ∙ (ap (λ ls. ls ++ ys) e ∙ append_assoc old xs ys)

-- one of several steps
pub step_put : (old mid end : List Line) (steps : List Step) (k : ℕ) (d : Step) → k < length steps → IsPut old mid (step_line (get_or steps k d) ∷ []) → IsPut mid end (map step_line (drop (k + 1) steps)) → IsPut old end (map step_line (drop k steps))
step_put old mid end steps k d h one more = subst (λ xs. IsPut old end (map step_line xs)) (sym (drop_more steps k d h)) (both_put old mid end _ _ one more)

pub steps_put : (old : List Line) (steps : List Step) (k : ℕ) → length steps ≤ k → IsPut old old (map step_line (drop k steps))
steps_put old steps k h = subst (λ xs. IsPut old old (map step_line xs)) (sym (drop_all k steps h)) (none_put old)

-- one of several cases
pub piece_put : (old mid next end : List Line) (ps : List Piece) (k : ℕ) (d : Piece) → k < length ps → IsPut old mid (upto_lines (get_or ps k d).upto) → IsPut mid next (case_lines (case_of (get_or ps k d).case)) →
    IsPut next end (branches_lines (branches_of (drop (k + 1) ps))) → IsPut old end (branches_lines (branches_of (drop k ps)))
piece_put old mid next end ps k d h first second more =
    subst (λ xs. IsPut old end (branches_lines (branches_of xs))) (sym (drop_more ps k d h)) (both_put old next end _ _ (both_put old mid next _ _ first second) more)

pub pieces_put : (old : List Line) (ps : List Piece) (k : ℕ) → length ps ≤ k → IsPut old old (branches_lines (branches_of (drop k ps)))
pieces_put old ps k h = subst (λ xs. IsPut old old (branches_lines (branches_of xs))) (sym (drop_all k ps h)) (none_put old)

pub pieces_fewer : (ps : List Piece) (k : ℕ) (d : Piece) → k < length ps → branch_weight (branches_of (drop (k + 1) ps)) ≤ branch_weight (branches_of (drop k ps))
pieces_fewer ps k d h = let e = ap (λ xs. branch_weight (branches_of xs)) (drop_more ps k d h) in omega (arith, e)

pub piece_less : (ps : List Piece) (k : ℕ) (p : Piece) → k < length ps → p ≡ get_or ps k p →
    case_weight (case_of p.case) < branch_weight (branches_of (drop k ps))
piece_less ps k p h e =
    let all = ap (λ xs. branch_weight (branches_of xs)) (drop_more ps k p h) in
    let same = ap (λ (q : Piece). case_weight (case_of q.case)) e in
    omega (arith, all, same)
