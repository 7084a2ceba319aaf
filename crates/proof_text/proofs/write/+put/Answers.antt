use Rattle.std.proofs.Common.{◌≡◌, ◌+◌, ◌++◌, List, ℕ, sym, ap, ◌∙◌, arith, append_assoc}
use Rattle.std.specs.Prelude.{codes}
use Rattle.proof_tree.specs.Shape.{ending_of, branches_of}
use Rattle.proof_tree.specs.Counts.{ending_weight, branch_weight}
use Rattle.proof_tree.specs.Text.{place_text}
use Rattle.proof_text.specs.Parts.{branches_text, ending_text}
use Rattle.proof_tree.proofs.Shapes.{ending_branch}
use Rattle.proof_text.proofs.write.+put.Goals as goal

pub put_end-put_case_list-requires : goal.put_end-put_case_list-requires
put_end-put_case_list-requires t c =
    let e = ap ending_of c.in-Branch.is ∙ ending_branch c.in-Branch.x c.in-Branch.cases in
    let w : 1 + branch_weight (branches_of c.items.result.now) ≡ ending_weight (ending_of c.args.end.now) =
    ap (λ cs. 1 + branch_weight (branches_of cs)) c.items.ensures ∙ sym (ap ending_weight e) in
    (omega arith, tt)

-- the pieces of a branch, one after the other
pieces : (o v x n cs d a b e f g : List ℕ) → a ≡ o ++ v → b ≡ a ++ x → e ≡ b ++ n → f ≡ e ++ cs → g ≡ f ++ d → g ≡ o ++ (v ++ x ++ n ++ cs ++ d)
pieces o v x n cs d a b e f g i j k l m = rw (m, l, k, j, i) (simp append_assoc)

pub put_end-returns-in_ok-extend_from_slice-in-Branch-3 : goal.put_end-returns-in_ok-extend_from_slice-in-Branch-3
put_end-returns-in_ok-extend_from_slice-in-Branch-3 t c =
    let e = ap ending_of c.in-Branch.is ∙ ending_branch c.in-Branch.x c.in-Branch.cases in
    let x : c.put_place.new.out.items ≡ c.extend_from_slice-in-Branch.new.self.items ++ place_text c.in-Branch.x.0 = c.in_ok-put_place-in-Branch.ensures in
    let told = pieces _ _ _ _ _ _ _ _ _ _ _
    c.in_ok-extend_from_slice-in-Branch.ensures.items x c.in_ok-extend_from_slice-in-Branch-2.ensures.items c.in_ok-put_case_list-in-Branch.ensures c.in_ok-extend_from_slice-in-Branch-3.ensures.items in
    told ∙ ap (λ bs. c.args.out.now.items ++ (codes "v " ++ place_text c.in-Branch.x.0 ++ codes "\n" ++ branches_text (branches_of bs) ++ codes ".\n")) c.items.ensures
    ∙ sym (ap (λ z. c.args.out.now.items ++ ending_text z) e)
