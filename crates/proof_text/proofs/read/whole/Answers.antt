use Rattle.std.proofs.Common.{◌∙◌, [], ◌∷◌, ◌^◌, arith}
use Rattle.proof_tree.specs.Text.{outcome_text}
use Rattle.proof_tree.specs.Shape.{tree_of}
use Rattle.proof_text.proofs.Ends.{few_ends}
use Rattle.proof_text.proofs.TreeParts.{worded}
use Rattle.proof_text.specs.Symbols.{certificate, node}
use Rattle.proof_text.proofs.Sequences.{too_long, none_left}
use Rattle.proof_text.proofs.LinesRead.{certificate_read}
use Rattle.std.proofs.lemmas.Bool.{and_from}
use Rattle.proof_text.proofs.read.whole.Goals as goal

pub invariant_of-result : goal.invariant_of-result
invariant_of-result c =
    let o = c.in_ok-root.ensures.ok.0 in
    record {
      shallow = (let d = o.2 in omega arith);
      few_ends = few_ends c.args.text.now (outcome_text c.in_ok-outcome.outcome c.in_ok-outcome.optimum) c.in_ok-version.version c.in_ok-rest.rest.now c.in_ok-version.rest.now c.in_ok-outcome.rest.now (tree_of c.in_ok-root.root) c.in_ok-root.rest.now (2 ^ 30) c.requires c.in_ok-rest.ensures.ok.0 c.in_ok-version.ensures.ok.0 c.in_ok-outcome.ensures.ok.0 o.0;
      worded = worded c.in_ok-version.version (tree_of c.in_ok-root.root) o.1;
    }

pub returns-then-not-is_empty-clause-err : goal.returns-then-not-is_empty-clause-err
returns-then-not-is_empty-clause-err c =
    c.in_ok-rest.ensures.ok.1 (certificate ∷ []) ∙ c.in_ok-version.ensures.ok.1 [] ∙ c.in_ok-outcome.ensures.ok.2 (node c.in_ok-version.version 0 ∷ []) ∙ c.in_ok-root.ensures.ok.1 []
    ∙ too_long c.in_ok-root.rest.now c.if-not-is_empty.ensures

pub returns-clause-ok : goal.returns-clause-ok
returns-clause-ok c =
    let v = c.in_ok-version in
    let o = c.in_ok-outcome in
    let r = c.in_ok-root in
    let p = r.ensures.ok.0 in (
      certificate_read v.version o.outcome o.optimum (tree_of r.root) c.args.text.now c.in_ok-rest.rest.now v.rest.now o.rest.now r.rest.now c.in_ok-rest.ensures.ok.0 v.ensures.ok.0 o.ensures.ok.0 p.0 (none_left r.rest.now c.if-not-is_empty.ensures),
      and_from _ _ o.ensures.ok.1 p.1,
      (let q = p.2 in omega (arith, q)),
    )
