use Rattle.std.proofs.Common.{◌∙◌, sym, ap, subst, append-nil, [], None}
use Rattle.qc_model.specs.Domains.{has_empty}
use Rattle.joins.specs.DemandLists.{HasLists}
use Rattle.joins.specs.Joins.{out_of}
use Rattle.proof_tree.specs.Lines.{tree_lines}
use Rattle.box_laws.proofs.Declared.{declared_full}
use Rattle.qc_play.specs.Shown.{Shows}
use Rattle.qc_play.specs.Walk.{node_finding, CanReadNode, IsWithin}
use Rattle.qc_play.proofs.Outcomes.{if_ok}
use Rattle.qc_play.proofs.root.read_root.Goals as goal

pub node-requires-clause-lists : goal.node-requires-clause-lists
node-requires-clause-lists c = subst (λ g. HasLists g c.in_ok-tables.tables.demands) (sym c.in_ok-tables.ensures.same) c.in_ok-tables.ensures.lists

pub node-requires-clause-within : goal.node-requires-clause-within
node-requires-clause-within c = subst (λ g. IsWithin g c.in_ok-walk.walk 0) (sym c.in_ok-tables.ensures.same) c.in_ok-walk.ensures.within

pub node-requires-clause-full : goal.node-requires-clause-full
node-requires-clause-full c = ap has_empty c.in_ok-walk.ensures.content ∙ declared_full c.args.problem.now c.known.ensures.domains

pub node-requires-clause-tree : goal.node-requires-clause-tree
node-requires-clause-tree c =
    let r = c.requires in
    let g = c.args.problem.now in
    let reads = subst (λ h. CanReadNode h r.0 0 c.in_ok-walk.walk.remains.box) (sym c.in_ok-tables.ensures.same)
    (subst (CanReadNode g r.0 0) (sym c.in_ok-walk.ensures.content) (record { horizon = None; placed = r.2.placed; answered = r.2.answered })) in
    record { tree = r.0; rest = []; is = c.new-left.ensures ∙ (r.1 ∙ sym (append-nil (tree_lines r.0))); reads = reads }

pub returns : goal.returns
returns c =
    let v = out_of c.node.new.self.joins in
    let g = c.args.problem.now in
    if_ok c.node.result
    (λ s h t e r.
    let reads = subst (λ q. CanReadNode q t 0 c.in_ok-walk.walk.remains.box) (sym c.in_ok-tables.ensures.same)
    (subst (CanReadNode g t 0) (sym c.in_ok-walk.ensures.content) (record { horizon = None; placed = r.placed; answered = r.answered })) in
    let k = h t [] (c.new-left.ensures ∙ (e ∙ sym (append-nil (tree_lines t)))) reads in (
      v,
      subst (λ box. Shows (node_finding g t 0 box) v s) c.in_ok-walk.ensures.content (subst (λ q. Shows (node_finding q t 0 c.in_ok-walk.walk.remains.box) v s) c.in_ok-tables.ensures.same (k.1 r.few)),
    ))
    c.node.ensures.shows
