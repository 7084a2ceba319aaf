use Rattle.std.proofs.Common.{◌≡◌, ◌++◌, ◌∙◌, refl, subst, sym, drop, List}
use Rattle.std.specs.Prelude.{IfSome}
use Rattle.qc_model.specs.Demands.{demands}
use Rattle.joins.specs.Seen.{verdict_of}
use Rattle.proof_tree.specs.declared.line.Line.{Line}
use Rattle.search_box.specs.Looking.{scope_number}
use Rattle.search_kept.specs.Known.{StandsHere}
use Rattle.search_parts.specs.Written.{NodeWritten}
use Rattle.search_kept.specs.declared.known.KnownNode.{KnownNode}
use Rattle.search_parts.specs.Settled.{beats_none}
use Rattle.search_kept.proofs.Knowing.{known_written, node_ends}
use Rattle.search_walk.proofs.keeping.put_known.Goals as goal

pub returns-clause-told : goal.returns-clause-told
returns-clause-told c =
    let g = c.args.levels.now.problem.now in
    let i = c.args.number in
    let a = c.args.walk.now in
    let h = scope_number c.args.horizon in
    let box = a.remains.store.box in
    let node = c.node-node.result.now in
    let v = verdict_of node.found node.vector.items in
    let here = subst (λ o. IfSome o (λ (n : KnownNode). StandsHere g i h a.left box (verdict_of n.found n.vector.items) n.turns n.lines)) c.node-node.ensures.node c.requires.stands in
    let written = subst (λ (ls : List Line). c.put_copy.new.self ≡ a.lines ++ ls) c.lines.ensures c.in_ok-put_copy.ensures.put in
    let out = c.hand_out.ensures.out ∙ c.vector.ensures in
    λ above.
    subst (λ vs. NodeWritten c.args.cuts above g (drop i g.scopes) i (demands g i) box h (verdict_of node.found vs) a.left c.saturating_sub-walk.result a.lines c.put_copy.new.self) (sym out)
    (known_written c.args.cuts above g i box h v node.turns a.left _ node.lines a.lines c.put_copy.new.self c.requires.cuts here c.saturating_sub-walk.ensures written)

pub returns-clause-ended : goal.returns-clause-ended
returns-clause-ended c = node_ends c.args.cuts beats_none _ _ _ _ _ _ _ _ _ _ _ c.requires.cuts refl refl (returns-clause-told c beats_none)
