use Rattle.std.proofs.Common.{◌≡◌, ◌≤◌, ◌<◌, ◌∙◌, refl, subst, sym, arith}
use Rattle.qc_model.specs.Content.{Game}
use Rattle.joins.specs.Seen.{verdict_of}
use Rattle.proof_tree.specs.Counts.{turns_of}
use Rattle.proof_tree.specs.Lines.{tree_lines}
use Rattle.proof_tree.specs.Tree.{Tree}
use Rattle.proof_tree.specs.Place.{position}
use Rattle.search_box.specs.Looking.{scope_number}
use Rattle.search_kept.specs.Known.{IsKnown}
use Rattle.search_kept.proofs.Knowing.{ended_known}
use Rattle.search_kept.proofs.known.KnownNodes.node_for.Goals as goal

pub invariant_of-result-clause-known : goal.invariant_of-result-clause-known
invariant_of-result-clause-known c =
    let k = c.args.self.now.problem.now in
    let l = c.args.level.now in
    let g = l.problem.now in
    let same : g ≡ k = c.requires.game in
    let end = c.args.end in
    let w = c.args.vector.now in
    let v = verdict_of end.found w in
    let box = c.args.remains.now.store.box in
    let h = scope_number c.args.horizon in
    let vs = position g l.number box in
    let ls = c.args.lines in
    let some : 0 < end.left = omega (arith, c.if-end-eq0.false) in
    let like = c.if-not-stand_alike.ensures.like refl in
    let looks = c.if-not-stand_alike.ensures.looks refl in
    let turns = c.turns_in.result in
    let few : (t : Tree) → ls ≡ tree_lines t → turns_of t ≤ turns = λ t e. c.turns_in.ensures t e in
    let here = ended_known g l.number box h v end.had end.left vs ls turns some few like looks c.requires.ended in
    let there = subst (λ (u : Game). IsKnown u l.number h vs v turns ls) same here in
    let vector = subst (λ ws. IsKnown k l.number h vs (verdict_of end.found ws) turns ls) (sym c.in_ok-from_slice-2.ensures.items) there in
    subst (λ us. IsKnown k l.number h us (verdict_of end.found c.in_ok-from_slice-2.field-0.items) turns ls) (sym (c.in_ok-from_slice.ensures.items ∙ c.values_before-here.ensures)) vector
