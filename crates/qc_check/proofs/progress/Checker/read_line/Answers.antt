use Rattle.std.proofs.Common.{◌≡◌, ◌⊎◌, ◌∙◌, ◌∷◌, [], refl, sym, subst, arith, List}
use Rattle.std.specs.Prelude.{IsTrue}
use Rattle.likeness.specs.Likeness.{line_looks}
use Rattle.qc_check.specs.Places.{StartHeld}
use Rattle.qc_check.proofs.Kept.{line_taken}
use Rattle.qc_check.proofs.progress.Checker.read_line.Goals as goal

pub end_nodes-requires-clause-some : goal.end_nodes-requires-clause-some
end_nodes-requires-clause-some c =
    let old = c.args.self.now in
    let w = c.requires.some in
    let room = c.requires.room in
    let same = old.of_memory ∙ sym old.of_problem in
    let looks = subst (λ g. (c.see.new.starts ≡ []) ⊎ ((c.see.new.starts ≡ old.starts) × ((s : StartHeld) (more : List StartHeld) → old.starts ≡ s ∷ more → IsTrue (line_looks g s.start.node.scope c.args.line)))) same c.see.ensures in
    (w.0, line_taken old _ w.0 c.args.bytes.now c.args.at c.args.line refl refl refl c.take.ensures.same (omega (arith, room)) c.take.ensures.tells looks w.1)

pub begin_node-requires-clause-some : goal.begin_node-requires-clause-some
begin_node-requires-clause-some c =
    let old = c.args.self.now in
    let w = c.requires.some in
    let room = c.requires.room in
    let same = old.of_memory ∙ sym old.of_problem in
    let looks = subst (λ g. (c.see.new.starts ≡ []) ⊎ ((c.see.new.starts ≡ old.starts) × ((s : StartHeld) (more : List StartHeld) → old.starts ≡ s ∷ more → IsTrue (line_looks g s.start.node.scope c.args.line)))) same c.see.ensures in
    (w.0, c.end_nodes.ensures.keeping w.0 (line_taken old _ w.0 c.args.bytes.now c.args.at c.args.line refl refl refl c.take.ensures.same (omega (arith, room)) c.take.ensures.tells looks w.1))

pub returns-in-Some-clause-keeping : goal.returns-in-Some-clause-keeping
returns-in-Some-clause-keeping c = λ front r.
    let old = c.args.self.now in
    let room = c.requires.room in
    let same = old.of_memory ∙ sym old.of_problem in
    let looks = subst (λ g. (c.see.new.starts ≡ []) ⊎ ((c.see.new.starts ≡ old.starts) × ((s : StartHeld) (more : List StartHeld) → old.starts ≡ s ∷ more → IsTrue (line_looks g s.start.node.scope c.args.line)))) same c.see.ensures in
    c.begin_node.ensures.keeping front (c.end_nodes.ensures.keeping front (line_taken old _ front c.args.bytes.now c.args.at c.args.line refl refl refl c.take.ensures.same (omega (arith, room)) c.take.ensures.tells looks r))

pub returns-in-None-clause-keeping : goal.returns-in-None-clause-keeping
returns-in-None-clause-keeping c = λ front r.
    let old = c.args.self.now in
    let room = c.requires.room in
    let same = old.of_memory ∙ sym old.of_problem in
    let looks = subst (λ g. (c.see.new.starts ≡ []) ⊎ ((c.see.new.starts ≡ old.starts) × ((s : StartHeld) (more : List StartHeld) → old.starts ≡ s ∷ more → IsTrue (line_looks g s.start.node.scope c.args.line)))) same c.see.ensures in
    c.end_nodes.ensures.keeping front (line_taken old _ front c.args.bytes.now c.args.at c.args.line refl refl refl c.take.ensures.same (omega (arith, room)) c.take.ensures.tells looks r)
