use Rattle.std.proofs.Common.{◌≡◌, List, [], ◌∙◌, ◌∷◌, refl, length}
use Rattle.qc_check.specs.Places.{StartHeld}
use Rattle.qc_check.proofs.Ending.{settled, no_deeper, cleared}
use Rattle.qc_check.proofs.progress.Checker.end_nodes.Goals as goal

not_both : (ss : List StartHeld) (s : StartHeld) (more : List StartHeld) → ss ≡ [] → ss ≡ s ∷ more → ⊥
not_both ss s more e f = cc

pub end_node-requires-clause-some : goal.end_node-requires-clause-some
end_node-requires-clause-some c = (c.requires.some.0, c.loop-self.invariant.settling c.requires.some.0 c.requires.some.1)

pub loop-self-preserved : goal.loop-self-preserved
loop-self-preserved c =
    let i = c.loop-self.invariant in
    let e = c.end_node.ensures in
    record {
      settling = λ before k. e.settling before (i.settling before k);
      ready = e.ready;
      same = e.same ∙ i.same;
      read = e.read ∙ i.read;
      stop = e.stop ∙ i.stop;
    }

pub returns-in-Some-clause-keeping : goal.returns-in-Some-clause-keeping
returns-in-Some-clause-keeping c = λ before k.
    settled c.loop-self.self _ refl refl refl refl (λ p t. t) before c.args.bytes.now c.args.at c.keep_below.ensures.tail
    (λ d t s more e. no_deeper s.start.node.depth c.in-Some.depth c.saturating_add.result (length d.entries) c.saturating_add.ensures (c.keep_below.ensures.below s more e) (c.in-Some.ensures d t))
    (c.loop-self.invariant.settling before k)

pub returns-in-None-clause-keeping : goal.returns-in-None-clause-keeping
returns-in-None-clause-keeping c = λ before k.
    settled c.loop-self.self _ refl refl refl refl (λ p t. t) before c.args.bytes.now c.args.at (cleared c.clear.new.self c.loop-self.self.starts c.clear.ensures)
    (λ d t s more e. absurd (not_both c.clear.new.self s more c.clear.ensures e))
    (c.loop-self.invariant.settling before k)
