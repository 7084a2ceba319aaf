use Rattle.std.proofs.Common.{◌≤◌, ◌∙◌, ap, subst, arith, length}
use Rattle.qc_model.specs.Content.{Game}
use Rattle.proof_alike.specs.Alike.{is_looked_at}
use Rattle.dense_alike.specs.Marked.{AreMarksOf}
use Rattle.dense_alike.proofs.Marking.{read_else, before_most}
use Rattle.dense_alike.proofs.reads.Reads.is_read.Goals as goal

pub returns-else-i-index : goal.returns-else-i-index
returns-else-i-index c =
    let g = c.args.self.now in
    let marks = subst (λ (h : Game). AreMarksOf h c.self.inside.stops.items) c.self.view_is c.self.invariant.1 in
    let few : length g.scopes ≤ 64 = subst (λ (h : Game). length h.scopes ≤ 64) c.self.view_is c.known.ensures.few_scopes in
    c.looks_at.ensures
    ∙ (ap (λ (h : Game). is_looked_at h c.args.i.0 c.args.x.0) (c.self.invariant.0 ∙ c.self.view_is)
    ∙ read_else g c.self.inside.stops.items c.args.i.0 c.args.x.0 c.index.result.now marks (omega (arith, few, c.requires.scope)) c.requires.early (omega (arith, c.requires.early, before_most g c.args.i.0)) c.index.ensures c.if-i-index.false)
