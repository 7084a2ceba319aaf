use Rattle.std.proofs.Common.{◌≡◌, ◌∙◌, sym, subst, rules, ℕ, drop}
use Rattle.std.proofs.lemmas.Int.{to_z-of_z}
use mir.Val.{SFits}
use mir.Syntax.{w64}
use Rattle.qc_model.specs.Content.{Game}
use Rattle.qc_model.specs.Block.{force_stop}
use Rattle.qc_model.specs.Domains.{box_without}
use Rattle.model_levels.specs.Spans.{IsSpanOf}
use Rattle.check_lines.specs.Machine.{game_of}
use Rattle.check_lines.proofs.Parts.{pruned_ready, pruned_tells, not_pruned}
use Rattle.check_lines.proofs.machine.Machine.prune_line.Goals as goal

span_there : (g u : Game) (i n first end : ℕ) → u ≡ g → n ≡ i → IsSpanOf u n (force_stop (drop n u.scopes) n) first end → IsSpanOf g i (force_stop (drop i g.scopes) i) first end
span_there g u i n first end e f h =
    subst (λ (w : Game). IsSpanOf w i (force_stop (drop i w.scopes) i) first end) e (subst (λ k. IsSpanOf u k (force_stop (drop k u.scopes) k) first end) f h)

pub returns-then-prune-clause-tells : goal.returns-then-prune-clause-tells
returns-then-prune-clause-tells c =
    let lo_fits : SFits w64 c.args.lo = search rules in
    let hi_fits : SFits w64 c.args.hi = search rules in
    let m = c.args.self.now in
    let g = game_of m in
    let l = c.level.result.now in
    let span = span_there g l.problem.now m.number l.number l.in_force.first l.in_force.end c.level.ensures.problem c.level.ensures.number l.has_force in
    let legal = simp to_z-of_z at (c.prune.ensures.legal m.number (force_stop (drop m.number g.scopes) m.number) span) in
    let content : c.prune.new.remains.box ≡ box_without m.remains.box c.args.x.0 c.args.lo c.args.hi = simp to_z-of_z at (c.prune.ensures.content c.if-prune.true) in
    pruned_tells m c.requires.within c.prune.new.remains c.prune.ensures.past c.prune.ensures.declared c.args.x c.args.lo c.args.hi c.args.c content (sym legal ∙ c.if-prune.true)

pub returns-else-prune-clause-tells : goal.returns-else-prune-clause-tells
returns-else-prune-clause-tells c = λ n d es xs u few p k.
    let lo_fits : SFits w64 c.args.lo = search rules in
    let hi_fits : SFits w64 c.args.hi = search rules in
    let m = c.args.self.now in
    let g = game_of m in
    let l = c.level.result.now in
    let span = span_there g l.problem.now m.number l.number l.in_force.first l.in_force.end c.level.ensures.problem c.level.ensures.number l.has_force in
    let legal = simp to_z-of_z at (c.prune.ensures.legal m.number (force_stop (drop m.number g.scopes) m.number) span) in
    not_pruned m d es xs u c.args.x c.args.lo c.args.hi c.args.c (sym legal ∙ c.if-prune.false)

pub returns-then-prune-clause-ready : goal.returns-then-prune-clause-ready
returns-then-prune-clause-ready c =
    let lo_fits : SFits w64 c.args.lo = search rules in
    let hi_fits : SFits w64 c.args.hi = search rules in
    let m = c.args.self.now in
    let content : c.prune.new.remains.box ≡ box_without m.remains.box c.args.x.0 c.args.lo c.args.hi = simp to_z-of_z at (c.prune.ensures.content c.if-prune.true) in
    pruned_ready m c.requires.within c.prune.new.remains c.prune.ensures.past c.prune.ensures.declared c.args.x c.args.lo c.args.hi content
