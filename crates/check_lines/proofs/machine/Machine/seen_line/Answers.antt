use Rattle.std.proofs.Common.{◌≡◌, ◌∙◌, sym, rules, suc}
use Rattle.std.proofs.lemmas.Int.{to_z-of_z}
use mir.Val.{SFits}
use mir.Syntax.{w64}
use Rattle.qc_model.specs.Domains.{box_without}
use Rattle.check_lines.proofs.AtNodes.{seen_ready, seen_tells}
use Rattle.check_lines.proofs.machine.Machine.seen_line.Goals as goal

pub returns-then-prune-clause-tells : goal.returns-then-prune-clause-tells
returns-then-prune-clause-tells c =
    let lo_fits : SFits w64 c.args.lo = search rules in
    let hi_fits : SFits w64 c.args.hi = search rules in
    let m = c.args.self.now in
    let legal = simp to_z-of_z at (c.prune.ensures.legal m.number (suc c.args.k) c.constraints_between-span.ensures) in
    let content : c.prune.new.remains.box ≡ box_without m.remains.box c.args.x.0 c.args.lo c.args.hi = simp to_z-of_z at (c.prune.ensures.content c.if-prune.true) in
    seen_tells m c.args.k c.args.mark c.requires.seeing c.prune.new.remains c.prune.ensures.past c.prune.ensures.declared c.args.x c.args.lo c.args.hi content c.args.c (sym legal ∙ c.if-prune.true)

pub returns-then-prune-clause-ready : goal.returns-then-prune-clause-ready
returns-then-prune-clause-ready c =
    let lo_fits : SFits w64 c.args.lo = search rules in
    let hi_fits : SFits w64 c.args.hi = search rules in
    let m = c.args.self.now in
    let content : c.prune.new.remains.box ≡ box_without m.remains.box c.args.x.0 c.args.lo c.args.hi = simp to_z-of_z at (c.prune.ensures.content c.if-prune.true) in
    seen_ready m c.args.k c.args.mark c.requires.seeing c.prune.new.remains c.prune.ensures.past c.prune.ensures.declared c.args.x c.args.lo c.args.hi content
