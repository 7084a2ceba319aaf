use Rattle.std.proofs.Common.{◌≡◌, ◌<◌, ◌∙◌, sym, subst, rules, false}
use Rattle.std.proofs.lemmas.Int.{to_z-of_z}
use mir.Val.{SFits}
use mir.Syntax.{w64}
use Rattle.qc_model.specs.Domains.{box_without, declared_box, has_empty}
use Rattle.fd_store.specs.Held.{Held}
use Rattle.dense_close.specs.Cutting.{IsStretch}
use Rattle.dense_close.proofs.Cuts.{cut_step, cut_more, less_after, gone_more}
use Rattle.dense_close.proofs.cutting.cut_end.Goals as goal

pub loop-c-smaller : goal.loop-c-smaller
loop-c-smaller c =
    let s = c.in-Some.s in
    let low : SFits w64 s.low = search rules in
    let high : SFits w64 s.high = search rules in
    let content : c.cut.new.self.box ≡ box_without c.loop-c.remains.box c.args.x.0 s.low s.high = simp to_z-of_z at c.cut.ensures.content in
    let stretch : IsStretch c.args.problem.now c.args.c.0 c.args.x.0 c.loop-c.remains.box s.low s.high =
    subst (λ (h : Held). IsStretch c.args.problem.now c.args.c.0 c.args.x.0 h.box s.low s.high) c.store.ensures c.in-Some.ensures in
    less_after c.args.problem.now c.args.c.0 c.args.x.0 c.loop-c.remains.box s.low s.high c.cut.new.self.box c.loop-c.invariant.place stretch content

pub loop-c-preserved : goal.loop-c-preserved
loop-c-preserved c =
    let s = c.in-Some.s in
    let low : SFits w64 s.low = search rules in
    let high : SFits w64 s.high = search rules in
    let g = c.args.problem.now in
    let i = c.loop-c.invariant in
    let box = c.loop-c.remains.box in
    let content : c.cut.new.self.box ≡ box_without box c.args.x.0 s.low s.high = simp to_z-of_z at c.cut.ensures.content in
    let stretch : IsStretch g c.args.c.0 c.args.x.0 box s.low s.high =
    subst (λ (h : Held). IsStretch g c.args.c.0 c.args.x.0 h.box s.low s.high) c.store.ensures c.in-Some.ensures in
    let full : has_empty box ≡ false = sym c.is_empty.ensures ∙ c.loop-c-test.true in
    let step = cut_step g c.known.ensures c.args.c.0 c.args.x.0 box s.low s.high c.cut.new.self.box i.declared full stretch content in
    let less = less_after g c.args.c.0 c.args.x.0 box s.low s.high c.cut.new.self.box i.place stretch content in
    record {
      taken = cut_more g c.args.c.0 c.args.x.0 c.args.remains.now.box box c.cut.new.self.box i.taken step;
      past = search rules;
      gone = gone_more c.loop-c.cut c.args.remains.now.box box c.cut.new.self.box i.gone less;
      declared = c.cut.ensures.fewer (declared_box g) i.declared;
      place = subst (λ n. c.args.x.0 < n) (sym step.count) i.place;
    }
