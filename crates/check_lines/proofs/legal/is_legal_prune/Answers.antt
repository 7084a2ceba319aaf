use Rattle.std.proofs.Common.{◌≡◌, ◌∙◌, sym, ap, subst, rules, not, arith, Some}
use Rattle.std.proofs.lemmas.Int.{to_z-of_z}
use mir.Val.{SFits}
use mir.Syntax.{w64}
use Rattle.std.specs.Prelude.{slice_get}
use Rattle.qc_model.specs.Content.{Rule}
use Rattle.qc_model.specs.Domains.{is_none_left, values_within, values_left, box_within}
use Rattle.qc_model.specs.Refuted.{refuted_by}
use Rattle.fd_store.specs.Held.{Held}
use Rattle.model_arguments.specs.Asked.{IsAsked}
use Rattle.box_laws.proofs.Readings.{some_place}
use Rattle.check_lines.proofs.Removals.{asked, legal_is, empty_illegal, none_illegal, outside_illegal, before_span, behind_span}
use Rattle.check_lines.proofs.legal.is_legal_prune.Goals as goal

pub refutes_in-requires-clause-asked : goal.refutes_in-requires-clause-asked
refutes_in-requires-clause-asked c = λ rule e.
    subst (λ (h : Held). IsAsked c.args.problem.now rule h.box) (sym c.store.ensures)
    (asked c.args.problem.now c.args.remains.now.box c.args.c.0 rule c.known.ensures.constraints c.requires.declared (sym c.is_empty.ensures ∙ c.if-is_empty.false) e)

pub returns-clause-place : goal.returns-clause-place
returns-clause-place c =
    let lo_fits : SFits w64 c.args.lo = search rules in
    let hi_fits : SFits w64 c.args.hi = search rules in
    let box = c.args.remains.now.box in
    let some : c.has_within.result ≡ not (is_none_left (values_within c.args.lo c.args.hi (values_left box c.args.x.0))) = simp to_z-of_z at c.has_within.ensures in
    λ e. some_place box c.args.x.0 c.args.lo c.args.hi (sym some ∙ c.if-not-has_within.false)

pub returns-clause-legal : goal.returns-clause-legal
returns-clause-legal c = λ i stop span.
    let lo_fits : SFits w64 c.args.lo = search rules in
    let hi_fits : SFits w64 c.args.hi = search rules in
    let box = c.args.remains.now.box in
    let some : c.has_within.result ≡ not (is_none_left (values_within c.args.lo c.args.hi (values_left box c.args.x.0))) = simp to_z-of_z at c.has_within.ensures in
    let says : (rule : Rule) → slice_get c.args.problem.now.constraints c.args.c.0 ≡ Some rule → c.refutes_in.result ≡ refuted_by rule (box_within c.store.result.now.box c.args.x.0 c.args.lo c.args.hi) = simp to_z-of_z at c.refutes_in.ensures in
    legal_is c.args.problem.now box c.args.span.first c.args.span.end i stop c.args.x c.args.lo c.args.hi c.args.c c.refutes_in.result span (sym c.is_empty.ensures ∙ c.if-is_empty.false) (sym some ∙ c.if-not-has_within.false)
    (omega (arith, c.if-number-span.false)) (omega (arith, c.if-span-number.false)) (λ rule e. says rule e ∙ ap (λ (h : Held). refuted_by rule (box_within h.box c.args.x.0 c.args.lo c.args.hi)) c.store.ensures)

pub returns-then-is_empty-clause-legal : goal.returns-then-is_empty-clause-legal
returns-then-is_empty-clause-legal c = λ i stop span. empty_illegal c.args.problem.now c.args.remains.now.box i stop c.args.x c.args.lo c.args.hi c.args.c (sym c.is_empty.ensures ∙ c.if-is_empty.true)

pub returns-then-not-has_within-clause-legal : goal.returns-then-not-has_within-clause-legal
returns-then-not-has_within-clause-legal c = λ i stop span.
    let lo_fits : SFits w64 c.args.lo = search rules in
    let hi_fits : SFits w64 c.args.hi = search rules in
    let some : c.has_within.result ≡ not (is_none_left (values_within c.args.lo c.args.hi (values_left c.args.remains.now.box c.args.x.0))) = simp to_z-of_z at c.has_within.ensures in
    none_illegal c.args.problem.now c.args.remains.now.box i stop c.args.x c.args.lo c.args.hi c.args.c (sym some ∙ c.if-not-has_within.true)

pub returns-then-number-span-clause-legal : goal.returns-then-number-span-clause-legal
returns-then-number-span-clause-legal c = λ i stop span.
    outside_illegal c.args.problem.now c.args.remains.now.box c.args.span.first c.args.span.end i stop c.args.x c.args.lo c.args.hi c.args.c span (before_span c.args.span.first c.args.span.end c.args.c.0 c.if-number-span.true)

pub returns-then-span-number-clause-legal : goal.returns-then-span-number-clause-legal
returns-then-span-number-clause-legal c = λ i stop span.
    outside_illegal c.args.problem.now c.args.remains.now.box c.args.span.first c.args.span.end i stop c.args.x c.args.lo c.args.hi c.args.c span (behind_span c.args.span.first c.args.span.end c.args.c.0 c.if-span-number.true)
