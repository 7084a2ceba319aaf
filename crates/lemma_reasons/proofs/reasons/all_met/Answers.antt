use Rattle.std.proofs.Common.{◌≡◌, ◌<◌, ◌∙◌, ◌&&◌, ◌+◌, true, false, length, drop, get_or, sym, ap, arith}
use Rattle.std.specs.Prelude.{pos}
use Rattle.std.specs.List.{list_all}
use Rattle.std.proofs.lemmas.List.{at_drop_more, at_drop_all}
use Rattle.std.proofs.lemmas.Option.{slice_get-get_or}
use Rattle.lemma_list.specs.declared.lemma.Literal.{Literal}
use Rattle.lemma_list.specs.Reasons.{is_met}
use Rattle.lemma_reasons.specs.Answering.{answered_by}
use Rattle.lemma_reasons.proofs.reasons.all_met.Goals as goal

pub loop-k-preserved : goal.loop-k-preserved
loop-k-preserved c =
    let ls = c.args.literals.now in
    let k = c.loop-k.k in
    let p = is_met (answered_by c.args.problem.now c.args.answers) ls c.args.store.now.box in
    let e : Literal = record { x = record { 0 = 0 }; lo = pos 0; hi = pos 0 } in
    let h : k < length ls = omega arith in
    let met : p (get_or ls k e) ≡ true = sym (c.is_met_at.ensures (get_or ls k e) (slice_get-get_or ls k e h)) ∙ c.if-not-is_met_at.false in
    ap (λ b. b && list_all p (drop (k + 1) ls)) (sym met) ∙ (sym (at_drop_more (λ m. list_all p m) ls k e h) ∙ c.loop-k.invariant)

pub returns-then-not-is_met_at : goal.returns-then-not-is_met_at
returns-then-not-is_met_at c =
    let ls = c.args.literals.now in
    let k = c.loop-k.k in
    let p = is_met (answered_by c.args.problem.now c.args.answers) ls c.args.store.now.box in
    let e : Literal = record { x = record { 0 = 0 }; lo = pos 0; hi = pos 0 } in
    let h : k < length ls = omega arith in
    let met : p (get_or ls k e) ≡ false = sym (c.is_met_at.ensures (get_or ls k e) (slice_get-get_or ls k e h)) ∙ c.if-not-is_met_at.true in
    ap (λ b. b && list_all p (drop (k + 1) ls)) (sym met) ∙ (sym (at_drop_more (λ m. list_all p m) ls k e h) ∙ c.loop-k.invariant)

pub returns : goal.returns
returns c =
    let ls = c.args.literals.now in
    let p = is_met (answered_by c.args.problem.now c.args.answers) ls c.args.store.now.box in
    sym (at_drop_all (λ m. list_all p m) ls c.loop-k.k (omega arith)) ∙ c.loop-k.invariant
