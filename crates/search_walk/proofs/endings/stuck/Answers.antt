use Rattle.std.proofs.Common.{◌≡◌, ◌∙◌, ap, refl, subst, true, drop, arith}
use Rattle.qc_model.specs.Content.{Game}
use Rattle.qc_model.specs.Demands.{demands}
use Rattle.joins.specs.Seen.{verdict_of}
use Rattle.joins.specs.Verdicts.{stuck_of}
use Rattle.search_walk.specs.Here.{node_of}
use Rattle.search_walk.proofs.Here.{stuck_told}
use Rattle.search_walk.proofs.OwnTrees.{numbers_at}
use Rattle.search_walk.proofs.Remains.{none_back, back_more}
use Rattle.search_walk.proofs.endings.stuck.Goals as goal

pub returns-clause-told : goal.returns-clause-told
returns-clause-told c =
    let g = c.args.level.now.problem.now in
    let i = c.args.level.now.number in
    let b = c.args.walk.now.remains in
    let numbers = numbers_at g i b c.known.ensures c.requires.here c.known-2.ensures.declared in
    let v = c.stuck-found.ensures.verdict ∙ (ap (λ (f : Game). stuck_of (drop i f.scopes) f (demands f i) c.values_before-values.result.now) c.requires.joins ∙ ap (stuck_of (drop i g.scopes) g (demands g i)) c.values_before-values.ensures) in
    λ cuts above h f. stuck_told (node_of cuts above g i h c.args.walk.now) c.known.ensures numbers f c.args.walk.now.left c.args.walk.now.lines c.put.new.self c.clear.new.self _ (ap (verdict_of c.stuck-found.result) c.clear.ensures.out ∙ v) c.in_ok-put.ensures.put (λ s. c.clear.ensures.stands)

pub returns-clause-back : goal.returns-clause-back
returns-clause-back c =
    let g = c.args.level.now.problem.now in
    let i = c.args.level.now.number in
    let a = c.args.walk.now in
    back_more g i a a _ (none_back g i a) refl (c.clear.ensures.same ∙ c.stuck-found.ensures.same)
    (λ j xs h s. c.clear.ensures.others j xs (λ e. absurd (omega (arith, h, e))) (c.stuck-found.ensures.others j xs (λ e. absurd (omega (arith, h, e))) s)) _ c.in_ok-put.ensures.put (omega arith)
