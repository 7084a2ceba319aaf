use Rattle.std.proofs.Common.{◌≡◌, ◌∙◌, ap, subst, Some, take}
use Rattle.qc_model.specs.Content.{Game}
use Rattle.joins.specs.Verdicts.{verdict_at, own_at}
use Rattle.check_lines.specs.Machine.{game_of, before_of}
use Rattle.check_lines.specs.Telling.{Tells, came}
use Rattle.check_lines.proofs.Closes.{found_ends}
use Rattle.check_lines.proofs.machine.Machine.close_scope.Goals as goal

pub returns-clause-tells : goal.returns-clause-tells
returns-clause-tells c = λ n d es xs p.
    let m = c.args.self.now in
    let g = game_of m in
    let s = c.requires.within.sound in
    let js = c.finish-self.new.self in
    let vals : take c.count_before-count.result c.values.result.now ≡ before_of m = ap (take c.count_before-count.result) c.values.ensures ∙ ap (λ k. take k m.values.items) c.count_before-count.ensures in
    let verdict =
    c.finish-self.ensures.verdict xs p.part.stands
    ∙ (ap (λ (u : Game). verdict_at u m.number (take c.count_before-count.result c.values.result.now) xs) s.joined ∙ ap (λ a. verdict_at g m.number a xs) vals) in
    let own : c.own-self.result ≡ own_at g m.number xs =
    c.own-self.ensures xs (c.finish-self.ensures.all m.number xs p.part.stands) ∙ ap (λ (u : Game). own_at u m.number xs) (c.finish-self.ensures.same ∙ s.joined) in
    let v = verdict_at g m.number (before_of m) xs in
    subst (λ o. Tells c.close_node.new.self (Some (came g d es m.number m.horizon v o))) own
    (c.close_node.ensures.tells n d es v (found_ends m js c.finish-self.result c.own-self.result s c.finish-self.ensures.all c.finish-self.ensures.same n d es xs p verdict))
