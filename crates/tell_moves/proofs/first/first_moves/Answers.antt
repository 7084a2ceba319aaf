use Rattle.std.proofs.Common.{◌≡◌, ◌∙◌, ap, subst, length}
use Rattle.qc_play.proofs.AtLevels.{level_from, level_stop}
use Rattle.tell_moves.specs.Found.{found, domains_to}
use Rattle.tell_moves.specs.Puts.{state_of, puts}
use Rattle.tell_moves.proofs.Listed.{lines_listed, rest_listed}
use Rattle.tell_moves.proofs.first.first_moves.Goals as goal

pub returns-clause-lines : goal.returns-clause-lines
returns-clause-lines c =
    let g = c.args.problem.now in
    let i = c.args.scope.0 in
    let level = c.level.result.now in
    let ws = c.stand.new.walk.values.items in
    let s = state_of c.stand.new.walk.listing in
    let t = state_of c.list.new.walk.listing in
    let problem = c.level.ensures.problem ∙ c.in_ok-levels.ensures in
    let number = c.level.ensures.number in
    lines_listed g i level.from level.stop c.args.most c.args.values.now ws s t (level_from level g i problem number) (level_stop level g i problem number) c.requires.count c.in_ok-stand.ensures.values
    (ap state_of c.in_ok-stand.ensures.listing ∙ c.new-3.ensures)
    (subst (λ j. t ≡ puts s (found g j level.from ws (domains_to g (length ws) level.stop))) number
    (subst (λ h. t ≡ puts s (found h level.number level.from ws (domains_to h (length ws) level.stop))) problem c.in_ok-list.ensures.listed))

pub returns-clause-more : goal.returns-clause-more
returns-clause-more c =
    let g = c.args.problem.now in
    let i = c.args.scope.0 in
    let level = c.level.result.now in
    let ws = c.stand.new.walk.values.items in
    let s = state_of c.stand.new.walk.listing in
    let t = state_of c.list.new.walk.listing in
    let problem = c.level.ensures.problem ∙ c.in_ok-levels.ensures in
    let number = c.level.ensures.number in
    rest_listed g i level.from level.stop c.args.most c.args.values.now ws s t (level_from level g i problem number) (level_stop level g i problem number) c.requires.count c.in_ok-stand.ensures.values
    (ap state_of c.in_ok-stand.ensures.listing ∙ c.new-3.ensures)
    (subst (λ j. t ≡ puts s (found g j level.from ws (domains_to g (length ws) level.stop))) number
    (subst (λ h. t ≡ puts s (found h level.number level.from ws (domains_to h (length ws) level.stop))) problem c.in_ok-list.ensures.listed))
