use Rattle.std.proofs.Common.{◌≡◌, ◌∙◌, ap, sym, subst, map, List}
use Rattle.std.specs.Prelude.{filter}
use Rattle.std.specs.Borrow.{Bor}
use Rattle.qc_model.specs.Content.{Game, Rule}
use Rattle.qc_model.specs.Lists.{Among}
use Rattle.qc_model.proofs.Moves.{among_filter}
use Rattle.likeness.specs.Seeing.{tells}
use Rattle.likeness.proofs.Seeing.{telling_alike}
use Rattle.likeness.proofs.sight.Sight.sees_alike.Goals as goal

pub returns : goal.returns
returns c =
    let g = c.args.self.now in
    let all : map (λ (r : Bor Rule). r.now) c.deref.result.now ≡ filter tells g.constraints =
    ap (λ (rs : List (Bor Rule)). map (λ (r : Bor Rule). r.now) rs) c.deref.ensures.value ∙ (c.self.invariant.rules ∙ ap (λ (h : Game). filter tells h.constraints) c.self.view_is) in
    λ e d m o. telling_alike g c.args.i.0 c.args.kept.now c.args.here.now d (λ t. c.are_rules_alike.ensures e d (subst (Among d) (sym all) (among_filter tells d g.constraints m t)) o)
