use Rattle.std.proofs.Common.{◌<◌, ◌∙◌, sym, ap, subst, length}
use Rattle.std.specs.Prelude.{slice_get}
use Rattle.prop_engine.proofs.Open.{kept_placed, with_rule, hint_at, hint_shows}
use Rattle.prop_engine.proofs.hints.Hints.is_idle.Goals as goal

pub are_enough-requires-clause-one : goal.are_enough-requires-clause-one
are_enough-requires-clause-one c =
    let game = c.args.problem.now in
    let k = c.args.c.0 in
    let h = c.index-hint.result.now in
    let items = c.self.inside.items.items in
    let below = subst (λ n. k < n) (sym (ap length c.self.view_is ∙ c.requires.hints.count)) c.requires.c in
    let at = hint_at items k h h below c.index-hint.ensures in
    with_rule game.constraints k c.requires.c (h.one.x.0 < length c.args.store.now.box)
    (λ r e. kept_placed game k r c.args.store.now.box h.one c.known.ensures e c.requires.declared (c.requires.hints.own k h r (ap (λ l. slice_get l k) (sym c.self.view_is) ∙ at) c.if-hint.true e).1.0)

pub are_enough-requires-clause-other : goal.are_enough-requires-clause-other
are_enough-requires-clause-other c =
    let game = c.args.problem.now in
    let k = c.args.c.0 in
    let h = c.index-hint.result.now in
    let items = c.self.inside.items.items in
    let below = subst (λ n. k < n) (sym (ap length c.self.view_is ∙ c.requires.hints.count)) c.requires.c in
    let at = hint_at items k h h below c.index-hint.ensures in
    with_rule game.constraints k c.requires.c (h.other.x.0 < length c.args.store.now.box)
    (λ r e. kept_placed game k r c.args.store.now.box h.other c.known.ensures e c.requires.declared (c.requires.hints.own k h r (ap (λ l. slice_get l k) (sym c.self.view_is) ∙ at) c.if-hint.true e).1.1)

pub returns-then-are_enough-clause-closed : goal.returns-then-are_enough-clause-closed
returns-then-are_enough-clause-closed c t =
    let game = c.args.problem.now in
    let k = c.args.c.0 in
    let h = c.index-hint.result.now in
    let items = c.self.inside.items.items in
    let below = subst (λ n. k < n) (sym (ap length c.self.view_is ∙ c.requires.hints.count)) c.requires.c in
    let at = hint_at items k h h below c.index-hint.ensures in
    hint_shows game k h c.args.store.now.box (λ r e. c.requires.hints.own k h r (ap (λ l. slice_get l k) (sym c.self.view_is) ∙ at) c.if-hint.true e) (c.are_enough.ensures c.if-are_enough.true)
