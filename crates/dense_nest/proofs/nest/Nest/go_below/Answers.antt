use Rattle.std.proofs.Common.{◌≡◌, not, ◌&&◌, ◌||◌, sym, ap, ◌∙◌, arith}
use Rattle.proof_tree.specs.Place.{is_fixed}
use Rattle.dense_tree.specs.Place.{is_players}
use Rattle.dense_nest.specs.Telling.{game_of, here_in}
use Rattle.dense_nest.proofs.Opening.{below_tells}
use Rattle.dense_nest.proofs.nest.Nest.go_below.Goals as goal
use Rattle.dense_nest.proofs.nest.Nest.go_below.Goals.{then-e, else-e, then-bounded, else-bounded}

pub overflow_add-spot : goal.overflow_add-spot
overflow_add-spot c =
    let s = c.requires.part.3.own.scope in
    let f = c.known.ensures.few_scopes in
    omega (arith, s, f)

pub returns-clause-goes : goal.returns-clause-goes
returns-clause-goes c = λ us boxes d p.
    let m = c.args.self.now in
    let is_one = is_fixed (game_of m) m.entry.spot.number m.remains.box in
    let loose : c.if-e.spot ≡ (m.entry.spot.loose || not is_one) = elim c.if-e.branch [
      | then-e w ↦ (w.spot-is ∙ w.if-e.true) ∙ sym (ap (λ b. b || not is_one) w.if-e.true)
      | else-e w ↦ (w.spot-is ∙ ap not c.requires.fixed) ∙ sym (ap (λ b. b || not is_one) w.if-e.false)
    ] in
    let below : c.if-bounded.spot ≡ (c.args.bounded && is_players (here_in m c.args.bounded)) = elim c.if-bounded.branch [
      | then-bounded w ↦ (w.spot-is ∙ c.requires.players) ∙ sym (ap (λ b. b && is_players (here_in m c.args.bounded)) w.if-bounded.true)
      | else-bounded w ↦ (w.spot-is ∙ w.if-bounded.false) ∙ sym (ap (λ b. b && is_players (here_in m c.args.bounded)) w.if-bounded.false)
    ] in
    below_tells m us boxes d p c.push.new.self c.mark.result c.mark.ensures c.requires.full c.in_ok-push.ensures c.args.bounded c.if-e.spot c.if-bounded.spot c.args.chosen loose below
