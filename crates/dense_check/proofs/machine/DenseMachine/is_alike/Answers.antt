use Rattle.std.proofs.Common.{◌≡◌, ◌∙◌, refl, sym, subst, true, false, ◌&&◌, []}
use Rattle.std.specs.Prelude.{slice_get}
use Rattle.qc_model.specs.Content.{Game}
use Rattle.fd_store.specs.Held.{Held}
use Rattle.dense_check.specs.Telling.{game_of}
use Rattle.dense_check.proofs.Repeated.{kept_there, alike_none, alike_some, told_there}
use Rattle.std.specs.Prelude.{slice_index_or}
use Rattle.dense_tree.specs.Alike.{reads_one_position, look_same}
use Rattle.dense_check.proofs.machine.DenseMachine.is_alike.Goals as goal

pub returns-clause-told : goal.returns-clause-told
returns-clause-told c = λ _. told_there c.args.e (slice_get c.args.self.now.nest.named.items c.args.n) c.in-Some.q (sym c.told_spot.ensures ∙ c.in-Some.is) (sym (sym c.if-not-is_like_spot.false ∙ c.is_like_spot.ensures))

pub returns-in_default-clause-alike : goal.returns-in_default-clause-alike
returns-in_default-clause-alike c = λ d h. alike_none c.args.self.now c.args.e c.args.n d h (sym c.told_spot.ensures ∙ c.in_default.is)

pub returns-then-not-is_like_spot-clause-alike : goal.returns-then-not-is_like_spot-clause-alike
returns-then-not-is_like_spot-clause-alike c = λ d h. alike_some c.args.self.now c.args.e c.args.n d c.in-Some.q false _ _ h (sym c.told_spot.ensures ∙ c.in-Some.is) (sym c.if-not-is_like_spot.true ∙ c.is_like_spot.ensures) refl refl

pub misses_nothing-requires-clause-kept : goal.misses_nothing-requires-clause-kept
misses_nothing-requires-clause-kept c = kept_there c.args.self.now c.args.e c.args.n c.in-Some.q c.requires.node (sym c.told_spot.ensures ∙ c.in-Some.is)

pub returns-then-not-misses_nothing-clause-alike : goal.returns-then-not-misses_nothing-clause-alike
returns-then-not-misses_nothing-clause-alike c = λ d h. alike_some c.args.self.now c.args.e c.args.n d c.in-Some.q true false _ h (sym c.told_spot.ensures ∙ c.in-Some.is) (sym c.if-not-is_like_spot.false ∙ c.is_like_spot.ensures) (sym c.if-not-misses_nothing.true ∙ c.misses_nothing.ensures) refl

pub look_same-requires-clause-kept : goal.look_same-requires-clause-kept
look_same-requires-clause-kept c = kept_there c.args.self.now c.args.e c.args.n c.in-Some.q c.requires.node (sym c.told_spot.ensures ∙ c.in-Some.is)

pub returns-clause-alike : goal.returns-clause-alike
returns-clause-alike c = λ d h. alike_some c.args.self.now c.args.e c.args.n d c.in-Some.q true true c.look_same.result h (sym c.told_spot.ensures ∙ c.in-Some.is) (sym c.if-not-is_like_spot.false ∙ c.is_like_spot.ensures) (sym c.if-not-misses_nothing.false ∙ c.misses_nothing.ensures)
    (subst (λ (h : Held). c.look_same.result ≡ (reads_one_position (game_of c.args.self.now) c.args.e.spot.number h.box && reads_one_position (game_of c.args.self.now) c.args.e.spot.number (slice_index_or c.args.self.now.positions.boxes c.args.n []) && look_same (game_of c.args.self.now) c.args.e.spot.number h.box (slice_index_or c.args.self.now.positions.boxes c.args.n []))) c.store.ensures
    (subst (λ (g : Game). c.look_same.result ≡ (reads_one_position g c.args.e.spot.number c.store.result.now.box && reads_one_position g c.args.e.spot.number (slice_index_or c.args.self.now.positions.boxes c.args.n []) && look_same g c.args.e.spot.number c.store.result.now.box (slice_index_or c.args.self.now.positions.boxes c.args.n []))) c.requires.node.1.knows.made.boxes c.look_same.ensures.same))
