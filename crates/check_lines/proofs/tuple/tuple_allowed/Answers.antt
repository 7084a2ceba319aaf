use Rattle.std.proofs.Common.{◌≡◌, ◌∙◌, refl, sym, ap, subst, arith, true, false, not, ◌&&◌, cond, suc, ◌-◌, Some, None, Option, Bool, length, take, drop, map}
use Rattle.std.specs.List.{list_all}
use Rattle.qc_model.specs.Content.{Game}
use Rattle.qc_model.specs.Domains.{is_single, has_empty}
use Rattle.qc_model.specs.Game.{allows, before}
use Rattle.qc_model.specs.Holds.{holds_on}
use Rattle.proof_tree.specs.Place.{position, is_fixed}
use Rattle.fd_store.specs.Held.{Held}
use Rattle.check_box.specs.Placed.{only, IsAt}
use Rattle.box_laws.proofs.Readings.{box_size}
use Rattle.check_box.proofs.Placing.{position_placed}
use Rattle.check_lines.proofs.Prefixes.{span_allows_prefix}
use Rattle.check_lines.proofs.Known.{single_after}
use Rattle.check_lines.proofs.tuple.tuple_allowed.Goals as goal
use Rattle.check_lines.proofs.tuple.tuple_allowed.Goals.{After-store, After-read_on}

stored : (c : After-store) → length c.store.result.now.box ≡ length c.args.level.now.problem.now.variables
stored c = ap (λ (h : Held). length h.box) c.store.ensures ∙ box_size c.args.level.now.problem.now c.args.remains.now.box c.requires.declared

pub read_on-requires-clause-bound : goal.read_on-requires-clause-bound
read_on-requires-clause-bound c = let e = stored (goal.at.read_on-requires-clause-bound c).After-store in omega (arith, e, c.args.level.now.stop_within)

pub read_on-requires-clause-few : goal.read_on-requires-clause-few
read_on-requires-clause-few c = let e = stored (goal.at.read_on-requires-clause-few c).After-store in omega (arith, e, c.known.ensures.few_variables)

pub read_on-requires-clause-each : goal.read_on-requires-clause-each
read_on-requires-clause-each c = c.requires.each ∙ sym (stored (goal.at.read_on-requires-clause-each c).After-store)

pub read_on-requires-clause-places : goal.read_on-requires-clause-places
read_on-requires-clause-places c = c.requires.places ∙ sym (stored (goal.at.read_on-requires-clause-places c).After-store)

-- whether the scope's variables have one value each is what reading on tells, since those before have
fixed : (c : After-read_on) → is_fixed c.args.level.now.problem.now c.args.level.now.number c.args.remains.now.box ≡ c.read_on.result
fixed c =
    let l = c.args.level.now in
    let box = c.args.remains.now.box in
    let full = sym c.is_empty.ensures ∙ c.if-is_empty.false in
    ap (λ n. list_all is_single (drop n (take (before l.problem.now (suc l.number)) box))) (sym l.has_from)
    ∙ (ap (λ n. list_all is_single (drop l.from (take n box))) (sym l.has_stop)
    ∙ (single_after l.from l.stop box c.args.values.now.items l.rises (subst (λ n. take n box ≡ map only (take n c.args.values.now.items)) (sym l.has_from) (c.requires.placed full))
    ∙ (sym (ap (λ (h : Held). list_all is_single (take l.stop h.box)) c.store.ensures) ∙ sym c.read_on.ensures.fixed)))

pub returns-then-not-read_on-clause-tuple : goal.returns-then-not-read_on-clause-tuple
returns-then-not-read_on-clause-tuple c =
    let g = c.args.level.now.problem.now in
    let i = c.args.level.now.number in
    let box = c.args.remains.now.box in
    none (has_empty box) (is_fixed g i box) (allows g i (position g (suc i) box)) (fixed (goal.at.returns-then-not-read_on-clause-tuple c).After-read_on ∙ c.if-not-read_on.true)
  where
    none : (e f a : Bool) → f ≡ false → ◌≡◌ {A = Option Bool} None (cond (not e && f) (Some a) None)
    none true f a p = refl
    none false true a p = cc
    none false false a p = refl

joined : (e f a : Bool) (o : Option Bool) → e ≡ false → f ≡ true → o ≡ Some a → o ≡ cond (not e && f) (Some a) None
joined e f a o p q r = r ∙ sym (ap (λ b. cond (not b && f) (Some a) None) p ∙ ap (λ b. cond b (Some a) None) q)

pub returns-clause-tuple : goal.returns-clause-tuple
returns-clause-tuple c =
    let g = c.args.level.now.problem.now in
    let i = c.args.level.now.number in
    let stop = c.args.level.now.stop in
    let box = c.args.remains.now.box in
    let vs = c.read_on.new.values.items in
    let placed : IsAt g (suc i) vs box =
    subst (λ n. take n box ≡ map only (take n vs)) c.args.level.now.has_stop (sym (ap (λ (h : Held). take stop h.box) c.store.ensures) ∙ c.read_on.ensures.placed c.if-not-read_on.false) in
    let single : is_fixed g i box ≡ true = fixed (goal.at.returns-clause-tuple c).After-read_on ∙ c.if-not-read_on.false in
    let l = c.args.level.now in
    let game : c.read_on.new.values.game ≡ g = c.read_on.ensures.game ∙ c.requires.game in
    let size : length vs ≡ length g.variables = c.read_on.ensures.each ∙ c.requires.each in
    let holds : c.span_holds.result ≡ allows g i (position g (suc i) box) =
    c.span_holds.ensures.holds
    ∙ (ap (λ (u : Game). list_all (λ r. holds_on r vs) (take (l.constraints.end - l.constraints.first) (drop l.constraints.first u.constraints))) game
    ∙ (span_allows_prefix g c.known.ensures i vs size l.constraints.first l.constraints.end l.has_constraints ∙ ap (allows g i) (sym (position_placed g (suc i) vs box placed)))) in
    joined (has_empty box) (is_fixed g i box) (allows g i (position g (suc i) box)) (Some c.span_holds.result) (sym c.is_empty.ensures ∙ c.if-is_empty.false) single (ap Some holds)
