use Rattle.std.proofs.Common.{◌≡◌, ◌∙◌, sym, ap, subst, true, cond, [], ◌∷◌, drop}
use Rattle.std.specs.List.{list_all}
use Rattle.std.proofs.lemmas.List.{take_rest}
use Rattle.std.proofs.lemmas.Result.{on_ok_weaker}
use Rattle.qc_model.specs.Game.{restriction, allows}
use Rattle.qc_model.specs.Holds.{holds_on}
use Rattle.qc_model.specs.Valid.{is_constraint, is_number}
use Rattle.box_laws.proofs.Readings.{rules_valid}
use Rattle.tell_moves.specs.Puts.{state_of, put as put_of, puts}
use Rattle.tell_moves.proofs.Going.{numbers_in}
use Rattle.tell_moves.proofs.search.list_tuple.Goals as goal
use Rattle.tell_moves.proofs.search.list_tuple.Goals.{After-all_hold}

pub all_hold-requires-clause-rules : goal.all_hold-requires-clause-rules
all_hold-requires-clause-rules c =
    let level = c.args.level.now in
    let g = level.problem.now in
    subst (λ rules. list_all (is_constraint g.variables) rules ≡ true) (sym level.has_rules) (rules_valid g level.number c.known.ensures.constraints)

pub all_hold-requires-clause-values : goal.all_hold-requires-clause-values
all_hold-requires-clause-values c =
    subst (λ vs. list_all is_number vs ≡ true) (sym c.as_slice.ensures.value)
    (numbers_in c.args.level.now.problem.now c.known.ensures c.args.walk.now.values.items c.requires.stands.declared)

-- the restriction was asked on the values
allowed : (c : After-all_hold) → c.all_hold.result ≡ allows c.args.level.now.problem.now c.args.level.now.number c.args.walk.now.values.items
allowed c =
    let level = c.args.level.now in
    c.all_hold.ensures
    ∙ (ap (λ rules. list_all (λ r. holds_on r c.as_slice.result.now) rules) level.has_rules
    ∙ ap (λ vs. list_all (λ r. holds_on r vs) (restriction level.problem.now level.number)) c.as_slice.ensures.value)

pub returns-then-not-all_hold-clause-listed : goal.returns-then-not-all_hold-clause-listed
returns-then-not-all_hold-clause-listed c =
    let w = c.args.walk.now in
    ap (λ b. puts (state_of w.listing) (cond b (drop c.args.level.now.from w.values.items ∷ []) []))
    (sym c.if-not-all_hold.true ∙ allowed (goal.at.returns-then-not-all_hold-clause-listed c).After-all_hold)

pub returns-clause-listed : goal.returns-clause-listed
returns-clause-listed c =
    let w = c.args.walk.now in
    let s = state_of w.listing in
    let n = c.args.level.now.from in
    on_ok_weaker c.put.result
    (λ h. h ∙ (ap (put_of s) (take_rest c.deref.result.now n) ∙ ap (λ vs. put_of s (drop n vs)) c.deref.ensures.value
    ∙ ap (λ b. puts s (cond b (drop n w.values.items ∷ []) [])) (sym c.if-not-all_hold.false ∙ allowed (goal.at.returns-clause-listed c).After-all_hold)))
    c.put.ensures
