use Rattle.std.proofs.Common.{◌≡◌, ◌∙◌, ◌<◌, Some, take, slice_get, sym, ap, subst, rules, to_z, of_z, w64}
use Rattle.std.proofs.lemmas.Int.{to_z-of_z}
use mir.Val.{SFits}
use Rattle.qc_model.specs.declared.problem.Kind.TheVariants.{Exists, Forall}
use Rattle.qc_model.specs.Content.{Game}
use Rattle.qc_model.specs.Demands.{demands}
use Rattle.joins.specs.Joins.{StandsAt, out_of}
use Rattle.joins.specs.Verdicts.{verdict_at}
use Rattle.model_levels.specs.Spans.{kind_at}
use Rattle.proof_tree.specs.Place.{position}
use Rattle.dense_tree.specs.Verdicts.{best_of}
use Rattle.dense_nest.specs.Ends.{given_to}
use Rattle.dense_nest.specs.Tallies.{best_held, HasTally, IsTally}
use Rattle.dense_nest.specs.Telling.{game_of}
use Rattle.dense_nest.proofs.Tallying.{item_at, tally_is}
use Rattle.dense_nest.proofs.Endings.{none_is, opponent_is, best_is}
use Rattle.dense_nest.proofs.nest.Nest.come_to.Goals as goal

pub returns-in_default-clause-verdict : goal.returns-in_default-clause-verdict
returns-in_default-clause-verdict c = λ s e o us p at later number read own.
    let m = c.args.self.now in
    let g = game_of m in
    let i = c.args.i.0 in
    let t = c.index-tally.result.now in
    let tally : IsTally (demands g i) o.seen o.bests t = tally_is (demands g i) o.seen o.bests (slice_get m.tallies.items i) t
    (item_at m.tallies.items i t (subst (λ n. i < n) (sym c.requires.made.tallies) c.requires.scope) c.index-tally.ensures)
    (subst (λ j. HasTally (demands g j) o.seen o.bests (slice_get m.tallies.items j)) number own.tally) in
    let a = take c.args.count c.deref.result.now in
    let here : a ≡ position g i p.box = ap (take c.args.count) c.deref.ensures.value ∙ read in
    c.finish.ensures.verdict o.seen (subst (λ j. StandsAt m.joins j o.seen) number own.stands)
    ∙ (ap (λ (u : Game). verdict_at u i a o.seen) c.requires.made.joined
    ∙ none_is (given_to m us) p i at.number at.list later a o.seen o.bests here (sym c.in_default.is ∙ tally.best))

pub returns-in-Forall-clause-verdict : goal.returns-in-Forall-clause-verdict
returns-in-Forall-clause-verdict c = λ s e o us p at later number read own.
    let m = c.args.self.now in
    let g = game_of m in
    let i = c.args.i.0 in
    let a = take c.args.count c.deref-in-Forall.result.now in
    let here : a ≡ position g i p.box = ap (take c.args.count) c.deref-in-Forall.ensures.value ∙ read in
    let l = c.level.result.now in
    let kind : kind_at g i ≡ Some Forall = sym (ap (λ (u : Game). kind_at u l.number) c.level.ensures.problem ∙ ap (kind_at g) c.level.ensures.number) ∙ (l.has_kind ∙ ap Some c.in-Forall.is) in
    c.finish-in-Forall.ensures.verdict o.seen (subst (λ j. StandsAt m.joins j o.seen) number own.stands)
    ∙ (ap (λ (u : Game). verdict_at u i a o.seen) c.requires.made.joined
    ∙ opponent_is (given_to m us) p i at.number at.list later a o.seen o.bests here kind)

pub returns-in-Exists-clause-verdict : goal.returns-in-Exists-clause-verdict
returns-in-Exists-clause-verdict c = λ s e o us p at later number read own.
    let m = c.args.self.now in
    let g = game_of m in
    let i = c.args.i.0 in
    let t = c.index-tally.result.now in
    let tally : IsTally (demands g i) o.seen o.bests t = tally_is (demands g i) o.seen o.bests (slice_get m.tallies.items i) t
    (item_at m.tallies.items i t (subst (λ n. i < n) (sym c.requires.made.tallies) c.requires.scope) c.index-tally.ensures)
    (subst (λ j. HasTally (demands g j) o.seen o.bests (slice_get m.tallies.items j)) number own.tally) in
    let l = c.level.result.now in
    let kind : kind_at g i ≡ Some Exists = sym (ap (λ (u : Game). kind_at u l.number) c.level.ensures.problem ∙ ap (kind_at g) c.level.ensures.number) ∙ (l.has_kind ∙ ap Some c.in-Exists.is) in
    let list : c.list.result.now ≡ demands g i = c.list.ensures g c.requires.made.lists in
    let held : Some c.in-Some.best ≡ best_held (demands g i) o.bests = sym c.in-Some.is ∙ tally.best in
    let fits : SFits w64 c.in-Some.best = search rules in
    let passed = to_z-of_z w64 c.in-Some.best fits in
    let given : Some (to_z w64 (of_z w64 c.in-Some.best)) ≡ best_held c.list.result.now o.bests =
    ap Some passed ∙ subst (λ d. Some c.in-Some.best ≡ best_held d o.bests) (sym list) held in
    c.bounded_by.ensures (out_of m.joins) o.seen o.bests given tally.mixed
    ∙ (ap (λ d. best_of d o.seen o.bests) list ∙ best_is (given_to m us) p i at.number at.list later o.seen o.bests c.in-Some.best held kind)
