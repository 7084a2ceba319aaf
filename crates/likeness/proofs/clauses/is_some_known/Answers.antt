use Rattle.std.proofs.Common.{◌≡◌, false, true, map, not, subst}
use Rattle.std.specs.List.{list_any}
use Rattle.std.proofs.lemmas.Int.{to_z-of_z}
use mir.Syntax.{w64}
use mir.Val.{to_z, of_z}
use Rattle.qc_model.specs.declared.problem.Arg.TheVariants.{Var}
use Rattle.proof_alike.specs.Alike.{is_looked_at}
use Rattle.proof_alike.specs.Reading.{is_known_as, known_value}
use Rattle.likeness.proofs.Steps.{some_next, some_stop, some_end}
use Rattle.likeness.proofs.clauses.is_some_known.Goals as goal

pub loop-item-preserved : goal.loop-item-preserved
loop-item-preserved c =
    some_next (is_known_as (to_z w64 (of_z w64 c.args.wanted))) (known_value (λ x. not (is_looked_at c.args.sight.now c.args.i.0 x)) c.args.values.now) c.args.items.now c.loop-item.item-index _
    (Var (record { 0 = 0 })) c.is_known.result c.loop-item-test.true c.is_known.ensures c.if-is_known.false c.loop-item.invariant

pub returns-then-is_known : goal.returns-then-is_known
returns-then-is_known c =
    let f = known_value (λ x. not (is_looked_at c.args.sight.now c.args.i.0 x)) c.args.values.now in
    subst (λ w. true ≡ list_any (is_known_as w) (map f c.args.items.now)) (to_z-of_z w64 c.args.wanted c.ranges.wanted)
    (some_stop (is_known_as (to_z w64 (of_z w64 c.args.wanted))) f c.args.items.now c.loop-item.item-index _ (Var (record { 0 = 0 })) c.is_known.result c.loop-item-test.true c.is_known.ensures c.if-is_known.true c.loop-item.invariant)

pub returns : goal.returns
returns c =
    let f = known_value (λ x. not (is_looked_at c.args.sight.now c.args.i.0 x)) c.args.values.now in
    subst (λ w. false ≡ list_any (is_known_as w) (map f c.args.items.now)) (to_z-of_z w64 c.args.wanted c.ranges.wanted)
    (some_end (is_known_as (to_z w64 (of_z w64 c.args.wanted))) f c.args.items.now c.loop-item.item-index _ c.loop-item-test.false c.loop-item.invariant)
