use Rattle.std.proofs.Common.{subst, take, ◌+◌, ◌++◌, [], ◌∷◌}
use Rattle.prop_bool.specs.declared.chances.Chance.TheVariants.{Free}
use Rattle.prop_bool.specs.Findings.{IsChance}
use Rattle.prop_bool.specs.Literals.{is_truth_at, literals}
use Rattle.prop_bool.proofs.Adding.{chance_next, free_more, literal_there}
use Rattle.prop_bool.proofs.chances.chance_of.Goals as goal

pub with_literal-chance-requires : goal.with_literal-chance-requires
with_literal-chance-requires c =
    literal_there (is_truth_at c.args.store.now.box) (literals c.args.plain.now c.args.negated.now) c.loop-k.k c.literal_at-literal.result c.requires.truths c.literal_at-literal.ensures

pub returns-in-Free : goal.returns-in-Free
returns-in-Free c =
    let box = c.args.store.now.box in
    let ls = literals c.args.plain.now c.args.negated.now in
    let l = c.literal_at-literal.result in
    let p = c.with_literal-chance.ensures (take c.loop-k.k ls) c.loop-k.invariant in
    free_more box ls (c.loop-k.k + 1) (chance_next Free box ls c.loop-k.k l c.literal_at-literal.ensures (subst (λ s. IsChance s box (take c.loop-k.k ls ++ l ∷ [])) c.in-Free.is p))

pub loop-k-preserved : goal.loop-k-preserved
loop-k-preserved c =
    let box = c.args.store.now.box in
    let ls = literals c.args.plain.now c.args.negated.now in
    let l = c.literal_at-literal.result in
    let p = c.with_literal-chance.ensures (take c.loop-k.k ls) c.loop-k.invariant in
    chance_next c.with_literal-chance.result box ls c.loop-k.k l c.literal_at-literal.ensures p
