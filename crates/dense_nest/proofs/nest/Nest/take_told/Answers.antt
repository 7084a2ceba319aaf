use Rattle.std.proofs.Common.{◌≤◌, ◌∙◌, length, sym, ap, subst, rules, List, to_z, of_z, w64, ℤ}
use Rattle.std.proofs.lemmas.Int.{to_z-of_z}
use mir.Val.{SFits}
use Rattle.qc_model.specs.Content.{Game}
use Rattle.qc_model.specs.Verdict.{at_most}
use Rattle.joins.specs.Seen.{verdict_of}
use Rattle.joins.specs.declared.leaves.Found.TheVariants.{Lost, AtMost, Unknown}
use Rattle.dense_nest.specs.Telling.{game_of}
use Rattle.dense_nest.proofs.NodeFinds.{told_plain, told_handed, told_short}
use Rattle.dense_nest.proofs.nest.Nest.take_told.Goals as goal

pub hand_out-requires : goal.hand_out-requires
hand_out-requires c =
    let m = c.args.self.now in
    let p = c.requires.node in
    let short = told_short m c.args.e c.args.n c.index.result.now c.in-Some.told c.index.ensures c.in-Some.is c.requires.told c.in-Exact.is p.0 p.1 p.2 p.3 in
    subst (λ (g : Game). length c.as_slice.result.now ≤ length g.scopes) (sym p.3.keeps.made.joined) (subst (λ (w : List ℤ). length w ≤ length (game_of m).scopes) (sym c.as_slice.ensures.value) short)

pub returns-in-Exact-clause-finds : goal.returns-in-Exact-clause-finds
returns-in-Exact-clause-finds c =
    let m = c.args.self.now in
    let p = c.requires.node in
    told_handed m c.args.e c.args.n c.index.result.now c.in-Some.told c.hand_out.new.self c.index.ensures c.in-Some.is c.requires.told c.in-Exact.is
    c.hand_out.ensures.all c.hand_out.ensures.same (c.hand_out.ensures.out ∙ c.as_slice.ensures.value) p.3.keeps.made

pub returns-in-Lost-clause-finds : goal.returns-in-Lost-clause-finds
returns-in-Lost-clause-finds c =
    let t = c.in-Some.told in
    told_plain c.args.self.now c.args.e c.args.n c.index.result.now t Lost c.index.ensures c.in-Some.is c.requires.told (ap (λ f. verdict_of f t.vector.items) c.in-Lost.is)

pub returns-in-Unknown-clause-finds : goal.returns-in-Unknown-clause-finds
returns-in-Unknown-clause-finds c =
    let t = c.in-Some.told in
    told_plain c.args.self.now c.args.e c.args.n c.index.result.now t Unknown c.index.ensures c.in-Some.is c.requires.told (ap (λ f. verdict_of f t.vector.items) c.in-Unknown.is)

pub returns-in-AtMost-clause-finds : goal.returns-in-AtMost-clause-finds
returns-in-AtMost-clause-finds c =
    let t = c.in-Some.told in
    let p = c.in-AtMost.p in
    let fits : SFits w64 p = search rules in
    let passed = to_z-of_z w64 p fits in
    told_plain c.args.self.now c.args.e c.args.n c.index.result.now t (AtMost (to_z w64 (of_z w64 p))) c.index.ensures c.in-Some.is c.requires.told
    (ap (λ f. verdict_of f t.vector.items) c.in-AtMost.is ∙ ap at_most (sym passed))
