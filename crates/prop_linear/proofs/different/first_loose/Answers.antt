use Rattle.std.proofs.Common.{◌≡◌, ◌≤◌, ◌∙◌, ℕ, sym, ap, false, get_or, rules, below_more}
use Rattle.std.specs.Prelude.{pos}
use Rattle.std.proofs.lemmas.Int.{to_z-of_z}
use mir.Val.{SFits}
use mir.Syntax.{w64}
use Rattle.qc_model.specs.declared.problem.Arg.TheVariants.{Var, Num}
use Rattle.qc_model.specs.Refuted.{left_to}
use Rattle.qc_refuter.proofs.Terms.{open_at}
use Rattle.prop_linear.specs.Unequal.{is_loose, loose_at}
use Rattle.prop_linear.proofs.Last.{any_default}
use Rattle.prop_linear.proofs.different.first_loose.Goals as goal

pub is_term_loose-requires : goal.is_term_loose-requires
is_term_loose-requires c = open_at c.args.store.now.box c.args.items.now c.loop-k.k (Var (record { 0 = 0 })) c.loop-k-test.true c.requires.open

pub returns-then-is_term_loose-clause-found : goal.returns-then-is_term_loose-clause-found
returns-then-is_term_loose-clause-found c h =
    let n = get_or c.args.factors.now c.loop-k.k (pos 0) in
    let n_fits : SFits w64 n = search rules in
    let e = simp to_z-of_z at c.is_term_loose.ensures in
    let same = any_default c.args.items.now c.loop-k.k (Num (pos 0)) (Var (record { 0 = 0 })) c.loop-k-test.true in
    ap (λ a. is_loose n (left_to c.args.store.now.box a)) same ∙ (sym e ∙ c.if-is_term_loose.true)

pub loop-k-preserved : goal.loop-k-preserved
loop-k-preserved c j f h =
    let n = get_or c.args.factors.now c.loop-k.k (pos 0) in
    let n_fits : SFits w64 n = search rules in
    let e = simp to_z-of_z at c.is_term_loose.ensures in
    let same = any_default c.args.items.now c.loop-k.k (Num (pos 0)) (Var (record { 0 = 0 })) c.loop-k-test.true in
    let here = ap (λ a. is_loose n (left_to c.args.store.now.box a)) same ∙ (sym e ∙ c.if-is_term_loose.false) in
    let P : ℕ → Type 0 = λ i. c.args.from ≤ i → loose_at c.args.factors.now c.args.items.now c.args.store.now.box i ≡ false in
    below_more P c.loop-k.k (λ i l g. c.loop-k.invariant i g l) (λ g. here) j h f
