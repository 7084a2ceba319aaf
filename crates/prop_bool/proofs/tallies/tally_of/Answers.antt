use Rattle.std.proofs.Common.{Bool, [], ◌∷◌, ◌++◌, ◌+◌, take, get_or, refl, sym, subst}
use Rattle.std.specs.List.{list_all}
use Rattle.std.proofs.lemmas.List.{take_more}
use Rattle.std.proofs.lemmas.List.Recursion.{and_at}
use Rattle.qc_model.specs.declared.problem.Arg.{Arg}
use Rattle.qc_model.specs.declared.problem.Arg.TheVariants.{Var}
use Rattle.qc_model.specs.Refuted.{left_to}
use Rattle.prop_bool.specs.declared.tallies.Tally.TheVariants.{Free}
use Rattle.prop_bool.specs.Literals.{is_truth_left}
use Rattle.prop_bool.specs.Parities.{IsTally}
use Rattle.prop_bool.proofs.Counting.{free_taken}
use Rattle.prop_bool.proofs.tallies.tally_of.Goals as goal

pub with_item-tally-requires : goal.with_item-tally-requires
with_item-tally-requires c =
    let p : Arg → Bool = λ a. is_truth_left (left_to c.args.store.now.box a) in
    and_at (list_all p) p refl (λ _ _. refl) c.args.items.now c.loop-item.item-index (Var (record { 0 = 0 })) c.loop-item-test.true c.requires

pub returns-in-Free : goal.returns-in-Free
returns-in-Free c =
    let box = c.args.store.now.box in
    let xs = c.args.items.now in
    let k = c.loop-item.item-index in
    let a = get_or xs k (Var (record { 0 = 0 })) in
    let p = c.with_item-tally.ensures (take k xs) c.loop-item.invariant in
    let q = subst (λ t. IsTally t box (take k xs ++ a ∷ [])) c.in-Free.is p in
    free_taken box xs (k + 1) (subst (λ ys. IsTally Free box ys) (sym (take_more xs k (Var (record { 0 = 0 })) c.loop-item-test.true)) q)
