use Rattle.std.proofs.Common.{◌≡◌, ◌∷◌, ◌++◌, [], List, Bool, true, false, length, ap, sym, subst, arith}
use Rattle.std.specs.Prelude.{get_or}
use Rattle.std.proofs.lemmas.List.{length-append}
use Rattle.qc_model.specs.Content.{Game}
use Rattle.dense_alike.specs.Unseen.{SeesNone}
use Rattle.dense_alike.proofs.Below.{answer_more}
use Rattle.dense_alike.proofs.unseen.unseen_of.Goals as goal

pub loop-i-preserved : goal.loop-i-preserved
loop-i-preserved c =
    let g = c.args.problem.now in
    let i = c.loop-i.i in
    let us = c.loop-i.unseen.items in
    let b = c.sees_none.result in
    let inv = c.loop-i.invariant in
    let added : c.push.new.self.items ≡ us ++ b ∷ [] = c.in_ok-push.ensures.items in
    record {
      count = omega (arith, ap length added, length-append us (b ∷ []), inv.count);
      each = λ j e.
          answer_more (λ n. SeesNone g n) us b inv.each
          (λ t. subst (λ n. SeesNone g n) (sym inv.count) (subst (λ (h : Game). SeesNone h i) c.requires (c.sees_none.ensures t)))
          j (subst (λ (vs : List Bool). get_or vs j false ≡ true) added e);
    }
