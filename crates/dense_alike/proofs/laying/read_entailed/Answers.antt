use Rattle.std.proofs.Common.{◌∙◌, ◌<◌, ◌&&◌, length, arith, Bool}
use Rattle.std.proofs.lemmas.List.{length-set, length-map}
use Rattle.qc_model.specs.Content.{Rule}
use Rattle.lemma_list.specs.Entailment.{entailed_by}
use Rattle.likeness.specs.Seeing.{tells}
use Rattle.dense_tree.specs.Alike.{is_from}
use Rattle.dense_alike.proofs.Viewing.{some_at, answers_more}
use Rattle.dense_alike.proofs.laying.read_entailed.Goals as goal

pub loop-k-preserved : goal.loop-k-preserved
loop-k-preserved c =
    let cs = c.args.problem.now.constraints in
    let k = c.loop-k.k in
    let inv = c.loop-k.invariant in
    let f : Rule → Bool = λ r. is_from c.args.i.0 r && tells r && entailed_by r c.args.store.now.box in
    let below : k < length cs = omega (arith, c.loop-k-test.true, c.constraints-k-end.ensures) in
    let s = some_at cs k below in
    record {
      count = length-set c.loop-k.holds k c.is_held.result ∙ inv.count;
      read = λ j l m. answers_more f cs c.loop-k.holds k s.0 c.is_held.result j (omega (arith, c.loop-k-test.true, below, inv.count)) s.1 (c.is_held.ensures s.0 s.1) m (λ n. inv.read j l n);
    }

pub returns-clause-read : goal.returns-clause-read
returns-clause-read c = λ k l m.
    c.loop-k.invariant.read k l (omega (arith, m, length-map c.args.problem.now.constraints (λ (r : Rule). is_from c.args.i.0 r && tells r && entailed_by r c.args.store.now.box), c.loop-k-test.false, c.constraints-k-end.ensures))
