use Rattle.std.proofs.Common.{◌++◌, ◌∙◌, subst, arith, append_assoc, length-append}
use Rattle.dense_judge.specs.Checking.{IsChecking}
use Rattle.dense_judge.proofs.Steps.{read_further, fewer_left}
use Rattle.dense_judge.proofs.progress.DenseChecker.read_each.Goals as goal

pub loop-rest-smaller : goal.loop-rest-smaller
loop-rest-smaller c = fewer_left _ _ _ _ c.in_ok-rest.ensures.reads

pub loop-rest-preserved : goal.loop-rest-preserved
loop-rest-preserved c =
    let i = c.loop-rest.invariant in
    let r = c.in_ok-rest.ensures.reads in
    let before = i.read in
    let now = r.read in
    record {
      ready = c.some.ensures.ready;
      same = c.some.ensures.same ∙ i.same;
      front = i.front ++ r.front;
      whole = read_further _ _ c.args.bytes.now i.front c.loop-rest.rest.now _ i.whole r;
      read = rw length-append (omega (arith, before, now));
      checking = λ bytes h. subst (IsChecking c.some.new.self) (append_assoc bytes i.front r.front) (r.checking (bytes ++ i.front) (i.checking bytes h));
    }
