use Rattle.std.proofs.Common.{◌++◌, ◌∙◌, subst, arith, take, append_assoc, length-append}
use Rattle.std.proofs.lemmas.List.{length-take-le}
use Rattle.qc_check.specs.Checking.{IsChecking}
use Rattle.qc_check.proofs.Steps.{further}
use Rattle.qc_check.proofs.progress.Checker.read_each.Goals as goal

pub loop-rest-preserved : goal.loop-rest-preserved
loop-rest-preserved c =
    let i = c.loop-rest.invariant in
    let e = c.in-Some.ensures in
    let size = c.in-Some.size in
    let rest = c.loop-rest.rest.now in
    let long = length-take-le size rest e.size.1 in
    let before = i.read in
    let now = e.read in
    record {
      ready = c.some.ensures.ready;
      going = e.goes_on;
      same = c.some.ensures.same ∙ i.same;
      front = i.front ++ take size rest;
      whole = further c.args.bytes.now i.front rest size i.whole;
      read = rw (length-append, long) (omega (arith, before, now));
      checking = λ bytes h. subst (IsChecking c.some.new.self) (append_assoc bytes i.front (take size rest)) (e.checking (bytes ++ i.front) (i.checking bytes h));
    }
