use Rattle.std.proofs.Common.{◌∙◌, arith}
use Rattle.qc_check.proofs.progress.Checker.read_keeping.Goals as goal

pub loop-at-preserved : goal.loop-at-preserved
loop-at-preserved c =
    let i = c.loop-at.invariant in
    let e = c.in-Some.ensures in
    let before = i.read in
    let now = e.read in
    let on = e.place.0 in
    record {
      ready = c.some_kept.ensures.ready;
      going = e.goes_on;
      same = c.some_kept.ensures.same ∙ i.same;
      within = e.place.1;
      read = omega (arith, before, now, on);
      some = (i.some.0, e.keeping i.some.0 i.some.1);
      keeping = λ front h. e.keeping front (i.keeping front h);
    }
