use Rattle.std.proofs.Common.{◌∙◌, sym, subst}
use Rattle.std.proofs.lemmas.List.{with_items_is}
use Rattle.likeness.specs.Marks.{AreMarksOf}
use Rattle.likeness.proofs.Owning.{marks_are}
use Rattle.likeness.proofs.sight.Sight.new.Goals as goal

pub invariant_of-result : goal.invariant_of-result
invariant_of-result c =
    let g = c.args.levels.now.problem.now in
    let old = c.in_ok-upto.upto in
    let new = c.mark_seen.new.upto in
    record {
      marks = subst (AreMarksOf g) (sym (with_items_is old new (c.in_ok-mark_seen.ensures.count ∙ c.deref_mut.ensures.len)))
          (marks_are g c.deref_mut.result.now new c.known.ensures (c.deref_mut.ensures.value ∙ c.in_ok-upto.ensures) c.in_ok-mark_seen.ensures);
      rules = c.in_ok-telling.ensures;
    }
