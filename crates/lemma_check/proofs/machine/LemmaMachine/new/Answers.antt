use Rattle.std.proofs.Common.{◌≡◌, ◌∙◌, sym, ap, subst, List, IsTrue}
use Rattle.std.specs.Prelude.{slice_index_or}
use Rattle.qc_model.specs.Content.{Game}
use Rattle.qc_model.specs.Domains.{Box, declared_box}
use Rattle.model_arguments.specs.Asked.{is_box_of}
use Rattle.box_laws.proofs.Declared.{declared_is}
use Rattle.lemma_check.proofs.machine.LemmaMachine.new.Goals as goal

pub returns-clause-ready : goal.returns-clause-ready
returns-clause-ready c =
    let g = c.args.problem.now in
    let same : c.in_ok-levels.levels.problem.now ≡ g = c.in_ok-levels.ensures in
    let box = c.in_ok-remains.remains.box in
    record {
      held = record {
        declared = subst (λ (u : Game). IsTrue (is_box_of u box)) (sym same) (declared_is g box c.known.ensures.domains c.in_ok-remains.ensures.0);
        first = ap (λ (p : List Box). slice_index_or p 0 box) c.in_ok-remains.ensures.1 ∙ c.in_ok-remains.ensures.0 ∙ sym (ap declared_box same);
      };
      placed = tt;
    }
