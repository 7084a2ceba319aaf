use Rattle.dense_commands.proofs.Completeness.{run_done}
use Rattle.dense_commands.proofs.top.run.Goals as goal

pub returns-clause-complete : goal.returns-clause-complete
returns-clause-complete g c =
    λ files output memory.
    run_done (record {
      problems = record { one = c.texts_say_one_thing.ensures.problem; either = c.texts_say_one_thing.ensures.not_both; never = c.bytes_are_one_text_or_have_one_fault.ensures.not_both; certificate = c.bytes_are_one_text_or_have_one_fault.ensures.certificate; formula = c.texts_get_one_answer.ensures.one_file; formula_never = c.texts_get_one_answer.ensures.never_both };
      never = c.bytes_are_one_list_or_have_one_fault.ensures.not_both;
      one = c.bytes_are_one_list_or_have_one_fault.ensures.list;
      best = c.texts_have_no_fault.ensures;
      dense_never = c.bytes_are_one_certificate_or_have_one_fault.ensures.not_both;
      dense_one = c.bytes_are_one_certificate_or_have_one_fault.ensures.certificate;
    })
    _ _ _ _ _ _ _ _ _ c.answer.result c.answer.ensures.wrote c.answer.ensures.read_fault files output memory
