use Rattle.std.proofs.Common.{refl, subst}
use Rattle.proof_text.specs.Symbols.{start}
use Rattle.proof_text.specs.Reading.{Stops}
use Rattle.proof_text.proofs.PlacesFound.{wrong_place, deep_place, wrong_within, deep_within, no_wrong_text, no_deep_text}
use Rattle.proof_text.proofs.read.read_cert.Goals as goal

pub overflow_sub-result : goal.overflow_sub-result
overflow_sub-result c = wrong_within c.args.text.now c.in-Err-Wrong.left (subst (Stops start c.args.text.now) c.in-Err-Wrong.field-0-is c.in-Err-Wrong.ensures.err)

pub overflow_sub-result-in-Err-Deep : goal.overflow_sub-result-in-Err-Deep
overflow_sub-result-in-Err-Deep c = deep_within c.args.text.now c.in-Err-Deep.left (subst (Stops start c.args.text.now) c.in-Err-Deep.field-0-is c.in-Err-Deep.ensures.err)

pub returns-in-Err-Wrong-clause-only : goal.returns-in-Err-Wrong-clause-only
returns-in-Err-Wrong-clause-only c = no_wrong_text c.args.text.now _ (wrong_place c.args.text.now c.in-Err-Wrong.left _ (subst (Stops start c.args.text.now) c.in-Err-Wrong.field-0-is c.in-Err-Wrong.ensures.err) refl)

pub returns-in-Err-Wrong-clause-fault : goal.returns-in-Err-Wrong-clause-fault
returns-in-Err-Wrong-clause-fault c = wrong_place c.args.text.now c.in-Err-Wrong.left _ (subst (Stops start c.args.text.now) c.in-Err-Wrong.field-0-is c.in-Err-Wrong.ensures.err) refl

pub returns-in-Err-Deep-clause-only : goal.returns-in-Err-Deep-clause-only
returns-in-Err-Deep-clause-only c = no_deep_text c.args.text.now _ (deep_place c.args.text.now c.in-Err-Deep.left _ (subst (Stops start c.args.text.now) c.in-Err-Deep.field-0-is c.in-Err-Deep.ensures.err) refl)

pub returns-in-Err-Deep-clause-fault : goal.returns-in-Err-Deep-clause-fault
returns-in-Err-Deep-clause-fault c = deep_place c.args.text.now c.in-Err-Deep.left _ (subst (Stops start c.args.text.now) c.in-Err-Deep.field-0-is c.in-Err-Deep.ensures.err) refl
