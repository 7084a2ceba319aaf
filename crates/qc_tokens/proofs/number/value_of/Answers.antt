use Rattle.std.proofs.Common.{◌≡◌, ◌∙◌, w64, ap, sym, subst, Some, to_z-of_z}
use Rattle.std.specs.Prelude.{FitsSigned}
use Rattle.std.specs.Str.Parse.{signed_digits_value}
use Rattle.qc_tokens.proofs.Values.{read-some, read-none, read-text, IsRead}
use Rattle.qc_tokens.proofs.number.value_of.Goals as goal

pub returns-in_default : goal.returns-in_default
returns-in_default c = sym (read-none c.args.run.now c.requires (λ r. c.in_default.ensures.cases.0 (read-text c.args.run.now c.requires r)))

pub returns-in-Ok-parse : goal.returns-in-Ok-parse
returns-in-Ok-parse c =
    let same : c.in-Ok.text.now ≡ c.args.run.now = c.in-Ok.ensures.cases.0 in
    let told = c.in-Ok-parse.ensures.value in
    let read = subst IsRead same (told.0.0.0, told.0.0.1) in
    let value : c.in-Ok-parse.value ≡ signed_digits_value 10 c.args.run.now = told.0.1 ∙ ap (signed_digits_value 10) same in
    let fits : FitsSigned w64 c.in-Ok-parse.value = subst (FitsSigned w64) (sym value) read.1 in
    ap Some (to_z-of_z fits ∙ value) ∙ sym (read-some c.args.run.now c.requires read)

pub returns-in-Err : goal.returns-in-Err
returns-in-Err c =
    let same : c.in-Ok.text.now ≡ c.args.run.now = c.in-Ok.ensures.cases.0 in
    sym (read-none c.args.run.now c.requires (λ r. c.in-Err.ensures.value.0 (subst IsRead (sym same) r)))
