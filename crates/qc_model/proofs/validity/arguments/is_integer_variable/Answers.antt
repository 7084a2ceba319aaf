use Rattle.std.proofs.Common.{◌∙◌, ap, sym, refl}
use Rattle.qc_model.specs.Valid.{is_variable_with, is_integer_domain}
use Rattle.qc_model.proofs.Looking.{found_there, none_there}
use Rattle.qc_model.proofs.validity.arguments.is_integer_variable.Goals as goal

pub returns-in-Bits : goal.returns-in-Bits
returns-in-Bits c =
    let l = c.in-Some.ensures.lookup in
    ap is_integer_domain (sym c.in-Bits.is) ∙ ap (is_variable_with is_integer_domain) (found_there c.args.variables.now c.args.x.0 c.in-Some.x.now c.in-Some.x.now l.0 l.1 refl)

pub returns-in-Range : goal.returns-in-Range
returns-in-Range c =
    let l = c.in-Some.ensures.lookup in
    ap is_integer_domain (sym c.in-Range.is) ∙ ap (is_variable_with is_integer_domain) (found_there c.args.variables.now c.args.x.0 c.in-Some.x.now c.in-Some.x.now l.0 l.1 refl)

pub returns-in-Listed : goal.returns-in-Listed
returns-in-Listed c =
    let l = c.in-Some.ensures.lookup in
    ap is_integer_domain (sym c.in-Listed.is) ∙ ap (is_variable_with is_integer_domain) (found_there c.args.variables.now c.args.x.0 c.in-Some.x.now c.in-Some.x.now l.0 l.1 refl)

pub returns-in-None : goal.returns-in-None
returns-in-None c = ap (is_variable_with is_integer_domain) (none_there c.args.variables.now c.args.x.0 c.in-None.ensures.lookup.0)
