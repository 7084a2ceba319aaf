use Rattle.std.proofs.Common.{sym, ap, ◌∙◌}
use Rattle.model_arguments.proofs.Last.{last_at}
use Rattle.search_trim.specs.Slice.{wanting, wanting_last}
use Rattle.search_trim.proofs.slice.want_last.Goals as goal

pub returns-in-Some : goal.returns-in-Some
returns-in-Some c =
    let marks = c.args.marks.now in
    let here = last_at c.args.steps.now ∙ sym c.in-Some.ensures.value in
    c.want.ensures ∙ ap (wanting marks) c.variable_of.ensures ∙ sym (ap (wanting_last marks) here)
