use Rattle.std.proofs.Common.{◌≡◌, ◌++◌}
use Rattle.text_resolve.specs.Names.{declared}
use Rattle.text_resolve.specs.Draft.{arguments_of}
use Rattle.text_resolve.proofs.arguments.arguments_of.Given as goal

abbrev pub invariant-loop-sort : goal.invariant-loop-sort
invariant-loop-sort l =
    let ds = declared l.names.text.now l.names.items.now in
    l.made.items ++ arguments_of l.names.text.now ds l.sort-iterator.a.rest.now l.sort-iterator.b.rest.now ≡ arguments_of l.names.text.now ds l.sorts l.arguments
