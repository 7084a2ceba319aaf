use Rattle.std.proofs.Common.{◌≡◌, map, take}
use Rattle.text_resolve.specs.Names.{declared}
use Rattle.text_resolve.specs.Draft.{arg_of}
use Rattle.text_resolve.proofs.arguments.args_of.Given as goal

abbrev pub invariant-loop-one : goal.invariant-loop-one
invariant-loop-one l = l.args ≡ map (arg_of l.names.text.now (declared l.names.text.now l.names.items.now)) (take l.one-index l.ones)
