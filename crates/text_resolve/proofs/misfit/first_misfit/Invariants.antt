use Rattle.std.proofs.Common.{◌≡◌, drop}
use Rattle.text_resolve.specs.Names.{declared}
use Rattle.text_resolve.specs.Fits.{first_place, misfit}
use Rattle.text_resolve.proofs.misfit.first_misfit.Given as goal

abbrev pub invariant-loop-item : goal.invariant-loop-item
invariant-loop-item l =
    let wrong = misfit l.names.text.now (declared l.names.text.now l.names.items.now) in
    first_place wrong (drop l.item-index l.names.items.now) ≡ first_place wrong l.names.items.now
