use Rattle.std.proofs.Common.{◌≡◌, true, List, map}
use Rattle.qc_model.specs.Domains.{Values}
use Rattle.qc_model.specs.Left.{has_crowd}
use Rattle.qc_model.specs.Refuted.{left_to}
use Rattle.dense_quiet.specs.Differing.{HaveEnds, AllQuiet}
use Rattle.dense_quiet.proofs.LeftAlone.{tells_so}
use Rattle.dense_quiet.proofs.differing.sight_in.Goals as goal

pub returns : goal.returns
returns c =
    let ds = map (left_to c.args.store.now.box) c.args.items.now in
    let es = c.read_ends.new.ends in
    tells_so c.sight_of.result ((ds : List Values) → HaveEnds ds es → AllQuiet ds) ((ds : List Values) → HaveEnds ds es → has_crowd ds ≡ true) (AllQuiet ds) (has_crowd ds ≡ true) (λ f. f ds c.read_ends.ensures) (λ f. f ds c.read_ends.ensures) c.sight_of.ensures
