use Rattle.std.proofs.Common.{◌≡◌, ap, length, rules}
use Rattle.std.proofs.lemmas.Int.{to_z-of_z}
use mir.Val.{SFits}
use mir.Syntax.{w64}
use Rattle.fd_store.specs.declared.table.Cell.{Cell}
use Rattle.fd_store.proofs.Dense.{adds_range}
use Rattle.fd_store.proofs.build.add_range.Goals as goal

pub returns : goal.returns
returns c =
    let q = c.requires in
    let fits : SFits w64 c.args.base = search rules in
    let start : c.len-start.result ≡ length c.args.words.now.items = search rules in
    simp to_z-of_z (adds_range c.args.words.now.items c.fill.new.words.items c.args.base c.args.n _ q.some q.narrow q.low q.high c.in_ok-fill.ensures
    (ap (λ s. let d : Cell = record { base = c.args.base; start = s; width = c.args.n; first = 0; end = c.args.n; size = c.args.n } in d) start))
