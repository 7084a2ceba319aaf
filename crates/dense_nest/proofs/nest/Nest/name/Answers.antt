use Rattle.std.proofs.Common.{◌≡◌, ◌∙◌, Some, length, sym, ap}
use Rattle.dense_ledger.specs.Ledger.{Entry as EntryTold, named_due}
use Rattle.dense_nest.specs.declared.place.Due.TheVariants as due_as
use Rattle.dense_nest.specs.Places.{entry_told}
use Rattle.dense_nest.specs.Telling.{game_of}
use Rattle.dense_nest.proofs.NodeFinds.{name_here, counted}
use Rattle.dense_nest.proofs.nest.Nest.name.Goals as goal

pub returns-clause-goes : goal.returns-clause-goes
returns-clause-goes c = λ us boxes d h.
    let m = c.args.self.now in
    let e = c.args.e in
    let t = entry_told (game_of m) m.remains e in
    let count = c.len-count.result in
    let size : count ≡ length m.named.items = c.len-count.ensures ∙ m.named.ok.0 in
    let known : length d.known ≡ count = counted m e us boxes d h ∙ sym size in (
      ap (λ n. let x : EntryTold = record t { named = Some n } in named_due x) known,
      name_here m e c.push.new.self count (due_as.Named (record e { named = Some count })) (named_due (record t { named = Some (length d.known) })) c.in_ok-push.ensures.items size us boxes d h,
    )
