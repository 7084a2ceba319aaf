use Rattle.std.proofs.Common.{◌≡◌, false, sym, ap, ◌∙◌, subst}
use Rattle.std.specs.Prelude.{slice_get}
use Rattle.model_arguments.specs.Repeats.{has_repeat}
use Rattle.model_arguments.specs.Written.{items_of}
use Rattle.prop_engine.proofs.watching.Watches.watch_array.Goals as goal

pub watch_terms-requires-clause-items : goal.watch_terms-requires-clause-items
watch_terms-requires-clause-items c = ap items_of (ap (slice_get c.args.rule.now.args) (sym c.if-place-eq1.true) ∙ c.requires.place)

pub watch_terms-requires-clause-apart : goal.watch_terms-requires-clause-apart
watch_terms-requires-clause-apart c =
    let same = ap items_of (ap (slice_get c.args.rule.now.args) (sym c.if-place-eq1.true) ∙ c.requires.place) in
    subst (λ xs. has_repeat xs ≡ false) same (c.is_bounded_sum.ensures.apart c.if-is_bounded_sum.true)

pub watch_items-requires-clause-held : goal.watch_items-requires-clause-held
watch_items-requires-clause-held c x h = c.held_at.ensures c.args.items.now c.requires.place x h
