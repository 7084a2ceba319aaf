use Rattle.std.proofs.Common.{◌∙◌, sym, ap, subst}
use Rattle.qc_model.specs.Closed.{keeps_ends}
use Rattle.qc_model.specs.Domains.{Box, has_empty, values_within}
use Rattle.qc_model.specs.Refuted.{left_to}
use Rattle.qc_refuter.specs.Met.{is_domain_left, is_open}
use Rattle.prop_compare.specs.Compared.{IsNarrowing, box_kept}
use Rattle.prop_compare.proofs.Sides.{with_full, with_other}
use Rattle.prop_base.proofs.Prunings.{prunes_more, fits_after}
use Rattle.prop_compare.proofs.narrowing.narrow_both.Goals as goal

pub narrow-requires-2-clause-fits : goal.narrow-requires-2-clause-fits
narrow-requires-2-clause-fits c =
    let box = c.args.store.now.box in
    let k = c.args.keep.first in
    fits_after c.args.asked c.requires.fits c.narrow.ensures.pruning (ap has_empty c.in_ok-first.ensures.content ∙ with_full box c.args.a (values_within k.lo k.hi (left_to box c.args.a)) c.requires.fits.full c.requires.reducing.first.some)

pub narrow-requires-2-clause-open : goal.narrow-requires-2-clause-open
narrow-requires-2-clause-open c =
    let box = c.args.store.now.box in
    let k = c.args.keep.first in
    ap (λ b. is_open b c.args.b) c.in_ok-first.ensures.content
    ∙ (ap is_domain_left (with_other box c.args.a c.args.b (values_within k.lo k.hi (left_to box c.args.a)) c.requires.pair.apart) ∙ c.requires.pair.open_second)

pub narrow-requires-2-clause-narrowing : goal.narrow-requires-2-clause-narrowing
narrow-requires-2-clause-narrowing c =
    let k = c.args.keep.second in
    let N : Box → Type 0 = λ b. IsNarrowing c.args.asked.rule.now b c.args.b k.lo k.hi in
    subst N (sym c.in_ok-first.ensures.content) c.requires.reducing.second

pub returns-in_err-second-clause-pruning : goal.returns-in_err-second-clause-pruning
returns-in_err-second-clause-pruning c = prunes_more c.args.asked c.narrow.ensures.pruning c.narrow-2.ensures.pruning

pub returns-then-first-clause-pruning : goal.returns-then-first-clause-pruning
returns-then-first-clause-pruning c = prunes_more c.args.asked c.narrow.ensures.pruning c.narrow-2.ensures.pruning

pub returns-else-first-clause-pruning : goal.returns-else-first-clause-pruning
returns-else-first-clause-pruning c = prunes_more c.args.asked c.narrow.ensures.pruning c.narrow-2.ensures.pruning

pub returns-then-first-clause-full : goal.returns-then-first-clause-full
returns-then-first-clause-full c =
    let box = c.args.store.now.box in
    let k = c.args.keep.first in
    let m = c.args.keep.second in
    let one = box_kept box c.args.a k.lo k.hi in
    let full = with_full box c.args.a (values_within k.lo k.hi (left_to box c.args.a)) c.requires.fits.full c.requires.reducing.first.some in
    ap has_empty (c.in_ok-second.ensures.content ∙ ap (λ b. box_kept b c.args.b m.lo m.hi) c.in_ok-first.ensures.content)
    ∙ with_full one c.args.b (values_within m.lo m.hi (left_to one c.args.b)) full c.requires.reducing.second.some

pub returns-else-first-clause-full : goal.returns-else-first-clause-full
returns-else-first-clause-full c =
    let box = c.args.store.now.box in
    let k = c.args.keep.first in
    let m = c.args.keep.second in
    let one = box_kept box c.args.a k.lo k.hi in
    let full = with_full box c.args.a (values_within k.lo k.hi (left_to box c.args.a)) c.requires.fits.full c.requires.reducing.first.some in
    ap has_empty (c.in_ok-second.ensures.content ∙ ap (λ b. box_kept b c.args.b m.lo m.hi) c.in_ok-first.ensures.content)
    ∙ with_full one c.args.b (values_within m.lo m.hi (left_to one c.args.b)) full c.requires.reducing.second.some

pub returns-then-first-clause-keeps : goal.returns-then-first-clause-keeps
returns-then-first-clause-keeps c =
    let m = c.args.keep.second in
    ap (λ b. keeps_ends b c.args.asked.rule.now) (c.in_ok-second.ensures.content ∙ ap (λ b. box_kept b c.args.b m.lo m.hi) c.in_ok-first.ensures.content)
    ∙ c.requires.reducing.closed

pub returns-else-first-clause-keeps : goal.returns-else-first-clause-keeps
returns-else-first-clause-keeps c =
    let m = c.args.keep.second in
    ap (λ b. keeps_ends b c.args.asked.rule.now) (c.in_ok-second.ensures.content ∙ ap (λ b. box_kept b c.args.b m.lo m.hi) c.in_ok-first.ensures.content)
    ∙ c.requires.reducing.closed
