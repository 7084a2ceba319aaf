use Rattle.std.proofs.Common.{refl, subst, arith, []}
use Rattle.std.proofs.lemmas.List.{take_all}
use Rattle.qc_play.specs.Listing.{IsListing}
use Rattle.qc_play.proofs.Listings.{none_read, only_want}
use Rattle.qc_play.proofs.read.read_lines.Goals as goal

pub loop-at-init : goal.loop-at-init
loop-at-init c = record { within = omega arith; listing = none_read _ c.new.ensures (c.each_standing_is_right.ensures []).begins refl c.in-Ok.ensures.items }

pub listed-requires-clause-listing : goal.listed-requires-clause-listing
listed-requires-clause-listing c =
    let l = c.loop-at in
    subst (IsListing l.listing) (take_all l.at c.args.text.now (omega (arith, c.loop-at-test.false))) l.invariant.listing

pub returns-clause-only : goal.returns-clause-only
returns-clause-only c = λ is. only_want c.args.text.now c.bytes_are_one_text_or_have_one_fault.ensures.not_both is c.listed.result c.listed.ensures.fault
