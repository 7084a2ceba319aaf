use Rattle.qc_play.proofs.Listings.{unended, some_head, all_read, not_true}
use Rattle.qc_play.proofs.read.listed.Goals as goal

pub returns-then-not-is_ended-clause-fault : goal.returns-then-not-is_ended-clause-fault
returns-then-not-is_ended-clause-fault c =
    let text = c.args.text.now in
    let h = c.requires.listing in
    unended text c.bytes_are_one_text_or_have_one_fault.ensures.either h.begins (λ t. not_true c.is_ended.result c.if-not-is_ended.true ((c.is_ended.ensures.ended text h.told h.stands).1 t))

pub returns-in-Some-clause-ok : goal.returns-in-Some-clause-ok
returns-in-Some-clause-ok c =
    let text = c.args.text.now in
    let h = c.requires.listing in
    all_read c.args.listing text h c.requires.few (c.is_ended.ensures.told text h.told h.stands c.if-not-is_ended.false) c.in-Some.head c.in-Some.is

pub returns-in-None-clause-fault : goal.returns-in-None-clause-fault
returns-in-None-clause-fault c =
    let text = c.args.text.now in
    let h = c.requires.listing in
    absurd (some_head c.args.listing text h c.requires.few (c.is_ended.ensures.told text h.told h.stands c.if-not-is_ended.false) c.in-None.is)
