use Rattle.std.proofs.Common.{◌++◌, ◌∷◌, [], refl, sym, subst, take, Some}
use Rattle.std.specs.Prelude.{slice_index}
use Rattle.proof_text.specs.Answers.{StandsFor, tell}
use Rattle.qc_play.proofs.Listings.{byte_within, byte_head, byte_line, byte_deep, byte_bad}
use Rattle.qc_play.proofs.read.Listing.read_byte.Goals as goal

pub returns-in-Within-clause-ok : goal.returns-in-Within-clause-ok
returns-in-Within-clause-ok c =
    let text = c.args.text.now in
    let at = c.args.at in
    let l = c.args.self.now in
    let h = c.requires.listing in
    let says = c.byte.ensures.says (take at text) h.told h.stands in
    let stands = c.byte.ensures.stands (take at text) h.told h.stands in
    (refl, byte_within text at c.requires.more l h c.byte.result says (record l { reader = c.byte.new.self }) stands c.in-Within.is refl refl)

pub returns-in-Head-clause-ok : goal.returns-in-Head-clause-ok
returns-in-Head-clause-ok c =
    let text = c.args.text.now in
    let at = c.args.at in
    let l = c.args.self.now in
    let h = c.requires.listing in
    let says = c.byte.ensures.says (take at text) h.told h.stands in
    let stands = c.byte.ensures.stands (take at text) h.told h.stands in
    let m = record l { reader = c.byte.new.self; head = Some (record { outcome = c.in-Head.outcome; optimum = c.in-Head.optimum }) } in
    (refl, byte_head text at c.requires.more l h c.byte.result says m stands c.in-Head.version c.in-Head.outcome c.in-Head.optimum c.in-Head.is refl refl)

pub returns-in_ok-push-in-Whole-clause-ok : goal.returns-in_ok-push-in-Whole-clause-ok
returns-in_ok-push-in-Whole-clause-ok c =
    let text = c.args.text.now in
    let at = c.args.at in
    let l = c.args.self.now in
    let h = c.requires.listing in
    let says = c.byte.ensures.says (take at text) h.told h.stands in
    let m = c.push.new.self in
    let stands = subst (λ r. StandsFor r (take at text ++ slice_index text at ∷ []) (tell h.told c.byte.result)) (sym c.push.ensures.reader) (c.byte.ensures.stands (take at text) h.told h.stands) in
    (refl, byte_line text at c.requires.more l h c.byte.result says m stands c.in-Whole.line c.in-Whole.is c.push.ensures.head c.in_ok-push-in-Whole.ensures.lines)

pub returns-in-TooDeep-clause-fault : goal.returns-in-TooDeep-clause-fault
returns-in-TooDeep-clause-fault c =
    let text = c.args.text.now in
    let at = c.args.at in
    let l = c.args.self.now in
    let h = c.requires.listing in
    let says = c.byte.ensures.says (take at text) h.told h.stands in
    byte_deep text at c.requires.more l h c.byte.result says c.in-TooDeep.is

pub returns-in-Bad-clause-fault : goal.returns-in-Bad-clause-fault
returns-in-Bad-clause-fault c =
    let text = c.args.text.now in
    let at = c.args.at in
    let l = c.args.self.now in
    let h = c.requires.listing in
    let says = c.byte.ensures.says (take at text) h.told h.stands in
    byte_bad text at c.requires.more l h c.byte.result says c.in-Bad.is
