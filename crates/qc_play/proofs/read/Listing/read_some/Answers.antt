use Rattle.std.proofs.Common.{◌≡◌, ◌≤◌, ◌-◌, ◌++◌, sym, subst, take, drop, length, length-drop, arith}
use Rattle.std.proofs.lemmas.List.{length-take-le, take_all}
use Rattle.proof_text.specs.Answers.{StandsFor, SaysLine, tell}
use Rattle.proof_text.specs.declared.answer.Read.TheVariants.{Whole}
use Rattle.qc_play.specs.Listing.{IsListing}
use Rattle.qc_play.proofs.Listings.{piece_more, line_read}
use Rattle.qc_play.proofs.Outcomes.{if_ok}
use Rattle.qc_play.proofs.read.Listing.read_some.Goals as goal

pub returns-in_ok-push-in-Some-clause-ok : goal.returns-in_ok-push-in-Some-clause-ok
returns-in_ok-push-in-Some-clause-ok c =
    let text = c.args.text.now in
    let at = c.args.at in
    let l = c.args.self.now in
    let m = c.push.new.self in
    let h = c.requires.listing in
    let s = c.in-Some in
    let front = take at text in
    let piece = take s.size (drop at text) in
    let all : take (length text - at) (drop at text) ≡ drop at text = take_all (length text - at) (drop at text) (omega (arith, length-drop at text)) in
    let some = s.ensures.line.0 in
    let fits = subst (λ d. s.size ≤ length d) all s.ensures.line.1 in
    let says = subst (λ d. SaysLine front h.told (take s.size d) s.line) all (s.ensures.says front h.told h.stands) in
    let told = subst (λ d. StandsFor c.line.new.self (front ++ take s.size d) (tell h.told (Whole s.line))) all (s.ensures.stands front h.told h.stands) in
    let stands = subst (λ r. StandsFor r (front ++ piece) (tell h.told (Whole s.line))) (sym c.push.ensures.reader) told in
    let long : length piece ≡ s.size = length-take-le s.size (drop at text) fits in
    let left = length-drop at text in
    let more = c.requires.more in
    let read = line_read l m front piece h s.line stands says.0 says.1 (omega (arith, long, some)) c.push.ensures.head c.in_ok-push-in-Some.ensures.lines in
    (omega (arith, some), omega (arith, left, fits, more), subst (IsListing m) (sym (piece_more text at s.size (omega (arith, more)))) read)

pub read_byte-requires-clause-listing : goal.read_byte-requires-clause-listing
read_byte-requires-clause-listing c =
    let l = c.args.self.now in
    subst (λ r. IsListing (record l { reader = r }) (take c.args.at c.args.text.now)) (sym c.in-None.ensures.line) c.requires.listing

pub returns-in-None-clause-ok : goal.returns-in-None-clause-ok
returns-in-None-clause-ok c =
    let more = c.requires.more in
    if_ok c.read_byte.result (λ next k. let e = k.0 in (omega (arith, e), omega (arith, e, more), k.1)) c.read_byte.ensures.ok
