use Rattle.std.proofs.Common.{◌≡◌, ◌/◌, ◌%◌, ◌*◌, ◌^◌, ◌∙◌, set, get_or, ap, arith}
use Rattle.std.specs.Int.RustNames.{bit_or}
use Rattle.std.proofs.lemmas.Grind.{get_or_default_zero}
use Rattle.fd_store.proofs.Listing.{place_set}
use Rattle.fd_store.proofs.build.set_place.Goals as goal

pub returns-clause-bits : goal.returns-clause-bits
returns-clause-bits c = λ p.
    let words = c.args.words.now.items in
    let w = c.args.place / 64 in
    let old : c.index-word.result.now ≡ get_or words w 0 = c.index-word.ensures ∙ get_or_default_zero words w _ (omega (arith, c.requires)) in
    place_set words _ c.args.place c.requires (ap (λ b. set words w (bit_or b (1 * 2 ^ (c.args.place % 64) % 18446744073709551616))) old) p
