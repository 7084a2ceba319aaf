use Rattle.std.proofs.Common.{◌≡◌, ◌∙◌, sym, ap, rules, subst, false, Some, IfSome, IfNone, Option, true, List, ℤ}
use Rattle.std.proofs.lemmas.Int.{to_z-of_z}
use mir.Val.{SFits}
use mir.Syntax.{w64}
use Rattle.std.specs.List.{list_all}
use Rattle.qc_model.specs.Domains.{values_left, is_ascending}
use Rattle.qc_model.specs.Valid.{is_number}
use Rattle.check_box.specs.declared.cover.Ends.{Ends}
use Rattle.proof_tree.specs.Cover.{is_cover}
use Rattle.fd_store.specs.Held.{values_from, least_of}
use Rattle.check_box.specs.Cases.{IsCase, has_above}
use Rattle.check_box.proofs.Cuts.{one_case, ranged_is, ranged_case, none_to, some_to}
use Rattle.check_box.proofs.cover.case_ends.Goals as goal

pub returns-in-None-upto-clause-some : goal.returns-in-None-upto-clause-some
returns-in-None-upto-clause-some c =
    let from_fits : SFits w64 c.args.from = search rules in
    let first_fits : SFits w64 c.in-Some.first = search rules in
    let vs = values_left c.args.store.now.box c.args.x.0 in
    let found : c.next.result ≡ least_of (values_from c.args.from vs) = simp to_z-of_z at c.next.ensures in
    let one : IsCase vs c.args.from c.args.upto c.in-Some.first c.in-Some.first = subst (λ u. IsCase vs c.args.from u c.in-Some.first c.in-Some.first) (sym c.in-None-upto.is) (one_case vs c.args.from c.in-Some.first c.known.ensures.ascending c.known.ensures.numbers (sym c.in-Some.is ∙ found)) in
    simp to_z-of_z one

pub returns-in-Some-upto-clause-none : goal.returns-in-Some-upto-clause-none
returns-in-Some-upto-clause-none c =
    let from_fits : SFits w64 c.args.from = search rules in
    let first_fits : SFits w64 c.in-Some.first = search rules in
    let high_fits : SFits w64 c.in-Some-upto.high = search rules in
    let vs = values_left c.args.store.now.box c.args.x.0 in
    let found : c.next.result ≡ least_of (values_from c.args.from vs) = simp to_z-of_z at c.next.ensures in
    let made : IfNone c.ranged_ends.result (has_above vs c.in-Some.first c.in-Some-upto.high ≡ false) = simp to_z-of_z at c.ranged_ends.ensures.none in
    none_to c.ranged_ends.result (λ e. ap (λ u. is_cover u (values_from c.args.from vs)) c.in-Some-upto.is ∙ (ranged_is vs c.args.from c.in-Some.first c.in-Some-upto.high c.known.ensures.ascending (sym c.in-Some.is ∙ found) ∙ e)) made

case_of : (vs : List ℤ) (from v h : ℤ) (upto : Option ℤ) (e : Ends) → upto ≡ Some h → is_ascending vs ≡ true → list_all is_number vs ≡ true → Some v ≡ least_of (values_from from vs) →
    (has_above vs v h ≡ true) × (e.first ≡ v) × (e.last ≡ h) → IsCase vs from upto e.first e.last
case_of vs from v h upto e u a n f k =
    subst (λ p. IsCase vs from p e.first e.last) (sym u)
    (subst (λ w. IsCase vs from (Some h) w e.last) (sym k.1) (subst (λ w. IsCase vs from (Some h) v w) (sym k.2) (ranged_case vs from v h a n f k.0)))

pub returns-in-Some-upto-clause-some : goal.returns-in-Some-upto-clause-some
returns-in-Some-upto-clause-some c =
    let from_fits : SFits w64 c.args.from = search rules in
    let first_fits : SFits w64 c.in-Some.first = search rules in
    let high_fits : SFits w64 c.in-Some-upto.high = search rules in
    let vs = values_left c.args.store.now.box c.args.x.0 in
    let found : c.next.result ≡ least_of (values_from c.args.from vs) = simp to_z-of_z at c.next.ensures in
    let made : IfSome c.ranged_ends.result (λ e. (has_above vs c.in-Some.first c.in-Some-upto.high ≡ true) × (e.first ≡ c.in-Some.first) × (e.last ≡ c.in-Some-upto.high)) = simp to_z-of_z at c.ranged_ends.ensures.some in
    some_to c.ranged_ends.result (λ e k. case_of vs c.args.from c.in-Some.first c.in-Some-upto.high c.args.upto e c.in-Some-upto.is c.known.ensures.ascending c.known.ensures.numbers (sym c.in-Some.is ∙ found) k) made
