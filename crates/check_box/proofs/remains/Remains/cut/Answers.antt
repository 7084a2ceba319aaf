use Rattle.std.proofs.Common.{◌≡◌, ◌∙◌, sym, ap, subst, rules, arith, true, ℕ, ℤ}
use Rattle.std.proofs.lemmas.Int.{to_z-of_z}
use mir.Val.{SFits}
use mir.Syntax.{w64}
use Rattle.qc_model.specs.Domains.{Box, is_sub_box, values_left, values_within, values_outside, has_empty, box_without}
use Rattle.fd_store.specs.declared.answer.Removed.{Removed}
use Rattle.fd_store.specs.declared.answer.Removed.TheVariants.{Nothing, Emptied, Some}
use Rattle.fd_store.specs.Held.{Held, removal}
use Rattle.model_arguments.proofs.Boxes.{sub_without}
use Rattle.box_laws.proofs.Emptying.{same_empty}
use Rattle.check_box.proofs.Rooms.{room_now, room_followed}
use Rattle.check_box.proofs.remains.Remains.cut.Goals as goal

no_nothing : (r : Removed) → Nothing ≡ r → r ≡ Emptied → ⊥
no_nothing r e f = let p : Nothing ≡ Emptied = e ∙ f in cc

fewer : (box new large : Box) (x : ℕ) (lo hi : ℤ) → new ≡ box_without box x lo hi → is_sub_box box large ≡ true → is_sub_box new large ≡ true
fewer box new large x lo hi f h = subst (λ b. is_sub_box b large ≡ true) (sym f) (sub_without box large x lo hi h)

no_some : (r : Removed) → Some ≡ r → r ≡ Emptied → ⊥
no_some r e f = let p : Some ≡ Emptied = e ∙ f in cc

pub remove-requires-clause-room : goal.remove-requires-clause-room
remove-requires-clause-room c =
    let lo_fits : SFits w64 c.args.lo = search rules in
    let hi_fits : SFits w64 c.args.hi = search rules in
    simp to_z-of_z (omega (arith, c.need_known.ensures c.args.lo c.args.hi, room_now c.self.inside.store c.self.invariant.1 c.trail_known.ensures))

pub invariant_of-self-in-Nothing : goal.invariant_of-self-in-Nothing
invariant_of-self-in-Nothing c =
    let lo_fits : SFits w64 c.args.lo = search rules in
    let hi_fits : SFits w64 c.args.hi = search rules in
    let s = c.self.inside.store in
    let vs = values_left s.box c.args.x.0 in
    let content : c.remove.new.self.box ≡ box_without s.box c.args.x.0 c.args.lo c.args.hi = simp to_z-of_z at c.remove.ensures.content in
    let answer : c.remove.result ≡ removal (values_within c.args.lo c.args.hi vs) (values_outside c.args.lo c.args.hi vs) = simp to_z-of_z at c.remove.ensures.answer in (
      c.self.invariant.0 ∙ sym (ap has_empty content ∙ same_empty s.box c.args.x.0 c.args.lo c.args.hi (no_nothing _ (sym c.in-Nothing.is ∙ answer))),
      room_followed s c.remove.new.self c.self.invariant.1 c.remove.ensures.past c.remove.ensures.spare,
    )

pub invariant_of-self-in-Some : goal.invariant_of-self-in-Some
invariant_of-self-in-Some c =
    let lo_fits : SFits w64 c.args.lo = search rules in
    let hi_fits : SFits w64 c.args.hi = search rules in
    let s = c.self.inside.store in
    let vs = values_left s.box c.args.x.0 in
    let content : c.remove.new.self.box ≡ box_without s.box c.args.x.0 c.args.lo c.args.hi = simp to_z-of_z at c.remove.ensures.content in
    let answer : c.remove.result ≡ removal (values_within c.args.lo c.args.hi vs) (values_outside c.args.lo c.args.hi vs) = simp to_z-of_z at c.remove.ensures.answer in (
      c.self.invariant.0 ∙ sym (ap has_empty content ∙ same_empty s.box c.args.x.0 c.args.lo c.args.hi (no_some _ (sym c.in-Some.is ∙ answer))),
      room_followed s c.remove.new.self c.self.invariant.1 c.remove.ensures.past c.remove.ensures.spare,
    )

pub returns-in-Emptied-clause-fewer : goal.returns-in-Emptied-clause-fewer
returns-in-Emptied-clause-fewer c = λ large h.
    let lo_fits : SFits w64 c.args.lo = search rules in
    let hi_fits : SFits w64 c.args.hi = search rules in
    let box = c.args.self.now.box in
    let content : c.remove.new.self.box ≡ box_without c.self.inside.store.box c.args.x.0 c.args.lo c.args.hi = simp to_z-of_z at c.remove.ensures.content in
    fewer box c.remove.new.self.box large c.args.x.0 c.args.lo c.args.hi (content ∙ ap (λ (s : Held). box_without s.box c.args.x.0 c.args.lo c.args.hi) c.self.view_is) h

pub returns-in-Nothing-clause-fewer : goal.returns-in-Nothing-clause-fewer
returns-in-Nothing-clause-fewer c = λ large h.
    let lo_fits : SFits w64 c.args.lo = search rules in
    let hi_fits : SFits w64 c.args.hi = search rules in
    let box = c.args.self.now.box in
    let content : c.remove.new.self.box ≡ box_without c.self.inside.store.box c.args.x.0 c.args.lo c.args.hi = simp to_z-of_z at c.remove.ensures.content in
    fewer box c.remove.new.self.box large c.args.x.0 c.args.lo c.args.hi (content ∙ ap (λ (s : Held). box_without s.box c.args.x.0 c.args.lo c.args.hi) c.self.view_is) h

pub returns-in-Some-clause-fewer : goal.returns-in-Some-clause-fewer
returns-in-Some-clause-fewer c = λ large h.
    let lo_fits : SFits w64 c.args.lo = search rules in
    let hi_fits : SFits w64 c.args.hi = search rules in
    let box = c.args.self.now.box in
    let content : c.remove.new.self.box ≡ box_without c.self.inside.store.box c.args.x.0 c.args.lo c.args.hi = simp to_z-of_z at c.remove.ensures.content in
    fewer box c.remove.new.self.box large c.args.x.0 c.args.lo c.args.hi (content ∙ ap (λ (s : Held). box_without s.box c.args.x.0 c.args.lo c.args.hi) c.self.view_is) h
