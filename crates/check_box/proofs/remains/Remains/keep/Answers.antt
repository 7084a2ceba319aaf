use Rattle.std.proofs.Common.{◌≡◌, ◌<◌, ◌∙◌, sym, ap, subst, length, set, arith, true, ℕ}
use Rattle.std.proofs.Math.Seq.{lt-length-set}
use Rattle.std.specs.Prelude.{negsuc, pos}
use Rattle.std.specs.List.{list_all}
use Rattle.qc_model.specs.Domains.{Box, Values, values_left, box_without}
use Rattle.qc_model.specs.Valid.{is_number}
use Rattle.fd_store.specs.Held.{Held, Follows}
use Rattle.box_laws.proofs.Sides.{kept_box}
use Rattle.box_laws.proofs.Numbers.{passed_before, passed_after, fits_before, fits_after}
use Rattle.check_box.proofs.remains.Remains.keep.Goals as goal

-- a box has as many variables after the values of one are changed
still_there : (box new : Box) (x : ℕ) (vs : Values) → new ≡ set box x vs → x < length box → x < length new
still_there box new x vs e h = subst (λ (b : Box). x < length b) (sym e) (lt-length-set box x vs h)

-- what comes after a state that comes after another comes after that one too
follows_both : (s m t : Held) → Follows s m → Follows m t → Follows s t
follows_both s m t p q = record {
  longer = omega (arith, p.longer, q.longer);
  boxes = λ k h. q.boxes k (omega (arith, h, p.longer)) ∙ p.boxes k h;
}

pub known-requires : goal.known-requires
known-requires c = subst (λ (h : Held). c.args.x.0 < length h.box) (sym c.self.view_is) c.requires.var

pub overflow_sub-first : goal.overflow_sub-first
overflow_sub-first c = fits_before c.args.first c.requires.first

pub overflow_add-last : goal.overflow_add-last
overflow_add-last c = fits_after c.args.last c.requires.last

pub cut_up-requires : goal.cut_up-requires
cut_up-requires c = record { var = still_there c.args.self.now.box c.cut_down.new.self.box c.args.x.0 _ c.cut_down.ensures.content c.requires.var }

pub returns-clause-content : goal.returns-clause-content
returns-clause-content c =
    let x = c.args.x.0 in
    let one = c.cut_down.new.self.box in
    let numbers : list_all is_number (values_left c.args.self.now.box x) ≡ true = subst (λ (h : Held). list_all is_number (values_left h.box x) ≡ true) c.self.view_is c.known.ensures.numbers in
    let low = c.cut_down.ensures.content ∙ ap (λ h. box_without c.args.self.now.box x (negsuc 999999999) h) (passed_before c.args.first c.requires.first) in
    let high = c.cut_up.ensures.content ∙ ap (λ l. box_without one x l (pos 1000000000)) (passed_after c.args.last c.requires.last) in
    kept_box c.args.self.now.box one c.cut_up.new.self.box x c.args.first c.args.last c.requires.var numbers low high

pub returns-clause-past : goal.returns-clause-past
returns-clause-past c = follows_both c.args.self.now c.cut_down.new.self c.cut_up.new.self c.cut_down.ensures.past c.cut_up.ensures.past

pub returns-clause-fewer : goal.returns-clause-fewer
returns-clause-fewer c = λ large h. c.cut_up.ensures.fewer large (c.cut_down.ensures.fewer large h)
