use Rattle.std.proofs.Common.{◌≡◌, ◌∙◌, suc, sym, ap, take}
use Rattle.std.specs.List.{list_all}
use Rattle.std.proofs.lemmas.List.{with_items_is}
use Rattle.qc_model.specs.Domains.{box_values, is_single}
use Rattle.qc_model.specs.Game.{before}
use Rattle.qc_model.proofs.Before.{before_up}
use Rattle.proof_tree.specs.Place.{position}
use Rattle.search_box.specs.Boxed.{Boxed}
use Rattle.search_box.proofs.Entering.{entered_next}
use Rattle.search_box.proofs.Places.{fixed_both}
use Rattle.search_box.proofs.search_box.SearchBox.tuple_allowed.Goals as goal

pub read_tuple-requires-clause-fixed : goal.read_tuple-requires-clause-fixed
read_tuple-requires-clause-fixed c =
    let l = c.args.level.now in
    let g = l.problem.now in
    let box = c.args.self.now.store.box in
    ap (λ (b : Boxed). list_all is_single (take l.stop b.store.box)) c.self.view_is
    ∙ (ap (λ n. list_all is_single (take n box)) l.has_stop ∙ fixed_both box (before g l.number) (before g (suc l.number)) (before_up g l.number) c.requires.here.fixed c.requires.fixed)

pub returns-clause-entered : goal.returns-clause-entered
returns-clause-entered c =
    let l = c.args.level.now in
    let new = c.read_tuple.new.values in
    let box = c.self.inside.store.box in
    let stand : take (before l.problem.now (suc l.number)) new ≡ position l.problem.now (suc l.number) box =
    ap (λ n. take n new) (sym l.has_stop) ∙ (c.read_tuple.ensures.stand ∙ ap (λ n. box_values (take n box)) l.has_stop) in
    entered_next l.problem.now l.number c.args.self.now _ c.requires.here c.requires.fixed (ap (λ (b : Boxed). b.game) c.self.view_is) (ap (λ (b : Boxed). b.store.box) c.self.view_is)
    (ap (take (before l.problem.now (suc l.number))) (with_items_is c.self.inside.values new (c.read_tuple.ensures.each ∙ c.deref_mut.ensures.len)) ∙ (stand ∙ ap (λ (b : Boxed). position l.problem.now (suc l.number) b.store.box) c.self.view_is))
