use Rattle.std.proofs.Common.{◌≡◌, ℕ, ◌<◌, ◌∙◌, sym, subst, true, map}
use Rattle.std.specs.Prelude.{IfNone, IfSome}
use Rattle.std.specs.List.{list_all}
use Rattle.qc_model.specs.Domains.{Box, least_value}
use Rattle.qc_model.specs.Refuted.{left_to}
use Rattle.model_arguments.proofs.Boxes.{within_all}
use Rattle.qc_refuter.specs.Full.{held, AreWidest}
use Rattle.qc_refuter.specs.Met.{is_open}
use Rattle.qc_refuter.proofs.full.widest_full.Goals as goal

pub widest_seen-requires-clause-items : goal.widest_seen-requires-clause-items
widest_seen-requires-clause-items c =
    let same = c.whole-view.ensures ∙ within_all c.args.problem.now c.args.store.now.box 0 c.known.ensures.domains c.requires.asked.declared in
    let P : Box → Type 0 = λ b. list_all (is_open b) c.args.items.now ≡ true in
    subst P (sym same) c.requires.items

pub widest_seen-requires-clause-first : goal.widest_seen-requires-clause-first
widest_seen-requires-clause-first c =
    let same = c.whole-view.ensures ∙ within_all c.args.problem.now c.args.store.now.box 0 c.known.ensures.domains c.requires.asked.declared in
    let P : Box → Type 0 = λ b. is_open b c.args.first ≡ true in
    subst P (sym same) c.requires.first

pub returns-clause-none : goal.returns-clause-none
returns-clause-none c =
    let same = c.whole-view.ensures ∙ within_all c.args.problem.now c.args.store.now.box 0 c.known.ensures.domains c.requires.asked.declared in
    let P : Box → Type 0 = λ b. IfNone c.widest_seen.result ((n : ℕ) × (n < held (map (left_to b) c.args.items.now) (least_value (left_to b c.args.first)) n)) in
    subst P same c.widest_seen.ensures.none

pub returns-clause-some : goal.returns-clause-some
returns-clause-some c =
    let same = c.whole-view.ensures ∙ within_all c.args.problem.now c.args.store.now.box 0 c.known.ensures.domains c.requires.asked.declared in
    let P : Box → Type 0 = λ b. IfSome c.widest_seen.result (λ t. AreWidest (held (map (left_to b) c.args.items.now) (least_value (left_to b c.args.first))) c.widest_seen.new.widest t) in
    subst P same c.widest_seen.ensures.some
