use Rattle.std.proofs.Common.{◌∙◌, ap, sym, not, ◌&&◌, get_or, arith}
use Rattle.qc_model.specs.declared.problem.Arg.TheVariants.{Var}
use Rattle.qc_model.specs.Refuted.{left_to}
use Rattle.qc_refuter.specs.Met.{seen}
use Rattle.qc_model.specs.Domains.{has_value, misses}
use Rattle.qc_refuter.proofs.Bits.{place_bits}
use Rattle.qc_refuter.proofs.Places.{items_before, items_after, item_found, item_past}
use Rattle.qc_refuter.proofs.Terms.{open_at}
use Rattle.qc_refuter.proofs.elements.some_item.Goals as goal

pub place_meets-requires-clause-item : goal.place_meets-requires-clause-item
place_meets-requires-clause-item c = open_at (seen c.args.view.now) c.args.items.now c.loop-k.k (Var (record { 0 = 0 })) (omega arith) c.requires.items

pub loop-k-init : goal.loop-k-init
loop-k-init c =
    let box = seen c.args.view.now in
    items_before box (left_to box c.args.b) (left_to box c.args.c) c.args.items.now (Var (record { 0 = 0 })) c.first_place-k.result c.first_place-k.ensures.most c.first_place-k.ensures.missed

pub returns : goal.returns
returns c =
    let box = seen c.args.view.now in
    sym (items_after box (left_to box c.args.b) (left_to box c.args.c) c.args.items.now (Var (record { 0 = 0 })) c.loop-k.k (λ j l m. c.end_place-k-end.ensures.missed j (omega (arith, l, c.loop-k-test.false)) m)) ∙ c.loop-k.invariant

pub returns-then-place_meets : goal.returns-then-place_meets
returns-then-place_meets c =
    let box = seen c.args.view.now in
    let d = left_to box (get_or c.args.items.now c.loop-k.k (Var (record { 0 = 0 }))) in
    let e = c.place_meets.ensures ∙ ap (λ z. has_value (left_to box c.args.b) z && not (misses d (left_to box c.args.c))) (place_bits c.loop-k.k (omega arith)) in
    item_found box (left_to box c.args.b) (left_to box c.args.c) c.args.items.now c.loop-k.k (Var (record { 0 = 0 })) (omega arith) (sym c.if-place_meets.true ∙ e) ∙ c.loop-k.invariant

pub loop-k-preserved : goal.loop-k-preserved
loop-k-preserved c =
    let box = seen c.args.view.now in
    let d = left_to box (get_or c.args.items.now c.loop-k.k (Var (record { 0 = 0 }))) in
    let e = c.place_meets.ensures ∙ ap (λ z. has_value (left_to box c.args.b) z && not (misses d (left_to box c.args.c))) (place_bits c.loop-k.k (omega arith)) in
    item_past box (left_to box c.args.b) (left_to box c.args.c) c.args.items.now c.loop-k.k (Var (record { 0 = 0 })) (omega arith) (sym c.if-place_meets.false ∙ e) ∙ c.loop-k.invariant
