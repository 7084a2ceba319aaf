use Rattle.std.proofs.Common.{◌≡◌, ◌∙◌, sym, ap, subst, take, true, List, ℤ}
use Rattle.std.specs.Prelude.{◌||◌, not, pos, slice_index_or}
use Rattle.std.specs.List.{list_all}
use Rattle.std.specs.Ordering.{int_eq}
use Rattle.std.proofs.lemmas.List.{with_items_is}
use Rattle.qc_model.specs.Content.{Game}
use Rattle.qc_model.specs.Domains.{box_values}
use Rattle.qc_model.specs.Game.{before}
use Rattle.qc_model.specs.Valid.{IsValid}
use Rattle.proof_alike.specs.Alike.{is_seen}
use Rattle.proof_tree.specs.Place.{position}
use Rattle.dense_tree.specs.Alike.{each_below, reads_one_position}
use Rattle.dense_alike.specs.Laid.{AreValuesOf}
use Rattle.dense_alike.proofs.Looking.{full_before, full_few, first_kept, first_position, values_of_box, look_found, look_differs}
use Rattle.dense_alike.proofs.Viewing.{same_view}
use Rattle.dense_alike.proofs.comparer.Comparer.look_same.Goals as goal

pub is_read_once-requires-clause-within : goal.is_read_once-requires-clause-within
is_read_once-requires-clause-within c =
    let g = c.args.self.now in
    let i = c.args.i.0 in
    let first = c.variables_before-first.result in
    let is : first ≡ before g i = c.variables_before-first.ensures.count ∙ ap (λ (h : Game). before h i) c.self.view_is in
    full_before g c.args.store.now.box i first is c.requires.here

pub is_read_once-requires-clause-few : goal.is_read_once-requires-clause-few
is_read_once-requires-clause-few c =
    let valid : IsValid c.args.self.now = subst IsValid c.self.view_is c.known.ensures in
    full_few c.args.self.now c.args.store.now.box valid c.requires.here

pub is_kept_once-requires-clause-within : goal.is_kept_once-requires-clause-within
is_kept_once-requires-clause-within c =
    let g = c.args.self.now in
    let i = c.args.i.0 in
    let first = c.variables_before-first.result in
    let is : first ≡ before g i = c.variables_before-first.ensures.count ∙ ap (λ (h : Game). before h i) c.self.view_is in
    full_before g c.args.kept.now i first is c.requires.there

pub is_kept_once-requires-clause-few : goal.is_kept_once-requires-clause-few
is_kept_once-requires-clause-few c =
    let valid : IsValid c.args.self.now = subst IsValid c.self.view_is c.known.ensures in
    full_few c.args.self.now c.args.kept.now valid c.requires.there

pub read_least-requires-clause-within : goal.read_least-requires-clause-within
read_least-requires-clause-within c =
    let g = c.args.self.now in
    let i = c.args.i.0 in
    let first = c.variables_before-first.result in
    let is : first ≡ before g i = c.variables_before-first.ensures.count ∙ ap (λ (h : Game). before h i) c.self.view_is in
    full_before g c.args.store.now.box i first is c.requires.here

pub read_least-requires-clause-few : goal.read_least-requires-clause-few
read_least-requires-clause-few c =
    let valid : IsValid c.args.self.now = subst IsValid c.self.view_is c.known.ensures in
    full_few c.args.self.now c.args.store.now.box valid c.requires.here

pub first_of-there-requires : goal.first_of-there-requires
first_of-there-requires c =
    let g = c.args.self.now in
    let i = c.args.i.0 in
    let first = c.variables_before-first.result in
    let is : first ≡ before g i = c.variables_before-first.ensures.count ∙ ap (λ (h : Game). before h i) c.self.view_is in
    first_kept g c.args.kept.now i first c.values.result.now is c.requires.there c.values.ensures

pub returns-then-not-is_seen_same-clause-same : goal.returns-then-not-is_seen_same-clause-same
returns-then-not-is_seen_same-clause-same c =
    let g = c.args.self.now in
    let i = c.args.i.0 in
    let first = c.variables_before-first.result in
    let a = c.args.store.now.box in
    let b = c.args.kept.now in
    let is : first ≡ before g i = c.variables_before-first.ensures.count ∙ ap (λ (h : Game). before h i) c.self.view_is in
    let written = with_items_is c.self.inside.here c.read_least.new.values (c.read_least.ensures.places ∙ c.deref_mut.ensures.len) in
    let read = c.first_of-here.ensures ∙ (ap (λ (vs : List ℤ). take first vs) (c.deref.ensures.value ∙ written) ∙ c.read_least.ensures.read) in
    let here : c.first_of-here.result.now ≡ position g i a = read ∙ ap (λ n. box_values (take n a)) is in
    let there : c.first_of-there.result.now ≡ position g i b = first_position g b i first c.values.result.now c.first_of-there.result.now is c.values.ensures c.first_of-there.ensures in
    let game = c.self.invariant.reads_are ∙ c.self.view_is in
    let once : reads_one_position g i a ≡ true = ap (λ (h : Game). reads_one_position h i a) (sym game) ∙ (sym c.is_read_once.ensures ∙ c.if-not-is_read_once.false) in
    let twice : reads_one_position g i b ≡ true = ap (λ (h : Game). reads_one_position h i b) (sym game) ∙ (sym c.is_kept_once.ensures ∙ c.if-not-is_kept_once.false) in
    let us = c.first_of-here.result.now in
    let vs = c.first_of-there.result.now in
    let seen = ap (λ (h : Game). each_below first (λ x. not (is_seen h i x) || int_eq (slice_index_or us x (pos 0)) (slice_index_or vs x (pos 0)))) (sym game) ∙ sym c.is_seen_same.ensures in
    look_differs g i first a b us vs c.requires.here c.requires.there once twice is here there (seen ∙ c.if-not-is_seen_same.true)

pub are_positions_same-requires-clause-here : goal.are_positions_same-requires-clause-here
are_positions_same-requires-clause-here c =
    let g = c.args.self.now in
    let i = c.args.i.0 in
    let first = c.variables_before-first.result in
    let a = c.args.store.now.box in
    let b = c.args.kept.now in
    let is : first ≡ before g i = c.variables_before-first.ensures.count ∙ ap (λ (h : Game). before h i) c.self.view_is in
    let written = with_items_is c.self.inside.here c.read_least.new.values (c.read_least.ensures.places ∙ c.deref_mut.ensures.len) in
    let read = c.first_of-here.ensures ∙ (ap (λ (vs : List ℤ). take first vs) (c.deref.ensures.value ∙ written) ∙ c.read_least.ensures.read) in
    let here : c.first_of-here.result.now ≡ position g i a = read ∙ ap (λ n. box_values (take n a)) is in
    let there : c.first_of-there.result.now ≡ position g i b = first_position g b i first c.values.result.now c.first_of-there.result.now is c.values.ensures c.first_of-there.ensures in
    let valid : IsValid g = subst IsValid c.self.view_is c.known.ensures in
    subst (λ (h : Game). AreValuesOf h i c.first_of-here.result.now) (sym c.self.view_is) (values_of_box g i a c.first_of-here.result.now valid c.requires.here here)

pub are_positions_same-requires-clause-there : goal.are_positions_same-requires-clause-there
are_positions_same-requires-clause-there c =
    let g = c.args.self.now in
    let i = c.args.i.0 in
    let first = c.variables_before-first.result in
    let a = c.args.store.now.box in
    let b = c.args.kept.now in
    let is : first ≡ before g i = c.variables_before-first.ensures.count ∙ ap (λ (h : Game). before h i) c.self.view_is in
    let written = with_items_is c.self.inside.here c.read_least.new.values (c.read_least.ensures.places ∙ c.deref_mut.ensures.len) in
    let read = c.first_of-here.ensures ∙ (ap (λ (vs : List ℤ). take first vs) (c.deref.ensures.value ∙ written) ∙ c.read_least.ensures.read) in
    let here : c.first_of-here.result.now ≡ position g i a = read ∙ ap (λ n. box_values (take n a)) is in
    let there : c.first_of-there.result.now ≡ position g i b = first_position g b i first c.values.result.now c.first_of-there.result.now is c.values.ensures c.first_of-there.ensures in
    let valid : IsValid g = subst IsValid c.self.view_is c.known.ensures in
    subst (λ (h : Game). AreValuesOf h i c.first_of-there.result.now) (sym c.self.view_is) (values_of_box g i b c.first_of-there.result.now valid c.requires.there there)

pub returns-clause-same : goal.returns-clause-same
returns-clause-same c =
    let g = c.args.self.now in
    let i = c.args.i.0 in
    let first = c.variables_before-first.result in
    let a = c.args.store.now.box in
    let b = c.args.kept.now in
    let is : first ≡ before g i = c.variables_before-first.ensures.count ∙ ap (λ (h : Game). before h i) c.self.view_is in
    let written = with_items_is c.self.inside.here c.read_least.new.values (c.read_least.ensures.places ∙ c.deref_mut.ensures.len) in
    let read = c.first_of-here.ensures ∙ (ap (λ (vs : List ℤ). take first vs) (c.deref.ensures.value ∙ written) ∙ c.read_least.ensures.read) in
    let here : c.first_of-here.result.now ≡ position g i a = read ∙ ap (λ n. box_values (take n a)) is in
    let there : c.first_of-there.result.now ≡ position g i b = first_position g b i first c.values.result.now c.first_of-there.result.now is c.values.ensures c.first_of-there.ensures in
    let game = c.self.invariant.reads_are ∙ c.self.view_is in
    let once : reads_one_position g i a ≡ true = ap (λ (h : Game). reads_one_position h i a) (sym game) ∙ (sym c.is_read_once.ensures ∙ c.if-not-is_read_once.false) in
    let twice : reads_one_position g i b ≡ true = ap (λ (h : Game). reads_one_position h i b) (sym game) ∙ (sym c.is_kept_once.ensures ∙ c.if-not-is_kept_once.false) in
    let us = c.first_of-here.result.now in
    let vs = c.first_of-there.result.now in
    let seen = ap (λ (h : Game). each_below first (λ x. not (is_seen h i x) || int_eq (slice_index_or us x (pos 0)) (slice_index_or vs x (pos 0)))) (sym game) ∙ sym c.is_seen_same.ensures in
    let same = c.are_positions_same.ensures.same ∙ ap (λ (h : Game). list_all (same_view h i us vs) h.constraints) c.self.view_is in
    look_found g i first a b us vs c.requires.here c.requires.there once twice is here there c.are_positions_same.result (seen ∙ c.if-not-is_seen_same.false) same
