use Rattle.std.proofs.Common.{◌≡◌, List, ℕ, map, string_bytes, Result, Ok, Err, IfOk, rules, Option, Bor, String, Global}
use Rattle.std.specs.Vec.{vec_items}
use Rattle.std.proofs.lemmas.Iterator.{YieldsList, YieldsList-from_slice, YieldsList-from_map_by, IsCollectResult, items_from_drains}
use Rattle.qpart.proofs.texts_of.Goals as goal

viewed_from_collect : {S A B Z E : Type 0} {steps : S → Option A → S → Type 0} {v : A → B} {s : S} {all : List B} (r : Result _ E)
    → IsCollectResult {Z = Z} steps s r → YieldsList steps v s all → IfOk r (λ w. map v (vec_items w) ≡ all)
viewed_from_collect (Ok w) (xs, drains, same) chain = rw same.0 (items_from_drains xs drains chain)
viewed_from_collect (Err e) h chain = tt

pub returns : goal.returns
returns c = viewed_from_collect {v = λ (r : Bor (List ℕ)). r.now} c.collect.result c.collect.ensures.ran
    (YieldsList-from_map_by {v = λ (y : Bor (String Global)). y.now} _ (λ (r : Bor (List ℕ)). r.now) string_bytes
    (YieldsList-from_slice c.args.words.now (cc)) (cc) (λ x r q k. search rules))
