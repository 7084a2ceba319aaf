use Rattle.std.proofs.Common.{rules, arith, ◌≡◌, ◌∙◌, sym, subst, refl, ◌<◌, drop, length, take, IsTrue, get_or, List, ◌++◌, ℕ}
use Rattle.std.specs.Prelude.{ℤ}
use Rattle.std.proofs.lemmas.Bool.Decides.{Decides-eqb}
use Rattle.std.proofs.lemmas.Slice.Eq.{starts_is}
use Rattle.qc_model.specs.Content.{Game}
use Rattle.likeness.specs.Likeness.{ask_nothing, SeenAlike}
use Rattle.check_memory.specs.Known.{IsMet}
use Rattle.check_memory.specs.Memory.{IsNodeOf}
use Rattle.check_memory.proofs.Keeping.{met_of}
use Rattle.check_memory.proofs.memory.NodeMemory.find.Goals as goal

pub returns : goal.returns
returns c =
    let g = c.self.inside.problem.now in
    let vs = c.self.inside.values.items in
    let ts = c.self.inside.texts.items in
    let ns = c.self.inside.nodes.items in
    let at = c.in_ok-at.at in
    let n = c.index-node.result.now in
    let l = c.args.level.now in
    let text = c.args.text.now in
    let here = c.args.here.now in
    let same : c.in-Some.likeness ≡ g = search rules in
    let inside : at < length ns = omega (arith, c.if-at-len.false, c.len.ensures) in
    let is : n ≡ get_or ns at n = search rules in
    let node : IsNodeOf g vs ts n = subst (IsNodeOf g vs ts) (sym is) (c.self.invariant.nodes at n inside) in
    let plain : IsTrue (ask_nothing g.scopes) = search rules in
    let own : c.text_of.result.now ≡ take n.size (drop n.text ts) = c.text_of.ensures ∙ search rules in
    let part : c.values_of.result.now ≡ take n.count (drop n.values vs) = c.values_of.ensures ∙ search rules in
    let rest = drop (length c.text_of.result.now) text in
    let begins : text ≡ c.text_of.result.now ++ rest = (starts_is Decides-eqb text c.text_of.result.now c.starts_with.result c.starts_with.ensures.value).0 c.if-not-starts_with.false in
    let like : SeenAlike g l.number (take n.count (drop n.values vs)) here =
    subst (λ (us : List ℤ). SeenAlike g l.number us here) part (subst (λ (u : Game). SeenAlike u l.number c.values_of.result.now here) same (c.if-not-is_like.ensures refl)) in
    let met = met_of g l.number c.args.horizon vs here ts text rest n node (c.if-not-is_of.ensures.scope refl) (c.if-not-is_of.ensures.horizon refl) plain
    (subst (λ (bs : List ℕ). text ≡ bs ++ rest) own begins) like in
    subst (λ (u : Game). IsMet u l.number c.args.horizon here text (record { won = n.won; turns = n.turns; depth = n.depth; size = n.size })) c.self.view_is met
