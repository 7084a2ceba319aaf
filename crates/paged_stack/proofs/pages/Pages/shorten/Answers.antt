use Rattle.std.proofs.Common.{◌≡◌, ◌-◌, ◌<◌, length, map, set, take, sym, ap, ◌∙◌, arith}
use lib.ListN.{length-map}
use Rattle.paged_stack.specs.Packed.{last_of}
use Rattle.paged_stack.specs.Leaves.{items_of, home_of}
use Rattle.paged_stack.proofs.Written.{map_kept, last_set, last_is}
use Rattle.paged_stack.proofs.pages.Pages.shorten.Goals as goal

pub invariant_of-self : goal.invariant_of-self
invariant_of-self g c =
    let n = c.self.inside.nodes in
    c.self.invariant ∙ sym (map_kept home_of n.items (n.len - 1) c.back_mut.result.now c.cut.new.self c.back_mut.ensures.value c.cut.ensures.1)

pub returns : goal.returns
returns g c =
    let n = c.self.inside.nodes in
    let is : map items_of n.items ≡ c.args.self.now = c.self.view_is in
    let some : 0 < n.len = omega (arith, c.requires.0, ap length is, length-map n.items items_of, n.ok.0) in
    let last = sym (last_is items_of n.items n.len n.ok.0 c.back_mut.result.now some c.back_mut.ensures.value) ∙ ap last_of is in
    last_set items_of n.items n.len n.ok.0 c.cut.new.self ∙ (λ i. set (is i) (length (is i) - 1) ((c.cut.ensures.0 ∙ ap (take c.args.count) last) i))
