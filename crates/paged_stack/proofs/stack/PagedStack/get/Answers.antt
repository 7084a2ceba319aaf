use Rattle.std.proofs.Common.{◌≡◌, ◌<◌, length, get_or, sym, ap, ◌∙◌, arith, length-take}
use Rattle.paged_stack.specs.Held.{Held}
use Rattle.paged_stack.specs.Leaves.{items_of}
use Rattle.paged_stack.specs.Packed.{joined}
use Rattle.paged_stack.proofs.Packing.{page_in, page_has, first_of}
use Rattle.paged_stack.proofs.stack.PagedStack.get.Goals as goal

pub find-page-requires : goal.find-page-requires
find-page-requires g c = page_in c.self.inside.used c.args.k c.self.invariant.0 (omega (arith, c.self.invariant.1, c.if-k-self.false))

pub get-requires : goal.get-requires
get-requires g c =
    let s = c.self.inside in
    let page = c.find-page.result.now in
    let below : c.args.k < length (joined s.used) = omega (arith, c.self.invariant.1, c.if-k-self.false) in
    let at = page_has s.used c.args.k (items_of page) (first_of (joined s.used) (omega (arith, below))) c.self.invariant.0 below c.find-page.ensures in
    omega (arith, at.0, length-take page.count page.row.items)

pub returns : goal.returns
returns g c =
    let s = c.self.inside in
    let k = c.args.k in
    let x = c.get.result in
    let page = c.find-page.result.now in
    let held : joined s.used ≡ c.args.self.now.items = ap (λ (h : Held g.row.T.Denot). h.items) c.self.view_is in
    let below : k < length (joined s.used) = omega (arith, c.self.invariant.1, c.if-k-self.false) in
    let at = page_has s.used k (items_of page) x c.self.invariant.0 below c.find-page.ensures in
    (omega (arith, ap length held, below), c.get.ensures ∙ sym at.1 ∙ ap (λ l. get_or l k x) held)
