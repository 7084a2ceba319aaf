use Rattle.std.proofs.Common.{◌≡◌, ℕ, ◌+◌, ◌%◌, ◌/◌, ◌<◌, ◌∷◌, length, drop, get_or, map, sym, ap, ◌∙◌, arith, length-take}
use Rattle.std.proofs.lemmas.List.{drop_more}
use lib.ListN.{length-map}
use Rattle.paged_stack.specs.declared.nodes.Nodes.{Nodes}
use Rattle.paged_stack.specs.declared.page.Page.{Page}
use Rattle.paged_stack.specs.Leaves.{items_of}
use Rattle.paged_stack.specs.Packed.{joined, IsPacked}
use Rattle.paged_stack.proofs.Packing.{page_in, page_has, first_of}
use Rattle.paged_stack.proofs.Written.{map_at}
use Rattle.paged_stack.proofs.stack.walk.CursorIterator.next.Goals as goal

module _ {X : Type 0} (nodes : Nodes (Page X)) (place : ℕ) (packed : IsPacked (map items_of nodes.items)) (below : place < length (joined (map items_of nodes.items))) where
  -- the node of the page that has the item is in the chain
  inside : place / 1024 < nodes.len
  inside = omega (arith, page_in (map items_of nodes.items) place packed below, length-map nodes.items items_of, nodes.ok.0)

  -- where the item lies on that page
  lies : (page : Page X) (x : X) → page ≡ get_or nodes.items (place / 1024) page
      → (place % 1024 < length (items_of page)) × (get_or (joined (map items_of nodes.items)) place x ≡ get_or (items_of page) (place % 1024) x)
  lies page x found = page_has (map items_of nodes.items) place (items_of page) x packed below (sym (map_at items_of nodes.items (place / 1024) page (items_of page) (omega (arith, inside, nodes.ok.0)) found))

pub elem-page-requires : goal.elem-page-requires
elem-page-requires g c =
    let s = c.self.inside in
    let i = c.self.invariant in
    (inside s.nodes.now s.place i.0 (omega (arith, i.1, i.2, c.if-self.false)), i.3 (omega (arith, i.2, c.if-self.false)))

pub get-item-requires : goal.get-item-requires
get-item-requires g c =
    let s = c.self.inside in
    let i = c.self.invariant in
    let page = c.elem-page.result.now in
    let below : s.place < length (joined (map items_of s.nodes.now.items)) = omega (arith, i.1, i.2, c.if-self.false) in
    let at = lies s.nodes.now s.place i.0 below page (first_of (joined (map items_of s.nodes.now.items)) (omega (arith, below))) c.elem-page.ensures in
    omega (arith, at.0, length-take page.count page.row.items)

pub node_after-self-inside-requires : goal.node_after-self-inside-requires
node_after-self-inside-requires g c =
    let s = c.self.inside in
    let i = c.self.invariant in
    (inside s.nodes.now s.place i.0 (omega (arith, i.1, i.2, c.if-self.false)), i.3 (omega (arith, i.2, c.if-self.false)))

pub invariant_of-self : goal.invariant_of-self
invariant_of-self g c =
    let s = c.self.inside in
    let i = c.self.invariant in
    (i.0, i.1, omega (arith, i.2, c.if-self.false), λ below. c.node_after-self-inside.ensures (inside s.nodes.now (s.place + 1) i.0 (omega (arith, below, i.1))))

pub returns-clause-steps : goal.returns-clause-steps
returns-clause-steps g c =
    let s = c.self.inside in
    let i = c.self.invariant in
    let items = joined (map items_of s.nodes.now.items) in
    let x = c.get-item.result in
    let below : s.place < length items = omega (arith, i.1, i.2, c.if-self.false) in
    let at = lies s.nodes.now s.place i.0 below c.elem-page.result.now x c.elem-page.ensures in
    sym c.self.view_is ∙ drop_more items s.place x below ∙ ap (λ y. y ∷ drop (s.place + 1) items) (at.1 ∙ sym c.get-item.ensures)
