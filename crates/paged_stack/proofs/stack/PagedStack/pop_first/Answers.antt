use Rattle.std.proofs.Common.{◌≡◌, ◌+◌, ◌-◌, ◌*◌, [], ◌∷◌, length, sym, ap, subst, ◌∙◌, arith, length-append, length-take}
use Rattle.paged_stack.specs.Held.{Held}
use Rattle.paged_stack.specs.Leaves.{items_of}
use Rattle.paged_stack.specs.Packed.{joined, IsPacked}
use Rattle.paged_stack.proofs.Packing.{packed_bounds, packed_out, emptied}
use Rattle.paged_stack.proofs.stack.PagedStack.pop_first.Goals as goal

pub pop_back-emptied-requires : goal.pop_back-emptied-requires
pop_back-emptied-requires g c =
    let s = c.self.inside in
    let room : 1024 * (length s.used + length s.spare) - s.len ≡ c.args.self.now.spare = ap (λ (h : Held g.row.T.Denot). h.spare) c.self.view_is in
    let held : joined s.used ≡ c.args.self.now.items = ap (λ (h : Held g.row.T.Denot). h.items) c.self.view_is in
    let many = ap length held in
    let most = packed_bounds s.used c.self.invariant.0 in
    let count = c.self.invariant.1 in
    omega (arith, many, most.0, c.requires)

pub pop-item-requires : goal.pop-item-requires
pop-item-requires g c =
    let s = c.self.inside in
    let room : 1024 * (length s.used + length s.spare) - s.len ≡ c.args.self.now.spare = ap (λ (h : Held g.row.T.Denot). h.spare) c.self.view_is in
    let held : joined s.used ≡ c.args.self.now.items = ap (λ (h : Held g.row.T.Denot). h.items) c.self.view_is in
    let many = ap length held in
    let most = packed_bounds s.used c.self.invariant.0 in
    let count = c.self.invariant.1 in
    let last = (packed_out c.pop_back-emptied.new.self (items_of c.pop_back-emptied.result.page) (subst IsPacked c.pop_back-emptied.ensures c.self.invariant.0)).1 in
    omega (arith, last, length-take (c.pop_back-emptied.result.page.count) c.pop_back-emptied.result.page.row.items)

pub invariant_of-self : goal.invariant_of-self
invariant_of-self g c =
    let s = c.self.inside in
    let room : 1024 * (length s.used + length s.spare) - s.len ≡ c.args.self.now.spare = ap (λ (h : Held g.row.T.Denot). h.spare) c.self.view_is in
    let held : joined s.used ≡ c.args.self.now.items = ap (λ (h : Held g.row.T.Denot). h.items) c.self.view_is in
    let many = ap length held in
    let most = packed_bounds s.used c.self.invariant.0 in
    let count = c.self.invariant.1 in
    let on = emptied s.used c.pop_back-emptied.new.self (items_of c.pop_back-emptied.result.page) _ c.pop-item.result c.self.invariant.0 (omega (arith, many, c.requires)) c.pop_back-emptied.ensures c.pop-item.ensures.0 in
    (on.0, omega (arith, count, ap length on.1, length-append (joined c.pop_back-emptied.new.self) (c.pop-item.result ∷ [])), omega (arith, c.self.invariant.2, on.2, ap length c.push_front.ensures))

pub returns-clause-items : goal.returns-clause-items
returns-clause-items g c =
    let s = c.self.inside in
    let room : 1024 * (length s.used + length s.spare) - s.len ≡ c.args.self.now.spare = ap (λ (h : Held g.row.T.Denot). h.spare) c.self.view_is in
    let held : joined s.used ≡ c.args.self.now.items = ap (λ (h : Held g.row.T.Denot). h.items) c.self.view_is in
    let many = ap length held in
    let most = packed_bounds s.used c.self.invariant.0 in
    let count = c.self.invariant.1 in
    let on = emptied s.used c.pop_back-emptied.new.self (items_of c.pop_back-emptied.result.page) _ c.pop-item.result c.self.invariant.0 (omega (arith, many, c.requires)) c.pop_back-emptied.ensures c.pop-item.ensures.0 in
    sym held ∙ on.1

pub returns-clause-spare : goal.returns-clause-spare
returns-clause-spare g c =
    let s = c.self.inside in
    let room : 1024 * (length s.used + length s.spare) - s.len ≡ c.args.self.now.spare = ap (λ (h : Held g.row.T.Denot). h.spare) c.self.view_is in
    let held : joined s.used ≡ c.args.self.now.items = ap (λ (h : Held g.row.T.Denot). h.items) c.self.view_is in
    let many = ap length held in
    let most = packed_bounds s.used c.self.invariant.0 in
    let count = c.self.invariant.1 in
    let on = emptied s.used c.pop_back-emptied.new.self (items_of c.pop_back-emptied.result.page) _ c.pop-item.result c.self.invariant.0 (omega (arith, many, c.requires)) c.pop_back-emptied.ensures c.pop-item.ensures.0 in
    omega (arith, count, room, on.2, ap length c.push_front.ensures, most.0, many, c.requires)
