use Rattle.std.proofs.Common.{◌≡◌, ◌+◌, ◌-◌, ◌*◌, length, take, ap, ◌∙◌, arith}
use Rattle.paged_stack.specs.Held.{Held}
use Rattle.paged_stack.specs.Leaves.{items_of}
use Rattle.paged_stack.specs.Packed.{joined, before_last}
use Rattle.paged_stack.proofs.Packing.{packed_bounds, dropped}
use Rattle.paged_stack.proofs.stack.PagedStack.drop_last.Goals as goal

pub pop_back-emptied-requires : goal.pop_back-emptied-requires
pop_back-emptied-requires g c =
    let s = c.self.inside in
    let room : 1024 * (length s.used + length s.spare) - s.len ≡ c.args.self.now.spare = ap (λ (h : Held g.row.T.Denot). h.spare) c.self.view_is in
    let held : joined s.used ≡ c.args.self.now.items = ap (λ (h : Held g.row.T.Denot). h.items) c.self.view_is in
    let many = ap length held in
    let most = packed_bounds s.used c.self.invariant.0 in
    let count = c.self.invariant.1 in
    omega (arith, many, most.0, c.requires)

pub invariant_of-self : goal.invariant_of-self
invariant_of-self g c =
    let s = c.self.inside in
    let room : 1024 * (length s.used + length s.spare) - s.len ≡ c.args.self.now.spare = ap (λ (h : Held g.row.T.Denot). h.spare) c.self.view_is in
    let held : joined s.used ≡ c.args.self.now.items = ap (λ (h : Held g.row.T.Denot). h.items) c.self.view_is in
    let many = ap length held in
    let most = packed_bounds s.used c.self.invariant.0 in
    let count = c.self.invariant.1 in
    let on = dropped s.used c.pop_back-emptied.new.self (items_of c.pop_back-emptied.result.page) c.self.invariant.0 c.pop_back-emptied.ensures in
    (on.0, omega (arith, count, on.1), omega (arith, c.self.invariant.2, on.3, ap length c.push_front.ensures))

pub returns-clause-items : goal.returns-clause-items
returns-clause-items g c =
    let s = c.self.inside in
    let room : 1024 * (length s.used + length s.spare) - s.len ≡ c.args.self.now.spare = ap (λ (h : Held g.row.T.Denot). h.spare) c.self.view_is in
    let held : joined s.used ≡ c.args.self.now.items = ap (λ (h : Held g.row.T.Denot). h.items) c.self.view_is in
    let many = ap length held in
    let most = packed_bounds s.used c.self.invariant.0 in
    let count = c.self.invariant.1 in
    let on = dropped s.used c.pop_back-emptied.new.self (items_of c.pop_back-emptied.result.page) c.self.invariant.0 c.pop_back-emptied.ensures in
    on.2 ∙ ap (λ l. take (before_last l) l) held

pub returns-clause-spare : goal.returns-clause-spare
returns-clause-spare g c =
    let s = c.self.inside in
    let room : 1024 * (length s.used + length s.spare) - s.len ≡ c.args.self.now.spare = ap (λ (h : Held g.row.T.Denot). h.spare) c.self.view_is in
    let held : joined s.used ≡ c.args.self.now.items = ap (λ (h : Held g.row.T.Denot). h.items) c.self.view_is in
    let many = ap length held in
    let most = packed_bounds s.used c.self.invariant.0 in
    let count = c.self.invariant.1 in
    let on = dropped s.used c.pop_back-emptied.new.self (items_of c.pop_back-emptied.result.page) c.self.invariant.0 c.pop_back-emptied.ensures in
    omega (arith, count, room, on.3, ap length c.push_front.ensures, most.0, many, c.requires)
