use Rattle.std.proofs.Common.{◌≡◌, ◌+◌, ◌-◌, ◌*◌, [], ◌∷◌, length, ap, arith, length-append}
use Rattle.paged_stack.specs.Held.{Held}
use Rattle.paged_stack.specs.Leaves.{items_of}
use Rattle.paged_stack.proofs.Packing.{packed_bounds}
use Rattle.paged_stack.proofs.stack.PagedStack.grow.Goals as goal

pub returns-clause-grown : goal.returns-clause-grown
returns-clause-grown g c =
    let s = c.self.inside in
    let room : 1024 * (length s.used + length s.spare) - s.len ≡ c.args.self.now.spare = ap (λ (h : Held g.row.T.Denot). h.spare) c.self.view_is in
    (ap (λ (h : Held g.row.T.Denot). h.items) c.self.view_is, omega (arith, room, c.self.invariant.1, (packed_bounds s.used c.self.invariant.0).0, ap length c.push_back.ensures, length-append s.spare (items_of c.in_ok-loose.loose.page ∷ [])))
