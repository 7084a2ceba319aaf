use Rattle.std.proofs.Common.{◌≡◌, ◌+◌, ◌-◌, ◌*◌, ◌/◌, length, take, sym, ap, subst, ◌∙◌, arith, length-take-le}
use Rattle.paged_stack.specs.Held.{Held}
use Rattle.paged_stack.specs.Packed.{last_of, joined, IsPacked, before_last}
use Rattle.paged_stack.proofs.Packing.{packed_bounds, relast, shortened}
use Rattle.paged_stack.proofs.stack.PagedStack.shorten_last.Goals as goal

pub shorten-requires : goal.shorten-requires
shorten-requires g c =
    let s = c.self.inside in
    let room : 1024 * (length s.used + length s.spare) - s.len ≡ c.args.self.now.spare = ap (λ (h : Held g.row.T.Denot). h.spare) c.self.view_is in
    let held : joined s.used ≡ c.args.self.now.items = ap (λ (h : Held g.row.T.Denot). h.items) c.self.view_is in
    let many = ap length held in
    let most = packed_bounds s.used c.self.invariant.0 in
    let count = c.self.invariant.1 in
    let on = shortened s.used c.args.len c.self.invariant.0 (omega (arith, many, c.requires.0)) (omega (arith, many, c.requires.1)) in
    let same : c.args.len - (s.len - 1) / 1024 * 1024 ≡ c.args.len - before_last (joined s.used) = omega (arith, count) in
    (on.0, omega (arith, on.1, same))

pub invariant_of-self : goal.invariant_of-self
invariant_of-self g c =
    let s = c.self.inside in
    let room : 1024 * (length s.used + length s.spare) - s.len ≡ c.args.self.now.spare = ap (λ (h : Held g.row.T.Denot). h.spare) c.self.view_is in
    let held : joined s.used ≡ c.args.self.now.items = ap (λ (h : Held g.row.T.Denot). h.items) c.self.view_is in
    let many = ap length held in
    let most = packed_bounds s.used c.self.invariant.0 in
    let count = c.self.invariant.1 in
    let on = shortened s.used c.args.len c.self.invariant.0 (omega (arith, many, c.requires.0)) (omega (arith, many, c.requires.1)) in
    let same : c.args.len - (s.len - 1) / 1024 * 1024 ≡ c.args.len - before_last (joined s.used) = omega (arith, count) in
    let new = c.shorten.ensures ∙ ap (λ n. relast s.used (take n (last_of s.used))) same in
    (subst IsPacked (sym new) on.2, omega (arith, ap (λ ps. length (joined ps)) new, ap length on.3, length-take-le c.args.len (joined s.used) (omega (arith, many, c.requires.1))), omega (arith, c.self.invariant.2, ap length new, on.4))

pub returns-clause-items : goal.returns-clause-items
returns-clause-items g c =
    let s = c.self.inside in
    let room : 1024 * (length s.used + length s.spare) - s.len ≡ c.args.self.now.spare = ap (λ (h : Held g.row.T.Denot). h.spare) c.self.view_is in
    let held : joined s.used ≡ c.args.self.now.items = ap (λ (h : Held g.row.T.Denot). h.items) c.self.view_is in
    let many = ap length held in
    let most = packed_bounds s.used c.self.invariant.0 in
    let count = c.self.invariant.1 in
    let on = shortened s.used c.args.len c.self.invariant.0 (omega (arith, many, c.requires.0)) (omega (arith, many, c.requires.1)) in
    let same : c.args.len - (s.len - 1) / 1024 * 1024 ≡ c.args.len - before_last (joined s.used) = omega (arith, count) in
    let new = c.shorten.ensures ∙ ap (λ n. relast s.used (take n (last_of s.used))) same in
    ap joined new ∙ on.3 ∙ ap (take c.args.len) held

pub returns-clause-spare : goal.returns-clause-spare
returns-clause-spare g c =
    let s = c.self.inside in
    let room : 1024 * (length s.used + length s.spare) - s.len ≡ c.args.self.now.spare = ap (λ (h : Held g.row.T.Denot). h.spare) c.self.view_is in
    let held : joined s.used ≡ c.args.self.now.items = ap (λ (h : Held g.row.T.Denot). h.items) c.self.view_is in
    let many = ap length held in
    let most = packed_bounds s.used c.self.invariant.0 in
    let count = c.self.invariant.1 in
    let on = shortened s.used c.args.len c.self.invariant.0 (omega (arith, many, c.requires.0)) (omega (arith, many, c.requires.1)) in
    let same : c.args.len - (s.len - 1) / 1024 * 1024 ≡ c.args.len - before_last (joined s.used) = omega (arith, count) in
    let new = c.shorten.ensures ∙ ap (λ n. relast s.used (take n (last_of s.used))) same in
    omega (arith, count, room, ap length new, on.4, most.0, many, c.requires.1)
