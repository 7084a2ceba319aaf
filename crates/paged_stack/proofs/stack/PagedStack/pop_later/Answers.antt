use Rattle.std.proofs.Common.{◌≡◌, ◌+◌, ◌-◌, ◌*◌, [], ◌∷◌, ◌++◌, length, take, sym, ap, subst, ◌∙◌, arith, length-append}
use Rattle.paged_stack.specs.Held.{Held}
use Rattle.paged_stack.specs.Packed.{last_of, joined, IsPacked}
use Rattle.paged_stack.proofs.Packing.{packed_bounds, relast, taken, some_last}
use Rattle.paged_stack.proofs.stack.PagedStack.pop_later.Goals as goal

pub overflow_sub-self : goal.overflow_sub-self
overflow_sub-self g c =
    let s = c.self.inside in
    let room : 1024 * (length s.used + length s.spare) - s.len ≡ c.args.self.now.spare = ap (λ (h : Held g.row.T.Denot). h.spare) c.self.view_is in
    let held : joined s.used ≡ c.args.self.now.items = ap (λ (h : Held g.row.T.Denot). h.items) c.self.view_is in
    let many = ap length held in
    let most = packed_bounds s.used c.self.invariant.0 in
    let count = c.self.invariant.1 in
    omega (arith, count, many, c.requires.0)

pub take-requires : goal.take-requires
take-requires g c =
    let s = c.self.inside in
    let room : 1024 * (length s.used + length s.spare) - s.len ≡ c.args.self.now.spare = ap (λ (h : Held g.row.T.Denot). h.spare) c.self.view_is in
    let held : joined s.used ≡ c.args.self.now.items = ap (λ (h : Held g.row.T.Denot). h.items) c.self.view_is in
    let many = ap length held in
    let most = packed_bounds s.used c.self.invariant.0 in
    let count = c.self.invariant.1 in
    some_last s.used c.self.invariant.0 (omega (arith, many, c.requires.0))

pub invariant_of-self : goal.invariant_of-self
invariant_of-self g c =
    let s = c.self.inside in
    let room : 1024 * (length s.used + length s.spare) - s.len ≡ c.args.self.now.spare = ap (λ (h : Held g.row.T.Denot). h.spare) c.self.view_is in
    let held : joined s.used ≡ c.args.self.now.items = ap (λ (h : Held g.row.T.Denot). h.items) c.self.view_is in
    let many = ap length held in
    let most = packed_bounds s.used c.self.invariant.0 in
    let count = c.self.invariant.1 in
    let some = some_last s.used c.self.invariant.0 (omega (arith, many, c.requires.0)) in
    let ys = take (length (last_of s.used) - 1) (last_of s.used) in
    let on = taken s.used ys c.take.result c.self.invariant.0 (λ e. c.requires.1 (omega (arith, many, e))) some.0 c.take.ensures.value in
    let new = c.take.ensures.pages in
    (subst IsPacked (sym new) on.0, omega (arith, count, ap (λ ps. length (joined ps)) new, ap length on.1, length-append (joined (relast s.used ys)) (c.take.result ∷ [])), omega (arith, c.self.invariant.2, ap length new, on.2))

pub returns-clause-items : goal.returns-clause-items
returns-clause-items g c =
    let s = c.self.inside in
    let room : 1024 * (length s.used + length s.spare) - s.len ≡ c.args.self.now.spare = ap (λ (h : Held g.row.T.Denot). h.spare) c.self.view_is in
    let held : joined s.used ≡ c.args.self.now.items = ap (λ (h : Held g.row.T.Denot). h.items) c.self.view_is in
    let many = ap length held in
    let most = packed_bounds s.used c.self.invariant.0 in
    let count = c.self.invariant.1 in
    let some = some_last s.used c.self.invariant.0 (omega (arith, many, c.requires.0)) in
    let ys = take (length (last_of s.used) - 1) (last_of s.used) in
    let on = taken s.used ys c.take.result c.self.invariant.0 (λ e. c.requires.1 (omega (arith, many, e))) some.0 c.take.ensures.value in
    sym held ∙ on.1 ∙ ap (λ ps. joined ps ++ c.take.result ∷ []) (sym c.take.ensures.pages)

pub returns-clause-spare : goal.returns-clause-spare
returns-clause-spare g c =
    let s = c.self.inside in
    let room : 1024 * (length s.used + length s.spare) - s.len ≡ c.args.self.now.spare = ap (λ (h : Held g.row.T.Denot). h.spare) c.self.view_is in
    let held : joined s.used ≡ c.args.self.now.items = ap (λ (h : Held g.row.T.Denot). h.items) c.self.view_is in
    let many = ap length held in
    let most = packed_bounds s.used c.self.invariant.0 in
    let count = c.self.invariant.1 in
    let some = some_last s.used c.self.invariant.0 (omega (arith, many, c.requires.0)) in
    let ys = take (length (last_of s.used) - 1) (last_of s.used) in
    let on = taken s.used ys c.take.result c.self.invariant.0 (λ e. c.requires.1 (omega (arith, many, e))) some.0 c.take.ensures.value in
    omega (arith, count, room, ap length c.take.ensures.pages, on.2, most.0, many, c.requires.0)
