use Rattle.std.proofs.Common.{◌≡◌, ◌+◌, ◌-◌, ◌*◌, [], ◌∷◌, ◌++◌, length, sym, ap, subst, ◌∙◌, arith, length-append}
use Rattle.paged_stack.specs.Held.{Held}
use Rattle.paged_stack.specs.Packed.{joined, IsPacked}
use Rattle.paged_stack.proofs.Packing.{packed_bounds, has_room, added}
use Rattle.paged_stack.proofs.stack.PagedStack.push_next.Goals as goal

pub add-requires : goal.add-requires
add-requires g c =
    let s = c.self.inside in
    let room : 1024 * (length s.used + length s.spare) - s.len ≡ c.args.self.now.spare = ap (λ (h : Held g.row.T.Denot). h.spare) c.self.view_is in
    let held : joined s.used ≡ c.args.self.now.items = ap (λ (h : Held g.row.T.Denot). h.items) c.self.view_is in
    let many = ap length held in
    let most = packed_bounds s.used c.self.invariant.0 in
    let count = c.self.invariant.1 in
    has_room s.used c.self.invariant.0 (λ e. c.requires (omega (arith, many, e)))

pub overflow_add-self : goal.overflow_add-self
overflow_add-self g c =
    let s = c.self.inside in
    let room : 1024 * (length s.used + length s.spare) - s.len ≡ c.args.self.now.spare = ap (λ (h : Held g.row.T.Denot). h.spare) c.self.view_is in
    let held : joined s.used ≡ c.args.self.now.items = ap (λ (h : Held g.row.T.Denot). h.items) c.self.view_is in
    let many = ap length held in
    let most = packed_bounds s.used c.self.invariant.0 in
    let count = c.self.invariant.1 in
    omega (arith, count, most.0, c.self.invariant.2)

pub invariant_of-self : goal.invariant_of-self
invariant_of-self g c =
    let s = c.self.inside in
    let room : 1024 * (length s.used + length s.spare) - s.len ≡ c.args.self.now.spare = ap (λ (h : Held g.row.T.Denot). h.spare) c.self.view_is in
    let held : joined s.used ≡ c.args.self.now.items = ap (λ (h : Held g.row.T.Denot). h.items) c.self.view_is in
    let many = ap length held in
    let most = packed_bounds s.used c.self.invariant.0 in
    let count = c.self.invariant.1 in
    let on = added s.used c.args.item c.self.invariant.0 (λ e. c.requires (omega (arith, many, e))) in
    let new = c.add.ensures in (
      subst IsPacked (sym new) on.0,
      omega (arith, count, ap (λ ps. length (joined ps)) new, ap length on.1, length-append (joined s.used) (c.args.item ∷ [])),
      omega (arith, c.self.invariant.2, ap length new, on.2),
    )

pub returns-clause-items : goal.returns-clause-items
returns-clause-items g c =
    let s = c.self.inside in
    let room : 1024 * (length s.used + length s.spare) - s.len ≡ c.args.self.now.spare = ap (λ (h : Held g.row.T.Denot). h.spare) c.self.view_is in
    let held : joined s.used ≡ c.args.self.now.items = ap (λ (h : Held g.row.T.Denot). h.items) c.self.view_is in
    let many = ap length held in
    let most = packed_bounds s.used c.self.invariant.0 in
    let count = c.self.invariant.1 in
    let on = added s.used c.args.item c.self.invariant.0 (λ e. c.requires (omega (arith, many, e))) in
    ap joined c.add.ensures ∙ on.1 ∙ ap (λ l. l ++ c.args.item ∷ []) held

pub returns-clause-spare : goal.returns-clause-spare
returns-clause-spare g c =
    let s = c.self.inside in
    let room : 1024 * (length s.used + length s.spare) - s.len ≡ c.args.self.now.spare = ap (λ (h : Held g.row.T.Denot). h.spare) c.self.view_is in
    let held : joined s.used ≡ c.args.self.now.items = ap (λ (h : Held g.row.T.Denot). h.items) c.self.view_is in
    let many = ap length held in
    let most = packed_bounds s.used c.self.invariant.0 in
    let count = c.self.invariant.1 in
    let on = added s.used c.args.item c.self.invariant.0 (λ e. c.requires (omega (arith, many, e))) in
    let full = packed_bounds _ on.0 in
    omega (arith, count, room, ap length c.add.ensures, on.2, full.0, ap length on.1, length-append (joined s.used) (c.args.item ∷ []))
