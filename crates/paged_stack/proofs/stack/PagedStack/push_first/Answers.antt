use Rattle.std.proofs.Common.{◌≡◌, ◌+◌, ◌-◌, ◌*◌, [], ◌∷◌, ◌++◌, length, sym, ap, subst, ◌∙◌, arith, length-append}
use Rattle.paged_stack.specs.Held.{Held}
use Rattle.paged_stack.specs.Packed.{joined, IsPacked}
use Rattle.paged_stack.proofs.Packing.{packed_bounds, full_length, packed_full, opened}
use Rattle.paged_stack.proofs.stack.PagedStack.push_first.Goals as goal

pub pop_front-loose-requires : goal.pop_front-loose-requires
pop_front-loose-requires g c =
    let s = c.self.inside in
    let room : 1024 * (length s.used + length s.spare) - s.len ≡ c.args.self.now.spare = ap (λ (h : Held g.row.T.Denot). h.spare) c.self.view_is in
    let held : joined s.used ≡ c.args.self.now.items = ap (λ (h : Held g.row.T.Denot). h.items) c.self.view_is in
    let many = ap length held in
    let most = packed_bounds s.used c.self.invariant.0 in
    let count = c.self.invariant.1 in
    let full = full_length s.used (packed_full s.used c.self.invariant.0 (omega (arith, many, c.requires.1))) in
    omega (arith, full, count, c.requires.0, room)

pub invariant_of-self : goal.invariant_of-self
invariant_of-self g c =
    let s = c.self.inside in
    let room : 1024 * (length s.used + length s.spare) - s.len ≡ c.args.self.now.spare = ap (λ (h : Held g.row.T.Denot). h.spare) c.self.view_is in
    let held : joined s.used ≡ c.args.self.now.items = ap (λ (h : Held g.row.T.Denot). h.items) c.self.view_is in
    let many = ap length held in
    let most = packed_bounds s.used c.self.invariant.0 in
    let count = c.self.invariant.1 in
    let new : c.push_back.new.self ≡ s.used ++ (c.args.item ∷ []) ∷ [] = c.push_back.ensures ∙ ap (λ p. s.used ++ p ∷ []) c.restart.ensures in
    let on = opened s.used c.args.item c.self.invariant.0 (omega (arith, many, c.requires.1)) in (
      subst IsPacked (sym new) on.0,
      omega (arith, count, ap (λ ps. length (joined ps)) new, ap length on.1, length-append (joined s.used) (c.args.item ∷ [])),
      omega (arith, c.self.invariant.2, ap length new, length-append s.used ((c.args.item ∷ []) ∷ []), ap length c.pop_front-loose.ensures),
    )

pub returns-clause-items : goal.returns-clause-items
returns-clause-items g c =
    let s = c.self.inside in
    let room : 1024 * (length s.used + length s.spare) - s.len ≡ c.args.self.now.spare = ap (λ (h : Held g.row.T.Denot). h.spare) c.self.view_is in
    let held : joined s.used ≡ c.args.self.now.items = ap (λ (h : Held g.row.T.Denot). h.items) c.self.view_is in
    let many = ap length held in
    let most = packed_bounds s.used c.self.invariant.0 in
    let count = c.self.invariant.1 in
    let new : c.push_back.new.self ≡ s.used ++ (c.args.item ∷ []) ∷ [] = c.push_back.ensures ∙ ap (λ p. s.used ++ p ∷ []) c.restart.ensures in
    let on = opened s.used c.args.item c.self.invariant.0 (omega (arith, many, c.requires.1)) in
    ap joined new ∙ on.1 ∙ ap (λ l. l ++ c.args.item ∷ []) held
