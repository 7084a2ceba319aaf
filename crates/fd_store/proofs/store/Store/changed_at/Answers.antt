use Rattle.std.proofs.Common.{◌≡◌, ◌≤◌, ◌+◌, ℕ, length, drop, sym, ap, ◌∙◌, arith}
use Rattle.qc_model.specs.Domains.{values_left}
use Rattle.fd_store.specs.Held.{Held, past_box}
use Rattle.fd_store.specs.Trail.{box_before}
use Rattle.fd_store.proofs.Answered.{held_trail}
use Rattle.fd_store.proofs.Past.{past_is}
use Rattle.fd_store.proofs.store.Store.changed_at.Goals as goal

pub changed_at-requires-clause-place : goal.changed_at-requires-clause-place
changed_at-requires-clause-place c =
    let t = c.self.inside.table in
    omega (arith, c.requires, held_trail t.words.items t.cells.items t.trail.items t.trail.spare c.args.self.now c.self.view_is)

pub returns-clause-others : goal.returns-clause-others
returns-clause-others c =
    let t = c.self.inside.table in
    let here : c.args.n + 1 ≤ length t.trail.items = omega (arith, c.requires, held_trail t.words.items t.cells.items t.trail.items t.trail.spare c.args.self.now c.self.view_is) in
    λ y n. at y c.args.n (omega arith) ∙ (c.changed_at.ensures.others y n ∙ sym (at y (c.args.n + 1) here))
  where
    at : (y k : ℕ) → k ≤ length c.self.inside.table.trail.items → values_left (past_box c.args.self.now k) y ≡ values_left (box_before (drop k c.self.inside.table.trail.items) c.self.inside.table.words.items c.self.inside.table.cells.items) y
    at y k l =
        let t = c.self.inside.table in
        sym (ap (λ (h : Held). values_left (past_box h k) y) c.self.view_is) ∙ ap (λ b. values_left b y) (past_is t.trail.items t.words.items t.cells.items k l)
