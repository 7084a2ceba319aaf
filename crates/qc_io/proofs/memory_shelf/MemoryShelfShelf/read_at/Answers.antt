use Rattle.std.proofs.Common.{◌≡◌, ◌+◌, ◌-◌, ◌^◌, ◌⊎◌, inl, inr, true, false, refl, rules}
use Rattle.std.specs.Prelude.{min, IsNone}
use Rattle.std.specs.List.{Contains}
use Rattle.qc_io.specs.Memory.{shelf_state}
use Rattle.qc_io.proofs.memory_shelf.MemoryShelfShelf.read_at.Goals as goal

-- neither of two reasons to fail
neither : {A B : Type 0} → (A → ⊥) → (B → ⊥) → A ⊎ B → false ≡ true
neither f g (inl a) = absurd (f a)
neither f g (inr b) = absurd (g b)

pub returns-then-contains-clause-fails : goal.returns-then-contains-clause-fails
returns-then-contains-clause-fails c =
    let named : Contains c.args.self.now.failing.items (min (c.args.self.now.calls + 1) (2 ^ 64 - 1)) = search rules in
    (λ e. inl named, λ h. refl)

pub returns-in-None-clause-fails : goal.returns-in-None-clause-fails
returns-in-None-clause-fails c =
    let none : IsNone ((shelf_state c.args.self.now).file c.args.name.now) = search rules in
    (λ e. inr none, λ h. refl)

pub returns-in-Some-clause-fails : goal.returns-in-Some-clause-fails
returns-in-Some-clause-fails c =
    let named : Contains c.args.self.now.failing.items (min (c.args.self.now.calls + 1) (2 ^ 64 - 1)) → ⊥ = search rules in
    let none : IsNone ((shelf_state c.args.self.now).file c.args.name.now) → ⊥ = search rules in
    (λ e. cc, neither named none)
