use Rattle.std.proofs.Common.{◌≡◌, ◌∙◌, ℕ, ◌≤◌, ◌<◌, ◌+◌, length, sym, ap, subst, arith, below_more}
use Rattle.qc_model.specs.Content.{Game}
use Rattle.qc_model.specs.Domains.{values_left, declared_box}
use Rattle.qc_model.specs.Game.{before}
use Rattle.fd_store.specs.Held.{Held}
use Rattle.check_lines.specs.declared.machine.Machine.{Machine}
use Rattle.check_lines.specs.declared.open.Due.TheVariants as due_of
use Rattle.check_lines.specs.Machine.{game_of, IsReady, IsReadyAt, IsAtNode}
use Rattle.box_laws.proofs.Readings.{box_size}
use Rattle.box_laws.proofs.Whole.{domain_at, whole_at}
use Rattle.check_lines.proofs.machine.Machine.is_fresh.Goals as goal

module _ (m : Machine) (due : m.due ≡ due_of.Node) (ready : IsReady m) where
  node : IsAtNode m
  node = subst (IsReadyAt m) due ready

  size : length m.remains.box ≡ length (game_of m).variables
  size = box_size (game_of m) m.remains.box node.sound.declared

pub loop-at-init : goal.loop-at-init
loop-at-init c = record { after = omega arith; whole = λ x l h. absurd (omega (arith, l, h)) }

pub size-requires : goal.size-requires
size-requires c =
    let m = c.args.self.now in
    let all = size m c.requires.due c.requires.ready in
    let left = ap (λ (s : Held). length s.box) c.store-store.ensures in
    omega (arith, c.loop-at-test.true, c.variables-at-end.ensures, all, left)

pub size-requires-in-loop-at : goal.size-requires-in-loop-at
size-requires-in-loop-at c = domain_at (game_of c.args.self.now).variables c.loop-at.at c.variable.result.now c.variable.ensures c.known.ensures.domains

one_more : (P : ℕ → Type 0) (from at : ℕ) → ((x : ℕ) → from ≤ x → x < at → P x) → P at → (x : ℕ) → from ≤ x → x < at + 1 → P x
one_more P from at f p x l h = below_more (λ k. from ≤ k → P k) at (λ k h l. f k l h) (λ l. p) x h l

pub loop-at-preserved : goal.loop-at-preserved
loop-at-preserved c =
    let m = c.args.self.now in
    let g = game_of m in
    let box = m.remains.box in
    let left = ap (λ (s : Held). length (values_left s.box c.loop-at.at)) c.store-store.ensures in
    record {
      after = omega (arith, c.loop-at.invariant.after);
      whole =
          one_more (λ x. values_left box x ≡ values_left (declared_box g) x) c.args.level.now.from c.loop-at.at c.loop-at.invariant.whole
          (whole_at g box c.loop-at.at c.variable.result.now c.known.ensures.domains (node m c.requires.due c.requires.ready).sound.declared c.variable.ensures
          (sym left ∙ (sym c.size.ensures ∙ (c.if-size.false ∙ c.size-in-loop-at.ensures))));
    }

pub returns : goal.returns
returns c = λ e x l h.
    let m = c.args.self.now in
    let all = size m c.requires.due c.requires.ready in
    let first = c.args.level.now.has_from ∙ (ap (λ (g : Game). before g c.args.level.now.number) c.requires.game ∙ ap (before (game_of m)) c.requires.number) in
    c.loop-at.invariant.whole x (omega (arith, first, l)) (omega (arith, c.loop-at-test.false, c.variables-at-end.ensures, all, h))
