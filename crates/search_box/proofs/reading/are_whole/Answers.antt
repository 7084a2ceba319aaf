use Rattle.std.proofs.Common.{◌≡◌, ◌∙◌, ℕ, ◌≤◌, ◌<◌, ◌+◌, length, refl, sym, arith, below_more}
use Rattle.qc_model.specs.Domains.{values_left, declared_box}
use Rattle.box_laws.proofs.Readings.{box_size}
use Rattle.box_laws.proofs.Whole.{domain_at, whole_at, as_declared}
use Rattle.search_box.proofs.reading.are_whole.Goals as goal

pub size-requires : goal.size-requires
size-requires c = omega (arith, c.loop-at-test.true, box_size c.args.problem.now c.args.store.now.box c.requires)

pub size-requires-in-loop-at : goal.size-requires-in-loop-at
size-requires-in-loop-at c = domain_at c.args.problem.now.variables c.loop-at.at c.variable.result.now c.variable.ensures c.known.ensures.domains

pub returns-then-size : goal.returns-then-size
returns-then-size c =
    let g = c.args.problem.now in
    let box = c.args.store.now.box in
    let inside : c.loop-at.at < length box = omega (arith, c.loop-at-test.true, box_size g box c.requires) in
    (λ e. cc, λ f. absurd (c.if-size.true (c.size.ensures ∙ as_declared g box c.loop-at.at c.variable.result.now c.variable.ensures (f c.loop-at.at c.loop-at.invariant.after inside) ∙ sym c.size-in-loop-at.ensures)))

one_more : (P : ℕ → Type 0) (from at : ℕ) → ((x : ℕ) → from ≤ x → x < at → P x) → P at → (x : ℕ) → from ≤ x → x < at + 1 → P x
one_more P from at f p x l h = below_more (λ k. from ≤ k → P k) at (λ k h l. f k l h) (λ l. p) x h l

pub loop-at-preserved : goal.loop-at-preserved
loop-at-preserved c =
    let g = c.args.problem.now in
    let box = c.args.store.now.box in
    record {
      after = omega (arith, c.loop-at.invariant.after);
      whole =
          one_more (λ x. values_left box x ≡ values_left (declared_box g) x) c.args.from c.loop-at.at c.loop-at.invariant.whole
          (whole_at g box c.loop-at.at c.variable.result.now c.known.ensures.domains c.requires c.variable.ensures (sym c.size.ensures ∙ c.if-size.false ∙ c.size-in-loop-at.ensures));
    }

pub returns : goal.returns
returns c =
    let size = box_size c.args.problem.now c.args.store.now.box c.requires in
    (λ e x l h. c.loop-at.invariant.whole x l (omega (arith, c.loop-at-test.false, size, h)), λ f. refl)
