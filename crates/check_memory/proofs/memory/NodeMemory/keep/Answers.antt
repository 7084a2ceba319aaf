use Rattle.std.proofs.Common.{arith, ◌≡◌, ◌∙◌, sym, subst, refl, length, [], ◌∷◌, ◌++◌}
use Rattle.qc_model.specs.Content.{Game}
use Rattle.check_memory.specs.Known.{IsKnown}
use Rattle.check_memory.specs.declared.node.Node.{Node}
use Rattle.check_memory.proofs.Keeping.{appended, unchanged, memory_more, memory_values, memory_with}
use Rattle.check_memory.proofs.memory.NodeMemory.keep.Goals as goal

pub invariant_of-self-then-is_err-2 : goal.invariant_of-self-then-is_err-2
invariant_of-self-then-is_err-2 c =
    let m = c.self.inside in
    let a = c.args in
    let vs : c.extend_from_slice.new.self.items ≡ m.values.items ++ a.values.now =
    appended c.extend_from_slice.result c.extend_from_slice.new.self.items m.values.items a.values.now c.extend_from_slice.ensures.items
    (sym c.is_err.ensures.value ∙ c.if-is_err.false) in
    let ts : c.extend_from_slice-2.new.self.items ≡ m.texts.items =
    unchanged c.extend_from_slice-2.result c.extend_from_slice-2.new.self.items m.texts.items a.text.now c.extend_from_slice-2.ensures.items
    (sym c.is_err-2.ensures.value ∙ c.if-is_err-2.true) in
    rw (vs, ts) (memory_values m.problem.now m.likeness m.nodes.items m.values.items a.values.now m.texts.items c.self.invariant)

pub invariant_of-self-then-is_err-3 : goal.invariant_of-self-then-is_err-3
invariant_of-self-then-is_err-3 c =
    let m = c.self.inside in
    let a = c.args in
    let vs : c.extend_from_slice.new.self.items ≡ m.values.items ++ a.values.now =
    appended c.extend_from_slice.result c.extend_from_slice.new.self.items m.values.items a.values.now c.extend_from_slice.ensures.items
    (sym c.is_err.ensures.value ∙ c.if-is_err.false) in
    let ts : c.extend_from_slice-2.new.self.items ≡ m.texts.items ++ a.text.now =
    appended c.extend_from_slice-2.result c.extend_from_slice-2.new.self.items m.texts.items a.text.now c.extend_from_slice-2.ensures.items
    (sym c.is_err-2.ensures.value ∙ c.if-is_err-2.false) in
    let ns : c.push.new.self.items ≡ m.nodes.items =
    unchanged c.push.result _ _ _ c.push.ensures.items (sym c.is_err-3.ensures.value ∙ c.if-is_err-3.true) in
    rw (ns, vs, ts) (memory_more m.problem.now m.likeness m.nodes.items m.values.items a.values.now m.texts.items a.text.now c.self.invariant)

pub invariant_of-self-2 : goal.invariant_of-self-2
invariant_of-self-2 c =
    let m = c.self.inside in
    let a = c.args in
    let n : Node = record {
      number = a.number;
      scope = a.scope;
      horizon = a.horizon;
      won = a.met.won;
      turns = a.met.turns;
      depth = a.met.depth;
      values = c.len.result;
      count = length a.values.now;
      text = c.len-2.result;
      size = length a.text.now;
    } in
    let from : c.len.result ≡ length m.values.items = omega (arith, c.len.ensures) in
    let at : c.len-2.result ≡ length m.texts.items = omega (arith, c.len-2.ensures) in
    let same = sym (c.self.view_is ∙ c.makes_room.ensures) in
    let known = subst (λ (g : Game). IsKnown g a.scope a.horizon a.values.now a.met.won a.met.turns a.met.depth a.text.now) same c.requires.known in
    let vs : c.extend_from_slice.new.self.items ≡ m.values.items ++ a.values.now =
    appended c.extend_from_slice.result c.extend_from_slice.new.self.items m.values.items a.values.now c.extend_from_slice.ensures.items
    (sym c.is_err.ensures.value ∙ c.if-is_err.false) in
    let ts : c.extend_from_slice-2.new.self.items ≡ m.texts.items ++ a.text.now =
    appended c.extend_from_slice-2.result c.extend_from_slice-2.new.self.items m.texts.items a.text.now c.extend_from_slice-2.ensures.items
    (sym c.is_err-2.ensures.value ∙ c.if-is_err-2.false) in
    let ns : c.push.new.self.items ≡ m.nodes.items ++ n ∷ [] =
    appended c.push.result c.push.new.self.items m.nodes.items (n ∷ []) c.push.ensures.items
    (sym c.is_err-3.ensures.value ∙ c.if-is_err-3.false) in
    rw (ns, vs, ts)
    (memory_with m.problem.now m.likeness m.nodes.items m.values.items a.values.now m.texts.items a.text.now n c.self.invariant
    from refl at refl known)
