use Rattle.std.proofs.Common.{◌≡◌, ◌+◌, ◌∙◌, ◌∷◌, ◌++◌, [], length, take, drop, sym, ap, subst, arith}
use Rattle.std.specs.Prelude.{All}
use Rattle.std.proofs.lemmas.List.{length_push, length-set}
use Rattle.fd_store.specs.declared.table.Change.{Change}
use Rattle.paged_stack.specs.Held.{Held}
use Rattle.fd_store.specs.Sound.{IsPlace}
use Rattle.fd_store.specs.Trail.{words_before, cells_before}
use Rattle.fd_store.proofs.Undoing.{one_back, places_front, place_last}
use Rattle.fd_store.proofs.table.Table.undo.Goals as goal

pub revert-requires : goal.revert-requires
revert-requires c =
    let all : c.loop-self.self.trail.items ≡ c.pop.new.self.items ++ c.in-Some.change ∷ [] = c.in-Some.ensures.0 in
    place_last c.pop.new.self.items c.in-Some.change (length c.loop-self.self.cells.items) (subst (All (IsPlace (length c.loop-self.self.cells.items))) all c.loop-self.invariant.places)

pub loop-self-preserved-in-Some : goal.loop-self-preserved-in-Some
loop-self-preserved-in-Some c =
    let i = c.loop-self.invariant in
    let r = c.revert.ensures in
    let es = c.args.self.now.trail.items in
    let e = c.in-Some.change in
    let front = c.pop.new.self.items in
    let all : c.loop-self.self.trail.items ≡ front ++ e ∷ [] = c.in-Some.ensures.0 in
    let n = length c.loop-self.self.trail.items in
    let len : n ≡ length front + 1 = ap length all ∙ length_push front e in
    let back = one_back es front e c.args.self.now.words.items c.loop-self.self.words.items c.args.self.now.cells.items c.loop-self.self.cells.items n
    (sym all ∙ i.trail) len i.below i.words i.cells in
    let tr : c.revert.new.self.trail.items ≡ front = ap (λ (h : Held Change). h.items) r.trail in
    let spare : c.revert.new.self.trail.spare ≡ c.pop.new.self.spare = ap (λ (h : Held Change). h.spare) r.trail in
    let more : c.pop.new.self.spare ≡ c.loop-self.self.trail.spare + 1 = c.in-Some.ensures.1 in
    let size : length c.revert.new.self.trail.items ≡ length front = ap length tr in
    let long : length c.revert.new.self.cells.items ≡ length c.loop-self.self.cells.items = ap length r.cells ∙ length-set c.loop-self.self.cells.items e.var e.cell in
    record {
      above = omega (arith, c.loop-self-test.true, c.len.ensures, len, size);
      below = omega (arith, i.below, len, size);
      words = r.words ∙ (back.words_back ∙ ap (λ k. words_before (drop k es) c.args.self.now.words.items) (sym size));
      cells = r.cells ∙ (back.cells_back ∙ ap (λ k. cells_before (drop k es) c.args.self.now.cells.items) (sym size));
      trail = tr ∙ (back.front_is ∙ ap (λ k. take k es) (sym size));
      places = subst (λ m. All (IsPlace m) c.revert.new.self.trail.items) (sym long) (subst (All (IsPlace (length c.loop-self.self.cells.items))) (sym tr)
          (places_front front e (length c.loop-self.self.cells.items) (subst (All (IsPlace (length c.loop-self.self.cells.items))) all i.places)));
      spare = omega (arith, i.spare, spare, more, len, size);
    }
