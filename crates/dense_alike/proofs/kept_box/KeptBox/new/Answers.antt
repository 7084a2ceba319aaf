use Rattle.std.proofs.Common.{◌≡◌, ◌≤◌, ◌<◌, ◌+◌, ◌∙◌, ◌++◌, ◌∷◌, [], sym, ap, subst, rules, arith, length, take, List, ℕ}
use Rattle.std.proofs.lemmas.Int.{to_z-of_z}
use Rattle.std.proofs.lemmas.List.{length-append}
use mir.Val.{SFits}
use mir.Syntax.{w64}
use Rattle.dense_alike.specs.declared.range.Range.{Range}
use Rattle.dense_alike.specs.Ranges.{domains, Rises}
use Rattle.dense_alike.proofs.Domains.{rises_more, domains_next, least_next}
use Rattle.dense_alike.proofs.kept_box.KeptBox.new.Goals as goal

pub loop-x-preserved : goal.loop-x-preserved
loop-x-preserved c =
    let box = c.args.store.now.box in
    let x = c.loop-x.x in
    let rs = c.loop-x.ranges.items in
    let es = c.loop-x.ends.items in
    let new = c.push_left.new.ranges.items in
    let inv = c.loop-x.invariant in
    let added = c.in_ok-push_left.ensures in
    let inside : x < length box = omega (arith, c.loop-x-test.true, c.count-count.ensures) in
    let end : c.len.result ≡ length new = omega (arith, c.len.ensures, c.push_left.new.ranges.ok.0) in
    let ends = c.in_ok-push.ensures.items ∙ ap (λ n. es ++ n ∷ []) end in
    let fits : SFits w64 c.least_left.result = search rules in
    let least : c.push-in-loop-x.new.self.items ≡ c.loop-x.least.items ++ c.least_left.result ∷ [] = simp to_z-of_z at c.in_ok-push-2.ensures.items in
    let longer : length rs ≤ length new = omega (arith, ap length added.appended, length-append rs added.more) in
    record {
      rises = subst (λ (us : List ℕ). Rises 0 us (length new)) (sym ends) (rises_more 0 es (length rs) (length new) inv.rises longer);
      boxes =
          ap (λ (us : List ℕ). domains new 0 us) ends
          ∙ subst (λ (us : List Range). domains us 0 (es ++ length us ∷ []) ≡ take (x + 1) box) (sym added.appended) (domains_next box x inside rs added.more es inv.rises inv.boxes added.values);
      least = least ∙ least_next box x inside c.loop-x.least.items c.least_left.result inv.least c.least_left.ensures;
    }
