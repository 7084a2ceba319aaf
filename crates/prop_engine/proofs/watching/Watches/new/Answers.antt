use Rattle.std.proofs.Common.{◌≡◌, ℕ, [], ◌∷◌, ◌++◌, length, sym, ap, ◌∙◌, subst}
use Rattle.prop_engine.specs.Watching.{Watches, watchers}
use Rattle.prop_engine.proofs.Watched.{count_more, none_more}
use Rattle.prop_engine.proofs.watching.Watches.new.Goals as goal

pub loop-preserved : goal.loop-preserved
loop-preserved c =
    let lists : Watches = c.loop.lists.items in
    let more = c.in_ok-push.ensures.items ∙ ap (λ l. lists ++ l ∷ []) c.new.ensures in
    record {
      count = ap length more ∙ count_more lists c.loop.counter c.loop.invariant.count;
      empty = subst (λ (ws : Watches). (x : ℕ) → watchers ws x ≡ []) (sym more) (none_more lists c.loop.invariant.empty);
    }
