use Rattle.std.proofs.Common.{◌≡◌, ◌≤◌, ℕ, List, refl, ap, subst, length, drop}
use Rattle.std.specs.Prelude.{nat_le}
use Rattle.std.specs.List.{list_all}
use Rattle.qc_model.specs.declared.problem.ScopeId.{ScopeId}
use Rattle.dense_box.specs.declared.freedom.Standing.{Standing}
use Rattle.dense_box.specs.Standing.{is_passed}
use Rattle.dense_box.proofs.Scoped.{given_at}
use Rattle.dense_box.proofs.freedom.Freedom.give.Goals as goal

pub returns : goal.returns
returns c = λ g us u t o h.
    let free = subst (λ (ms : List Standing). (k : ℕ) → k ≤ length ms → list_all is_passed (drop k ms) ≡ nat_le c.first_free-self.result k) c.as_slice.ensures.value c.first_free-self.ensures in
    given_at g us u c.args.self.now _ c.args.scope.0 c.index-standing.result.now (ap (λ (k : ScopeId). k.0) o) c.index-standing.ensures t h c.requires refl free refl
