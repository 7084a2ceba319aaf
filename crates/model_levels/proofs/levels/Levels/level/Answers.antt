use Rattle.std.proofs.Common.{◌≡◌, ◌<◌, ℕ, List, sym, refl, subst, length, Some}
use Rattle.std.specs.Prelude.{slice_get}
use Rattle.std.specs.List.{slice_index_or}
use Rattle.std.proofs.lemmas.Option.{slice_get_read}
use Rattle.qc_model.specs.Content.{Game}
use Rattle.model_levels.specs.declared.level.Level.{Level}
use Rattle.model_levels.specs.Tables.{AreLevelsOf}
use Rattle.model_levels.proofs.levels.Levels.level.Goals as goal

-- the level of a scope that exists stands at the scope's number
level_found : (g : Game) (levels : List Level) (i : ℕ) (l : Level) → AreLevelsOf g levels → i < length g.scopes → l ≡ slice_index_or levels i l → slice_get levels i ≡ Some l
level_found g levels i l a h e = slice_get_read levels (length levels) i l refl (subst (λ n. i < n) (sym a.count) h) e

pub returns-clause-number : goal.returns-clause-number
returns-clause-number c =
    let m = c.args.self.now in
    m.levels_are.numbers c.args.i.0 c.index.result.now (level_found m.problem.now m.levels.items c.args.i.0 c.index.result.now m.levels_are c.requires c.index.ensures)

pub returns-clause-problem : goal.returns-clause-problem
returns-clause-problem c =
    let m = c.args.self.now in
    m.levels_are.problems c.args.i.0 c.index.result.now (level_found m.problem.now m.levels.items c.args.i.0 c.index.result.now m.levels_are c.requires c.index.ensures)
