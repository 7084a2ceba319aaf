use Rattle.std.proofs.Common.{◌≡◌, ◌∙◌, sym, ap, subst, refl, length, replicate, true, false, None, []}
use Rattle.std.specs.Prelude.{pos}
use Rattle.std.specs.List.{list_all}
use Rattle.qc_model.specs.Valid.{is_domain}
use Rattle.qc_model.specs.Content.{Game}
use Rattle.qc_model.specs.Domains.{declared_box}
use Rattle.joins.specs.declared.leaves.Found.TheVariants.{Unknown}
use Rattle.joins.specs.DemandLists.{HasLists}
use Rattle.dense_ledger.specs.Ledger.{first_ledger}
use Rattle.dense_nest.specs.declared.place.Due.TheVariants.{Given}
use Rattle.dense_nest.specs.declared.nest.Nest.{Nest}
use Rattle.dense_nest.specs.Telling.{IsAtRoot}
use Rattle.dense_nest.proofs.Beginning.{first_entry, at_root}
use Rattle.dense_nest.proofs.nest.Nest.new.Goals as goal

pub returns-clause-tells : goal.returns-clause-tells
returns-clause-tells c =
    let same = sym c.in_ok-levels.ensures in
    let m : Nest = record {
      alloc = c.args.alloc;
      levels = c.in_ok-levels.levels;
      demands = c.in_ok-demands.demands;
      remains = c.in_ok-remains.remains;
      due = Given;
      entry = first_entry c.mark.result;
      named = c.new-5.result;
      joins = c.in_ok-joins.joins;
      tallies = c.in_ok-tallies.tallies;
      «open» = c.new-6.result;
      values = c.in_ok-values.values;
      found = Unknown;
      own = None;
      turns = 0;
      has_open = false;
    } in (
      refl,
      subst (λ g. IsAtRoot m [] [] (first_ledger g)) c.in_ok-levels.ensures (at_root m c.mark.result refl c.mark.ensures
          (subst (λ (g : Game). list_all (λ x. is_domain x.domain) g.variables ≡ true) same c.known.ensures.domains)
          (c.in_ok-remains.ensures.0 ∙ ap declared_box same)
          (subst (λ g. HasLists g c.in_ok-demands.demands) same c.in_ok-demands.ensures)
          (c.in_ok-joins.ensures.same ∙ same)
          (sym c.in_ok-tallies.tallies.ok.0 ∙ (c.in_ok-tallies.ensures.len ∙ (c.scopes.ensures ∙ ap (λ (g : Game). length g.scopes) same)))
          (c.in_ok-values.ensures.items_if_clones_equal (λ y e. e) ∙ ap (λ n. replicate n (pos 0)) (c.variables.ensures ∙ ap (λ (g : Game). length g.variables) same))
          c.new-5.ensures.items c.new-6.ensures refl refl),
    )
