-- The walk after a tuple was read into its places.
use Rattle.std.proofs.Common.{◌≡◌, ℕ, suc, true, List, length, map, take, refl, sym, ap, ◌∙◌, subst, ℤ}
use Rattle.std.specs.List.{list_all}
use Rattle.std.specs.Vec.{with_items}
use Rattle.std.proofs.lemmas.List.{with_items_is}
use Rattle.qc_model.specs.Content.{Game}
use Rattle.qc_model.specs.Game.{before}
use Rattle.qc_model.specs.Valid.{is_number}
use Rattle.check_box.specs.Placed.{only, values_to}
use Rattle.qc_play.specs.declared.walk.Walk.{Walk}
use Rattle.qc_play.specs.Walk.{IsWithin, IsBack}
use Rattle.qc_play.proofs.Backs.{undone_self}

-- the values vs have the tuple of scope i, and those before it as they were
pub record HasTuple (g : Game) (i : ℕ) (w : Walk) (vs : List ℤ) : Type 0 where
  pub placed : take (before g (suc i)) w.remains.box ≡ map only (take (before g (suc i)) vs)
  pub kept : values_to g i vs ≡ values_to g i w.values.items
  pub each : length vs ≡ length w.values.items
  pub numbers : list_all is_number vs ≡ true

module _ (g : Game) (i : ℕ) (w : Walk) (vs : List ℤ) (h : IsWithin g w i) (r : HasTuple g i w vs) where
  same : (with_items w.values vs).items ≡ vs
  same = with_items_is w.values vs (r.each ∙ sym w.values.ok.0)

  pub read_within : IsWithin g (record w { values = with_items w.values vs }) (suc i)
  read_within = record {
    joined = h.joined;
    each = ap length same ∙ (r.each ∙ h.each);
    numbers = ap (list_all is_number) same ∙ r.numbers;
    declared = h.declared;
    placed = λ f. subst (λ us. take (before g (suc i)) w.remains.box ≡ map only (take (before g (suc i)) us)) (sym same) r.placed;
  }

  pub read_back : IsBack g i w (record w { values = with_items w.values vs })
  read_back = record {
    keeps = record {
      joined = refl;
      joins = λ j xs n s. s;
      values = ap (values_to g i) same ∙ r.kept;
      each = ap length same ∙ r.each;
      numbers = ap (list_all is_number) same ∙ r.numbers;
    };
    past = undone_self w.remains;
    box = refl;
  }
