-- What a nest tells before the first line.
use Rattle.std.proofs.Common.{◌≡◌, true, false, None, [], length, refl, sym, ap, ◌∙◌, subst, replicate, arith}
use Rattle.std.specs.Prelude.{pos}
use Rattle.std.specs.List.{list_all}
use Rattle.std.proofs.lemmas.List.{length-replicate}
use Rattle.qc_model.specs.Content.{Game}
use Rattle.qc_model.specs.Domains.{declared_box, has_empty}
use Rattle.qc_model.specs.Valid.{is_number, is_domain}
use Rattle.joins.specs.Joins.{game_of as game_joined}
use Rattle.joins.specs.DemandLists.{HasLists}
use Rattle.check_box.proofs.Placing.{numbers_none}
use Rattle.box_laws.proofs.Declared.{declared_full, declared_is}
use Rattle.box_laws.proofs.Trails.{past_now}
use Rattle.fd_store.specs.declared.store.Mark.{Mark}
use Rattle.fd_store.specs.Held.{trail_len, past_box}
use Rattle.dense_tree.specs.Place.{root_place}
use Rattle.dense_ledger.specs.Ledger.{Entry as EntryTold, first_ledger, entry_at}
use Rattle.dense_nest.specs.declared.place.Entry.{Entry}
use Rattle.dense_nest.specs.declared.nest.Nest.{Nest}
use Rattle.dense_nest.specs.Places.{place_at, spot_below, entry_told, IsFull}
use Rattle.dense_nest.specs.Telling.{game_of, known_of, AreKnown, AreFrames, IsNode, IsAtRoot}

abbrev pub first_entry : Mark → Entry
first_entry mark = record { spot = record { number = 0; horizon = None; loose = false; bounded = false }; horizon = None; mark = mark; named = None; chosen = false }

module _ (m : Nest) (mark : Mark) (entry : m.entry ≡ first_entry mark) (at : mark.at ≡ trail_len m.remains) where
  abbrev g : Game
  g = game_of m

  module _ (domains : list_all (λ x. is_domain x.domain) (game_of m).variables ≡ true) (box : m.remains.box ≡ declared_box (game_of m)) (lists : HasLists (game_of m) m.demands) (joined : game_joined m.joins ≡ game_of m) (tallies : length m.tallies.items ≡ length (game_of m).scopes) (zeros : m.values.items ≡ replicate (length (game_of m).variables) (pos 0)) (named : m.named.items ≡ []) (opened : m.open ≡ []) (turns : m.turns ≡ 0) (has_open : m.has_open ≡ false) where
    now : past_box m.remains mark.at ≡ m.remains.box
    now = past_now m.remains mark.at at

    full : IsFull g m.remains.box
    full = record { declared = declared_is g m.remains.box domains box; full = ap has_empty box ∙ declared_full g domains }

    node : IsNode m [] [] (first_entry mark) (first_ledger g)
    node = record {
      keeps = record {
        made = record {
          joined = joined;
          lists = lists;
          values = ap length zeros ∙ length-replicate (length g.variables) (pos 0);
          numbers = subst (λ vs. list_all is_number vs ≡ true) (sym zeros) (numbers_none (length g.variables));
          tallies = tallies;
        };
        given = refl;
        known = subst (λ ns. [] ≡ known_of g ns []) (sym named) refl;
        kept = subst (λ ns. AreKnown g ns []) (sym named) tt;
        names = tt;
        turns = turns;
        unfinished = has_open;
      };
      entry = record { inside = omega arith; above = tt; horizon = tt; at = omega (arith, at); box = subst (IsFull g) (sym now) full };
      here = sym now;
      named = tt;
      frames = subst (λ os. AreFrames g m.remains m.joins m.tallies.items (first_entry mark) mark.at os []) (sym opened) tt;
      below = tt;
    }

    root_told : entry_told g m.remains (first_entry mark) ≡ entry_at (root_place g) false
    root_told = ap (λ b. let e : EntryTold = record { begin = place_at g (first_entry mark).spot b; place = place_at g (spot_below (first_entry mark)) b; named = None; chosen = false } in e) (now ∙ box)

    pub at_root : IsAtRoot m [] [] (first_ledger g)
    at_root = record {
      node = subst (λ e. IsNode m [] [] e (first_ledger g)) (sym entry) node;
      root = subst (λ e. entry_told g m.remains e ≡ entry_at (root_place g) false) (sym entry) root_told;
      outermost = refl;
    }
