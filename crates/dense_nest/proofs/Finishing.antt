-- A scope's own tree that has come to its verdict.
use Rattle.std.proofs.Common.{◌≡◌, ℕ, Option, List, drop, take, refl, sym, ap, ◌∙◌, subst, arith, ℤ, Vec}
use Rattle.std.specs.Global.{Global}
use Rattle.qc_model.specs.Content.{Game}
use Rattle.qc_model.specs.Domains.{Box}
use Rattle.qc_model.specs.Verdict.{Seen}
use Rattle.joins.specs.Joins.{game_of as game_joined, StandsAt, KeepsAll, IsLong, out_of}
use Rattle.joins.specs.Seen.{verdict_of}
use Rattle.joins.specs.Verdicts.{own_at}
use Rattle.joins.specs.declared.joins.Joins.{Joins}
use Rattle.joins.specs.declared.leaves.Found.{Found}
use Rattle.fd_store.specs.Held.{Held}
use Rattle.proof_tree.specs.Place.{position}
use Rattle.dense_tree.specs.Tree.{Given}
use Rattle.dense_tree.specs.Place.{Place}
use Rattle.dense_tree.specs.Verdicts.{loosened, scope_comes_to, scope_own}
use Rattle.dense_ledger.specs.Ledger.{Ledger, Own, Entry as EntryTold, own_verdict, own_value}
use Rattle.dense_nest.specs.declared.place.Entry.{Entry}
use Rattle.dense_nest.specs.declared.nest.Nest.{Nest}
use Rattle.dense_nest.specs.Places.{entry_told}
use Rattle.dense_nest.specs.Telling.{game_of, IsMade, IsOwn, IsNode}
use Rattle.dense_nest.specs.Goes.{IsOver}
use Rattle.dense_nest.specs.Ends.{given_to, HasPlace, Finishes}
use Rattle.dense_nest.proofs.Frames.{KeepsJoins, frames_same}
use Rattle.dense_nest.proofs.Endings.{own_is, comes_long, long_loosened}

abbrev pub with_values : Vec ℤ Global → Nest → Nest
with_values vs m = record m { values = vs }

abbrev pub with_joins : Joins → Nest → Nest
with_joins js m = record m { joins = js }

abbrev pub with_found : Found → Option ℤ → Nest → Nest
with_found f o m = record m { found = f; own = o }

-- a node stays one where the joins of the scopes before it are kept
pub still_node : (m : Nest) (e : Entry) (vs : Vec ℤ Global) (js : Joins) (f : Found) (o : Option ℤ) → IsMade (with_values vs m) → KeepsJoins e.spot.number m.joins js → game_joined js ≡ game_joined m.joins →
    (us : List Given) (boxes : List Box) (d : Ledger) → IsNode m us boxes e d → IsNode (with_found f o (with_joins js (with_values vs m))) us boxes e d
still_node m e vs js f o made all same us boxes d h =
    let k = h.keeps in
    record {
      keeps = record {
        made = record { joined = same ∙ made.joined; lists = made.lists; values = made.values; numbers = made.numbers; tallies = made.tallies };
        given = k.given;
        known = k.known;
        kept = k.kept;
        names = k.names;
        turns = k.turns;
        unfinished = k.unfinished;
      };
      entry = h.entry;
      here = h.here;
      named = h.named;
      frames = frames_same (game_of m) m.remains m.remains m.joins js m.tallies.items m.tallies.items e e.mark.at e.mark.at m.open d.frames (omega arith) (λ k l. refl) all (λ j l. refl) (omega arith) h.frames;
      below = h.below;
    }

module _ (m m1 m2 m3 : Nest) (e : Entry) (count : ℕ) (r : Found) (o : Option ℤ)
    (read : take count m1.values.items ≡ position (game_of m) e.spot.number m.remains.box) (made : IsMade m1) (rest1 : m1 ≡ with_values m1.values m)
    (comes : (s : Held) (k : Entry) (own : Own) (us : List Given) (p : Place) → HasPlace m1 e.spot.number p → p.later ≡ drop e.spot.number (game_of m1).scopes → k.spot.number ≡ e.spot.number → take count m1.values.items ≡ position (game_of m1) e.spot.number p.box →
    IsOwn (game_of m1) s m1.joins m1.tallies.items k own → verdict_of r (out_of m2.joins) ≡ scope_comes_to (given_to m1 us) p p.later own.seen own.bests)
    (all : KeepsAll m1.joins m2.joins) (joined : game_joined m2.joins ≡ game_joined m1.joins) (rest2 : m2 ≡ with_joins m2.joins m1)
    (own : (xs : List Seen) → StandsAt m2.joins e.spot.number xs → o ≡ own_at (game_joined m2.joins) e.spot.number xs)
    (loosens : (us : List Given) (p : Place) → HasPlace (with_found r o m2) e.spot.number p → p.loose ≡ e.spot.loose → verdict_of m3.found (out_of m3.joins) ≡ loosened (given_to (with_found r o m2) us) p (verdict_of r (out_of m2.joins)))
    (rest3 : m3 ≡ with_found m3.found o m2) where
  abbrev now : Nest
  now = with_found m3.found o (with_joins m2.joins (with_values m1.values m))

  path2 : m2 ≡ with_joins m2.joins (with_values m1.values m)
  path2 = rest2 ∙ ap (with_joins m2.joins) rest1

  pub path3 : m3 ≡ now
  path3 = rest3 ∙ ap (with_found m3.found o) path2

  made_now : IsMade (with_values m1.values m)
  made_now = subst IsMade rest1 made

  all_now : KeepsAll m.joins m2.joins
  all_now = subst (λ (x : Nest). KeepsAll x.joins m2.joins) rest1 all

  same_now : game_joined m2.joins ≡ game_joined m.joins
  same_now = joined ∙ ap (λ (x : Nest). game_joined x.joins) rest1

  comes_now : (us : List Given) (d : Ledger) (p : Place) → HasPlace m e.spot.number p → p.later ≡ drop e.spot.number (game_of m).scopes → IsOwn (game_of m) m.remains m.joins m.tallies.items e d.own →
      verdict_of r (out_of m2.joins) ≡ scope_comes_to (given_to m us) p p.later d.own.seen d.own.bests
  comes_now us d p at later own =
      subst
      (λ (x : Nest). (s : Held) (k : Entry) (own : Own) (us : List Given) (p : Place) → HasPlace x e.spot.number p → p.later ≡ drop e.spot.number (game_of x).scopes → k.spot.number ≡ e.spot.number → take count x.values.items ≡ position (game_of x) e.spot.number p.box →
      IsOwn (game_of x) s x.joins x.tallies.items k own → verdict_of r (out_of m2.joins) ≡ scope_comes_to (given_to x us) p p.later own.seen own.bests)
      rest1 comes m.remains e d.own us p (record { number = at.number; list = at.list; box = at.box }) later refl (read ∙ ap (position (game_of m) e.spot.number) (sym at.box)) own

  loosens_now : (us : List Given) (p : Place) → HasPlace m e.spot.number p → p.loose ≡ e.spot.loose → verdict_of m3.found (out_of m2.joins) ≡ loosened (given_to m us) p (verdict_of r (out_of m2.joins))
  loosens_now us p at loose =
      ap (λ (x : Nest). verdict_of m3.found (out_of x.joins)) (sym path3)
      ∙ subst
      (λ (x : Nest). (us : List Given) (p : Place) → HasPlace (with_found r o x) e.spot.number p → p.loose ≡ e.spot.loose → verdict_of m3.found (out_of m3.joins) ≡ loosened (given_to (with_found r o x) us) p (verdict_of r (out_of x.joins)))
      path2 loosens us p (record { number = at.number; list = at.list; box = at.box }) loose

  pub finishes : Finishes m e m3
  finishes us boxes d h =
      let g = game_of m in
      let s = given_to m us in
      let xs = d.own.seen in
      let bs = d.own.bests in
      let p = (entry_told g m.remains e).place in
      let at : HasPlace m e.spot.number p = record { number = refl; list = refl; box = sym h.node.here } in
      let v = own_verdict s d.own in
      let place : d.own.entry.place ≡ p = ap (λ (t : EntryTold). t.place) h.own.entry in
      let v_is : v ≡ loosened s p (scope_comes_to s p p.later xs bs) = ap (λ (q : Place). loosened s q (scope_comes_to s q q.later xs bs)) place in
      let found : v ≡ verdict_of m3.found (out_of m2.joins) = v_is ∙ (ap (loosened s p) (sym (comes_now us d p at refl h.own)) ∙ sym (loosens_now us p at refl)) in
      let long : IsLong g e.spot.number v = subst (IsLong g e.spot.number) (sym v_is) (long_loosened g e.spot.number s p (scope_comes_to s p p.later xs bs) (comes_long s p e.spot.number refl refl refl xs bs h.own.scope h.own.long)) in
      let value : m3.own ≡ own_value s d.own =
      ap (λ (x : Nest). x.own) path3
      ∙ (own xs (all_now e.spot.number xs h.own.stands)
      ∙ (ap (λ (u : Game). own_at u e.spot.number xs) (same_now ∙ h.node.keeps.made.joined)
      ∙ (own_is s p e.spot.number refl refl refl xs ∙ ap (λ (q : Place). scope_own s q q.later xs) (sym place)))) in
      (subst (λ (x : Nest). IsOver x e us boxes v d) (sym path3) (record { node = still_node m e m1.values m2.joins m3.found o made_now (λ j ys l s. all_now j ys s) same_now us boxes d h.node; verdict = found; long = long }), value)
