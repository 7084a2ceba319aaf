-- When a node comes to what a named node came to.
use Rattle.std.proofs.Common.{◌≡◌, ◌∙◌, refl, sym, ap, ℕ, zero, suc, ◌<◌, Bool, true, false, ◌&&◌, ◌||◌, not, Option, Some, None, List, [], ◌∷◌, length, drop, arith}
use Rattle.std.specs.Prelude.{◌==◌, is_some, is_none, slice_get, slice_index_or}
use Rattle.std.proofs.lemmas.Bool.Decides.{nat_tests}
use Rattle.qc_model.specs.Content.{Game}
use Rattle.qc_model.specs.Domains.{Box}
use Rattle.qc_model.specs.Game.{before}
use Rattle.dense_tree.specs.Alike.{are_alike, same_horizon, same_left, reads_one_position, look_same}
use Rattle.dense_tree.specs.Place.{Place}
use Rattle.dense_ledger.specs.Ledger.{Ledger}
use Rattle.dense_nest.specs.declared.place.Entry.{Entry}
use Rattle.dense_nest.specs.declared.place.Spot.{Spot}
use Rattle.dense_nest.specs.declared.told.Named.{Named}
use Rattle.dense_nest.specs.declared.told.Told.{Told}
use Rattle.dense_nest.specs.Places.{place_at, spot_below}
use Rattle.dense_nest.specs.Goes.{is_told_in}
use Rattle.dense_nest.specs.Telling.{known_of, told_verdict, AreKnown}
use Rattle.dense_check.specs.declared.machine.DenseMachine.{DenseMachine}
use Rattle.dense_check.specs.Alike.{is_like, spot_told, ended_spot, is_alike_known}
use Rattle.dense_check.specs.Telling.{game_of, InNode, IsNode}
use Rattle.dense_check.proofs.Noding as noding

-- what is known of a node by its spot, if it has ended
abbrev pub by_spot : Game → Place → Option Spot → Box → Bool
by_spot g p None box = false
by_spot g p (Some q) box = are_alike g p (place_at g q box)

by_told : (g : Game) (p : Place) (q : Spot) (t : Option Told) (box : Box) → (is_some (told_verdict t) && are_alike g p (place_at g q box)) ≡ by_spot g p (spot_told q t) box
by_told g p q None box = refl
by_told g p q (Some t) box = refl

known_by : (g : Game) (p : Place) (ns : List Named) (boxes : List Box) (n : ℕ) → AreKnown g ns boxes → is_alike_known g p (slice_get (known_of g ns boxes) n) ≡ by_spot g p (ended_spot (slice_get ns n)) (slice_index_or boxes n [])
known_by g p [] [] zero h = refl
known_by g p [] [] (suc n) h = refl
known_by g p [] (box ∷ boxes) n h = absurd h
known_by g p (x ∷ ns) [] n h = absurd h
known_by g p (x ∷ ns) (box ∷ boxes) zero h = by_told g p x.spot x.told box
known_by g p (x ∷ ns) (box ∷ boxes) (suc n) h = known_by g p ns boxes n h.3

there : (g : Game) (ns : List Named) (boxes : List Box) (n : ℕ) (q : Spot) → AreKnown g ns boxes → ended_spot (slice_get ns n) ≡ Some q → n < length boxes
there g [] [] zero q h e = cc
there g [] [] (suc n) q h e = cc
there g [] (box ∷ boxes) n q h e = absurd h
there g (x ∷ ns) [] n q h e = absurd h
there g (x ∷ ns) (box ∷ boxes) zero q h e = omega arith
there g (x ∷ ns) (box ∷ boxes) (suc n) q h e = let l = there g ns boxes n q h.3 e in omega (arith, l)

module _ (m : DenseMachine) (e : Entry) (n : ℕ) where
  pub kept_there : (q : Spot) → InNode m e → ended_spot (slice_get m.nest.named.items n) ≡ Some q → n < length m.positions.boxes
  kept_there q (d, h) s = there (game_of m) m.nest.named.items m.positions.boxes n q h.node.keeps.kept s

  pub alike_known : (d : Ledger) → IsNode m e d → is_alike_known (game_of m) (noding.Told m e).place (slice_get d.known n) ≡ by_spot (game_of m) (noding.Told m e).place (ended_spot (slice_get m.nest.named.items n)) (slice_index_or m.positions.boxes n [])
  alike_known d h =
      ap (λ ks. is_alike_known (game_of m) (noding.Told m e).place (slice_get ks n)) h.node.keeps.known
      ∙ known_by (game_of m) (noding.Told m e).place m.nest.named.items m.positions.boxes n h.node.keeps.kept

  pub alike_none : (d : Ledger) → IsNode m e d → ended_spot (slice_get m.nest.named.items n) ≡ None → false ≡ is_alike_known (game_of m) (noding.Told m e).place (slice_get d.known n)
  alike_none d h s =
      sym (alike_known d h ∙ ap (λ q. by_spot (game_of m) (noding.Told m e).place q (slice_index_or m.positions.boxes n [])) s)

  -- by the tests one after the other
  pub alike_some : (d : Ledger) (q : Spot) (like miss look : Bool) → IsNode m e d → ended_spot (slice_get m.nest.named.items n) ≡ Some q → like ≡ is_like e q →
      miss ≡ (not (e.spot.bounded || q.bounded) || same_left (drop (before (game_of m) e.spot.number) m.nest.remains.box) (drop (before (game_of m) e.spot.number) (slice_index_or m.positions.boxes n []))) →
      look ≡ (reads_one_position (game_of m) e.spot.number m.nest.remains.box && reads_one_position (game_of m) e.spot.number (slice_index_or m.positions.boxes n []) && look_same (game_of m) e.spot.number m.nest.remains.box (slice_index_or m.positions.boxes n [])) →
      (like && miss && look) ≡ is_alike_known (game_of m) (noding.Told m e).place (slice_get d.known n)
  alike_some d q like miss look h s el em eo =
      let g = game_of m in
      let i = e.spot.number in
      let kept = slice_index_or m.positions.boxes n [] in
      let here : Box = m.nest.remains.box in
      let missed = not (e.spot.bounded || q.bounded) || same_left (drop (before g i) here) (drop (before g i) kept) in
      let one = reads_one_position g i here in
      let other = reads_one_position g i kept in
      let same = look_same g i here kept in
      ap (λ x. x && miss && look) el
      ∙ (ap (λ x. is_like e q && x && look) em
      ∙ (ap (λ x. is_like e q && missed && x) eo
      ∙ (apart (i == q.number) (same_horizon e.horizon q.horizon) (not q.loose || is_none q.horizon) missed one other same
      ∙ (ap (λ (box : Box). are_alike g (place_at g (spot_below e) box) (place_at g q kept)) h.node.here
      ∙ sym (alike_known d h ∙ ap (λ x. by_spot g (noding.Told m e).place x kept) s)))))
    where
      apart : (a b c m x y z : Bool) → ((a && b && c) && m && (x && y && z)) ≡ (a && b && c && m && x && y && z)
      apart false b c m x y z = refl
      apart true false c m x y z = refl
      apart true true false m x y z = refl
      apart true true true false x y z = refl
      apart true true true true x y z = refl

-- it is there, has ended and is of the scope
pub told_there : (e : Entry) (o : Option Named) (q : Spot) → ended_spot o ≡ Some q → is_like e q ≡ true → is_told_in o e.spot.number ≡ true
told_there e None q s l = cc
told_there e (Some n) q s l = by n.told s
  where
    by : (t : Option Told) → spot_told n.spot t ≡ Some q → (is_some t && (n.spot.number == e.spot.number)) ≡ true
    by None s = cc
    by (Some t) s =
        let same : n.spot ≡ q = cc in
        let number = like_number (e.spot.number == q.number) (same_horizon e.horizon q.horizon) (not q.loose || is_none q.horizon) l in
        ap (λ x. x.number == e.spot.number) same ∙ turned e.spot.number q.number number
      where
        like_number : (a b c : Bool) → (a && b && c) ≡ true → a ≡ true
        like_number true b c e = refl
        like_number false b c e = cc

        turned : (i j : ℕ) → (i == j) ≡ true → (j == i) ≡ true
        turned i j e = grind (arith, nat_tests)
