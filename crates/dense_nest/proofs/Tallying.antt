-- What a scope's own tree has seen, with more.
use Rattle.std.proofs.Common.{◌≡◌, ℕ, zero, suc, ◌<◌, ◌≤◌, ◌+◌, Bool, true, false, not, ◌&&◌, ◌||◌, Option, Some, List, [], ◌∷◌, ◌++◌, length, set, slice_get, refl, sym, ap, ◌∙◌, subst, arith, ℤ, length-set, append_assoc}
use Rattle.std.specs.Prelude.{slice_index_or}
use Rattle.std.specs.Vec.{with_item}
use Rattle.qc_model.specs.declared.problem.Condition.{Condition}
use Rattle.qc_model.specs.Content.{Game}
use Rattle.qc_model.specs.Demands.{demands}
use Rattle.qc_model.specs.Verdict.{Verdict, lost, exact, at_most, unknown, Seen, seen_barred, seen_skipped, seen_bound, seen_node, is_lost, each_node}
use Rattle.joins.specs.Joins.{game_of as game_joined, StandsAt, KeepsOthers, LeafFits, out_of}
use Rattle.joins.specs.Sizes.{AreLong, HasSizes, IsSized}
use Rattle.joins.specs.declared.joins.Joins.{Joins}
use Rattle.joins.proofs.Lengths.{long_join}
use Rattle.joins.proofs.Sizing.{sizes_same, sizes_node, leaf_fits}
use Rattle.fd_store.specs.Held.{Held}
use Rattle.dense_ledger.specs.Ledger.{Own, with_seen}
use Rattle.dense_nest.specs.declared.place.Entry.{Entry}
use Rattle.dense_nest.specs.declared.told.Tally.{Tally}
use Rattle.dense_nest.specs.declared.nest.Nest.{Nest}
use Rattle.dense_nest.specs.Tallies.{is_mixed, IsTally, HasTally}
use Rattle.dense_nest.specs.Telling.{IsOwn}
use Rattle.dense_nest.specs.Ends.{SeesMore}

-- ---- places of a list
pub item_at : (ts : List Tally) (i : ℕ) (t : Tally) → i < length ts → t ≡ slice_index_or ts i t → slice_get ts i ≡ Some t
item_at [] i t l e = absurd (omega (arith, l))
item_at (u ∷ ts) zero t l e = ap Some (sym e)
item_at (u ∷ ts) (suc i) t l e = item_at ts i t (omega (arith, l)) e

pub set_at : (ts : List Tally) (i : ℕ) (t : Tally) → i < length ts → slice_get (set ts i t) i ≡ Some t
set_at [] i t l = absurd (omega (arith, l))
set_at (u ∷ ts) zero t l = refl
set_at (u ∷ ts) (suc i) t l = set_at ts i t (omega (arith, l))

pub set_other : (ts : List Tally) (i j : ℕ) (t : Tally) → (j ≡ i → ⊥) → slice_get ts j ≡ slice_get (set ts i t) j
set_other [] i j t n = refl
set_other (u ∷ ts) zero zero t n = absurd (n refl)
set_other (u ∷ ts) zero (suc j) t n = refl
set_other (u ∷ ts) (suc i) zero t n = refl
set_other (u ∷ ts) (suc i) (suc j) t n = set_other ts i j t (λ e. n (omega (arith, e)))

-- ---- whether some leaf is neither lost nor barred, or a mark is there
or_same : (a b c : Bool) → not (a && false) ≡ (not (b && false) || c)
or_same true true c = refl
or_same true false c = refl
or_same false true c = refl
or_same false false c = refl

pub mixed_node : (xs : List Seen) (v : Verdict) → is_mixed (xs ++ seen_node v ∷ []) ≡ (is_mixed xs || not (is_lost v))
mixed_node [] lost = refl
mixed_node [] (exact w) = refl
mixed_node [] (at_most n) = refl
mixed_node [] unknown = refl
mixed_node (seen_barred ∷ xs) v = mixed_node xs v
mixed_node (seen_skipped ∷ xs) v = refl
mixed_node (seen_bound m ∷ xs) v = or_same (each_node is_lost (xs ++ seen_node v ∷ [])) (each_node is_lost xs) (not (is_lost v))
mixed_node (seen_node lost ∷ xs) v = mixed_node xs v
mixed_node (seen_node (exact w) ∷ xs) v = refl
mixed_node (seen_node (at_most n) ∷ xs) v = refl
mixed_node (seen_node unknown ∷ xs) v = refl

not_and_false : (a : Bool) → true ≡ not (a && false)
not_and_false true = refl
not_and_false false = refl

pub mixed_skipped : (xs : List Seen) → true ≡ is_mixed (xs ++ seen_skipped ∷ [])
mixed_skipped [] = refl
mixed_skipped (seen_barred ∷ xs) = mixed_skipped xs
mixed_skipped (seen_skipped ∷ xs) = refl
mixed_skipped (seen_bound m ∷ xs) = not_and_false (each_node is_lost (xs ++ seen_skipped ∷ []))
mixed_skipped (seen_node lost ∷ xs) = mixed_skipped xs
mixed_skipped (seen_node (exact w) ∷ xs) = refl
mixed_skipped (seen_node (at_most n) ∷ xs) = refl
mixed_skipped (seen_node unknown ∷ xs) = refl

-- ---- tallies
pub tally_is : (d : List Condition) (xs : List Seen) (bests : List ℤ) (o : Option Tally) (t : Tally) → o ≡ Some t → HasTally d xs bests o → IsTally d xs bests t
tally_is d xs bests o t e h = subst (HasTally d xs bests) e h

-- scope i has one tally more, and its join more leaves
pub sees_more : (m : Nest) (i : ℕ) (xs : List Seen) (js : Joins) (t : Tally) → i < length m.tallies.items → KeepsOthers i m.joins js → game_joined js ≡ game_joined m.joins → out_of js ≡ out_of m.joins →
    ((o : Own) → AreLong (game_joined m.joins) i xs → HasTally (demands (game_joined m.joins) i) o.seen o.bests (slice_get m.tallies.items i) → StandsAt m.joins i o.seen →
    StandsAt js i (o.seen ++ xs) × IsTally (demands (game_joined m.joins) i) (o.seen ++ xs) o.bests t) → SeesMore i xs m (record m { joins = js; tallies = with_item m.tallies i t })
sees_more m i xs js t l others same out f = record {
  rest = refl;
  joined = same;
  out = out;
  count = length-set m.tallies.items i t;
  own = more;
  joins = others;
  tallies = λ j n. set_other m.tallies.items i j t n;
}
  where
    more : (s : Held) (e : Entry) (o : Own) → e.spot.number ≡ i → AreLong (game_joined m.joins) i xs → IsOwn (game_joined m.joins) s m.joins m.tallies.items e o →
        IsOwn (game_joined m.joins) s js (set m.tallies.items i t) e (with_seen xs o)
    more s e o number long h =
        let g = game_joined m.joins in
        let k = f o long (subst (λ j. HasTally (demands g j) o.seen o.bests (slice_get m.tallies.items j)) number h.tally) (subst (λ j. StandsAt m.joins j o.seen) number h.stands) in
        let at : HasTally (demands g i) (o.seen ++ xs) o.bests (slice_get (set m.tallies.items i t) i) = subst (HasTally (demands g i) (o.seen ++ xs) o.bests) (sym (set_at m.tallies.items i t l)) k.1 in
        record {
          entry = h.entry;
          scope = h.scope;
          stands = subst (λ j. StandsAt js j (o.seen ++ xs)) (sym number) k.0;
          long = subst (λ j. AreLong g j (o.seen ++ xs)) (sym number) (long_join (demands g (suc i)) o.seen xs (subst (λ j. AreLong g j o.seen) number h.long) long);
          tally = subst (λ j. HasTally (demands g j) (o.seen ++ xs) o.bests (slice_get (set m.tallies.items i t) j)) (sym number) at;
        }

pub skipped_more : (m : Nest) (i : ℕ) (js : Joins) (t : Tally) → i < length m.tallies.items → t ≡ slice_index_or m.tallies.items i t → KeepsOthers i m.joins js → game_joined js ≡ game_joined m.joins → out_of js ≡ out_of m.joins →
    ((xs : List Seen) → StandsAt m.joins i xs → StandsAt js i (xs ++ seen_skipped ∷ [])) →
    SeesMore i (seen_skipped ∷ []) m (record m { joins = js; tallies = with_item m.tallies i (record { size = t.size; best = t.best; mixed = true }) })
skipped_more m i js t l e others same out stands =
    sees_more m i (seen_skipped ∷ []) js (record { size = t.size; best = t.best; mixed = true }) l others same out
    (λ o long tally h.
    let k = tally_is (demands (game_joined m.joins) i) o.seen o.bests (slice_get m.tallies.items i) t (item_at m.tallies.items i t l e) tally in
    (stands o.seen h, record { few = k.few; sizes = sizes_same t.size o.seen seen_skipped (λ j. refl) k.sizes; best = k.best; mixed = mixed_skipped o.seen }))

pub node_more : (m : Nest) (i : ℕ) (js : Joins) (t : Tally) (n size : ℕ) (mixed : Bool) (v : Verdict) → i < length m.tallies.items → t ≡ slice_index_or m.tallies.items i t → KeepsOthers i m.joins js → game_joined js ≡ game_joined m.joins →
    out_of js ≡ out_of m.joins → IsSized n v → size ≡ t.size + n → size ≤ 4294967296 → mixed ≡ (t.mixed || not (is_lost v)) →
    ((xs : List Seen) → StandsAt m.joins i xs → LeafFits (game_joined m.joins) i xs v → StandsAt js i (xs ++ seen_node v ∷ [])) →
    SeesMore i (seen_node v ∷ []) m (record m { joins = js; tallies = with_item m.tallies i (record { size = size; best = t.best; mixed = mixed }) })
node_more m i js t n size mixed v l e others same out sized sum few mix stands =
    sees_more m i (seen_node v ∷ []) js (record { size = size; best = t.best; mixed = mixed }) l others same out
    (λ o long tally h.
    let g = game_joined m.joins in
    let k = tally_is (demands g i) o.seen o.bests (slice_get m.tallies.items i) t (item_at m.tallies.items i t l e) tally in (
      stands o.seen h (leaf_fits g i t.size n o.seen v long.0 k.sizes sized (subst (λ a. a ≤ 4294967296) sum few)),
      record {
        few = few;
        sizes = subst (λ a. HasSizes a (o.seen ++ seen_node v ∷ [])) (sym sum) (sizes_node t.size n o.seen v k.sizes sized);
        best = k.best;
        mixed = mix ∙ (ap (λ b. b || not (is_lost v)) k.mixed ∙ sym (mixed_node o.seen v));
      },
    ))

-- more, and then more
pub leaf_more : (a b c : Nest) (i : ℕ) (v : Verdict) → SeesMore i (seen_node v ∷ []) a b → SeesMore i (seen_skipped ∷ []) b c → SeesMore i (seen_node v ∷ seen_skipped ∷ []) a c
leaf_more a b c i v h k = record {
  rest = k.rest ∙ ap (λ (m : Nest). let n : Nest = record m { joins = c.joins; tallies = c.tallies } in n) h.rest;
  joined = k.joined ∙ h.joined;
  out = k.out ∙ h.out;
  count = k.count ∙ h.count;
  own = more;
  joins = λ j xs n s. k.joins j xs n (h.joins j xs n s);
  tallies = λ j n. h.tallies j n ∙ k.tallies j n;
}
  where
    more : (s : Held) (e : Entry) (o : Own) → e.spot.number ≡ i → AreLong (game_joined a.joins) i (seen_node v ∷ seen_skipped ∷ []) → IsOwn (game_joined a.joins) s a.joins a.tallies.items e o →
        IsOwn (game_joined a.joins) s c.joins c.tallies.items e (with_seen (seen_node v ∷ seen_skipped ∷ []) o)
    more s e o number long own =
        let first : IsOwn (game_joined b.joins) s b.joins b.tallies.items e (with_seen (seen_node v ∷ []) o) =
        subst (λ (g : Game). IsOwn g s b.joins b.tallies.items e (with_seen (seen_node v ∷ []) o)) (sym h.joined) (h.own s e o number long own) in
        let both : IsOwn (game_joined a.joins) s c.joins c.tallies.items e (with_seen (seen_skipped ∷ []) (with_seen (seen_node v ∷ []) o)) =
        subst (λ (g : Game). IsOwn g s c.joins c.tallies.items e (with_seen (seen_skipped ∷ []) (with_seen (seen_node v ∷ []) o))) h.joined (k.own s e (with_seen (seen_node v ∷ []) o) number tt first) in
        subst (λ xs. IsOwn (game_joined a.joins) s c.joins c.tallies.items e (record o { seen = xs })) (append_assoc o.seen (seen_node v ∷ []) (seen_skipped ∷ [])) both
