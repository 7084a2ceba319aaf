-- What is told of a scope's own tree once it has seen more.
use Rattle.std.proofs.Common.{◌≡◌, ℕ, suc, ◌<◌, ◌≤◌, Bool, true, false, not, ◌&&◌, ◌||◌, Option, Some, None, List, [], ◌∷◌, ◌++◌, length, set, refl, sym, ap, ◌∙◌, subst, arith, ℤ}
use Rattle.std.specs.Prelude.{max, slice_get, unsigned_abs, Vec, get_or}
use Rattle.std.specs.Vec.{with_item}
use Rattle.std.specs.Global.{Global}
use Rattle.std.proofs.lemmas.List.{length-set}
use Rattle.qc_model.specs.declared.problem.Condition.{Condition}
use Rattle.qc_model.specs.Content.{Game}
use Rattle.qc_model.specs.Demands.{demands}
use Rattle.qc_model.specs.Domains.{Box}
use Rattle.qc_model.specs.Verdict.{lost, exact, at_most, unknown, Seen, seen_barred, seen_skipped, seen_bound, seen_node, is_lost, each_node, bounds, is_none_of}
use Rattle.joins.specs.Joins.{game_of as game_joined, StandsAt, KeepsOthers, LeafFits}
use Rattle.joins.specs.Sizes.{AreLong, HasSizes}
use Rattle.joins.specs.declared.joins.Joins.{Joins}
use Rattle.joins.proofs.Lengths.{long_join}
use Rattle.joins.proofs.Sizing.{nodes_join, marks_join, sizes_same, leaf_fits}
use Rattle.fd_store.specs.Held.{trail_len}
use Rattle.dense_tree.specs.Tree.{Given}
use Rattle.dense_ledger.specs.Ledger.{Ledger, with_seen}
use Rattle.dense_nest.specs.declared.told.Tally.{Tally}
use Rattle.dense_nest.specs.declared.nest.Nest.{Nest}
use Rattle.dense_nest.specs.Tallies.{best_held, is_mixed, IsTally, HasTally}
use Rattle.dense_nest.specs.Telling.{game_of, IsPart}
use Rattle.dense_nest.proofs.Frames.{frames_same}
use Rattle.dense_nest.proofs.Tallying.{item_at, set_at, set_other, tally_is}

-- ---- tallies
pub tally_set : (d : List Condition) (xs : List Seen) (bests : List ℤ) (ts : List Tally) (i : ℕ) (t : Tally) → i < length ts → IsTally d xs bests t → HasTally d xs bests (slice_get (set ts i t) i)
tally_set d xs bests ts i t h k = subst (HasTally d xs bests) (sym (set_at ts i t h)) k

pub tally_kept : (d : List Condition) (xs ys : List Seen) (bests : List ℤ) (o : Option Tally) → ((t : Tally) → IsTally d xs bests t → IsTally d ys bests t) → HasTally d xs bests o → HasTally d ys bests o
tally_kept d xs ys bests None f h = let e : ◌≡◌ {A = Option Tally} None (Some h.0) = h.2 in cc
tally_kept d xs ys bests (Some t) f h = f t h

-- ---- what more makes of a tally
each_join : (xs ys : List Seen) → each_node is_lost (xs ++ ys) ≡ (each_node is_lost xs && each_node is_lost ys)
each_join [] ys = refl
each_join (seen_barred ∷ xs) ys = each_join xs ys
each_join (seen_skipped ∷ xs) ys = refl
each_join (seen_bound m ∷ xs) ys = each_join xs ys
each_join (seen_node v ∷ xs) ys = ap (λ b. is_lost v && b) (each_join xs ys) ∙ by (is_lost v) (each_node is_lost xs)
  where
    by : (a b : Bool) → (a && (b && each_node is_lost ys)) ≡ ((a && b) && each_node is_lost ys)
    by true b = refl
    by false b = refl

none_join : (xs ys : List Seen) → is_none_of (bounds (xs ++ ys)) ≡ (is_none_of (bounds xs) && is_none_of (bounds ys))
none_join [] ys = refl
none_join (seen_barred ∷ xs) ys = none_join xs ys
none_join (seen_skipped ∷ xs) ys = none_join xs ys
none_join (seen_bound m ∷ xs) ys = refl
none_join (seen_node lost ∷ xs) ys = none_join xs ys
none_join (seen_node (exact v) ∷ xs) ys = none_join xs ys
none_join (seen_node (at_most n) ∷ xs) ys = refl
none_join (seen_node unknown ∷ xs) ys = none_join xs ys

pub mixed_join : (xs ys : List Seen) → is_mixed (xs ++ ys) ≡ (is_mixed xs || is_mixed ys)
mixed_join xs ys =
    ap (λ b. not (b && is_none_of (bounds (xs ++ ys)))) (each_join xs ys)
    ∙ (ap (λ b. not ((each_node is_lost xs && each_node is_lost ys) && b)) (none_join xs ys)
    ∙ by (each_node is_lost xs) (is_none_of (bounds xs)) (each_node is_lost ys) (is_none_of (bounds ys)))
  where
    by : (a b c d : Bool) → not ((a && c) && (b && d)) ≡ (not (a && b) || not (c && d))
    by true true c d = refl
    by true false true d = refl
    by true false false d = refl
    by false b c d = refl

pub or_true : (b : Bool) → (b || true) ≡ true
or_true true = refl
or_true false = refl

pub or_false : (b : Bool) → (b || false) ≡ b
or_false true = refl
or_false false = refl

-- a mark is taken beside the others, and isn't added to them
pub sizes_mark : (n : ℕ) (xs : List Seen) (m : ℤ) → HasSizes n xs → unsigned_abs m ≤ 1000000000 → HasSizes (max n 1) (xs ++ seen_bound m ∷ [])
sizes_mark n xs m h l k =
    let a = h k in
    let e = marks_join xs (seen_bound m ∷ []) in
    let f = nodes_join k xs (seen_bound m ∷ []) in
    omega (arith, a, e, f, l)

module _ (d : List Condition) (xs : List Seen) (bests : List ℤ) (t : Tally) (h : IsTally d xs bests t) where
  pub tally_barred : IsTally d (xs ++ seen_barred ∷ []) bests t
  tally_barred = record {
    few = h.few;
    sizes = sizes_same t.size xs seen_barred (λ k. refl) h.sizes;
    best = h.best;
    mixed = h.mixed ∙ sym (mixed_join xs (seen_barred ∷ []) ∙ or_false (is_mixed xs));
  }

  pub tally_lost : IsTally d (xs ++ seen_node lost ∷ []) bests t
  tally_lost = record {
    few = h.few;
    sizes = sizes_same t.size xs (seen_node lost) (λ k. refl) h.sizes;
    best = h.best;
    mixed = h.mixed ∙ sym (mixed_join xs (seen_node lost ∷ []) ∙ or_false (is_mixed xs));
  }

  pub tally_mark : (m : ℤ) (n : ℕ) → unsigned_abs m ≤ 1000000000 → n ≡ max t.size 1 → IsTally d (xs ++ seen_bound m ∷ []) bests (record { size = n; best = t.best; mixed = true })
  tally_mark m n l e = record {
    few = let f = h.few in omega (arith, f, e);
    sizes = subst (λ k. HasSizes k (xs ++ seen_bound m ∷ [])) (sym e) (sizes_mark t.size xs m h.sizes l);
    best = h.best;
    mixed = sym (mixed_join xs (seen_bound m ∷ []) ∙ or_true (is_mixed xs));
  }

  pub tally_best : (v w : ℤ) → Some w ≡ best_held d (bests ++ v ∷ []) → IsTally d xs (bests ++ v ∷ []) (record { size = t.size; best = Some w; mixed = t.mixed })
  tally_best v w e = record { few = h.few; sizes = h.sizes; best = e; mixed = h.mixed }

-- ---- parts
module _ (m : Nest) (us : List Given) (boxes : List Box) (d : Ledger) (p : IsPart m us boxes d) where
  -- the join and the tally of the scope stand for what was seen, those of scopes before are kept
  pub part_seen : (js : Joins) (ts : Vec Tally Global) (i : ℕ) (xs : List Seen) (bests : List ℤ) → i ≡ m.entry.spot.number →
      KeepsOthers i m.joins js → ((k : ℕ) → (k ≡ i → ⊥) → slice_get m.tallies.items k ≡ slice_get ts.items k) → game_joined js ≡ game_joined m.joins → length ts.items ≡ length m.tallies.items →
      StandsAt js i xs → AreLong (game_of m) i xs → HasTally (demands (game_of m) i) xs bests (slice_get ts.items i) →
      IsPart (record m { joins = js; tallies = ts }) us boxes (record d { own = record { entry = d.own.entry; seen = xs; bests = bests } })
  part_seen js ts i xs bests at others tallies same count stands long tally =
      let k = p.keeps in
      let made = k.made in
      let entry = p.entry in
      let before : (j : ℕ) → j < m.entry.spot.number → (j ≡ i → ⊥) = λ j l e. absurd (omega (arith, l, e, at)) in
      record {
        keeps = record {
          made = record { joined = same ∙ made.joined; lists = made.lists; values = made.values; numbers = made.numbers; tallies = count ∙ made.tallies };
          given = k.given;
          known = k.known;
          kept = k.kept;
          names = k.names;
          turns = k.turns;
          unfinished = k.unfinished;
        };
        entry = entry;
        own = record {
          entry = p.own.entry;
          scope = p.own.scope;
          stands = subst (λ j. StandsAt js j xs) at stands;
          long = subst (λ j. AreLong (game_of m) j xs) at long;
          tally = subst (λ j. HasTally (demands (game_of m) j) xs bests (slice_get ts.items j)) at tally;
        };
        named = p.named;
        frames = frames_same (game_of m) m.remains m.remains m.joins js m.tallies.items ts.items m.entry (trail_len m.remains) (trail_len m.remains) m.open d.frames (omega arith) (λ n l. refl)
            (λ j ys l. others j ys (before j l)) (λ j l. tallies j (before j l)) entry.at p.frames;
        box = p.box;
      }

  module _ (js : Joins) (i : ℕ) (at : i ≡ m.entry.spot.number) (others : KeepsOthers i m.joins js) (same : game_joined js ≡ game_joined m.joins) where
    stands_there : StandsAt m.joins i d.own.seen
    stands_there = subst (λ j. StandsAt m.joins j d.own.seen) (sym at) p.own.stands

    long_there : AreLong (game_of m) i d.own.seen
    long_there = subst (λ j. AreLong (game_of m) j d.own.seen) (sym at) p.own.long

    tally_there : HasTally (demands (game_of m) i) d.own.seen d.own.bests (slice_get m.tallies.items i)
    tally_there = subst (λ j. HasTally (demands (game_of m) j) d.own.seen d.own.bests (slice_get m.tallies.items j)) (sym at) p.own.tally

    pub scope_inside : i < length m.tallies.items
    scope_inside = let s = p.own.scope in let t = p.keeps.made.tallies in omega (arith, s, t, at)

    long_more : (x : Seen) → AreLong (game_of m) i (x ∷ []) → AreLong (game_of m) i (d.own.seen ++ x ∷ [])
    long_more x l = long_join (demands (game_of m) (suc i)) d.own.seen (x ∷ []) long_there l

    pub part_barred : ((xs : List Seen) → StandsAt m.joins i xs → StandsAt js i (xs ++ seen_barred ∷ [])) → IsPart (record m { joins = js }) us boxes (record d { own = with_seen (seen_barred ∷ []) d.own })
    part_barred stands =
        part_seen js m.tallies i (d.own.seen ++ seen_barred ∷ []) d.own.bests at others (λ k n. refl) same refl (stands d.own.seen stands_there) (long_more seen_barred tt)
        (tally_kept (demands (game_of m) i) d.own.seen (d.own.seen ++ seen_barred ∷ []) d.own.bests (slice_get m.tallies.items i) (λ t h. tally_barred (demands (game_of m) i) d.own.seen d.own.bests t h) tally_there)

    pub part_lost : ((xs : List Seen) → StandsAt m.joins i xs → LeafFits (game_joined m.joins) i xs lost → StandsAt js i (xs ++ seen_node lost ∷ [])) → IsPart (record m { joins = js }) us boxes (record d { own = with_seen (seen_node lost ∷ []) d.own })
    part_lost stands =
        part_seen js m.tallies i (d.own.seen ++ seen_node lost ∷ []) d.own.bests at others (λ k n. refl) same refl
        (stands d.own.seen stands_there (fits_lost (game_joined m.joins) (demands (game_of m) i) d.own.seen d.own.bests (slice_get m.tallies.items i) tally_there)) (long_more (seen_node lost) (tt, tt))
        (tally_kept (demands (game_of m) i) d.own.seen (d.own.seen ++ seen_node lost ∷ []) d.own.bests (slice_get m.tallies.items i) (λ t h. tally_lost (demands (game_of m) i) d.own.seen d.own.bests t h) tally_there)
      where
        fits_lost : (g : Game) (ds : List Condition) (xs : List Seen) (bests : List ℤ) (o : Option Tally) → HasTally ds xs bests o → LeafFits g i xs lost
        fits_lost g ds xs bests None h = let e : ◌≡◌ {A = Option Tally} None (Some h.0) = h.2 in cc
        fits_lost g ds xs bests (Some t) h = let f = h.few in leaf_fits g i t.size 0 xs lost tt h.sizes tt (omega (arith, f))

    -- with another tally in the place of the one that was read
    module _ (t : Tally) (read : t ≡ get_or m.tallies.items i t) where
      is_tally : IsTally (demands (game_of m) i) d.own.seen d.own.bests t
      is_tally = tally_is (demands (game_of m) i) d.own.seen d.own.bests (slice_get m.tallies.items i) t (item_at m.tallies.items i t scope_inside read) tally_there

      pub part_mark : (best : ℤ) (n : ℕ) → unsigned_abs best ≤ 1000000000 → n ≡ max t.size 1 → ((xs : List Seen) → StandsAt m.joins i xs → StandsAt js i (xs ++ seen_bound best ∷ [])) →
          IsPart (record m { joins = js; tallies = with_item m.tallies i (record { size = n; best = t.best; mixed = true }) }) us boxes (record d { own = with_seen (seen_bound best ∷ []) d.own })
      part_mark best n l e stands =
          let u : Tally = record { size = n; best = t.best; mixed = true } in
          part_seen js (with_item m.tallies i u) i (d.own.seen ++ seen_bound best ∷ []) d.own.bests at others (λ k q. set_other m.tallies.items i k u q) same (length-set m.tallies.items i u)
          (stands d.own.seen stands_there) (long_more (seen_bound best) tt)
          (tally_set (demands (game_of m) i) (d.own.seen ++ seen_bound best ∷ []) d.own.bests m.tallies.items i u scope_inside (tally_mark (demands (game_of m) i) d.own.seen d.own.bests t is_tally best n l e))

  pub part_best : (i : ℕ) → i ≡ m.entry.spot.number → (t : Tally) → t ≡ get_or m.tallies.items i t → (v w : ℤ) → (t.best ≡ best_held (demands (game_of m) i) d.own.bests → Some w ≡ best_held (demands (game_of m) i) (d.own.bests ++ v ∷ [])) →
      IsPart (record m { tallies = with_item m.tallies i (record { size = t.size; best = Some w; mixed = t.mixed }) }) us boxes (record d { own = record (d.own) { bests = d.own.bests ++ v ∷ [] } })
  part_best i at t read v w better =
      let u : Tally = record { size = t.size; best = Some w; mixed = t.mixed } in
      let h = is_tally m.joins i at (λ k xs q s. s) refl t read in
      part_seen m.joins (with_item m.tallies i u) i d.own.seen (d.own.bests ++ v ∷ []) at (λ k xs q s. s) (λ k q. set_other m.tallies.items i k u q) refl (length-set m.tallies.items i u)
      (stands_there m.joins i at (λ k xs q s. s) refl) (long_there m.joins i at (λ k xs q s. s) refl)
      (tally_set (demands (game_of m) i) d.own.seen (d.own.bests ++ v ∷ []) m.tallies.items i u (scope_inside m.joins i at (λ k xs q s. s) refl) (tally_best (demands (game_of m) i) d.own.seen d.own.bests t h v w (better h.best)))
