-- Named nodes: what they come to, and one more.
use Rattle.std.proofs.Common.{◌≡◌, ℕ, zero, suc, ◌<◌, ◌≤◌, Bool, true, false, ◌&&◌, Option, Some, None, List, [], ◌∷◌, ◌++◌, length, set, slice_get, refl, sym, ap, ◌∙◌, subst, arith}
use Rattle.std.specs.Prelude.{slice_index_or, is_some, ◌==◌}
use Rattle.std.proofs.lemmas.Bool.Decides.{nat_tests}
use Rattle.std.specs.Vec.{with_item}
use Rattle.qc_model.specs.Content.{Game}
use Rattle.qc_model.specs.Domains.{Box}
use Rattle.qc_model.specs.Verdict.{Verdict}
use Rattle.joins.specs.Joins.{IsLong, out_of}
use Rattle.joins.specs.Seen.{verdict_of}
use Rattle.dense_tree.specs.Tree.{Given}
use Rattle.dense_tree.specs.Place.{Place}
use Rattle.dense_tree.specs.Read.{Known, or_unknown}
use Rattle.fd_store.specs.Held.{Held}
use Rattle.joins.specs.declared.joins.Joins.{Joins}
use Rattle.dense_nest.specs.declared.told.Tally.{Tally}
use Rattle.dense_nest.specs.declared.place.Open.{Open}
use Rattle.dense_nest.specs.declared.place.Open.TheVariants.{Waiting, Forked}
use Rattle.dense_ledger.specs.Ledger.{Ledger, Frame, waiting, forked, Entry as EntryTold, known_settled}
use Rattle.dense_nest.specs.declared.place.Spot.{Spot}
use Rattle.dense_nest.specs.declared.place.Entry.{Entry}
use Rattle.dense_nest.specs.declared.told.Told.{Told}
use Rattle.dense_nest.specs.declared.told.Named.{Named}
use Rattle.dense_nest.specs.declared.nest.Nest.{Nest}
use Rattle.dense_nest.specs.Places.{place_at, entry_told, IsFull}
use Rattle.dense_nest.specs.Telling.{game_of, told_verdict, known_of, IsLongTold, AreKnown, IsPlaceOf, IsNamed, AreNamed, IsBelow, AreFrames}
use Rattle.dense_nest.specs.Goes.{IsOver, is_told_in, is_told_at, verdict_known}

-- ---- a known node with what it has come to
-- one that has begun at a place is there
pub known_within : (ks : List Known) (n : ℕ) (p : Place) → IsPlaceOf p (slice_get ks n) → n < length ks
known_within [] n p h = absurd h
known_within (k ∷ ks) zero p h = omega arith
known_within (k ∷ ks) (suc n) p h = let i = known_within ks n p h in omega (arith, i)

-- known places stay
place_kept : (ks : List Known) (n j : ℕ) (k : Known) (q : Place) → IsPlaceOf k.place (slice_get ks n) → IsPlaceOf q (slice_get ks j) → IsPlaceOf q (slice_get (set ks n k) j)
place_kept [] n j k q h l = absurd l
place_kept (x ∷ ks) zero zero k q h l = sym h ∙ l
place_kept (x ∷ ks) zero (suc j) k q h l = l
place_kept (x ∷ ks) (suc n) zero k q h l = l
place_kept (x ∷ ks) (suc n) (suc j) k q h l = place_kept ks n j k q h l

pub named_kept : (ks : List Known) (n : ℕ) (k : Known) (name : Option ℕ) (q : Place) → IsPlaceOf k.place (slice_get ks n) → IsNamed ks name q → IsNamed (set ks n k) name q
named_kept ks n k None q h l = tt
named_kept ks n k (Some j) q h l = place_kept ks n j k q h l

pub names_kept : (ks : List Known) (n : ℕ) (k : Known) (fs : List Frame) → IsPlaceOf k.place (slice_get ks n) → AreNamed ks fs → AreNamed (set ks n k) fs
names_kept ks n k [] h l = tt
names_kept ks n k (waiting o ∷ fs) h l = (named_kept ks n k o.entry.named o.entry.begin h l.0, names_kept ks n k fs h l.1)
names_kept ks n k (forked b ∷ fs) h l = names_kept ks n k fs h l

module _ (g : Game) where
  pub known_length : (ns : List Named) (boxes : List Box) → AreKnown g ns boxes → length (known_of g ns boxes) ≡ length ns
  known_length [] [] h = refl
  known_length [] (box ∷ boxes) h = refl
  known_length (n ∷ ns) [] h = absurd h
  known_length (n ∷ ns) (box ∷ boxes) h = let i = known_length ns boxes h.3 in omega (arith, i)

  -- the n-th has come to t
  pub known_set : (ns : List Named) (boxes : List Box) (n : ℕ) (nm : Named) (t : Told) (p : Place) (v : Verdict) → AreKnown g ns boxes → nm ≡ slice_index_or ns n nm → verdict_of t.found t.vector.items ≡ v → IsPlaceOf p (slice_get (known_of g ns boxes) n) →
      set (known_of g ns boxes) n (record { place = p; verdict = Some v }) ≡ known_of g (set ns n (record { spot = nm.spot; told = Some t })) boxes
  known_set [] [] n nm t p v h e f l = absurd l
  known_set [] (box ∷ boxes) n nm t p v h e f l = absurd h
  known_set (x ∷ ns) [] n nm t p v h e f l = absurd h
  known_set (x ∷ ns) (box ∷ boxes) zero nm t p v h e f l =
      ap (λ k. k ∷ known_of g ns boxes) (ap (λ q. let k : Known = record { place = q; verdict = Some v } in k) (sym l ∙ ap (λ (y : Named). place_at g y.spot box) (sym e)) ∙ ap (λ w. let k : Known = record { place = place_at g nm.spot box; verdict = Some w } in k) (sym f))
  known_set (x ∷ ns) (box ∷ boxes) (suc n) nm t p v h e f l = ap (λ ks. record { place = place_at g x.spot box; verdict = told_verdict x.told } ∷ ks) (known_set ns boxes n nm t p v h.3 e f l)

  pub kept_set : (ns : List Named) (boxes : List Box) (n : ℕ) (nm : Named) (t : Told) (p : Place) (v : Verdict) → AreKnown g ns boxes → nm ≡ slice_index_or ns n nm → verdict_of t.found t.vector.items ≡ v → IsPlaceOf p (slice_get (known_of g ns boxes) n) →
      IsLong g p.number v → AreKnown g (set ns n (record { spot = nm.spot; told = Some t })) boxes
  kept_set [] [] n nm t p v h e f l long = h
  kept_set [] (box ∷ boxes) n nm t p v h e f l long = absurd h
  kept_set (x ∷ ns) [] n nm t p v h e f l long = absurd h
  kept_set (x ∷ ns) (box ∷ boxes) zero nm t p v h e f l long =
      let spot : x.spot ≡ nm.spot = ap (λ (y : Named). y.spot) (sym e) in
      let number : p.number ≡ nm.spot.number = ap (λ (q : Place). q.number) (sym l) ∙ ap (λ (s : Spot). s.number) spot in
      (subst (λ (s : Spot). s.number ≤ length g.scopes) spot h.0, h.1, subst (λ i. IsLong g i (verdict_of t.found t.vector.items)) number (subst (IsLong g p.number) (sym f) long), h.3)
  kept_set (x ∷ ns) (box ∷ boxes) (suc n) nm t p v h e f l long = (h.0, h.1, h.2, kept_set ns boxes n nm t p v h.3 e f l long)

-- ---- what a node has come to, where it is named
pub settles : (m : Nest) (e : Entry) (n : ℕ) (nm : Named) (told : Told) → e.named ≡ Some n → nm ≡ slice_index_or m.named.items n nm → verdict_of told.found told.vector.items ≡ verdict_of m.found (out_of m.joins) →
    (us : List Given) (boxes : List Box) (v : Verdict) (d : Ledger) (t : EntryTold) → t ≡ entry_told (game_of m) m.remains e → IsOver m e us boxes v d →
    IsOver (record m { named = with_item m.named n (record { spot = nm.spot; told = Some told }) }) e us boxes v (record d { known = known_settled t v d.known })
settles m e n nm told named at found us boxes v d t is h =
    let g = game_of m in
    let p = (entry_told g m.remains e).begin in
    let k = h.node.keeps in
    let begun : IsPlaceOf p (slice_get d.known n) = subst (λ x. IsNamed d.known x p) named h.node.named in
    let place : IsPlaceOf p (slice_get (known_of g m.named.items boxes) n) = subst (λ ks. IsPlaceOf p (slice_get ks n)) k.known begun in
    let here : verdict_of told.found told.vector.items ≡ v = found ∙ sym h.verdict in
    let now : Known = record { place = p; verdict = Some v } in
    let known_is : known_settled t v d.known ≡ set d.known n now =
    ap (λ (x : EntryTold). known_settled x v d.known) is ∙ ap (λ x. known_settled (record (entry_told g m.remains e) { named = x }) v d.known) named in
    subst (λ ks. IsOver (record m { named = with_item m.named n (record { spot = nm.spot; told = Some told }) }) e us boxes v (record d { known = ks })) (sym known_is)
    (record {
      node = record {
        keeps = record {
          made = record { joined = k.made.joined; lists = k.made.lists; values = k.made.values; numbers = k.made.numbers; tallies = k.made.tallies };
          given = k.given;
          known = ap (λ ks. set ks n now) k.known ∙ known_set g m.named.items boxes n nm told p v k.kept at here place;
          kept = kept_set g m.named.items boxes n nm told p v k.kept at here place h.long;
          names = names_kept d.known n now d.frames begun k.names;
          turns = k.turns;
          unfinished = k.unfinished;
        };
        entry = h.node.entry;
        here = h.node.here;
        named = named_kept d.known n now e.named p begun h.node.named;
        frames = h.node.frames;
        below = h.node.below;
      };
      verdict = h.verdict;
      long = h.long;
    })

-- one without a name leaves all as it is
pub settles_none : (m : Nest) (e : Entry) → e.named ≡ None → (us : List Given) (boxes : List Box) (v : Verdict) (d : Ledger) (t : EntryTold) → t ≡ entry_told (game_of m) m.remains e → IsOver m e us boxes v d →
    IsOver m e us boxes v (record d { known = known_settled t v d.known })
settles_none m e named us boxes v d t is h =
    let known_is : known_settled t v d.known ≡ d.known =
    ap (λ (x : EntryTold). known_settled x v d.known) is ∙ ap (λ x. known_settled (record (entry_told (game_of m) m.remains e) { named = x }) v d.known) named in
    subst (λ ks. IsOver m e us boxes v (record d { known = ks })) (sym known_is) h

-- its number is one of theirs
pub named_within : (m : Nest) (e : Entry) (n : ℕ) → e.named ≡ Some n → (us : List Given) (boxes : List Box) (v : Verdict) (d : Ledger) → IsOver m e us boxes v d → n < length m.named.items
named_within m e n named us boxes v d h =
    let g = game_of m in
    let p = (entry_told g m.remains e).begin in
    let k = h.node.keeps in
    let begun : IsPlaceOf p (slice_get d.known n) = subst (λ x. IsNamed d.known x p) named h.node.named in
    let place : IsPlaceOf p (slice_get (known_of g m.named.items boxes) n) = subst (λ ks. IsPlaceOf p (slice_get ks n)) k.known begun in
    subst (λ a. n < a) (known_length g m.named.items boxes k.kept) (known_within (known_of g m.named.items boxes) n p place)

-- ---- which is the n-th
pub found_at : (ns : List Named) (n : ℕ) (x : Named) → n < length ns → x ≡ slice_index_or ns n x → Some x ≡ slice_get ns n
found_at [] n x l e = absurd (omega (arith, l))
found_at (y ∷ ns) zero x l e = ap Some e
found_at (y ∷ ns) (suc n) x l e = found_at ns n x (omega (arith, l)) e

pub none_at : (ns : List Named) (n : ℕ) → length ns ≤ n → None ≡ slice_get ns n
none_at [] n l = refl
none_at (y ∷ ns) zero l = absurd (omega (arith, l))
none_at (y ∷ ns) (suc n) l = none_at ns n (omega (arith, l))

-- ---- what the named nodes have come to, as the ledger has it
module _ (g : Game) where
  some_verdict : (t : Option Told) (b : Bool) → (is_some t && b) ≡ (is_some (told_verdict t) && b)
  some_verdict None b = refl
  some_verdict (Some t) b = refl

  pub told_known : (ns : List Named) (boxes : List Box) (n i : ℕ) → AreKnown g ns boxes → is_told_in (slice_get ns n) i ≡ is_told_at (slice_get (known_of g ns boxes) n) i
  told_known [] boxes n i h = refl
  told_known (x ∷ ns) [] n i h = absurd h
  told_known (x ∷ ns) (box ∷ boxes) zero i h = some_verdict x.told (x.spot.number == i)
  told_known (x ∷ ns) (box ∷ boxes) (suc n) i h = told_known ns boxes n i h.3

  same_number : (b : Bool) (j i : ℕ) → (b && (j == i)) ≡ true → j ≡ i
  same_number true j i e = grind (arith, nat_tests)
  same_number false j i e = cc

  pub told_is : (ns : List Named) (boxes : List Box) (n i : ℕ) (nm : Named) (t : Told) → AreKnown g ns boxes → nm ≡ slice_index_or ns n nm → nm.told ≡ Some t → is_told_in (slice_get ns n) i ≡ true →
      (verdict_known (slice_get (known_of g ns boxes) n) ≡ verdict_of t.found t.vector.items) × IsLong g i (verdict_of t.found t.vector.items)
  told_is [] boxes n i nm t h at told e = cc
  told_is (x ∷ ns) [] n i nm t h at told e = absurd h
  told_is (x ∷ ns) (box ∷ boxes) zero i nm t h at told e =
      let here : x.told ≡ Some t = ap (λ (y : Named). y.told) (sym at) ∙ told in
      (ap (λ o. or_unknown (told_verdict o)) here, subst (λ j. IsLong g j (verdict_of t.found t.vector.items)) (same_number (is_some x.told) x.spot.number i e) (subst (IsLongTold g x.spot.number) here h.2))
  told_is (x ∷ ns) (box ∷ boxes) (suc n) i nm t h at told e = told_is ns boxes n i nm t h.3 at told e

  -- ---- one more
  pub known_more : (ns : List Named) (boxes : List Box) (nm : Named) (box : Box) → AreKnown g ns boxes → known_of g ns boxes ++ record { place = place_at g nm.spot box; verdict = told_verdict nm.told } ∷ [] ≡ known_of g (ns ++ nm ∷ []) (boxes ++ box ∷ [])
  known_more [] [] nm box h = refl
  known_more [] (b ∷ boxes) nm box h = absurd h
  known_more (x ∷ ns) [] nm box h = absurd h
  known_more (x ∷ ns) (b ∷ boxes) nm box h = ap (λ ks. record { place = place_at g x.spot b; verdict = told_verdict x.told } ∷ ks) (known_more ns boxes nm box h.3)

  pub kept_more : (ns : List Named) (boxes : List Box) (nm : Named) (box : Box) → AreKnown g ns boxes → nm.spot.number ≤ length g.scopes → IsFull g box → IsLongTold g nm.spot.number nm.told → AreKnown g (ns ++ nm ∷ []) (boxes ++ box ∷ [])
  kept_more [] [] nm box h i f l = (i, f, l, tt)
  kept_more [] (b ∷ boxes) nm box h i f l = absurd h
  kept_more (x ∷ ns) [] nm box h i f l = absurd h
  kept_more (x ∷ ns) (b ∷ boxes) nm box h i f l = (h.0, h.1, h.2, kept_more ns boxes nm box h.3 i f l)

place_more : (ks : List Known) (k : Known) (n : ℕ) (p : Place) → IsPlaceOf p (slice_get ks n) → IsPlaceOf p (slice_get (ks ++ k ∷ []) n)
place_more [] k n p h = absurd h
place_more (x ∷ ks) k zero p h = h
place_more (x ∷ ks) k (suc n) p h = place_more ks k n p h

named_more : (ks : List Known) (k : Known) (n : Option ℕ) (p : Place) → IsNamed ks n p → IsNamed (ks ++ k ∷ []) n p
named_more ks k None p h = tt
named_more ks k (Some n) p h = place_more ks k n p h

pub names_more : (ks : List Known) (k : Known) (fs : List Frame) → AreNamed ks fs → AreNamed (ks ++ k ∷ []) fs
names_more ks k [] h = tt
names_more ks k (waiting o ∷ fs) h = (named_more ks k o.entry.named o.entry.begin h.0, names_more ks k fs h.1)
names_more ks k (forked b ∷ fs) h = names_more ks k fs h

pub last_named : (ks : List Known) (k : Known) (n : ℕ) → n ≡ length ks → IsNamed (ks ++ k ∷ []) (Some n) k.place
last_named ks k n e = subst (λ j. IsNamed (ks ++ k ∷ []) (Some j) k.place) (sym e) (go ks)
  where
    go : (ks : List Known) → IsPlaceOf k.place (slice_get (ks ++ k ∷ []) (length ks))
    go [] = refl
    go (x ∷ ks) = go ks

-- ---- the same node with another name or horizon
pub frames_renamed : (g : Game) (s : Held) (js : Joins) (ts : List Tally) (e : Entry) (h named : Option ℕ) (n : ℕ) (os : List Open) (fs : List Frame) → IsBelow fs → AreFrames g s js ts e n os fs → AreFrames g s js ts (record e { horizon = h; named = named }) n os fs
frames_renamed g s js ts e h named n [] [] b f = tt
frames_renamed g s js ts e h named n [] (x ∷ fs) b f = absurd f
frames_renamed g s js ts e h named n (Waiting up ∷ os) [] b f = absurd f
frames_renamed g s js ts e h named n (Waiting up ∷ os) (waiting o ∷ fs) b f = f
frames_renamed g s js ts e h named n (Waiting up ∷ os) (forked k ∷ fs) b f = absurd f
frames_renamed g s js ts e h named n (Forked k ∷ os) [] b f = absurd f
frames_renamed g s js ts e h named n (Forked k ∷ os) (waiting o ∷ fs) b f = absurd f
frames_renamed g s js ts e h named n (Forked k ∷ os) (forked c ∷ fs) b f = absurd b
