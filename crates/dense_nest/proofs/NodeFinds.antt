-- What becomes of a node that is due.
use Rattle.std.proofs.Common.{◌≡◌, ℕ, zero, suc, ◌<◌, ◌≤◌, true, false, None, Some, List, [], ◌∷◌, ◌++◌, length, drop, take, slice_get, refl, sym, ap, ◌∙◌, subst, arith, Vec, set, length-set}
use Rattle.std.specs.Prelude.{OnOk, slice_index_or}
use Rattle.std.specs.Global.{Global}
use Rattle.std.specs.Vec.{with_item}
use Rattle.qc_model.specs.declared.problem.Scope.{Scope}
use Rattle.qc_model.specs.Content.{Game}
use Rattle.qc_model.specs.Demands.{demands}
use Rattle.qc_model.specs.Domains.{Box}
use Rattle.qc_model.specs.Verdict.{Verdict, lost, exact}
use Rattle.qc_model.specs.ForallVerdict.{goal_verdict}
use Rattle.model_arguments.specs.Asked.{is_box_of}
use Rattle.joins.specs.Joins.{game_of as game_joined, StandsAt, KeepsOthers, KeepsAll, IsLong, out_of}
use Rattle.joins.specs.Seen.{verdict_of}
use Rattle.joins.specs.Verdicts.{stuck_of}
use Rattle.joins.specs.declared.joins.Joins.{Joins}
use Rattle.joins.specs.declared.leaves.Found.{Found}
use Rattle.joins.proofs.Lengths.{stuck_long, goal_long}
use Rattle.fd_store.specs.Held.{trail_len}
use Rattle.proof_tree.specs.Place.{position}
use Rattle.dense_tree.specs.Tree.{Given}
use Rattle.dense_tree.specs.Place.{Setting, Place}
use Rattle.dense_tree.specs.Verdicts.{loosened, stuck_comes_to}
use Rattle.dense_ledger.specs.Ledger.{Ledger, Entry as EntryTold, setting_of, node_ended, begun}
use Rattle.dense_nest.specs.declared.place.Entry.{Entry}
use Rattle.dense_nest.specs.declared.nest.Nest.{Nest}
use Rattle.dense_nest.specs.Places.{IsFull, entry_told, place_at}
use Rattle.dense_nest.specs.Telling.{game_of, IsMade, IsNode, IsPart, TellsOf, AreKnown, known_of}
use Rattle.dense_nest.specs.declared.nodes.Reached.TheVariants.{Holds}
use Rattle.dense_nest.specs.Goes.{IsOver, Finds, NodeGoes, goal_of, is_told_in, verdict_known}
use Rattle.dense_nest.specs.Ends.{given_to, IsHere}
use Rattle.std.specs.declared.result.Result.{Result}
use Rattle.std.specs.declared.alloc.AllocError.{AllocError}
use Rattle.std.proofs.lemmas.Result.{IfOk-weaker}
use Rattle.joins.specs.declared.leaves.Found.TheVariants.{Exact as FoundExact}
use Rattle.joins.proofs.DemandSteps.{demands_short}
use Rattle.dense_tree.specs.Read.{Known}
use Rattle.dense_ledger.specs.Ledger.{Due as DueTold}
use Rattle.dense_nest.specs.declared.place.Due.{Due}
use Rattle.dense_nest.specs.declared.told.Named.{Named}
use Rattle.dense_nest.specs.declared.told.Told.{Told}
use Rattle.dense_nest.specs.declared.told.Tally.{Tally}
use Rattle.dense_nest.specs.Tallies.{IsTally, HasTally}
use Rattle.dense_nest.proofs.Frames.{frames_same}
use Rattle.dense_nest.proofs.Tallying.{set_at, set_other}
use Rattle.dense_nest.proofs.Naming.{known_length, known_more, kept_more, names_more, last_named, frames_renamed, told_is}
use Rattle.dense_nest.proofs.Finishing.{still_node, with_values, with_joins, with_found}

-- what node_over ensures
abbrev pub OverGoes : Nest → Entry → Nest → Type 0
OverGoes m e n =
    (us : List Given) (boxes : List Box) (v : Verdict) (d : Ledger) → IsOver m e us boxes v d →
    TellsOf n us boxes (Some (node_ended (setting_of (game_of m) d) d (entry_told (game_of m) m.remains e) (loosened (setting_of (game_of m) d) (entry_told (game_of m) m.remains e).place v) d.frames))

-- what was found, and then that the node is over
pub found_goes : (m m1 n : Nest) (e : Entry) (f : List Given → Ledger → Verdict) → m1.remains ≡ m.remains → game_of m1 ≡ game_of m → Finds m e m1 f → OverGoes m1 e n →
    NodeGoes m e n (λ d. Some (node_ended (setting_of (game_of m) d) d (entry_told (game_of m) m.remains e) (loosened (setting_of (game_of m) d) (entry_told (game_of m) m.remains e).place (f d.given d)) d.frames))
found_goes m m1 n e f remains same finds goes us boxes d h =
    let told : entry_told (game_of m1) m1.remains e ≡ entry_told (game_of m) m.remains e =
    ap (λ s. entry_told (game_of m1) s e) remains ∙ ap (λ (g : Game). entry_told g m.remains e) same in
    let v : f us d ≡ f d.given d = ap (λ ws. f ws d) (sym h.keeps.given) in
    let there = goes us boxes (f us d) d (finds us boxes d h) in
    subst (λ w. TellsOf n us boxes (Some (node_ended (setting_of (game_of m) d) d (entry_told (game_of m) m.remains e) (loosened (setting_of (game_of m) d) (entry_told (game_of m) m.remains e).place w) d.frames))) v
    (subst (λ (t : EntryTold). TellsOf n us boxes (Some (node_ended (setting_of (game_of m) d) d t (loosened (setting_of (game_of m) d) t.place (f us d)) d.frames))) told
    (subst (λ (g : Game). let s : Setting = record { game = g; given = d.given } in TellsOf n us boxes (Some (node_ended s d (entry_told (game_of m1) m1.remains e) (loosened s (entry_told (game_of m1) m1.remains e).place (f us d)) d.frames))) same there))

pub some_over : (m m1 : Nest) (e : Entry) (f : List Given → Ledger → Verdict) → Finds m e m1 f → (us : List Given) × (boxes : List Box) × (d : Ledger) × IsNode m us boxes e d →
    (us : List Given) × (boxes : List Box) × (v : Verdict) × (d : Ledger) × IsOver m1 e us boxes v d
some_over m m1 e f finds p = (p.0, p.1, f p.0 p.2, p.2, finds p.0 p.1 p.2 p.3)

-- ---- what is found
pub here : (m : Nest) (e : Entry) → (us : List Given) × (boxes : List Box) × (d : Ledger) × IsNode m us boxes e d → IsHere m e.spot.number
here m e p = let h = p.3 in record { made = h.keeps.made; inside = h.entry.inside; box = subst (IsFull (game_of m)) (sym h.here) h.entry.box }

-- with nothing but what was found
pub finds_plain : (m : Nest) (e : Entry) (f : Found) (v : List Given → Ledger → Verdict) →
    ((us : List Given) (boxes : List Box) (d : Ledger) → IsNode m us boxes e d → (v us d ≡ verdict_of f (out_of m.joins)) × IsLong (game_of m) e.spot.number (v us d)) → Finds m e (record m { found = f }) v
finds_plain m e f v found us boxes d h =
    let k = h.keeps.made in
    let x = found us boxes d h in
    record {
      node = still_node m e m.values m.joins f m.own (record { joined = k.joined; lists = k.lists; values = k.values; numbers = k.numbers; tallies = k.tallies }) (λ j xs l s. s) refl us boxes d h;
      verdict = x.0;
      long = x.1;
    }

-- with values read and joins asked
pub finds_joined : (m m1 m2 : Nest) (e : Entry) (js : Joins) (f : Found) (v : List Given → Ledger → Verdict) → m1 ≡ with_values m1.values m → IsMade m1 → m2 ≡ record (with_joins js m1) { found = f } → KeepsOthers e.spot.number m1.joins js → game_joined js ≡ game_joined m1.joins →
    ((us : List Given) (boxes : List Box) (d : Ledger) → IsNode m us boxes e d → (v us d ≡ verdict_of f (out_of js)) × IsLong (game_of m) e.spot.number (v us d)) → Finds m e m2 v
finds_joined m m1 m2 e js f v rest1 made rest2 others same found us boxes d h =
    let x = found us boxes d h in
    let path : m2 ≡ with_found f m.own (with_joins js (with_values m1.values m)) = rest2 ∙ ap (λ (x : Nest). let y : Nest = record (with_joins js x) { found = f } in y) rest1 in
    let kept : KeepsOthers e.spot.number m.joins js = subst (λ (x : Nest). KeepsOthers e.spot.number x.joins js) rest1 others in
    let joined : game_joined js ≡ game_joined m.joins = same ∙ ap (λ (x : Nest). game_joined x.joins) rest1 in
    subst (λ (x : Nest). IsOver x e us boxes (v us d) d) (sym path)
    (record {
      node = still_node m e m1.values js f m.own (subst IsMade rest1 made) (λ j xs l s. kept j xs (λ q. absurd (omega (arith, l, q))) s) joined us boxes d h;
      verdict = x.0;
      long = x.1;
    })

-- ---- stuck
pub stuck_is : (s : Setting) (p : Place) (later : List Scope) → stuck_of later s.game p.list (position s.game p.number p.box) ≡ stuck_comes_to s p later
stuck_is s p [] = refl
stuck_is s p (scope ∷ later) = refl

none_later : (xs : List Scope) (i : ℕ) → length xs ≤ i → drop i xs ≡ []
none_later [] zero l = refl
none_later [] (suc i) l = refl
none_later (x ∷ xs) zero l = absurd (omega (arith, l))
none_later (x ∷ xs) (suc i) l = none_later xs i (omega (arith, l))

pub stuck_at_goal : (s : Setting) (p : Place) (i : ℕ) → length s.game.scopes ≤ i → stuck_comes_to s p (drop i s.game.scopes) ≡ lost
stuck_at_goal s p i l = ap (stuck_comes_to s p) (none_later s.game.scopes i l)

pub stuck_here : (m m1 : Nest) (e : Entry) (js : Joins) (f : Found) (count : ℕ) → m1 ≡ with_values m1.values m → IsMade m1 → take count m1.values.items ≡ position (game_of m) e.spot.number m.remains.box →
    KeepsOthers e.spot.number m1.joins js → game_joined js ≡ game_joined m1.joins →
    verdict_of f (out_of js) ≡ stuck_of (drop e.spot.number (game_joined m1.joins).scopes) (game_joined m1.joins) (demands (game_joined m1.joins) e.spot.number) (take count m1.values.items) →
    Finds m e (record (with_joins js m1) { found = f }) (λ us d. stuck_comes_to (given_to m us) (entry_told (game_of m) m.remains e).place (entry_told (game_of m) m.remains e).place.later)
stuck_here m m1 e js f count rest1 made read others same verdict =
    finds_joined m m1 (record (with_joins js m1) { found = f }) e js f (λ us d. stuck_comes_to (given_to m us) (entry_told (game_of m) m.remains e).place (entry_told (game_of m) m.remains e).place.later) rest1 made refl others same
    (λ us boxes d h.
    let g = game_of m in
    let i = e.spot.number in
    let p = (entry_told g m.remains e).place in
    let joined : game_joined m1.joins ≡ g = ap (λ (x : Nest). game_joined x.joins) rest1 ∙ h.keeps.made.joined in
    let is : stuck_of (drop i g.scopes) g (demands g i) (position g i p.box) ≡ stuck_comes_to (given_to m us) p p.later = stuck_is (given_to m us) p (drop i g.scopes) in
    let a : take count m1.values.items ≡ position g i p.box = read ∙ ap (position g i) h.here in
    let all : verdict_of f (out_of js) ≡ stuck_comes_to (given_to m us) p p.later =
    verdict ∙ (ap (λ (u : Game). stuck_of (drop i u.scopes) u (demands u i) (take count m1.values.items)) joined ∙ (ap (stuck_of (drop i g.scopes) g (demands g i)) a ∙ is)) in
    (sym all, subst (IsLong g i) is (stuck_long (drop i g.scopes) g (demands g i) (position g i p.box))))

pub goal_here : (m m1 : Nest) (e : Entry) (js : Joins) (f : Found) (count : ℕ) → length (game_of m).scopes ≤ e.spot.number → m1 ≡ with_values m1.values m → IsMade m1 → take count m1.values.items ≡ position (game_of m) e.spot.number m.remains.box →
    KeepsAll m1.joins js → game_joined js ≡ game_joined m1.joins →
    verdict_of f (out_of js) ≡ goal_verdict (game_joined m1.joins) true (demands (game_joined m1.joins) (length (game_joined m1.joins).scopes)) (take count m1.values.items) →
    Finds m e (record (with_joins js m1) { found = f }) (λ us d. goal_of (entry_told (game_of m) m.remains e).place (game_of m) Holds)
goal_here m m1 e js f count last rest1 made read all same verdict =
    finds_joined m m1 (record (with_joins js m1) { found = f }) e js f (λ us d. goal_of (entry_told (game_of m) m.remains e).place (game_of m) Holds) rest1 made refl (λ j xs n s. all j xs s) same
    (λ us boxes d h.
    let g = game_of m in
    let i = e.spot.number in
    let p = (entry_told g m.remains e).place in
    let joined : game_joined m1.joins ≡ g = ap (λ (x : Nest). game_joined x.joins) rest1 ∙ h.keeps.made.joined in
    let inside = h.entry.inside in
    let number : length g.scopes ≡ i = omega (arith, inside, last) in
    let a : take count m1.values.items ≡ position g i p.box = read ∙ ap (position g i) h.here in
    let is : verdict_of f (out_of js) ≡ goal_verdict g true (demands g i) (position g i p.box) =
    verdict ∙ (ap (λ (u : Game). goal_verdict u true (demands u (length u.scopes)) (take count m1.values.items)) joined ∙ (ap (λ j. goal_verdict g true (demands g j) (take count m1.values.items)) number ∙ ap (goal_verdict g true (demands g i)) a)) in
    (sym is, goal_long g true (demands g i) (position g i p.box)))

pub over_goes : (r : Result (Unit {0}) AllocError) (m m1 n : Nest) (e : Entry) (f : List Given → Ledger → Verdict) → m1.remains ≡ m.remains → game_of m1 ≡ game_of m → Finds m e m1 f → OnOk r (OverGoes m1 e n) →
    OnOk r (NodeGoes m e n (λ d. Some (node_ended (setting_of (game_of m) d) d (entry_told (game_of m) m.remains e) (loosened (setting_of (game_of m) d) (entry_told (game_of m) m.remains e).place (f d.given d)) d.frames)))
over_goes r m m1 n e f remains same finds h =
    IfOk-weaker r (λ x. OverGoes m1 e n) (λ x. NodeGoes m e n (λ d. Some (node_ended (setting_of (game_of m) d) d (entry_told (game_of m) m.remains e) (loosened (setting_of (game_of m) d) (entry_told (game_of m) m.remains e).place (f d.given d)) d.frames)))
    (λ x goes. found_goes m m1 n e f remains same finds goes) h

-- ---- a horizon, and a name
pub look_here : (m : Nest) (e : Entry) (k : ℕ) (u : Due) (v : DueTold) → k ≤ length (game_of m).scopes → (us : List Given) (boxes : List Box) (d : Ledger) → IsNode m us boxes e d →
    IsNode (record m { due = u }) us boxes (record e { horizon = Some k }) (record d { due = v })
look_here m e k u v inside us boxes d h =
    let c = h.keeps in
    record {
      keeps = record {
        made = record { joined = c.made.joined; lists = c.made.lists; values = c.made.values; numbers = c.made.numbers; tallies = c.made.tallies };
        given = c.given;
        known = c.known;
        kept = c.kept;
        names = c.names;
        turns = c.turns;
        unfinished = c.unfinished;
      };
      entry = record { inside = h.entry.inside; above = h.entry.above; horizon = inside; at = h.entry.at; box = h.entry.box };
      here = h.here;
      named = h.named;
      frames = frames_renamed (game_of m) m.remains m.joins m.tallies.items e (Some k) e.named e.mark.at m.open d.frames h.below h.frames;
      below = h.below;
    }

pub name_here : (m : Nest) (e : Entry) (ns : Vec Named Global) (count : ℕ) (u : Due) (v : DueTold) → ns.items ≡ m.named.items ++ record { spot = e.spot; told = None } ∷ [] → count ≡ length m.named.items →
    (us : List Given) (boxes : List Box) (d : Ledger) → IsNode m us boxes e d →
    IsNode (record m { named = ns; due = u }) us (boxes ++ m.remains.box ∷ []) (record e { named = Some count }) (record d { due = v; known = d.known ++ record { place = (entry_told (game_of m) m.remains e).begin; verdict = None } ∷ [] })
name_here m e ns count u v items size us boxes d h =
    let g = game_of m in
    let c = h.keeps in
    let nm : Named = record { spot = e.spot; told = None } in
    let box = m.remains.box in
    let k : Known = record { place = (entry_told g m.remains e).begin; verdict = None } in
    let ledger : d.known ++ k ∷ [] ≡ known_of g ns.items (boxes ++ box ∷ []) =
    ap (λ ks. ks ++ k ∷ []) c.known
    ∙ (ap (λ b. let x : Known = record { place = place_at g e.spot b; verdict = None } in known_of g m.named.items boxes ++ x ∷ []) (sym h.here)
    ∙ (known_more g m.named.items boxes nm box c.kept ∙ ap (λ xs. known_of g xs (boxes ++ box ∷ [])) (sym items))) in
    let full : IsFull g box = subst (IsFull g) (sym h.here) h.entry.box in
    record {
      keeps = record {
        made = record { joined = c.made.joined; lists = c.made.lists; values = c.made.values; numbers = c.made.numbers; tallies = c.made.tallies };
        given = c.given;
        known = ledger;
        kept = subst (λ xs. AreKnown g xs (boxes ++ box ∷ [])) (sym items) (kept_more g m.named.items boxes nm box c.kept h.entry.inside full tt);
        names = names_more d.known k d.frames c.names;
        turns = c.turns;
        unfinished = c.unfinished;
      };
      entry = record { inside = h.entry.inside; above = h.entry.above; horizon = h.entry.horizon; at = h.entry.at; box = h.entry.box };
      here = h.here;
      named = last_named d.known k count (size ∙ (sym (known_length g m.named.items boxes c.kept) ∙ sym (ap length c.known)));
      frames = frames_renamed g m.remains m.joins m.tallies.items e e.horizon (Some count) e.mark.at m.open d.frames h.below h.frames;
      below = h.below;
    }

pub counted : (m : Nest) (e : Entry) (us : List Given) (boxes : List Box) (d : Ledger) → IsNode m us boxes e d → length d.known ≡ length m.named.items
counted m e us boxes d h = ap length h.keeps.known ∙ known_length (game_of m) m.named.items boxes h.keeps.kept

-- ---- what was told
pub told_node : (m : Nest) (e : Entry) (n : ℕ) (nm : Named) (t : Told) → nm ≡ slice_index_or m.named.items n nm → nm.told ≡ Some t → is_told_in (slice_get m.named.items n) e.spot.number ≡ true →
    (us : List Given) (boxes : List Box) (d : Ledger) → IsNode m us boxes e d → (verdict_known (slice_get d.known n) ≡ verdict_of t.found t.vector.items) × IsLong (game_of m) e.spot.number (verdict_known (slice_get d.known n))
told_node m e n nm t at told asked us boxes d h =
    let g = game_of m in
    let x = told_is g m.named.items boxes n e.spot.number nm t h.keeps.kept at told asked in
    let v : verdict_known (slice_get d.known n) ≡ verdict_of t.found t.vector.items = ap (λ ks. verdict_known (slice_get ks n)) h.keeps.known ∙ x.0 in
    (v, subst (IsLong g e.spot.number) (sym v) x.1)

-- with nothing but what was found, and joins that hand out its vector
pub told_plain : (m : Nest) (e : Entry) (n : ℕ) (nm : Named) (t : Told) (f : Found) → nm ≡ slice_index_or m.named.items n nm → nm.told ≡ Some t → is_told_in (slice_get m.named.items n) e.spot.number ≡ true →
    verdict_of t.found t.vector.items ≡ verdict_of f (out_of m.joins) → Finds m e (record m { found = f }) (λ us d. verdict_known (slice_get d.known n))
told_plain m e n nm t f at told asked found =
    finds_plain m e f (λ us d. verdict_known (slice_get d.known n))
    (λ us boxes d h. let x = told_node m e n nm t at told asked us boxes d h in (x.0 ∙ found, x.1))

pub told_handed : (m : Nest) (e : Entry) (n : ℕ) (nm : Named) (t : Told) (js : Joins) → nm ≡ slice_index_or m.named.items n nm → nm.told ≡ Some t → is_told_in (slice_get m.named.items n) e.spot.number ≡ true → t.found ≡ FoundExact →
    KeepsAll m.joins js → game_joined js ≡ game_joined m.joins → out_of js ≡ t.vector.items → IsMade m → Finds m e (record m { joins = js; found = FoundExact }) (λ us d. verdict_known (slice_get d.known n))
told_handed m e n nm t js at told asked is all same out made =
    finds_joined m m (record m { joins = js; found = FoundExact }) e js FoundExact (λ us d. verdict_known (slice_get d.known n)) refl made refl (λ j xs q s. all j xs s) same
    (λ us boxes d h.
    let x = told_node m e n nm t at told asked us boxes d h in
    (x.0 ∙ (ap (λ f. verdict_of f t.vector.items) is ∙ ap exact (sym out)), x.1))

pub told_short : (m : Nest) (e : Entry) (n : ℕ) (nm : Named) (t : Told) → nm ≡ slice_index_or m.named.items n nm → nm.told ≡ Some t → is_told_in (slice_get m.named.items n) e.spot.number ≡ true → t.found ≡ FoundExact →
    (us : List Given) (boxes : List Box) (d : Ledger) → IsNode m us boxes e d → length t.vector.items ≤ length (game_of m).scopes
told_short m e n nm t at told asked is us boxes d h =
    let g = game_of m in
    let x = told_node m e n nm t at told asked us boxes d h in
    let long : length t.vector.items ≡ length (demands g e.spot.number) = subst (λ f. IsLong g e.spot.number (verdict_of f t.vector.items)) is (subst (IsLong g e.spot.number) x.0 x.1) in
    let short = demands_short g e.spot.number in
    let inside = h.entry.inside in
    omega (arith, long, short, inside)

-- ---- the scope's own tree begins
pub begins : (m : Nest) (e : Entry) (js : Joins) → e.spot.number < length (game_of m).scopes → StandsAt js e.spot.number [] → KeepsOthers e.spot.number m.joins js → game_joined js ≡ game_joined m.joins →
    (us : List Given) (boxes : List Box) (d : Ledger) → IsNode m us boxes e d →
    IsPart (record m { entry = e; joins = js; tallies = with_item m.tallies e.spot.number (record { size = 0; best = None; mixed = false }) }) us boxes (begun d (entry_told (game_of m) m.remains e))
begins m e js scope stands others same us boxes d h =
    let g = game_of m in
    let i = e.spot.number in
    let c = h.keeps in
    let none : Tally = record { size = 0; best = None; mixed = false } in
    let inside : i < length m.tallies.items = subst (λ n. i < n) (sym c.made.tallies) scope in
    let first : IsTally (demands g i) [] [] none = record { few = omega arith; sizes = λ k. omega arith; best = refl; mixed = refl } in
    record {
      keeps = record {
        made = record { joined = same ∙ c.made.joined; lists = c.made.lists; values = c.made.values; numbers = c.made.numbers; tallies = length-set m.tallies.items i none ∙ c.made.tallies };
        given = c.given;
        known = c.known;
        kept = c.kept;
        names = c.names;
        turns = c.turns;
        unfinished = c.unfinished;
      };
      entry = h.entry;
      own = record { entry = refl; scope = scope; stands = stands; long = tt; tally = subst (HasTally (demands g i) [] []) (sym (set_at m.tallies.items i none inside)) first };
      named = h.named;
      frames = frames_same g m.remains m.remains m.joins js m.tallies.items (set m.tallies.items i none) e e.mark.at (trail_len m.remains) m.open d.frames h.entry.at (λ k l. refl)
          (λ j xs l s. others j xs (λ q. absurd (omega (arith, l, q))) s) (λ j l. set_other m.tallies.items i j none (λ q. absurd (omega (arith, l, q)))) (omega arith) h.frames;
      box = subst (λ b. is_box_of g b ≡ true) (sym h.here) h.entry.box.declared;
    }
