-- What is told once the node below is due, or a branch is opened.
use Rattle.std.proofs.Common.{◌≡◌, ℕ, zero, suc, ◌+◌, ◌<◌, Bool, true, false, not, ◌&&◌, ◌||◌, Option, None, List, [], ◌∷◌, length, take, drop, refl, sym, ap, ◌∙◌, subst, arith}
use Rattle.std.specs.Prelude.{negsuc}
use Rattle.std.specs.List.{list_all}
use Rattle.qc_model.specs.declared.problem.Condition.{Condition}
use Rattle.qc_model.specs.declared.problem.Scope.{Scope}
use Rattle.qc_model.specs.declared.problem.VarId.{VarId}
use Rattle.qc_model.specs.Content.{Game}
use Rattle.qc_model.specs.Demands.{demands, demands_from}
use Rattle.qc_model.specs.Domains.{Box, values_left, has_empty}
use Rattle.qc_model.specs.Valid.{is_number}
use Rattle.proof_tree.specs.Place.{list_after, next_scopes, is_fixed}
use Rattle.fd_store.specs.declared.store.Mark.{Mark}
use Rattle.fd_store.specs.Held.{trail_len, past_box, values_from}
use Rattle.box_laws.proofs.Firsts.{from_least}
use Rattle.box_laws.proofs.Trails.{past_now}
use Rattle.dense_tree.specs.Tree.{Given}
use Rattle.dense_tree.specs.Place.{Place, place_below, is_players}
use Rattle.dense_ledger.specs.Ledger.{Ledger, Fork as ForkTold, setting_of, entry_at, node_due, case_due, waiting, forked}
use Rattle.dense_nest.specs.declared.place.Entry.{Entry}
use Rattle.dense_nest.specs.declared.place.Fork.{Fork}
use Rattle.dense_nest.specs.declared.place.Open.{Open}
use Rattle.dense_nest.specs.declared.place.Open.TheVariants.{Waiting, Forked}
use Rattle.dense_nest.specs.declared.place.Due.TheVariants as due
use Rattle.dense_nest.specs.declared.nest.Nest.{Nest}
use Rattle.dense_nest.specs.Places.{place_at, part_spot, fork_told, IsFull, IsEntry}
use Rattle.dense_nest.specs.Telling.{game_of, here_in, AreFrames, IsBack, IsPart, Tells}

-- ---- the scope below
list_step : (g : Game) (ss : List Scope) (n : ℕ) (d : List Condition) → n < length ss → list_after g (drop n ss) (demands_from g (take n ss) d) ≡ demands_from g (take (suc n) ss) d
list_step g [] n d l = absurd (omega arith)
list_step g (s ∷ ss) zero d l = refl
list_step g (s ∷ ss) (suc n) d l = list_step g ss n _ (omega arith)

next_drop : (ss : List Scope) (n : ℕ) → next_scopes (drop n ss) ≡ drop (suc n) ss
next_drop [] zero = refl
next_drop [] (suc n) = refl
next_drop (s ∷ ss) zero = refl
next_drop (s ∷ ss) (suc n) = next_drop ss n

place_with : Option ℕ → ℕ → List Scope → List Condition → Box → Bool → Bool → Place
place_with h n later list box loose bounded = record { number = n; later = later; list = list; box = box; horizon = h; loose = loose; bounded = bounded }

place_same : (h : Option ℕ) (n k : ℕ) (ls ms : List Scope) (ds es : List Condition) (b c : Box) (l m s t : Bool) → n ≡ k → ls ≡ ms → ds ≡ es → b ≡ c → l ≡ m → s ≡ t → place_with h n ls ds b l s ≡ place_with h k ms es c m t
place_same h n k ls ms ds es b c l m s t e f i j o p = cc

-- ---- parts
module _ (m : Nest) (us : List Given) (boxes : List Box) (d : Ledger) (p : IsPart m us boxes d) (opens : List Open) (mark : Mark) (at : mark.at ≡ trail_len m.remains) (full : has_empty m.remains.box ≡ false) where
  abbrev g : Game
  g = game_of m

  now : past_box m.remains mark.at ≡ m.remains.box
  now = past_now m.remains mark.at at

  full_now : IsFull g (past_box m.remains mark.at)
  full_now = subst (IsFull g) (sym now) (record { declared = p.box; full = full })

  -- the marks of what is open come before this one
  frames_now : AreFrames g m.remains m.joins m.tallies.items m.entry mark.at m.open d.frames
  frames_now = subst (λ n. AreFrames g m.remains m.joins m.tallies.items m.entry n m.open d.frames) (sym at) p.frames

  entry_now : IsEntry g m.remains mark.at m.entry
  entry_now = subst (λ n. IsEntry g m.remains n m.entry) (sym at) p.entry

  -- the node below
  module _ (e : opens ≡ Waiting m.entry ∷ m.open) (bounded loose below chosen : Bool) (is_loose : loose ≡ (m.entry.spot.loose || not (is_fixed g m.entry.spot.number m.remains.box))) (is_below : below ≡ (bounded && is_players (here_in m bounded))) where
    abbrev entered : Entry
    entered = record { spot = record { number = m.entry.spot.number + 1; horizon = m.entry.horizon; loose = loose; bounded = below }; horizon = m.entry.horizon; mark = mark; named = None; chosen = chosen }

    abbrev ledger_below : Ledger
    ledger_below = record d { due = node_due (entry_at (place_below (setting_of g d) (here_in m bounded)) chosen); frames = waiting d.own ∷ d.frames }

    more : m.entry.spot.number + 1 ≡ suc m.entry.spot.number
    more = omega arith

    place_told : place_below (setting_of g d) (here_in m bounded) ≡ place_at g entered.spot (past_box m.remains mark.at)
    unfolding place_with
    place_told =
        let n = m.entry.spot.number in
        place_same m.entry.horizon (suc n) (n + 1) (next_scopes (drop n g.scopes)) (drop (n + 1) g.scopes) (list_after g (drop n g.scopes) (demands g n)) (demands g (n + 1)) m.remains.box (past_box m.remains mark.at)
        (m.entry.spot.loose || not (is_fixed g n m.remains.box)) loose (bounded && is_players (here_in m bounded)) below
        (sym more) (next_drop g.scopes n ∙ ap (λ k. drop k g.scopes) (sym more)) (list_step g g.scopes n [] p.own.scope ∙ ap (demands g) (sym more)) (sym now) (sym is_loose) (sym is_below)

    abbrev nest_below : Nest
    nest_below = record m { «open» = opens; due = due.Node entered }

    pub below_tells : Tells nest_below us boxes ledger_below
    below_tells =
        let k = p.keeps in
        let inner = p.entry in
        let s = p.own.scope in (
          ap (λ (q : Place). node_due (entry_at q chosen)) place_told,
          record {
            keeps = record {
              made = record { joined = k.made.joined; lists = k.made.lists; values = k.made.values; numbers = k.made.numbers; tallies = k.made.tallies };
              given = k.given;
              known = k.known;
              kept = k.kept;
              names = (p.named, k.names);
              turns = k.turns;
              unfinished = k.unfinished;
            };
            entry = record { inside = omega (arith, s); above = inner.horizon; horizon = inner.horizon; at = omega (arith, at); box = full_now };
            here = sym now;
            named = tt;
            frames = subst (λ os. AreFrames g m.remains m.joins m.tallies.items entered mark.at os (waiting d.own ∷ d.frames)) (sym e) (p.own, entry_now, more, frames_now);
            below = tt;
          },
        )

  -- a branch
  module _ (bounded : Bool) (x : VarId) (e : opens ≡ Forked (record { x = x; mark = mark; from = negsuc 999999999; bounded = bounded }) ∷ m.open) (inside : x.0 < length g.variables) (numbers : list_all is_number (values_left m.remains.box x.0) ≡ true) where
    abbrev fork_begun : Fork
    fork_begun = record { x = x; mark = mark; from = negsuc 999999999; bounded = bounded }

    abbrev fork_here : ForkTold
    fork_here = record { place = here_in m bounded; variable = x.0; left = values_left m.remains.box x.0 }

    fork_is : fork_here ≡ fork_told g m.remains m.entry fork_begun
    fork_is =
        sym (ap (λ b. let f : ForkTold = record { place = place_at g (part_spot m.entry bounded) b; variable = x.0; left = values_from (negsuc 999999999) (values_left b x.0) } in f) now
        ∙ ap (λ vs. let f : ForkTold = record { place = here_in m bounded; variable = x.0; left = vs } in f) (from_least (values_left m.remains.box x.0) numbers))

    abbrev nest_forked : Nest
    nest_forked = record m { «open» = opens; due = due.Case }

    abbrev ledger_forked : Ledger
    ledger_forked = record d { due = case_due; frames = forked fork_here ∷ d.frames }

    pub branch_tells : Tells nest_forked us boxes ledger_forked
    branch_tells =
        let k = p.keeps in
        let inner = p.entry.at in (
          refl,
          record {
            part = record {
              keeps = record {
                made = record { joined = k.made.joined; lists = k.made.lists; values = k.made.values; numbers = k.made.numbers; tallies = k.made.tallies };
                given = k.given;
                known = k.known;
                kept = k.kept;
                names = k.names;
                turns = k.turns;
                unfinished = k.unfinished;
              };
              entry = p.entry;
              own = p.own;
              named = p.named;
              frames = subst (λ os. AreFrames g m.remains m.joins m.tallies.items m.entry (trail_len m.remains) os (forked fork_here ∷ d.frames)) (sym e)
                  (fork_is, record { after = omega (arith, inner, at); at = omega (arith, at); variable = inside; box = full_now }, frames_now);
              box = p.box;
            };
            back = subst (IsBack m.remains) (sym e) (sym now);
          },
        )
