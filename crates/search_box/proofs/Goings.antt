-- Steps after steps, and boxes after boxes.
use Rattle.std.proofs.Common.{◌≡◌, ℕ, zero, suc, ◌≤◌, Bool, true, false, not, ◌&&◌, ◌||◌, List, [], ◌∷◌, ◌++◌, take, drop, cond, refl, sym, ap, ◌∙◌, subst, arith, ℤ, length-set}
use Rattle.std.specs.Prelude.{Option, None, Some, ◌==◌, slice_get, filter, nat_le, nat_lt}
use Rattle.std.specs.List.{list_all}
use Rattle.std.specs.Option.{option_map}
use Rattle.std.proofs.lemmas.Bool.Decides.{nat_tests}
use Rattle.std.proofs.lemmas.List.{get_or-set_other}
use Rattle.std.proofs.lemmas.Bool.{and_from, or_parts}
use Rattle.qc_model.specs.declared.problem.Condition.{Condition}
use Rattle.qc_model.specs.declared.problem.Kind.TheVariants.{Exists}
use Rattle.qc_model.specs.declared.problem.Scope.{Scope}
use Rattle.qc_model.specs.declared.problem.VarId.{VarId}
use Rattle.qc_model.specs.Block.{of_kind, block_stop, force_stop, is_owned_within}
use Rattle.qc_model.specs.Closed.{keeps_ends, is_closed}
use Rattle.qc_model.specs.Content.{Game, Rule}
use Rattle.qc_model.specs.Domains.{Values, Box, values_left, values_within, box_without, has_empty, is_sub_box}
use Rattle.qc_model.specs.Game.{before}
use Rattle.qc_model.proofs.Before.{before_up}
use Rattle.qc_model.proofs.Readable.{first, second}
use Rattle.model_arguments.specs.Asked.{is_box_of}
use Rattle.model_levels.specs.Spans.{kind_at}
use Rattle.proof_tree.specs.declared.tree.Step.{Step}
use Rattle.proof_tree.specs.declared.tree.Step.TheVariants.{Prune, Bound}
use Rattle.proof_tree.specs.Cover.{box_to}
use Rattle.proof_tree.specs.InPlace.{steps_in_place}
use Rattle.proof_tree.specs.Place.{Tracked, tracked_variable, list_after}
use Rattle.proof_tree.specs.Steps.{after_step, after_steps, is_legal, are_legal, step_marks, best_value}
use Rattle.prop_engine.specs.Watching.{names}
use Rattle.prop_base.proofs.Steps.{follows_same, follows_more}
use Rattle.fd_store.specs.Held.{Follows}
use Rattle.search_box.specs.Boxed.{Boxed, KeepsValues, IsMarked}
use Rattle.search_box.specs.Closes.{IsClosedAt, WasClosed}
use Rattle.search_box.proofs.Entering.{marked_on}
use Rattle.search_box.proofs.GivenUp.{not_true_false}
use Rattle.search_box.proofs.Keeping.{sub_through}

pub steps_reach : (steps more : List Step) (box : Box) → after_steps (steps ++ more) box ≡ after_steps more (after_steps steps box)
steps_reach [] more box = refl
steps_reach (s ∷ steps) more box = steps_reach steps more (after_step s box)

legal_both : (g : Game) (i stop : ℕ) (t : Option Tracked) (steps more : List Step) (box : Box) → are_legal g i stop t steps box ≡ true → are_legal g i stop t more (after_steps steps box) ≡ true → are_legal g i stop t (steps ++ more) box ≡ true
legal_both g i stop t [] more box h k = k
legal_both g i stop t (s ∷ steps) more box h k =
    let p = is_legal g i stop t s box in
    let q = are_legal g i stop t steps (after_step s box) in
    and_from p (are_legal g i stop t (steps ++ more) (after_step s box)) (first p q h) (legal_both g i stop t steps more (after_step s box) (second p q h) k)

pub placed_both : (g : Game) (later : List Scope) (i : ℕ) (d : List Condition) (steps more : List Step) (box : Box) → steps_in_place g later i d steps box ≡ true → steps_in_place g later i d more (after_steps steps box) ≡ true →
    steps_in_place g later i d (steps ++ more) box ≡ true
placed_both g later i d steps more box h k = legal_both g i (force_stop later i) (tracked_variable g later i (list_after g later d)) steps more box h k

pub marks_both : (t : Option Tracked) (steps more : List Step) (box : Box) → step_marks t (steps ++ more) box ≡ step_marks t steps box ++ step_marks t more (after_steps steps box)
marks_both t [] more box = refl
marks_both t (Prune x low high c ∷ steps) more box = marks_both t steps more (box_without box x.0 low high)
marks_both None (Bound x low high ∷ steps) more box = marks_both None steps more (box_without box x.0 low high)
marks_both (Some t) (Bound x low high ∷ steps) more box = ap (λ vs. best_value t.sense (values_within low high (values_left box x.0)) ∷ vs) (marks_both (Some t) steps more (box_without box x.0 low high))

-- fewer places were kept, too
take_fewer : (m n : ℕ) (us vs : List ℤ) → m ≤ n → take n us ≡ take n vs → take m us ≡ take m vs
take_fewer zero n us vs l e = refl
take_fewer (suc m) zero us vs l e = absurd (omega arith)
take_fewer (suc m) (suc n) [] [] l e = refl
take_fewer (suc m) (suc n) [] (v ∷ vs) l e = cc
take_fewer (suc m) (suc n) (u ∷ us) [] l e = cc
take_fewer (suc m) (suc n) (u ∷ us) (v ∷ vs) l e = let t = tails u (take n us) v (take n vs) e in ap (λ w. w ∷ take m us) t.0 ∙ ap (λ ws. v ∷ ws) (take_fewer m n us vs (omega arith) t.1)
  where
    tails : (u : ℤ) (us : List ℤ) (w : ℤ) (ws : List ℤ) → ◌≡◌ {A = List ℤ} (u ∷ us) (w ∷ ws) → (u ≡ w) × (us ≡ ws)
    tails u us w ws e = (cc, cc)

pub kept_fewer : (g : Game) (i : ℕ) (b c : Boxed) → KeepsValues g (suc i) b c → KeepsValues g i b c
kept_fewer g i b c k = take_fewer (before g i) (before g (suc i)) c.values b.values (before_up g i) k

pub marked_same : (n : ℕ) (b c : Boxed) → IsMarked n b → c.game ≡ b.game → c.store.box ≡ b.store.box → c.store.past ≡ b.store.past → IsMarked n c
marked_same n b c m e f p = marked_on n b c m e (follows_same b.store c.store f p)

pub closed_full : (g : Game) (i : ℕ) (box : Box) → IsClosedAt g i box → has_empty box ≡ false
closed_full g i box h = not_true_false (has_empty box) (first (not (has_empty box)) (list_all (keeps_ends box) (filter (is_owned_within i (force_stop (drop i g.scopes) i)) g.constraints)) h)

pub closed_now : (g : Game) (i : ℕ) (box : Box) → is_box_of g box ≡ true → IsClosedAt g i box → WasClosed g i [] box
closed_now g i box d h = record { earlier = box; declared = d; closed = h; count = refl; fewer = λ large k. k; others = λ x n. refl }

apart : (j k : ℕ) → (j == k) ≡ false → k ≡ j → ⊥
apart j k h e = grind (arith, nat_tests)

pub closed_before : (g : Game) (i : ℕ) (box : Box) (x : VarId) (changed : List VarId) (vs : Values) → is_sub_box (box_to box x.0 vs) box ≡ true → WasClosed g i changed box → WasClosed g i (x ∷ changed) (box_to box x.0 vs)
closed_before g i box x changed vs s w = record {
  earlier = w.earlier;
  declared = w.declared;
  closed = w.closed;
  count = length-set box x.0 vs ∙ w.count;
  fewer = λ large k. sub_through (box_to box x.0 vs) box large s (w.fewer large k);
  others = λ y n. let p = or_parts (x.0 == y) (names changed y) n in get_or-set_other box x.0 y vs [] (apart x.0 y p.0) ∙ w.others y p.1;
}

pub follows_on : (b c d : Boxed) → Follows b.store c.store → d.store.box ≡ c.store.box → d.store.past ≡ c.store.past → Follows b.store d.store
follows_on b c d f e p = follows_more b.store c.store d.store f (follows_same c.store d.store e p)

-- a block goes on: the same constraints are in force, but for those of the scope that is left
same_stop : (ss : List Scope) (n i : ℕ) → option_map (λ (s : Scope). s.kind) (slice_get ss n) ≡ Some Exists → option_map (λ (s : Scope). s.kind) (slice_get ss (suc n)) ≡ Some Exists →
    force_stop (drop (suc n) ss) (suc i) ≡ force_stop (drop n ss) i
same_stop [] n i e f = cc
same_stop (s ∷ []) zero i e f = cc
same_stop (s ∷ t ∷ ss) zero i e f =
    let p : s.kind ≡ Exists = cc in
    let q : t.kind ≡ Exists = cc in
    ap (λ k. of_kind k (block_stop ss (suc (suc i))) (suc (suc i))) q
    ∙ sym (ap (λ k. of_kind k (of_kind t.kind (block_stop ss (suc (suc i))) (suc i)) (suc i)) p ∙ ap (λ k. of_kind k (block_stop ss (suc (suc i))) (suc i)) q)
same_stop (s ∷ ss) (suc n) i e f = same_stop ss n i e f

fewer_rules : (p q r : Rule → Bool) (cs : List Rule) → ((c : Rule) → q c ≡ true → p c ≡ true) → list_all r (filter p cs) ≡ true → list_all r (filter q cs) ≡ true
fewer_rules p q r [] f h = refl
fewer_rules p q r (c ∷ cs) f h = by (p c) (q c) (f c) h (fewer_rules p q r cs f)
  where
    by : (a b : Bool) → (b ≡ true → a ≡ true) → list_all r (cond a (c ∷ filter p cs) (filter p cs)) ≡ true → (list_all r (filter p cs) ≡ true → list_all r (filter q cs) ≡ true) → list_all r (cond b (c ∷ filter q cs) (filter q cs)) ≡ true
    by true true w h k = and_from (r c) (list_all r (filter q cs)) (first (r c) (list_all r (filter p cs)) h) (k (second (r c) (list_all r (filter p cs)) h))
    by true false w h k = k (second (r c) (list_all r (filter p cs)) h)
    by false true w h k = let e : false ≡ true = w refl in cc
    by false false w h k = k h

later_owned : (i stop : ℕ) (c : Rule) → is_owned_within (suc i) stop c ≡ true → is_owned_within i stop c ≡ true
later_owned i stop c h = by i stop c.owner.0 h
  where
    by : (i stop o : ℕ) → (nat_le (suc i) o && nat_lt o stop) ≡ true → (nat_le i o && nat_lt o stop) ≡ true
    by i stop o h = grind (arith, nat_tests)

pub closed_in_block : (g : Game) (i : ℕ) (box : Box) → kind_at g i ≡ Some Exists → kind_at g (suc i) ≡ Some Exists → IsClosedAt g i box → IsClosedAt g (suc i) box
closed_in_block g i box e f h =
    let stop = force_stop (drop i g.scopes) i in
    let rules = filter (is_owned_within i stop) g.constraints in
    let same : force_stop (drop (suc i) g.scopes) (suc i) ≡ stop = same_stop g.scopes i i e f in
    let P : ℕ → Type 0 = λ n. is_closed (filter (is_owned_within (suc i) n) g.constraints) box ≡ true in
    subst P (sym same)
    (and_from (not (has_empty box)) (list_all (keeps_ends box) (filter (is_owned_within (suc i) stop) g.constraints)) (first (not (has_empty box)) (list_all (keeps_ends box) rules) h)
    (fewer_rules (is_owned_within i stop) (is_owned_within (suc i) stop) (keeps_ends box) g.constraints (later_owned i stop) (second (not (has_empty box)) (list_all (keeps_ends box) rules) h)))
