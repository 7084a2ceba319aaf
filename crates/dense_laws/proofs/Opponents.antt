-- Parts of the own trees of the opponent's scopes, and what their nodes come to.
use Rattle.std.proofs.Common.{◌≡◌, inl, inr, ℕ, suc, ◌<◌, ◌≤◌, Bool, true, false, not, ◌&&◌, ◌||◌, cond, List, [], ◌∷◌, ◌++◌, map, drop, refl, sym, ap, ◌∙◌, subst, arith, ℤ, Option}
use Rattle.std.specs.List.{list_all}
use Rattle.std.proofs.lemmas.Bool.{and_parts, or_parts}
use Rattle.qc_model.specs.declared.problem.Target.TheVariants.{Var}
use Rattle.qc_model.specs.declared.problem.Condition.{Condition}
use Rattle.qc_model.specs.declared.problem.Scope.{Scope}
use Rattle.qc_model.specs.Bottlenecks.{bottleneck_last}
use Rattle.qc_model.specs.Content.{Game}
use Rattle.qc_model.specs.Demands.{demands_through}
use Rattle.qc_model.specs.Domains.{InBox, Box, Values, declared_box, least_value, has_empty, is_single}
use Rattle.qc_model.specs.ForallVerdict.{forall_verdict, entry_values, numbers_for, bounded_forall}
use Rattle.qc_model.specs.Game.{before, part, scope_domains, restriction, IsMove}
use Rattle.qc_model.specs.Lists.{Among, Distinct, LiesIn}
use Rattle.qc_model.specs.Optimal.{Optimal, ChoosesBest}
use Rattle.qc_model.specs.Plan.{Plan, finish, choose, answer, IsFinish, Entries, no_entries, entry, entry_tuples, EachEntry}
use Rattle.qc_model.specs.Sees.{IsVisible}
use Rattle.qc_model.specs.Valid.{IsValid}
use Rattle.qc_model.specs.Verdict.{Verdict, lost, exact, at_most, unknown, Seen, seen_barred, seen_skipped, seen_bound, seen_node, is_lost, is_exact, some_node, each_node, exact_vectors}
use Rattle.qc_model.proofs.Moves.{among_left, among_right, among_either, moves_from, moves_to}
use Rattle.model_laws.specs.Positions.{universal}
use Rattle.model_laws.specs.Verdicts.{MeansAt, Claim, barred, skipped, marked, reaches, seen_in, EachClaim, IsComplete, none_skipped, tuples_of}
use Rattle.model_laws.proofs.Domains.{domains_differ}
use Rattle.model_laws.proofs.Joins.{leaves_mean}
use Rattle.model_laws.proofs.Order.{moves_distinct}
use Rattle.model_laws.proofs.Validity.{valid_differs, valid_bottlenecks}
use Rattle.proof_meaning.proofs.Blocks.{blocked_next}
use Rattle.proof_meaning.proofs.Boxes.{values_split, set_widen}
use Rattle.proof_meaning.proofs.Passing.{move_count}
use Rattle.proof_meaning.proofs.Places.{only_heads}
use Rattle.proof_meaning.proofs.Taken.{apart}
use Rattle.proof_tree.specs.Place.{position, is_fixed, list_after, next_scopes}
use Rattle.dense_meaning.specs.Throughout.{IsPositionIn, PlaysLie, Says}
use Rattle.dense_meaning.proofs.EndsOfPlay.{all_says}
use Rattle.dense_tree.specs.Place.{Setting, Place, place_below}
use Rattle.dense_tree.specs.Tuples.{all_hold}
use Rattle.dense_tree.specs.Verdicts.{upper_bound, loosened, scope_comes_to}
use Rattle.dense_laws.specs.Stands.{MovesStay, StrategiesStay, StandsNode, StandsPart}
use Rattle.dense_laws.specs.Says.{IsAt, NodeTold, Answers, IsLostAt, AnswersSay}
use Rattle.dense_laws.proofs.Choices.{case_place, case_at, no_exact}
use Rattle.dense_laws.proofs.Entries.{entries_say}
use Rattle.dense_laws.proofs.FreeGames.{entailed_allows}
use Rattle.dense_laws.proofs.Going.{list_visible}
use Rattle.dense_laws.proofs.Nodes.{stay_here, loosened_says, loosened_inexact}
use Rattle.dense_laws.proofs.Small.{sub_in_box}
use Rattle.dense_laws.proofs.Standing.{no_players, and_false}
use Rattle.dense_laws.proofs.Tuple.{tuple_lies, tuple_long, tuple_of, part_declared}

-- where all optimal strategies lie in the box, what is said of those in it is so of all
pub says_all : (v : Verdict) (g : Game) (later : List Scope) (i : ℕ) (d : List Condition) (box : Box) (a : List ℤ) → ((r : Plan) → Optimal g later i a r → PlaysLie box a r) → Says v g later i d box a → MeansAt g later i a d v
says_all lost g later i d box a f h = λ r o. h r (record { optimal = o; lies = f r o })
says_all (exact v) g later i d box a f h = record { some = h.some; none_better = λ r o. h.best r (record { optimal = o; lies = f r o }) }
says_all (at_most p) g later i [] box a f h = tt
says_all (at_most p) g later i (c ∷ d) box a f h = λ r o. h r (record { optimal = o; lies = f r o })
says_all unknown g later i d box a f h = tt

-- as they do from each position in the box of a place where no bound of the block stands above
pub all_lie : (g : Game) (later : List Scope) (i : ℕ) (box : Box) → StrategiesStay g false later i box → (a : List ℤ) → IsPositionIn g i box a → (r : Plan) → Optimal g later i a r → PlaysLie box a r
all_lie g [] i box m a at r o = by r o.0
  where
    by : (r : Plan) → IsFinish r → PlaysLie box a r
    by finish h = at.lies
    by (choose t q) h = absurd h
    by (answer l) h = absurd h
all_lie g (s ∷ later) i box m a at r o = stay_here g (s ∷ later) i i box refl m.0 a at r o

-- one lost leaf loses
lost_claim : (g : Game) (e : List Condition) (i : ℕ) (a : List ℤ) (O : List ℤ → Plan → Type 0) (ls : List Claim) → EachClaim g e i a O ls → some_node is_lost (map seen_in ls) ≡ true → (t : List ℤ) × IsMove g i a t × ((r : Plan) → ¬ O (a ++ t) r)
lost_claim g e i a O [] h q = cc
lost_claim g e i a O (barred ∷ ls) h q = lost_claim g e i a O ls h.1 q
lost_claim g e i a O (skipped ∷ ls) h q = lost_claim g e i a O ls h.1 q
lost_claim g e i a O (marked m ∷ ls) h q = lost_claim g e i a O ls h.1 q
lost_claim g e i a O (reaches t lost ∷ ls) h q = (t, h.0.0, h.0.1)
lost_claim g e i a O (reaches t (exact v) ∷ ls) h q = lost_claim g e i a O ls h.1 q
lost_claim g e i a O (reaches t (at_most n) ∷ ls) h q = lost_claim g e i a O ls h.1 q
lost_claim g e i a O (reaches t unknown ∷ ls) h q = lost_claim g e i a O ls h.1 q

each_move : (g : Game) (e : List Condition) (i : ℕ) (a : List ℤ) (O : List ℤ → Plan → Type 0) (ls : List Claim) → EachClaim g e i a O ls → (t : List ℤ) → Among t (tuples_of ls) → IsMove g i a t
each_move g e i a O [] h t m = absurd m
each_move g e i a O (barred ∷ ls) h t m = each_move g e i a O ls h.1 t m
each_move g e i a O (skipped ∷ ls) h t m = each_move g e i a O ls h.1 t m
each_move g e i a O (marked n ∷ ls) h t m = each_move g e i a O ls h.1 t m
each_move g e i a O (reaches u v ∷ ls) h t m = elim m [ inl q ↦ subst (IsMove g i a) (sym q) h.0.0 | inr n ↦ each_move g e i a O ls h.1 t n ]

-- a strategy against him goes on after each of his allowed tuples
among_entries : (R : List ℤ → Plan → Type 0) (t : List ℤ) (l : Entries) → EachEntry R l → Among t (entry_tuples l) → (r : Plan) × R t r
among_entries R t no_entries h m = absurd m
among_entries R t (entry u r rest) h m = elim m [ inl q ↦ (r, subst (λ z. R z r) (sym q) h.0) | inr w ↦ among_entries R t rest h.1 w ]

pub entry_of : (g : Game) (i : ℕ) (a t : List ℤ) (x : Option Condition) (later : List Scope) (r : Plan) → Optimal g (universal x ∷ later) i a r → IsMove g i a t → (q : Plan) × Optimal g later (suc i) (a ++ t) q
entry_of g i a t x later finish o m = absurd o
entry_of g i a t x later (choose u r) o m = absurd o
entry_of g i a t x later (answer l) o m = among_entries (λ u r. Optimal g later (suc i) (a ++ u) r) t l o.each (subst (Among t) (sym o.tuples) (moves_from g i a t m))

-- claims one after the other
pub map_join : (xs ys : List Claim) → map seen_in (xs ++ ys) ≡ map seen_in xs ++ map seen_in ys
map_join [] ys = refl
map_join (x ∷ xs) ys = ap (λ zs. seen_in x ∷ zs) (map_join xs ys)

pub claims_join : (g : Game) (e : List Condition) (i : ℕ) (a : List ℤ) (O : List ℤ → Plan → Type 0) (xs ys : List Claim) → EachClaim g e i a O xs → EachClaim g e i a O ys → EachClaim g e i a O (xs ++ ys)
claims_join g e i a O [] ys h k = k
claims_join g e i a O (x ∷ xs) ys h k = (h.0, claims_join g e i a O xs ys h.1 k)

pub tuples_join : (xs ys : List Claim) → tuples_of (xs ++ ys) ≡ tuples_of xs ++ tuples_of ys
tuples_join [] ys = refl
tuples_join (barred ∷ xs) ys = tuples_join xs ys
tuples_join (skipped ∷ xs) ys = tuples_join xs ys
tuples_join (marked m ∷ xs) ys = tuples_join xs ys
tuples_join (reaches t v ∷ xs) ys = ap (λ ts. t ∷ ts) (tuples_join xs ys)

pub none_skipped_join : (xs ys : List Claim) → none_skipped (xs ++ ys) ≡ true → (none_skipped xs ≡ true) × (none_skipped ys ≡ true)
none_skipped_join [] ys h = (refl, h)
none_skipped_join (barred ∷ xs) ys h = none_skipped_join xs ys h
none_skipped_join (skipped ∷ xs) ys h = cc
none_skipped_join (marked m ∷ xs) ys h = none_skipped_join xs ys h
none_skipped_join (reaches t v ∷ xs) ys h = none_skipped_join xs ys h

distinct_join : (xs ys : List (List ℤ)) → Distinct xs → Distinct ys → ((t : List ℤ) → Among t xs → ¬ Among t ys) → Distinct (xs ++ ys)
distinct_join [] ys h k f = k
distinct_join (x ∷ xs) ys h k f =
    (λ m. elim (among_either x xs ys m) [ inl q ↦ h.0 q | inr q ↦ f x (inl refl) q ], distinct_join xs ys h.1 k (λ t m. f t (inr m)))

none_lost_join : (xs ys : List Seen) → some_node is_lost (xs ++ ys) ≡ false → (some_node is_lost xs ≡ false) × (some_node is_lost ys ≡ false)
none_lost_join [] ys h = (refl, h)
none_lost_join (seen_barred ∷ xs) ys h = none_lost_join xs ys h
none_lost_join (seen_skipped ∷ xs) ys h = none_lost_join xs ys h
none_lost_join (seen_bound m ∷ xs) ys h = none_lost_join xs ys h
none_lost_join (seen_node v ∷ xs) ys h =
    let q = or_parts (is_lost v) (some_node is_lost (xs ++ ys)) h in
    let r = none_lost_join xs ys q.1 in (nor_lost (is_lost v) (some_node is_lost xs) q.0 r.0, r.1)
  where
    nor_lost : (a b : Bool) → a ≡ false → b ≡ false → (a || b) ≡ false
    nor_lost true b e f = cc
    nor_lost false b e f = f

module _ (s : Setting) (valid : IsValid s.game) (p : Place) (x : Option Condition) (later : List Scope) (e : p.later ≡ universal x ∷ later) where
  -- what the table concludes
  module _ (n : StandsNode s p) (seen : List Seen) (h : AnswersSay s p seen) where
    here_is : drop p.number s.game.scopes ≡ universal x ∷ later
    here_is = sym n.stands.later ∙ e

    last : bottleneck_last s.game p.list ≡ true
    last = subst (λ d. bottleneck_last s.game d ≡ true) (sym n.stands.list) (valid_bottlenecks s.game p.number x later valid here_is)

    move_in : (a t : List ℤ) → IsPositionIn s.game p.number p.box a → IsMove s.game p.number a t → InBox (a ++ t) p.box
    move_in a t at m = (subst (λ ls. MovesStay s.game ls p.number p.box) e n.moves).0 a t at m

    means_at : (a : List ℤ) → IsPositionIn s.game p.number p.box a → Answers s p seen a → MeansAt s.game (universal x ∷ later) p.number a p.list (forall_verdict s.game p.list a seen)
    means_at a at k = by (some_node is_lost seen) refl
      where
        say : EachClaim s.game (demands_through s.game p.list) p.number a (Optimal s.game later (suc p.number)) k.claims
        say = subst (λ ls. EachClaim s.game (list_after s.game ls p.list) p.number a (Optimal s.game (next_scopes ls) (suc p.number)) k.claims) e k.say

        complete : some_node is_lost seen ≡ false → IsComplete s.game p.number a k.claims
        complete l q = record {
          first = moves_distinct s.game p.number a (domains_differ s.game (valid_differs s.game valid));
          second = k.distinct;
          there = λ t m. (let o = moves_to s.game p.number a t m in k.all q l t o (move_in a t at o));
          back = λ t m. moves_from s.game p.number a t (each_move s.game (demands_through s.game p.list) p.number a (Optimal s.game later (suc p.number)) k.claims say t m);
        }

        by : (b : Bool) → some_node is_lost seen ≡ b → MeansAt s.game (universal x ∷ later) p.number a p.list (forall_verdict s.game p.list a seen)
        by true l =
            subst (λ b. MeansAt s.game (universal x ∷ later) p.number a p.list (cond b lost (cond (each_node is_exact seen) (exact (entry_values s.game p.list a (numbers_for p.list (exact_vectors seen)))) (bounded_forall s.game p.list seen)))) (sym l)
            (let c = lost_claim s.game (demands_through s.game p.list) p.number a (Optimal s.game later (suc p.number)) k.claims say (subst (λ xs. some_node is_lost xs ≡ true) (sym k.are_seen) l) in
            λ r o. (let w = entry_of s.game p.number a c.0 x later r o c.1 in c.2 w.0 w.1))
        by false l =
            subst (λ xs. MeansAt s.game (universal x ∷ later) p.number a p.list (forall_verdict s.game p.list a xs)) k.are_seen
            (leaves_mean s.game p.number a (Optimal s.game later (suc p.number)) (ChoosesBest x s.game p.number a (Optimal s.game later (suc p.number))) p.list k.claims last say (complete l))

    -- a verdict at an open position
    open_says : (a : List ℤ) → IsPositionIn s.game p.number p.box a → Says (forall_verdict s.game p.list a seen) s.game p.later p.number p.list p.box a →
        Says (loosened s p (forall_verdict s.game p.list (position s.game p.number p.box) seen)) s.game p.later p.number p.list p.box a
    open_says a at m = by (some_node is_lost seen) (each_node is_exact seen) m
      where
        by : (b d : Bool) → Says (cond b lost (cond d (exact (entry_values s.game p.list a (numbers_for p.list (exact_vectors seen)))) (bounded_forall s.game p.list seen))) s.game p.later p.number p.list p.box a →
            Says (loosened s p (cond b lost (cond d (exact (entry_values s.game p.list (position s.game p.number p.box) (numbers_for p.list (exact_vectors seen)))) (bounded_forall s.game p.list seen)))) s.game p.later p.number p.list p.box a
        by true d h = h
        by false true h = entries_say s valid p n (numbers_for p.list (exact_vectors seen)) (λ y v. subst (λ ls. IsVisible s.game ls p.number (Var y)) e v) a at h
        by false false h = loosened_says s p (bounded_forall s.game p.list seen) a at.count (list_visible s p valid n.stands) h

    -- where no strategy is optimal, each bound holds
    lost_says : (v : Verdict) (a : List ℤ) → IsLostAt s p a → Says (loosened s p v) s.game p.later p.number p.list p.box a
    lost_says lost a k = λ r o. k.none r o.optimal
    lost_says (exact v) a k =
        subst (λ b. Says (cond b (upper_bound s p p.list v) (exact v)) s.game p.later p.number p.list p.box a) (sym k.loose) (bound p.list)
      where
        bound : (d : List Condition) → Says (upper_bound s p d v) s.game p.later p.number p.list p.box a
        bound [] = tt
        bound (c ∷ d) = λ r o. absurd (k.none r o.optimal)
    lost_says (at_most m) a k = λ r o. absurd (k.none r o.optimal)
    lost_says unknown a k = tt

    pub opponent_told : (bests : List ℤ) → NodeTold s p (loosened s p (scope_comes_to s p p.later seen bests))
    opponent_told bests = record {
      says = λ a at.
          subst (λ ls. Says (loosened s p (scope_comes_to s p ls seen bests)) s.game p.later p.number p.list p.box a) (sym e)
          (elim (h.says a at) [
            | inl k ↦ lost_says (forall_verdict s.game p.list (position s.game p.number p.box) seen) a k
            | inr k ↦ open_says a at.position (here_says a at k)
          ]);
      loose = loosened_inexact s p (scope_comes_to s p p.later seen bests);
    }
      where
        here_says : (a : List ℤ) → IsAt s p a → Answers s p seen a → Says (forall_verdict s.game p.list a seen) s.game p.later p.number p.list p.box a
        here_says a at k =
            subst (λ ls. Says (forall_verdict s.game p.list a seen) s.game ls p.number p.list p.box a) (sym e)
            (all_says (forall_verdict s.game p.list a seen) s.game (universal x ∷ later) p.number p.list p.box a (means_at a at.position k))

  -- parts
  module _ (st : StandsPart s p) where
    -- after each of his tuples all optimal strategies lie in the box
    pub after_lie : (b : List ℤ) → IsPositionIn s.game (suc p.number) p.box b → (r : Plan) → Optimal s.game (next_scopes p.later) (suc p.number) b r → PlaysLie p.box b r
    after_lie = all_lie s.game (next_scopes p.later) (suc p.number) p.box
        (subst (λ b. StrategiesStay s.game b (next_scopes p.later) (suc p.number) p.box) (ap (λ b. p.bounded && b) (no_players p x later e) ∙ and_false p.bounded) st.strategies)

    -- one leaf that goes on, with the tuple that is left
    pub next_answers : is_fixed s.game p.number p.box ≡ true → all_hold (restriction s.game p.number) p.box ≡ true → has_empty p.box ≡ false → (v : Verdict) → NodeTold s (place_below s p) v → AnswersSay s p (seen_node v ∷ [])
    next_answers fixed holds full v h = record {
      says = λ a at. inr (record {
        claims = reaches t v ∷ [];
        are_seen = refl;
        say = (
          (
            move a at.position,
            says_all v s.game (next_scopes p.later) (suc p.number) (list_after s.game p.later p.list) p.box (a ++ t) (λ r o. after_lie (a ++ t) (onto a at.position) r o)
                (h.says (a ++ t) (record { position = onto a at.position; blocked = blocked_next s.game p.number a t (a ++ t) p.box p.horizon refl (move a at.position) at.blocked })),
          ),
          tt,
        );
        lie = λ u m. elim m [ inl q ↦ subst (λ z. InBox (a ++ z) p.box) (sym q) (onto a at.position).lies | inr k ↦ absurd k ];
        distinct = ((λ m. m), tt);
        all = λ q l u m j. inl (only_heads (part s.game p.number p.box) u fixed (tuple_of s.game p.number p.box a u at.position.count (move_count s.game p.number a u at.position.count m) j));
      });
      loose = λ l. or_false (is_exact v) (h.loose (or_true p.loose (not (is_fixed s.game p.number p.box)) l));
    }
      where
        or_true : (a b : Bool) → a ≡ true → (a || b) ≡ true
        or_true true b q = refl
        or_true false b q = cc

        or_false : (a : Bool) → a ≡ false → (a || false) ≡ false
        or_false true q = cc
        or_false false q = refl

        t : List ℤ
        t = map least_value (part s.game p.number p.box)

        heads : (ds : Box) → list_all is_single ds ≡ true → LiesIn (map least_value ds) ds
        heads [] q = tt
        heads (d ∷ ds) q = let k = and_parts (is_single d) (list_all is_single ds) q in (head d k.0, heads ds k.1)
          where
            head : (d : Values) → is_single d ≡ true → Among (least_value d) d
            head [] q = cc
            head (v ∷ []) q = inl refl
            head (v ∷ w ∷ d) q = cc

        lies : LiesIn t (part s.game p.number p.box)
        lies = heads (part s.game p.number p.box) fixed

        inside : (a : List ℤ) → IsPositionIn s.game p.number p.box a → InBox (a ++ t) p.box
        inside a at = tuple_lies s.game p.number a t p.box at.count at.lies lies

        declared : (a : List ℤ) → IsPositionIn s.game p.number p.box a → LiesIn t (scope_domains s.game p.number)
        declared a at = part_declared s.game p.number p.box st.stands.box t lies

        move : (a : List ℤ) → IsPositionIn s.game p.number p.box a → IsMove s.game p.number a t
        move a at = record {
          is_tuple = declared a at;
          is_allowed = entailed_allows s.game valid p.number p.box (a ++ t) (tuple_long s.game p.number a t at.count (declared a at)) (sub_in_box (a ++ t) p.box (declared_box s.game) st.stands.box (inside a at)) (inside a at) holds;
        }

        onto : (a : List ℤ) → IsPositionIn s.game p.number p.box a → IsPositionIn s.game (suc p.number) p.box (a ++ t)
        onto a at = record { count = move_count s.game p.number a t at.count (move a at); lies = inside a at }

  -- cases
  module _ (y : ℕ) (low : before s.game p.number ≤ y) (high : y < before s.game (suc p.number)) (us vs : Values) (apart_values : (z : ℤ) → Among z us → ¬ Among z vs) where
    pub answers_join : (xs ys : List Seen) → AnswersSay s (case_place p y us) xs → AnswersSay s (case_place p y vs) ys → AnswersSay s (case_place p y (us ++ vs)) (xs ++ ys)
    answers_join xs ys h k = record {
      says = λ a at.
          elim (h.says a (case_at s p y us (us ++ vs) a low (λ z m. among_left z us vs m) at)) [
            | inl q ↦ inl (record { loose = q.loose; none = q.none })
            | inr q ↦ elim (k.says a (case_at s p y vs (us ++ vs) a low (λ z m. among_right z us vs m) at)) [
              | inl r ↦ inl (record { loose = r.loose; none = r.none })
              | inr r ↦ inr (joined a at q r)
            ]
          ];
      loose = λ l. no_exact xs ys (h.loose l) (k.loose l);
    }
      where
        joined : (a : List ℤ) → IsAt s (case_place p y (us ++ vs)) a → Answers s (case_place p y us) xs a → Answers s (case_place p y vs) ys a → Answers s (case_place p y (us ++ vs)) (xs ++ ys) a
        joined a at q r = record {
          claims = q.claims ++ r.claims;
          are_seen = map_join q.claims r.claims ∙ ap (λ zs. zs ++ map seen_in r.claims) q.are_seen ∙ ap (λ zs. xs ++ zs) r.are_seen;
          say = claims_join s.game (list_after s.game p.later p.list) p.number a (Optimal s.game (next_scopes p.later) (suc p.number)) q.claims r.claims q.say r.say;
          lie = λ t m. elim (among_either t (tuples_of q.claims) (tuples_of r.claims) (subst (Among t) (tuples_join q.claims r.claims) m)) [
            | inl n ↦ set_widen p.box y us (us ++ vs) (a ++ t) (λ z w. among_left z us vs w) (q.lie t n)
            | inr n ↦ set_widen p.box y vs (us ++ vs) (a ++ t) (λ z w. among_right z us vs w) (r.lie t n)
          ];
          distinct = subst Distinct (sym (tuples_join q.claims r.claims)) (distinct_join (tuples_of q.claims) (tuples_of r.claims) q.distinct r.distinct apart_tuples);
          all = λ n l t m j. (let w = none_skipped_join q.claims r.claims n in
              let z = none_lost_join xs ys l in
              subst (Among t) (sym (tuples_join q.claims r.claims))
              (elim (values_split p.box y us vs (a ++ t) j) [
                | inl i ↦ among_left t (tuples_of q.claims) (tuples_of r.claims) (q.all w.0 z.0 t m i)
                | inr i ↦ among_right t (tuples_of q.claims) (tuples_of r.claims) (r.all w.1 z.1 t m i)
              ]));
        }
          where
            apart_tuples : (t : List ℤ) → Among t (tuples_of q.claims) → ¬ Among t (tuples_of r.claims)
            apart_tuples t m n =
                let move = each_move s.game (list_after s.game p.later p.list) p.number a (Optimal s.game (next_scopes p.later) (suc p.number)) q.claims q.say t m in
                let long = move_count s.game p.number a t at.position.count move in
                apart p.box y us vs (a ++ t) (omega arith) apart_values (q.lie t m) (r.lie t n)

  -- a tuple that is skipped, and one that no restriction allows
  pub skipped_answers : AnswersSay s p (seen_skipped ∷ [])
  skipped_answers = record {
    says = λ a at. inr (record { claims = skipped ∷ []; are_seen = refl; say = (tt, tt); lie = λ t m. absurd m; distinct = tt; all = λ q l t m j. cc });
    loose = λ l. refl;
  }

  -- where no allowed tuple is left
  pub none_answers : ((a t : List ℤ) → IsAt s p a → IsMove s.game p.number a t → InBox (a ++ t) p.box → ⊥) → AnswersSay s p []
  none_answers f = record {
    says = λ a at. inr (record { claims = []; are_seen = refl; say = tt; lie = λ t m. absurd m; distinct = tt; all = λ q l t m j. absurd (f a t at m j) });
    loose = λ l. refl;
  }

  pub barred_answers : ((a t : List ℤ) → IsAt s p a → IsMove s.game p.number a t → InBox (a ++ t) p.box → ⊥) → AnswersSay s p (seen_barred ∷ [])
  barred_answers f = record {
    says = λ a at. inr (record { claims = barred ∷ []; are_seen = refl; say = (tt, tt); lie = λ t m. absurd m; distinct = tt; all = λ q l t m j. absurd (f a t at m j) });
    loose = λ l. refl;
  }

  -- one lost leaf
  pub lost_answers : ((a : List ℤ) → IsAt s p a → (t : List ℤ) × IsMove s.game p.number a t × InBox (a ++ t) p.box × ((r : Plan) → ¬ Optimal s.game (next_scopes p.later) (suc p.number) (a ++ t) r)) → AnswersSay s p (seen_node lost ∷ [])
  lost_answers f = record {
    says = λ a at. inr (let w = f a at in record {
      claims = reaches w.0 lost ∷ [];
      are_seen = refl;
      say = ((w.1, w.3), tt);
      lie = λ t m. elim m [ inl q ↦ subst (λ z. InBox (a ++ z) p.box) (sym q) w.2 | inr k ↦ absurd k ];
      distinct = ((λ m. m), tt);
      all = λ q l t m j. cc;
    });
    loose = λ l. refl;
  }
