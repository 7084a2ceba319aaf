-- What a closing comes to.
use Rattle.std.proofs.Common.{◌≡◌, inl, inr, ℕ, zero, suc, ◌<◌, ◌≤◌, ◌==◌, Bool, true, false, not, ◌&&◌, cond, List, [], ◌∷◌, length, take, get_or, filter, refl, sym, ap, ◌∙◌, subst, arith, Option, Some, None}
use Rattle.std.specs.Prelude.{slice_get, nat_lt, nat_le, MatchOption, IfNone}
use Rattle.std.specs.List.{list_all}
use Rattle.std.proofs.lemmas.Bool.Decides.{nat_tests}
use Rattle.std.proofs.lemmas.Bool.{not_from_false, false_from_ne_true, and_from}
use Rattle.qc_model.specs.declared.problem.ConId.{ConId}
use Rattle.qc_model.specs.declared.problem.VarId.{VarId}
use Rattle.qc_model.specs.Arguments.{variables_of}
use Rattle.qc_model.specs.Block.{is_owned_within, constraints_within}
use Rattle.qc_model.specs.Content.{Game, Rule}
use Rattle.qc_model.specs.Domains.{Box, declared_box, has_empty, is_sub_box}
use Rattle.qc_model.specs.Lists.{Among}
use Rattle.qc_model.specs.Valid.{IsValid}
use Rattle.qc_model.specs.Verdict.{is_none_of}
use Rattle.qc_model.proofs.Moves.{of_filter}
use Rattle.qc_model.proofs.Readable.{first, second}
use Rattle.model_arguments.specs.Asked.{is_box_of}
use Rattle.model_arguments.specs.Written.{variable_numbers}
use Rattle.model_arguments.proofs.Bools.{clash}
use Rattle.model_levels.specs.Spans.{is_between, is_rule_within, IsSpanOf}
use Rattle.dense_closing.specs.Closing.{IsGreatestClosed}
use Rattle.dense_closing.specs.ClosingSteps.{greatest_closed}
use Rattle.dense_closing.specs.Takes.{keeps_at, keeps_box, is_closed_by, NoneClosedBy}
use Rattle.dense_closing.proofs.Closing.{closing_finds}
use Rattle.dense_closing.proofs.Keeping.{closed_full, Placed, placed}
use Rattle.dense_closing.proofs.Within.{sub_self, sub_same, sub_empty}
use Rattle.dense_quiet.specs.declared.taking.Taking.{Taking}
use Rattle.dense_close.specs.Narrowing.{IsNarrowed, IsLost, IsSettled, AreSettled}
use Rattle.dense_quiet.specs.Taking.{takes_of}
use Rattle.dense_close.specs.Waiting.{Waiting, is_marked, stands_in, MarkedWait}
use Rattle.dense_close.proofs.Looked.{one_rule}
use Rattle.dense_close.proofs.Narrowed.{between_of}
use Rattle.dense_close.proofs.Own.{all_if}

-- a box with an empty domain has no closed one within
pub lost_empty : (t : Taking) (g : Game) (i stop : ℕ) (box : Box) → has_empty box ≡ true → IsLost t g i stop box
lost_empty t g i stop box e small within =
    false_from_ne_true (is_closed_by (takes_of t g) (constraints_within g i stop) small) (λ h. clash (has_empty small) (sub_empty small box within e) (closed_full (takes_of t g) (constraints_within g i stop) small h))

-- nor has an earlier one
pub lost_earlier : (t : Taking) (g : Game) (i stop : ℕ) (box now : Box) → IsNarrowed t g i stop box now → IsLost t g i stop now → IsLost t g i stop box
lost_earlier t g i stop box now n l small within =
    false_from_ne_true (is_closed_by (takes_of t g) (constraints_within g i stop) small) (λ h. clash (is_closed_by (takes_of t g) (constraints_within g i stop) small) h (l small (n.around small within h)))

pub found_none : (t : Taking) (g : Game) → IsValid g → (i stop : ℕ) (box : Box) → is_box_of g box ≡ true → IsLost t g i stop box → greatest_closed (takes_of t g) g i stop box ≡ None
found_none t g v i stop box d l = by (greatest_closed (takes_of t g) g i stop box) refl
  where
    cs : List Rule
    cs = constraints_within g i stop

    of : (o : Option Box) → greatest_closed (takes_of t g) g i stop box ≡ o → MatchOption o (NoneClosedBy (takes_of t g) cs box) (IsGreatestClosed (takes_of t g) cs box)
    of o e = subst (λ o. MatchOption o (NoneClosedBy (takes_of t g) cs box) (IsGreatestClosed (takes_of t g) cs box)) e (closing_finds (takes_of t g) g v i stop box d)

    by : (o : Option Box) → greatest_closed (takes_of t g) g i stop box ≡ o → o ≡ None
    by None e = refl
    by (Some small) e = (let m = of (Some small) e in absurd (clash (is_closed_by (takes_of t g) cs small) m.closed (l small m.within)))

pub found_some : (t : Taking) (g : Game) → IsValid g → (i stop : ℕ) (box now : Box) → is_box_of g box ≡ true → IsNarrowed t g i stop box now → is_closed_by (takes_of t g) (constraints_within g i stop) now ≡ true → greatest_closed (takes_of t g) g i stop box ≡ Some now
found_some t g v i stop box now d n closed = sym (by (greatest_closed (takes_of t g) g i stop box) refl)
  where
    cs : List Rule
    cs = constraints_within g i stop

    within : is_sub_box now box ≡ true
    within = n.fewer box (sub_self box (declared_box g) d)

    of : (o : Option Box) → greatest_closed (takes_of t g) g i stop box ≡ o → MatchOption o (NoneClosedBy (takes_of t g) cs box) (IsGreatestClosed (takes_of t g) cs box)
    of o e = subst (λ o. MatchOption o (NoneClosedBy (takes_of t g) cs box) (IsGreatestClosed (takes_of t g) cs box)) e (closing_finds (takes_of t g) g v i stop box d)

    by : (o : Option Box) → greatest_closed (takes_of t g) g i stop box ≡ o → Some now ≡ o
    by None e = (let m = of None e in absurd (clash (is_closed_by (takes_of t g) cs now) closed (m now within)))
    by (Some small) e = (let m = of (Some small) e in ap Some (sub_same now small (m.greatest now within closed) (n.around small m.within m.closed)))

-- where nothing waits, the box is closed
pub closed_now : (t : Taking) (g : Game) (i stop first end : ℕ) (w : Waiting) (box : Box) → IsSpanOf g i stop first end → has_empty box ≡ false → MarkedWait w → w.queue ≡ [] → AreSettled t g first end w box → is_closed_by (takes_of t g) (constraints_within g i stop) box ≡ true
closed_now t g i stop first end w box s full m none settled =
    and_from (not (has_empty box)) (list_all (keeps_box (takes_of t g) box) (constraints_within g i stop)) (not_from_false (has_empty box) full)
    (all_if (keeps_box (takes_of t g) box) (constraints_within g i stop) (λ c a. (let f = of_filter (is_owned_within i stop) c g.constraints a in at c f.1 (placed g.constraints c f.0))))
  where
    unmarked : (k : ℕ) → is_marked w k ≡ false
    unmarked k = false_from_ne_true (is_marked w k) (λ h. (let q = subst (λ cs. stands_in cs k ≡ true) none (m k h) in nothing q))
      where
        nothing : stands_in [] k ≡ true → ⊥
        nothing q = cc

    at : (c : Rule) → is_owned_within i stop c ≡ true → Placed g.constraints c → keeps_box (takes_of t g) box c ≡ true
    at c o p = settled p.place (between_of g i stop first end p.place c s o p.there) (unmarked p.place) c p.there

-- those that wait have numbers of constraints
pub inside_exist : (first end n : ℕ) (cs : List ConId) → end ≤ n → list_all (λ c. is_between first end c.0) cs ≡ true → list_all (λ c. nat_lt c.0 n) cs ≡ true
inside_exist first end n [] l h = refl
inside_exist first end n (c ∷ cs) l h =
    and_from (nat_lt c.0 n) (list_all (λ d. nat_lt d.0 n) cs) (less c.0 (here (is_between first end c.0) (list_all (λ d. is_between first end d.0) cs) h)) (inside_exist first end n cs l (second (is_between first end c.0) (list_all (λ d. is_between first end d.0) cs) h))
  where
    here : (a b : Bool) → (a && b) ≡ true → a ≡ true
    here true b q = refl
    here false b q = q

    less : (k : ℕ) → is_between first end k ≡ true → nat_lt k n ≡ true
    less k q = grind (arith, nat_tests)

pub between_below : (first end n k : ℕ) → end ≤ n → is_between first end k ≡ true → k < n
between_below first end n k l q = grind (arith, nat_tests)

-- one of a constraint's own variables
pub own_at : (own : List VarId) (i : ℕ) (d : VarId) → i < length own → Among (get_or own i d).0 (variable_numbers own)
own_at [] i d l = absurd (omega arith)
own_at (x ∷ own) zero d l = inl refl
own_at (x ∷ own) (suc i) d l = inr (own_at own i d (omega arith))

pub own_some : (own : List VarId) (xs : List ℕ) → variable_numbers own ≡ xs → (length own ≡ 0 → ⊥) → is_none_of xs ≡ false
own_some [] xs e n = absurd (n refl)
own_some (x ∷ own) xs e n = ap is_none_of (sym e)

pub own_empty : (own : List VarId) (xs : List ℕ) → variable_numbers own ≡ xs → length own ≡ 0 → xs ≡ []
own_empty [] xs e n = sym e
own_empty (x ∷ own) xs e n = absurd (omega arith)

pub take_all : {X : Type 0} (xs : List X) (i : ℕ) → length xs ≤ i → take i xs ≡ xs
take_all [] zero l = refl
take_all [] (suc i) l = refl
take_all (x ∷ xs) zero l = absurd (omega arith)
take_all (x ∷ xs) (suc i) l = ap (λ ys. x ∷ ys) (take_all xs i (omega arith))

-- no constraint is of no scopes
none_before : (i k : ℕ) (c : Rule) → is_owned_within i i c ≡ false
none_before i k c = none i c.owner.0
  where
    none : (i j : ℕ) → (nat_le i j && nat_lt j i) ≡ false
    none i j = grind (arith, nat_tests)

pub empty_span : (g : Game) (i : ℕ) → IsSpanOf g i i 0 0
empty_span g i = record { slice = sym (none g.constraints); numbers = λ k. nothing k ∙ sym (rule (slice_get g.constraints k)); rises = omega arith; within = omega arith }
  where
    none : (cs : List Rule) → filter (is_owned_within i i) cs ≡ []
    none [] = refl
    none (c ∷ cs) = ap (λ b. cond b (c ∷ filter (is_owned_within i i) cs) (filter (is_owned_within i i) cs)) (none_before i 0 c) ∙ none cs

    nothing : (k : ℕ) → is_between 0 0 k ≡ false
    nothing k = grind (arith, nat_tests)

    rule : (o : Option Rule) → is_rule_within i i o ≡ false
    rule None = refl
    rule (Some c) = none_before i 0 c

-- a constraint without variables is settled
pub settled_bare : (t : Taking) (g : Game) (k : ℕ) (r : Rule) (w : Waiting) (box : Box) → slice_get g.constraints k ≡ Some r → variables_of r.args ≡ [] → IsSettled t g w box k
settled_bare t g k r w box e n u = one_rule g k r e (λ c. keeps_box (takes_of t g) box c ≡ true) (ap (list_all (keeps_at (takes_of t g) box r)) n)

zero_of : (n : ℕ) (b : Bool) → b ≡ (n == 0) → b ≡ true → n ≡ 0
zero_of n b e h = let q : (n == 0) ≡ true = sym e ∙ h in grind (arith, nat_tests)

some_of : (n : ℕ) (b : Bool) → b ≡ (n == 0) → b ≡ false → n ≡ 0 → ⊥
some_of n b e h z = let q : (n == 0) ≡ false = sym e ∙ h in grind (arith, nat_tests)

pub bare_of : (own : List VarId) (xs : List ℕ) (b : Bool) → variable_numbers own ≡ xs → b ≡ (length own == 0) → b ≡ true → xs ≡ []
bare_of own xs b s e h = own_empty own xs s (zero_of (length own) b e h)

pub clad_of : (own : List VarId) (xs : List ℕ) (b : Bool) → variable_numbers own ≡ xs → b ≡ (length own == 0) → b ≡ false → is_none_of xs ≡ false
clad_of own xs b s e h = own_some own xs s (some_of (length own) b e h)

-- the own variables that were gone through are all
pub gone_through : (own : List VarId) (i : ℕ) (xs : List ℕ) → length own ≤ i → variable_numbers own ≡ xs → variable_numbers (take i own) ≡ xs
gone_through own i xs l e = ap variable_numbers (take_all own i l) ∙ e

pub of_none : {X : Type 0} (o : Option X) (P : Type 0) → IfNone o P → ((x : X) → o ≡ Some x → ⊥) → P
of_none None P h n = h
of_none (Some x) P h n = absurd (n x refl)
