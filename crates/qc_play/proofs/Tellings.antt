-- What is told of leaves, one part after the other.
use Rattle.std.proofs.Common.{◌≡◌, ℕ, ◌+◌, List, [], ◌++◌, map, refl, sym, ap, ◌∙◌, subst, arith, Some, append_assoc, append-nil, add-zero}
use Rattle.qc_model.specs.Content.{Game}
use Rattle.qc_model.specs.Verdict.{Seen}
use Rattle.joins.specs.Joins.{StandsAt}
use Rattle.joins.specs.Ends.{HasEnds}
use Rattle.joins.proofs.Ends.{ends_join}
use Rattle.joins.specs.declared.joins.Joins.{Joins}
use Rattle.proof_tree.specs.Finding.{Leaf, seen_of}
use Rattle.check_lines.proofs.Leaves.{seen-append}
use Rattle.qc_play.specs.declared.gathering.Gathering.{Gathering}
use Rattle.qc_play.specs.Gathers.{Gathers, IsSameScope}
use Rattle.qc_play.specs.Walk.{HasSeen, Tells}
use Rattle.qc_play.proofs.TreeSizes.{LeavesFit}

-- nothing is told
pub tells_none : (g : Game) (i : ℕ) (js : Joins) (x : Gathering) → Tells g i js x js x 0 []
tells_none g i js x n ls few seen = subst (λ k. HasSeen g i js x k (ls ++ [])) (sym (add-zero n)) (subst (HasSeen g i js x n) (sym (append-nil ls)) seen)

-- one part, and then another
pub tells_then : (g : Game) (i : ℕ) (js ks us : Joins) (x y z : Gathering) (k l : ℕ) (ms ns : List Leaf) → Tells g i js x ks y k ms → Tells g i ks y us z l ns → Tells g i js x us z (k + l) (ms ++ ns)
tells_then g i js ks us x y z k l ms ns f h n ls few seen =
    let e : (n + k) + l ≡ n + (k + l) = omega arith in
    subst (λ m. HasSeen g i us z m (ls ++ (ms ++ ns))) e
    (subst (HasSeen g i us z ((n + k) + l)) append_is
    (h (n + k) (ls ++ ms) (omega (arith, few)) (f n ls (omega (arith, few)) seen)))
  where
    append_is : (ls ++ ms) ++ ns ≡ ls ++ (ms ++ ns)
    append_is = append_assoc ls ms ns

-- the same, by other words
pub tells_as : (g : Game) (i : ℕ) (js ks : Joins) (x y : Gathering) (k l : ℕ) (ms ns : List Leaf) → k ≡ l → ms ≡ ns → Tells g i js x ks y k ms → Tells g i js x ks y l ns
tells_as g i js ks x y k l ms ns a e f = subst (λ us. Tells g i js x ks y l us) e (subst (λ n. Tells g i js x ks y n ms) a f)

-- leaves that fit, which the join and the gathering take
pub seen_more : (g : Game) (i : ℕ) (js ks : Joins) (x y : Gathering) (n k : ℕ) (ls ms : List Leaf) → HasSeen g i js x n ls → IsSameScope x y → StandsAt ks i (map seen_of ls ++ map seen_of ms) → Gathers y (ls ++ ms) → LeavesFit g i k ms → HasSeen g i ks y (n + k) (ls ++ ms)
seen_more g i js ks x y n k ls ms h same stands gathers fits = record {
  stands = subst (StandsAt ks i) (sym (seen-append ls ms)) stands;
  gathers = gathers;
  ends = subst (HasEnds (n + k)) (sym (seen-append ls ms)) (ends_join n k (map seen_of ls) (map seen_of ms) h.ends fits.ends);
  kind = h.kind ∙ ap Some (sym same.owner);
  wishes = λ e. same.wishes ∙ h.wishes (sym same.owner ∙ e);
  place = same.before ∙ h.place;
}

same_scope : (x : Gathering) → IsSameScope x x
same_scope x = record { owner = refl; wishes = refl; before = refl }

-- leaves that don't go on
pub tells_alone : (g : Game) (i : ℕ) (js ks : Joins) (x : Gathering) (k : ℕ) (ms : List Leaf) → ((xs : List Seen) → StandsAt js i xs → StandsAt ks i (xs ++ map seen_of ms)) → ((ls : List Leaf) → Gathers x ls → Gathers x (ls ++ ms)) → LeavesFit g i k ms → Tells g i js x ks x k ms
tells_alone g i js ks x k ms stands gathers fits n ls few h = seen_more g i js ks x x n k ls ms h (same_scope x) (stands (map seen_of ls) h.stands) (gathers ls h.gathers) fits
