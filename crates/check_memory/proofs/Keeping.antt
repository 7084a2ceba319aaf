-- Nodes that stay known while more is kept, and a node that is met again.
use Rattle.std.proofs.Common.{◌≡◌, ◌∙◌, sym, ap, subst, ℕ, Option, List, [], ◌∷◌, ◌++◌, length, take, drop, arith}
use Rattle.std.specs.Prelude.{if◌then◌else◌, is_ok, is_err, IsTrue, true, false, Result, Ok, Err, ℤ}
use Rattle.std.proofs.lemmas.List.{append-nil, length-append}
use Rattle.std.proofs.lemmas.List.Elements.{All-push, All-weaker}
use Rattle.qc_model.specs.Content.{Game}
use Rattle.likeness.specs.Likeness.{ask_nothing, SeenAlike}
use Rattle.check_memory.specs.declared.node.Node.{Node}
use Rattle.check_memory.specs.Known.{IsKnown, IsMet}
use Rattle.check_memory.specs.Memory.{IsNodeOf, IsMemoryOf}
use Rattle.check_memory.proofs.Parts.{part_kept, part_new, part_length, front_of, front_within}

-- what is known of a node by equal values and an equal text
known_as : (g : Game) (n : Node) (us vs : List ℤ) (ws bs : List ℕ) → us ≡ vs → ws ≡ bs → IsKnown g n.scope n.horizon us n.won n.turns n.depth ws → IsKnown g n.scope n.horizon vs n.won n.turns n.depth bs
known_as g n us vs ws bs e f k =
    subst (λ (xs : List ℕ). IsKnown g n.scope n.horizon vs n.won n.turns n.depth xs) f
    (subst (λ (xs : List ℤ). IsKnown g n.scope n.horizon xs n.won n.turns n.depth ws) e k)

-- a node that is known stays known where values and texts are appended
node_more : (g : Game) (vs us : List ℤ) (ts ws : List ℕ) (n : Node) → IsNodeOf g vs ts n → IsNodeOf g (vs ++ us) (ts ++ ws) n
node_more g vs us ts ws n p = record {
  values_within = omega (arith, p.values_within, length-append vs us);
  text_within = omega (arith, p.text_within, length-append ts ws);
  known =
      known_as g n (take n.count (drop n.values vs)) (take n.count (drop n.values (vs ++ us))) (take n.size (drop n.text ts)) (take n.size (drop n.text (ts ++ ws)))
      (sym (part_kept vs us n.values n.count p.values_within))
      (sym (part_kept ts ws n.text n.size p.text_within))
      p.known;
}

-- a node whose values and text were appended is known by them
node_new : (g : Game) (vs us : List ℤ) (ts ws : List ℕ) (n : Node) → n.values ≡ length vs → n.count ≡ length us → n.text ≡ length ts → n.size ≡ length ws →
    IsKnown g n.scope n.horizon us n.won n.turns n.depth ws → IsNodeOf g (vs ++ us) (ts ++ ws) n
node_new g vs us ts ws n a b c d k = record {
  values_within = omega (arith, a, b, length-append vs us);
  text_within = omega (arith, c, d, length-append ts ws);
  known =
      known_as g n us (take n.count (drop n.values (vs ++ us))) ws (take n.size (drop n.text (ts ++ ws)))
      (sym (ap (λ (k : ℕ). take k (drop n.values (vs ++ us))) b ∙ (ap (λ (k : ℕ). take (length us) (drop k (vs ++ us))) a ∙ part_new vs us)))
      (sym (ap (λ (k : ℕ). take k (drop n.text (ts ++ ws))) d ∙ (ap (λ (k : ℕ). take (length ws) (drop k (ts ++ ws))) c ∙ part_new ts ws)))
      k;
}

-- so do all nodes of a memory
pub memory_more : (g : Game) (l : Option Game) (ns : List Node) (vs us : List ℤ) (ts ws : List ℕ) → IsMemoryOf g l ns vs ts → IsMemoryOf g l ns (vs ++ us) (ts ++ ws)
memory_more g l ns vs us ts ws m = record {
  compared = m.compared;
  plain = m.plain;
  nodes = All-weaker (IsNodeOf g vs ts) (IsNodeOf g (vs ++ us) (ts ++ ws)) (node_more g vs us ts ws) ns m.nodes;
}

-- where values were appended alone
pub memory_values : (g : Game) (l : Option Game) (ns : List Node) (vs us : List ℤ) (ts : List ℕ) → IsMemoryOf g l ns vs ts → IsMemoryOf g l ns (vs ++ us) ts
memory_values g l ns vs us ts m = subst (λ (bs : List ℕ). IsMemoryOf g l ns (vs ++ us) bs) (append-nil ts) (memory_more g l ns vs us ts [] m)

-- with a node whose values and text were appended
pub memory_with : (g : Game) (l : Option Game) (ns : List Node) (vs us : List ℤ) (ts ws : List ℕ) (n : Node) → IsMemoryOf g l ns vs ts →
    n.values ≡ length vs → n.count ≡ length us → n.text ≡ length ts → n.size ≡ length ws → IsKnown g n.scope n.horizon us n.won n.turns n.depth ws →
    IsMemoryOf g l (ns ++ n ∷ []) (vs ++ us) (ts ++ ws)
memory_with g l ns vs us ts ws n m a b c d k =
    let more = memory_more g l ns vs us ts ws m in
    record {
      compared = more.compared;
      plain = more.plain;
      nodes = All-push (IsNodeOf g (vs ++ us) (ts ++ ws)) ns n more.nodes (node_new g vs us ts ws n a b c d k);
    }

-- a node is met where the text begins with its own and the values look the same
pub met_of : (g : Game) (i : ℕ) (h : Option ℕ) (vs here : List ℤ) (ts text rest : List ℕ) (n : Node) → IsNodeOf g vs ts n → n.scope ≡ i → n.horizon ≡ h → IsTrue (ask_nothing g.scopes) →
    text ≡ take n.size (drop n.text ts) ++ rest → SeenAlike g i (take n.count (drop n.values vs)) here →
    IsMet g i h here text (record { won = n.won; turns = n.turns; depth = n.depth; size = n.size })
met_of g i h vs here ts text rest n p e f plain begins like =
    let us = take n.count (drop n.values vs) in
    let own = take n.size (drop n.text ts) in
    let many : length own ≡ n.size = part_length ts n.text n.size p.text_within in
    let front : own ≡ take n.size text = sym (front_of text own rest n.size begins many) in
    record {
      plain = plain;
      within = front_within text own rest n.size begins many;
      kept = us;
      like = like;
      known =
          subst (λ (k : ℕ). IsKnown g k h us n.won n.turns n.depth (take n.size text)) e
          (subst (λ (z : Option ℕ). IsKnown g n.scope z us n.won n.turns n.depth (take n.size text)) f
          (subst (λ (bs : List ℕ). IsKnown g n.scope n.horizon us n.won n.turns n.depth bs) front p.known));
    }

-- what a list of items is after more were appended, or not for want of memory
pub appended : {X T E : Type 0} (r : Result T E) (new old more : List X) → new ≡ (if is_ok r then old ++ more else old) → is_err r ≡ false → new ≡ old ++ more
appended (Ok x) new old more e f = e
appended (Err x) new old more e f = absurd cc

pub unchanged : {X T E : Type 0} (r : Result T E) (new old more : List X) → new ≡ (if is_ok r then old ++ more else old) → is_err r ≡ true → new ≡ old
unchanged (Ok x) new old more e f = absurd cc
unchanged (Err x) new old more e f = e
