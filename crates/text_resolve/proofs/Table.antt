-- What a table of the names declared so far knows of all declarations of a text.
use Rattle.std.proofs.Common.{◌+◌, ◌<◌, ◌≤◌, length, get_or, drop, arith, ◌≡◌, ◌∙◌, refl, sym, ap, subst, ℕ, Bool, true, false, cond, ◌||◌, List, [], ◌∷◌, find, Option, None, Some, is_some, bytes_eq}
use Rattle.std.specs.List.{list_any}
use Rattle.std.proofs.lemmas.List.{drop_more}
use Rattle.std.specs.Option.{option_map}
use Rattle.std.specs.Cmp.Lexicographic.{bytes_decides, nat_list_eq_equiv}
use Rattle.text_grammar.specs.declared.tree.Item.{Item}
use Rattle.text_grammar.specs.declared.tree.Item.TheVariants.{Exists as ExistsItem, Forall as ForallItem, Goal as GoalItem, Variable, Aggregate as AggregateItem, Constraint}
use Rattle.text_resolve.specs.declared.names.Meant.{Meant}
use Rattle.text_resolve.specs.declared.counts.Counts.{Counts}
use Rattle.text_resolve.specs.declared.counts.Declaration.{Declaration}
use Rattle.text_resolve.specs.Owned.{word_bytes}
use Rattle.text_resolve.specs.Names.{Declared, declared, look_up, first_repeated}
use Rattle.text_resolve.specs.Counts.{declares, counts_after, declared_after, with_declared}

-- what a name stands for by the table, or else by what is still to come
abbrev pub first_known : Option Meant → Option Meant → Option Meant
first_known None later = later
first_known (Some m) later = Some m

-- the table has the names that the items before the rest declare, no two of them the same
pub record Knows (text : List ℕ) (items rest : List Item) (counts : Counts) (table : List ℕ → Option Meant) : Type 0 where
  pub found : (name : List ℕ) → look_up (declared text items) name ≡ first_known (table name) (look_up (declared_after text counts rest) name)
  pub before : List (List ℕ)
  pub known : (name : List ℕ) → list_any (bytes_eq name) before ≡ is_some (table name)
  pub repeated : first_repeated [] (declared text items) ≡ first_repeated before (declared_after text counts rest)

declared_next : (text : List ℕ) (c : Counts) (i : Item) (is : List Item) → declared_after text c (i ∷ is) ≡ with_declared text (declares c i) (declared_after text (counts_after c i) is)
declared_next text c (ExistsItem at condition) is = refl
declared_next text c (ForallItem at) is = refl
declared_next text c GoalItem is = refl
declared_next text c (Variable at domain name) is = refl
declared_next text c (AggregateItem at name fold target) is = refl
declared_next text c (Constraint at name args) is = refl

pub knows_none : (text : List ℕ) (items : List Item) (table : List ℕ → Option Meant) → ((name : List ℕ) → table name ≡ None) → Knows text items items (record { scopes = 0; owner = 0; variables = 0; aggregates = 0 }) table
knows_none text items table empty = record {
  found = λ name. rw (empty name) refl;
  before = [];
  known = λ name. rw (empty name) refl;
  repeated = refl;
}

-- at the next of the items
pub knows_at : (text : List ℕ) (items rest more : List Item) (i : Item) (c : Counts) (table : List ℕ → Option Meant) → Knows text items rest c table → rest ≡ i ∷ more → Knows text items (i ∷ more) c table
knows_at text items rest more i c table k e = subst (λ is. Knows text items is c table) e k

pub knows_past : (text : List ℕ) (items : List Item) (i : Item) (rest : List Item) (c : Counts) (table : List ℕ → Option Meant) → Knows text items (i ∷ rest) c table → declares c i ≡ None → Knows text items rest (counts_after c i) table
knows_past text items i rest c table k none =
    let same : declared_after text c (i ∷ rest) ≡ declared_after text (counts_after c i) rest = declared_next text c i rest ∙ ap (λ d. with_declared text d (declared_after text (counts_after c i) rest)) none in
    record {
      found = λ name. k.found name ∙ ap (λ ds. first_known (table name) (look_up ds name)) same;
      before = k.before;
      known = k.known;
      repeated = k.repeated ∙ ap (first_repeated k.before) same;
    }

known_next : (name : List ℕ) (d : Declared) (ds : List Declared) (old new : Option Meant) → (bytes_eq d.name name ≡ true → old ≡ None) → new ≡ cond (bytes_eq d.name name) (Some d.meant) old → first_known old (look_up (d ∷ ds) name) ≡ first_known new (look_up ds name)
known_next name d ds old new fresh e =
    rw e (elim (bytes_eq d.name name) as (λ b. (b ≡ true → old ≡ None) → first_known old (option_map (λ (x : Declared). x.meant) (cond b (Some d) (find (λ (x : Declared). bytes_eq x.name name) ds))) ≡ first_known (cond b (Some d.meant) old) (look_up ds name))
    [ true ↦ (λ gone. rw (gone refl) refl) | false ↦ (λ gone. refl) ] fresh)

any_next : (w name : List ℕ) (before : List (List ℕ)) (old new : Option Meant) (m : Meant) → list_any (bytes_eq name) before ≡ is_some old → new ≡ cond (bytes_eq w name) (Some m) old → list_any (bytes_eq name) (w ∷ before) ≡ is_some new
any_next w name before old new m known e =
    rw (e, nat_list_eq_equiv.symm name w, known) (elim (bytes_eq w name) as (λ b. (b || is_some old) ≡ is_some (cond b (Some m) old)) [ true ↦ refl | false ↦ refl ])

pub knows_more : (text : List ℕ) (items : List Item) (i : Item) (rest : List Item) (c : Counts) (d : Declaration) (table larger : List ℕ → Option Meant) → Knows text items (i ∷ rest) c table → declares c i ≡ Some d → table (word_bytes text d.name) ≡ None → ((name : List ℕ) → larger name ≡ cond (bytes_eq (word_bytes text d.name) name) (Some d.meant) (table name)) → Knows text items rest (counts_after c i) larger
knows_more text items i rest c d table larger k some fresh put =
    let w = word_bytes text d.name in
    let more = declared_after text (counts_after c i) rest in
    let next : Declared = record { name = w; at = d.name.start; meant = d.meant } in
    let same : declared_after text c (i ∷ rest) ≡ next ∷ more = declared_next text c i rest ∙ ap (λ o. with_declared text o more) some in
    record {
      found = λ name. k.found name ∙ ap (λ ds. first_known (table name) (look_up ds name)) same
          ∙ known_next name next more (table name) (larger name) (λ e. ap table (sym ((bytes_decides w name).0 e)) ∙ fresh) (put name);
      before = w ∷ k.before;
      known = λ name. any_next w name k.before (table name) (larger name) d.meant (k.known name) (put name);
      repeated = k.repeated ∙ ap (first_repeated k.before) same ∙ ap (λ b. cond b (Some d.name.start) (first_repeated (w ∷ k.before) more)) (k.known w ∙ ap is_some fresh);
    }

pub repeated_here : (text : List ℕ) (items : List Item) (i : Item) (rest : List Item) (c : Counts) (d : Declaration) (table : List ℕ → Option Meant) → Knows text items (i ∷ rest) c table → declares c i ≡ Some d → is_some (table (word_bytes text d.name)) ≡ true → first_repeated [] (declared text items) ≡ Some d.name.start
repeated_here text items i rest c d table k some taken =
    let w = word_bytes text d.name in
    let more = declared_after text (counts_after c i) rest in
    k.repeated ∙ ap (first_repeated k.before) (declared_next text c i rest ∙ ap (λ o. with_declared text o more) some)
    ∙ ap (λ b. cond b (Some d.name.start) (first_repeated (w ∷ k.before) more)) (k.known w ∙ taken)

known_last : (o : Option Meant) → first_known o None ≡ o
known_last None = refl
known_last (Some m) = refl

pub knows_all : (text : List ℕ) (items : List Item) (c : Counts) (table : List ℕ → Option Meant) → Knows text items [] c table → (name : List ℕ) → table name ≡ look_up (declared text items) name
knows_all text items c table k name = sym (k.found name ∙ known_last (table name))

pub none_repeated : (text : List ℕ) (items : List Item) (c : Counts) (table : List ℕ → Option Meant) → Knows text items [] c table → first_repeated [] (declared text items) ≡ None
none_repeated text items c table k = k.repeated

-- the items from a place on begin with the one that stands there
pub item_first : (items : List Item) (n : ℕ) (i : Item) → n < length items → i ≡ get_or items n i → drop n items ≡ i ∷ drop (n + 1) items
item_first items n i h e = drop_more items n i h ∙ ap (λ x. x ∷ drop (n + 1) items) (sym e)

pub counts_rise : (c : Counts) (i : Item) → (counts_after c i).scopes + (counts_after c i).variables + (counts_after c i).aggregates ≤ c.scopes + c.variables + c.aggregates + 1
counts_rise c (ExistsItem at condition) = omega arith
counts_rise c (ForallItem at) = omega arith
counts_rise c GoalItem = omega arith
counts_rise c (Variable at domain name) = omega arith
counts_rise c (AggregateItem at name fold target) = omega arith
counts_rise c (Constraint at name args) = omega arith

none_of : {A : Type 0} (o : Option A) → is_some o ≡ false → o ≡ None
none_of None e = refl
none_of (Some x) e = cc

-- a name that was not found is new, where the call gave what it found and the bytes of the name
pub fresh_name : (table : List ℕ → Option Meant) (old : Option Meant) (given wanted : List ℕ) (r : Bool) → old ≡ table given → given ≡ wanted → r ≡ is_some old → r ≡ false → table wanted ≡ None
fresh_name table old given wanted r e same said f = ap table (sym same) ∙ sym e ∙ none_of old (sym said ∙ f)
