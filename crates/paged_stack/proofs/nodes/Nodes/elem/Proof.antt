-- `elem` shows an element that the chain lends. Assumes `Logic`.
use mathlib.Core.Path.{◌≡◌, refl, sym, ap, subst, ◌∙◌}
use Prim.Native.Nat.{ℕ, ◌+◌, ◌<◌, ◌^◌}
use native.Mathlib.Omega.{arith}
use mathlib.Core.List.{List, [], ◌∷◌, ◌++◌}
use lib.ListN.{get_or}
use seplogic.Ra.Ura.{Ura}
use mir.Syntax.{Fn, named, w64}
use mir.MapTy.{inst_fn}
use mir.Val.{Val, vint, vptr}
use base.Logic.{SProp, ent, never, fst∗}
use base.Fml.{Lft, Share, ftrue, flft}
use prog.Wp.{Env, Calls, Loops, WpFn, Tables}
use types.Logic.{Logic, sem}
use contract.Monad.{fact}
use contract.Running.{tables, tables_of}
use sound.WpLaws.{WpFn-mono}
use types.Kit.{Item, ⋆, ‵, ◌⊛◌, at_ret, ◌$◌, ◌∵◌, !, qed, by, move, keep, use1, drop, split, join, fsplit, fsplit3, fjoin, feq_i, feq_l, suffices, done}
use types.Part.{whole, sub}
use types.Run.{stop, fld, of_opd, addr, first, blocks, exec, returns, enter}
use types.ByLocal.{alloc_all, pass_all, free_all, look_at, get, get_in, through, sets, sets_last, is, env}
use denote.Exit.{yes, no}
use denote.RattleType.{RattleType, owns}
use denote.Memory.{shared_of, hidden_shr}
use denote.RawPtr.{ptr_val, in_a_block, ◌+ₚ◌}
use denote.Ref.{Bor, ShrRef}
use denote.Builtin.{RefOf, usize}
use denote.Signature.{plain}
use denote.Steps.{nothing}
use denote.Opens.{hide}
use denote.Triple.Carry.{spared}
use denote.Triple.Clauses.{Clauses, Ended, closing}
use denote.Triple.Entry.{on_entry}
use denote.Triple.Spec.{Meets, triple_of}
use denote.Triple.Table.{entered, run_framed}
use denote.Triple.Walked.{says, needs, Stays, stay_dropped, walk_of, ends_at, Goes-dropped, walk_Meets}
use Rattle.std.proofs.VecSteps.Shapes.{after}
use Rattle.std.proofs.RcSteps.{word, word-Good}
use Rattle.std.proofs.SliceLists.{any-default}
use denote.Struct.Lending.{lent_at}
use Rattle.paged_stack.specs.declared.nodes.Nodes.{Nodes}
use Rattle.paged_stack.specs.declared.nodes.Place.{Place}
use Rattle.paged_stack.specs.contracts.nodes.Place as Pl
use Rattle.paged_stack.specs.Links.{Link, place_of}
use Rattle.paged_stack.specs.Ownership.{elem_offset}
use Rattle.paged_stack.proofs.Memory.Words.{word_had}
use Rattle.paged_stack.proofs.Memory.Chained.{link_at, place_of-is}
use Rattle.paged_stack.proofs.Memory.Steps.{uncons}
use Rattle.paged_stack.proofs.Memory.Seen.{args, R, Cr, nodes_Seen, elem_at}
use Rattle.paged_stack.specs.contracts.nodes.Nodes.elem.Key.{name as #self}
use Rattle.paged_stack.proofs.nodes.Nodes.elem.Statement as stated
use Rattle.paged_stack.proofs.nodes.Nodes.elem.Code as code

abbrev Asks : {X : Type 0} → Nodes X → Place → ℕ → Type 0
Asks d at i = (i < d.len) × (at.ptr ≡ place_of d.links i)

module _ (Y : RattleType) where
  abbrev function : Fn
  function = inst_fn (args Y) code.function

  abbrev ended : Ended
  ended = record { signature = record { lifetimes = 1; outlives = []; params = RefOf (0 ∷ []) tt (plain (λ _. Cr Y)) (λ _. tt) ∷ plain (λ _. Pl.the_row) ∷ plain (λ _. usize) ∷ []; result = RefOf (0 ∷ []) tt (plain (λ _. R Y)) (λ _. tt) }; kept = (yes, (no, (no, tt))) }

  abbrev stayed : Stays ended.signature.params ended.kept
  stayed = (stay_dropped (RefOf (0 ∷ []) tt (plain (λ _. Cr Y)) (λ _. tt)) yes, (stay_dropped (plain (λ _. Pl.the_row)) no, (stay_dropped (plain (λ _. usize)) no, tt)))

  abbrev spec : {M : Type 1} (𝓤 : Ura M) → Clauses 𝓤 ended
  spec 𝓤 κs a = record { ghost = Unit {0}; requires = λ _. fact 𝓤 (Asks a.0.now a.1.0 a.1.1.0); ensures = λ _ r _. fact 𝓤 (r.now ≡ get_or a.0.now.items a.1.1.0 r.now) }

module _ (Y : RattleType) {M : Type 1} {𝓤 : Ura M} (𝓛 : Logic 𝓤) (C : Calls 𝓤 𝓛.H) (Λ : Loops 𝓤 𝓛.H) (κ : Lft) (q : Share) (b o : ℕ) (d : Nodes Y.Denot) (at : Place) (i : ℕ) (ps us vs : List Val) where
  open 𝓛 use {H}

  abbrev self : Bor (Nodes Y.Denot)
  self = record { ref_ptr = (b, o); now = d }

  abbrev bound : (walk_of 𝓛 (ended Y) (stayed Y) (spec Y 𝓤)).Ghost
  bound = (((κ, tt), (q, tt), tt, (self, (at, (i, tt))), (ps, (us, (vs, tt)))), tt)

  abbrev Post : Val → SProp 𝓤
  Post = (walk_of 𝓛 (ended Y) (stayed Y) (spec Y 𝓤)).post bound

  abbrev Had : List (Item 𝓤)
  Had = ‵ (hidden_shr (Cr Y) κ d b o) ∷ ‵ (flft κ q) ∷ []

  walk : Asks d at i → ent 𝓤 (⋆ 𝓛 Had) (WpFn 𝓤 H C Λ (function Y) (vptr b o ∷ word at.ptr ∷ vint w64 i ∷ []) Post)
  walk asked =
      let ok = d.ok in
      let small = d.small in
      let within = asked.0 in
      let fits : i < 2 ^ 64 = omega arith in
      let n : Link = link_at d.links i in
      let here : at.ptr ≡ n.0 = asked.1 ∙ place_of-is d.links i in
      qed 𝓛 Had ∵ enter ! C Λ (function Y) (vptr b o ∷ word at.ptr ∷ vint w64 i ∷ []) _ $
      alloc_all ! (λ l. pass_all ! refl ((tt, tt), (word-Good Pl.the_type.name at.ptr, ((tt, record { fits = fits }), tt))) $
      let En : Env 𝓤 H = env (function Y).locals l in
      nodes_Seen ! (R Y) d b o $
      let y : Y.Denot = (uncons d.items (omega arith)).0 in
      let x : Y.Denot = get_or d.items i y in
      let k : ℕ = elem_offset (R Y) in
      move ! (3 ∷ []) $ use1 𝓛 (‵ (lent_at (R Y) (n.0 +ₚ k) x κ)) (elem_at 𝓛 κ (R Y) d.links d.items i y (omega arith) (omega arith)) $
      in_a_block ! n.0 (λ p. lent_at (R Y) (p +ₚ k) x κ) (fst∗ 𝓤 (never 𝓤) (sem 𝓛 (shared_of (R Y) x 0 0 κ))) (λ nb no e. fsplit ! $ drop ! $ hide ! $
      let r : Val = vptr nb (no + k) in
      sets ! (is ! (of_opd ! (get_in ! (fld ! refl (stop !)) (sub ! 0 refl (whole !)))) (ap ptr_val (here ∙ e))) refl (tt, tt) $ first ! $ blocks ! $
      sets_last ! (addr ! (through ! refl (fld ! refl (stop !)))) refl (tt, tt) $ exec ! C Λ En (after 2 (function Y).body) (at_ret En Post) $ sets ! (of_opd ! (get ! refl)) refl (tt, tt) $
      feq_i ! (List Val) (r ∷ []) (r ∷ []) refl $ fjoin ! $ returns ! (look_at ! 0 refl) $ free_all ! refl $ keep ! (0 ∷ 5 ∷ []) $
      suffices ! _ (ends_at 𝓛 (ended Y) (stayed Y) (spec Y 𝓤) bound r (record { ref_ptr = (nb, no + k); now = x }) (tt, (tt, (tt, tt))) (tt, (tt, (tt, tt)))) $ says ! (any-default d.items i y x (omega arith)) $
      nothing ! $ nothing ! $ fjoin ! $ nothing ! $ fjoin ! $ nothing ! $ fjoin ! $ join ! $ nothing ! $ move ! (2 ∷ 0 ∷ []) $ join ! $ join ! $ done !))

  entry : Asks d at i → ent 𝓤 (on_entry 𝓛 (ended Y).signature (κ, tt) (q, tt) (self, (at, (i, tt))) (ps, (us, (vs, tt)))) (WpFn 𝓤 H C Λ (function Y) (ps ++ (us ++ (vs ++ []))) Post)
  entry asked =
      qed 𝓛 ((‵ (flft κ q) ⊛ ‵ ftrue) ∷ ‵ (owns (ShrRef (named 0) κ (Cr Y) ∷ Pl.the_row ∷ usize ∷ []) (self, (at, (i, tt))) (ps, (us, (vs, tt)))) ∷ []) ∵ split ! $ move ! (2 ∷ []) $ fsplit3 ! $ fsplit ! $ feq_l ! (λ e.
      move ! (1 ∷ []) $ word_had ! at.ptr us (λ f. move ! (1 ∷ []) $ fsplit ! $ fsplit ! $ feq_l ! (λ g. keep ! (2 ∷ 3 ∷ []) $
      by ! (subst (λ (ws : List Val × List Val × List Val). ent 𝓤 (⋆ 𝓛 Had) (WpFn 𝓤 H C Λ (function Y) (ws.0 ++ (ws.1 ++ (ws.2 ++ []))) Post)) (λ j. (sym e j, sym f j, sym g j)) (walk asked)))))

meets : (Y : RattleType) {M : Type 1} {𝓤 : Ura M} (𝓛 : Logic 𝓤) (𝓣 : Tables 𝓤 𝓛.H)
    → Meets 𝓛 (ended Y).signature (WpFn 𝓤 𝓛.H 𝓣.C 𝓣.Λ (function Y)) (closing 𝓛 (ended Y) (spec Y 𝓤))
meets Y {𝓤 = 𝓤} 𝓛 𝓣 =
    walk_Meets 𝓛 (ended Y) (stayed Y) (Goes-dropped 𝓛 1 (RefOf (0 ∷ []) tt (plain (λ _. Cr Y)) (λ _. tt)) yes (λ κs x f. refl), (Goes-dropped 𝓛 1 (plain (λ _. Pl.the_row)) no (λ κs x f. refl), (Goes-dropped 𝓛 1 (plain (λ _. usize)) no (λ κs x f. refl), tt))) (spec Y 𝓤) (WpFn 𝓤 𝓛.H 𝓣.C 𝓣.Λ (function Y)) (WpFn-mono 𝓤 𝓛.H 𝓛.laws 𝓣 (function Y))
    (λ z. let a = z.0.3 in let vss = z.0.4 in needs 𝓤 (Asks a.0.now a.1.0 a.1.1.0) _ (entry Y 𝓛 𝓣.C 𝓣.Λ z.0.0.0 z.0.1.0 a.0.ref_ptr.0 a.0.ref_ptr.1 a.0.now a.1.0 a.1.1.0 vss.0 vss.1.0 vss.1.1.0))

pub elem_spec : {M : Type 1} → stated.statement M
unfolding tables_of
elem_spec 𝓤 𝓛 𝓜 𝓡 wired Y L y =
    let A = 𝓛.A in
    let 𝓣 : Tables 𝓤 𝓛.H = tables_of 𝓤 𝓛.H 𝓜 (tables 𝓤 𝓛.H 𝓜 𝓡 𝓡.env) in
    let k = #self (args Y) in
    spared 𝓛 (ended Y).signature (𝓡.run (𝓡.env k)) (run_framed 𝓤 𝓛.H 𝓜 𝓡 (𝓡.env k)) 1 (Y.lives, tt) (closing 𝓛 (ended Y) (spec Y 𝓤))
    (entered 𝓤 𝓛.H (triple_of 𝓛 (ended Y).signature (closing 𝓛 (ended Y) (spec Y 𝓤))) 𝓣.C 𝓣.Λ k (function Y) (code.unfolded 𝓤 𝓛.H 𝓜 𝓡 wired (Y, tt)) (meets Y 𝓛 𝓣))
    ((y.0.0, y.0.1, tt, y.0.3, y.0.4), y.1)
