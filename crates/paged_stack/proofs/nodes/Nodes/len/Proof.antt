-- `len` reads through a `&`. Assumes `Logic`.
use mathlib.Core.Path.{◌≡◌, refl, sym, subst}
use Prim.Native.Nat.{ℕ, ◌+◌, ◌<◌, ◌^◌}
use native.Mathlib.Omega.{arith}
use mathlib.Core.List.{List, [], ◌∷◌, ◌++◌}
use seplogic.Ra.Ura.{Ura}
use mir.Syntax.{Fn, named, w64}
use mir.MapTy.{inst_fn}
use mir.Val.{Val, vint, vptr}
use base.Logic.{SProp, ent, emp, via, fst∗}
use base.Fml.{Lft, Share, ftrue, flft}
use prog.Wp.{Calls, Loops, WpFn, Tables}
use types.Logic.{Logic}
use contract.Monad.{fact}
use contract.Running.{tables, tables_of}
use sound.WpLaws.{WpFn-mono}
use types.Kit.{Item, ⋆, ‵, ◌⊛◌, ◌$◌, ◌∵◌, !, qed, by, move, keep, split, join, fsplit, fjoin, feq_i, feq_l, flt_i, suffices, done}
use types.Run.{look, stop, fld, load, of_opd, returns, enter}
use types.ByLocal.{alloc_all, pass_all, free_all, look_at, through, sets}
use denote.Exit.{yes}
use denote.RattleType.{RattleType, owns}
use denote.Memory.{hidden_shr}
use denote.Ref.{Bor, ShrRef}
use denote.Builtin.{RefOf, usize}
use denote.Signature.{plain}
use denote.Steps.{nothing}
use denote.Triple.Carry.{spared}
use denote.Triple.Clauses.{Clauses, Ended, closing}
use denote.Triple.Entry.{on_entry}
use denote.Triple.Spec.{Meets, triple_of}
use denote.Triple.Table.{entered, run_framed}
use denote.Triple.Walked.{says, Stays, stay_dropped, walk_of, ends_at, Goes-dropped, walk_Meets}
use Rattle.paged_stack.specs.declared.nodes.Nodes.{Nodes}
use Rattle.paged_stack.proofs.Memory.Seen.{args, R, Cr, nodes_Seen, number_in, number_out}
use Rattle.paged_stack.specs.contracts.nodes.Nodes.len.Key.{name as #self}
use Rattle.paged_stack.proofs.nodes.Nodes.len.Statement as stated
use Rattle.paged_stack.proofs.nodes.Nodes.len.Code as code

module _ (Y : RattleType) where
  abbrev function : Fn
  function = inst_fn (args Y) code.function

  abbrev ended : Ended
  ended = record { signature = record { lifetimes = 1; outlives = []; params = RefOf (0 ∷ []) tt (plain (λ _. Cr Y)) (λ _. tt) ∷ []; result = plain (λ _. usize) }; kept = (yes, tt) }

  abbrev stayed : Stays ended.signature.params ended.kept
  stayed = (stay_dropped (RefOf (0 ∷ []) tt (plain (λ _. Cr Y)) (λ _. tt)) yes, tt)

  abbrev spec : {M : Type 1} (𝓤 : Ura M) → Clauses 𝓤 ended
  spec 𝓤 κs a = record { ghost = Unit {0}; requires = λ _. emp 𝓤; ensures = λ _ r _. fact 𝓤 (r ≡ a.0.now.len) }

module _ (Y : RattleType) {M : Type 1} {𝓤 : Ura M} (𝓛 : Logic 𝓤) (C : Calls 𝓤 𝓛.H) (Λ : Loops 𝓤 𝓛.H) (κ : Lft) (q : Share) (b o : ℕ) (d : Nodes Y.Denot) (ps : List Val) where
  open 𝓛 use {H}

  abbrev self : Bor (Nodes Y.Denot)
  self = record { ref_ptr = (b, o); now = d }

  abbrev bound : (walk_of 𝓛 (ended Y) (stayed Y) (spec Y 𝓤)).Ghost
  bound = (((κ, tt), (q, tt), tt, (self, tt), (ps, tt)), tt)

  abbrev Post : Val → SProp 𝓤
  Post = (walk_of 𝓛 (ended Y) (stayed Y) (spec Y 𝓤)).post bound

  abbrev Had : List (Item 𝓤)
  Had = ‵ (hidden_shr (Cr Y) κ d b o) ∷ ‵ (flft κ q) ∷ []

  walk : ent 𝓤 (⋆ 𝓛 Had) (WpFn 𝓤 H C Λ (function Y) (vptr b o ∷ []) Post)
  walk =
      let ok = d.ok in
      let small = d.small in
      qed 𝓛 Had ∵ enter ! C Λ (function Y) (vptr b o ∷ []) _ $ alloc_all ! (λ l. pass_all ! refl ((tt, tt), tt) $ nodes_Seen ! (R Y) d b o $
      let fits : d.len < 2 ^ 64 = omega arith in
      move ! (2 ∷ 5 ∷ []) $ number_in ! tt d.len b (o + 16) (λ s.
      sets ! (of_opd ! (load ! (through ! refl (fld ! refl (stop !))) (look ! 0 refl))) refl (tt, record { fits = fits }) $ number_out ! tt d.len b (o + 16) fits $
      returns ! (look_at ! 0 refl) $ free_all ! refl $ keep ! (0 ∷ []) $
      suffices ! _ (ends_at 𝓛 (ended Y) (stayed Y) (spec Y 𝓤) bound (vint w64 d.len) d.len (tt, tt) (tt, tt)) $ says ! refl $
      flt_i ! d.len (2 ^ 64) fits $ feq_i ! (List Val) (vint w64 d.len ∷ []) (vint w64 d.len ∷ []) refl $ fjoin ! $ nothing ! $ nothing ! $ fjoin ! $ join ! $ nothing ! $ move ! (2 ∷ 0 ∷ []) $ join ! $ join ! $ done !))

  entry : ent 𝓤 (on_entry 𝓛 (ended Y).signature (κ, tt) (q, tt) (self, tt) (ps, tt)) (WpFn 𝓤 H C Λ (function Y) (ps ++ []) Post)
  entry =
      qed 𝓛 ((‵ (flft κ q) ⊛ ‵ ftrue) ∷ ‵ (owns (ShrRef (named 0) κ (Cr Y) ∷ []) (self, tt) (ps, tt)) ∷ []) ∵ split ! $ move ! (2 ∷ []) $ fsplit ! $ fsplit ! $ feq_l ! (λ e. keep ! (0 ∷ 2 ∷ []) $
      by ! (subst (λ (ws : List Val). ent 𝓤 (⋆ 𝓛 Had) (WpFn 𝓤 H C Λ (function Y) (ws ++ []) Post)) (sym e) walk))

meets : (Y : RattleType) {M : Type 1} {𝓤 : Ura M} (𝓛 : Logic 𝓤) (𝓣 : Tables 𝓤 𝓛.H)
    → Meets 𝓛 (ended Y).signature (WpFn 𝓤 𝓛.H 𝓣.C 𝓣.Λ (function Y)) (closing 𝓛 (ended Y) (spec Y 𝓤))
meets Y {𝓤 = 𝓤} 𝓛 𝓣 =
    walk_Meets 𝓛 (ended Y) (stayed Y) (Goes-dropped 𝓛 1 (RefOf (0 ∷ []) tt (plain (λ _. Cr Y)) (λ _. tt)) yes (λ κs x f. refl), tt) (spec Y 𝓤) (WpFn 𝓤 𝓛.H 𝓣.C 𝓣.Λ (function Y)) (WpFn-mono 𝓤 𝓛.H 𝓛.laws 𝓣 (function Y))
    (λ z. via 𝓤 _ (fst∗ 𝓤 _ (emp 𝓤)) (entry Y 𝓛 𝓣.C 𝓣.Λ z.0.0.0 z.0.1.0 z.0.3.0.ref_ptr.0 z.0.3.0.ref_ptr.1 z.0.3.0.now z.0.4.0))

pub len_spec : {M : Type 1} → stated.statement M
unfolding tables_of
len_spec 𝓤 𝓛 𝓜 𝓡 wired Y L y =
    let A = 𝓛.A in
    let 𝓣 : Tables 𝓤 𝓛.H = tables_of 𝓤 𝓛.H 𝓜 (tables 𝓤 𝓛.H 𝓜 𝓡 𝓡.env) in
    let k = #self (args Y) in
    spared 𝓛 (ended Y).signature (𝓡.run (𝓡.env k)) (run_framed 𝓤 𝓛.H 𝓜 𝓡 (𝓡.env k)) 1 (Y.lives, tt) (closing 𝓛 (ended Y) (spec Y 𝓤))
    (entered 𝓤 𝓛.H (triple_of 𝓛 (ended Y).signature (closing 𝓛 (ended Y) (spec Y 𝓤))) 𝓣.C 𝓣.Λ k (function Y) (code.unfolded 𝓤 𝓛.H 𝓜 𝓡 wired (Y, tt)) (meets Y 𝓛 𝓣))
    ((y.0.0, y.0.1, tt, y.0.3, y.0.4), y.1)
