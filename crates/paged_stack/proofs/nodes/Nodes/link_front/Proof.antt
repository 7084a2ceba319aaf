-- `link_front` fills the block, and the first node points back to it. Assumes `Logic`.
use mathlib.Core.Path.{◌≡◌, refl, sym, ap, subst, ◌∙◌}
use Prim.Native.Nat.{ℕ, ◌+◌, ◌<◌, ◌^◌}
use native.Mathlib.Omega.{arith}
use mathlib.Core.List.{List, [], ◌∷◌, ◌++◌}
use lib.ListN.{length}
use seplogic.Ra.Ura.{Ura}
use mir.Syntax.{Fn, named, ty_ptr}
use mir.MapTy.{inst_fn}
use mir.Val.{Val, vptr, vunit}
use base.Logic.{SProp, ent, sep}
use base.Fml.{Lft, GName, Share, ftrue, froom, flft, fobs, fbor}
use prog.Wp.{Env, Calls, Loops, WpFn, Tables}
use types.Logic.{Logic}
use contract.Monad.{fact}
use contract.Running.{tables, tables_of}
use sound.WpLaws.{WpFn-mono}
use types.Kit.{Item, ⋆, ‵, ◌⊛◌, at_ret, ◌$◌, ◌∵◌, !, qed, by, move, keep, use1, use2, split, join, rewrite, fsplit, fsplit3, fjoin, fjoin3, feq_i, feq_l, suffices, frame, done}
use types.Part.{whole, sub, agg, look_in, store_in}
use types.Run.{store, init, stop, fld, load, lit, unit_lit, of_opd, bin, and_then, no_more, assigns, assigns_last, first, blocks, exec, returns, enter}
use types.ByLocal.{alloc_all, pass_all, free_all, look_at, get, get_in, through, sets, is, env}
use types.SemTy.{Body as Borrowed}
use denote.Exit.{yes, no}
use denote.RattleType.{RattleType, owns}
use denote.Memory.{mem, lone}
use denote.RawPtr.{Ptr, block_ptr, ptr_val}
use denote.Ref.{MutBor, MutRef}
use denote.Builtin.{RefMutOf, unit}
use denote.Signature.{plain}
use denote.Steps.{nothing}
use denote.Triple.Carry.{spared}
use denote.Triple.Clauses.{Clauses, Ended, closing}
use denote.Triple.Entry.{on_entry}
use denote.Triple.Spec.{Meets, triple_of}
use denote.Triple.Table.{entered, run_framed}
use denote.Triple.Walked.{says, needs, Stays, stay_dropped, stay_ref, walk_of, ends_at, Goes-dropped, Goes-ref, walk_Meets}
use Rattle.std.proofs.VecSteps.Shapes.{after}
use Rattle.std.proofs.RcSteps.{Good as Typed, Ptr-Good, word}
use denote.Struct.Struct.{as_fields}
use Rattle.std.proofs.alloc.Calls.{Goes-blank}
use Rattle.std.proofs.RawLayout.{as_written}
use Rattle.paged_stack.proofs.Memory.El.{El, boxed, Good, args, X, τ, own, R}
use Rattle.std.proofs.BoxSteps.Steps.{el_tells}
use Rattle.paged_stack.proofs.Memory.Room as Opened
use Rattle.paged_stack.proofs.Memory.Room.{Room-had, Room-made}
use Rattle.paged_stack.specs.Links.{places_of}
use Rattle.paged_stack.specs.contracts.nodes.Node as Block
use Rattle.paged_stack.specs.Links.{Link, IsChained, LeadsBackTo}
use Rattle.paged_stack.proofs.Memory.Chained.{IsChained-had, IsChained-cons}
use Rattle.paged_stack.proofs.Memory.Steps.{uncons, node_val, D, Nr, room_ty, Held, One, cons_out, cons_in, nodes_opens, nodes_closes, one_opens, one_closes, node_made}
use Rattle.paged_stack.specs.contracts.nodes.Nodes.link_front.Key.{name as #self}
use Rattle.paged_stack.proofs.nodes.Nodes.link_front.Statement as stated
use Rattle.paged_stack.proofs.nodes.Nodes.link_front.Code as code

module _ (E : El) where
  abbrev function : Fn
  function = inst_fn (args E) code.function

  abbrev Node : RattleType
  Node = Block.the_row (R E)

  abbrev Room : RattleType
  Room = Opened.Room Node

  abbrev ended : Ended
  ended = record { signature = record { lifetimes = 1; outlives = []; params = RefMutOf (0 ∷ []) tt (plain (λ _. Nr E)) (λ _. tt) ∷ plain (λ _. Room) ∷ plain (λ _. R E) ∷ []; result = plain (λ _. unit) }; kept = (yes, (no, (no, tt))) }

  abbrev stayed : Stays ended.signature.params ended.kept
  stayed = (stay_ref (0 ∷ []) tt (plain (λ _. Nr E)), (stay_dropped (plain (λ _. Room)) no, (stay_dropped (plain (λ _. R E)) no, tt)))

  abbrev Asks : D E → Type 0
  Asks d = (0 < d.len) × (d.len + 1 < 2 ^ 63)

  abbrev Gives : D E → Ptr → X E → D E → Type 0
  Gives d p x e = (e.items ≡ x ∷ d.items) × (places_of e.links ≡ p ∷ places_of d.links)

  abbrev spec : {M : Type 1} {𝓤 : Ura M} (𝓛 : Logic 𝓤) → Clauses 𝓤 ended
  spec {𝓤 = 𝓤} 𝓛 κs a = record { ghost = Unit {0}; requires = λ _. fact 𝓤 (Asks a.0.now); ensures = λ _ r w. fact 𝓤 (Gives a.0.now a.1.0.ptr a.1.1.0 w.0.now) }

module _ (E : El) {M : Type 1} {𝓤 : Ura M} (𝓛 : Logic 𝓤) (C : Calls 𝓤 𝓛.H) (Λ : Loops 𝓤 𝓛.H) (κ : Lft) (q : Share) (rb ro : ℕ) (γ : GName) (d : D E) (room : (Room E).Denot) (x : X E) (ps us vs : List Val) where
  open 𝓛 use {H, A}

  abbrev self : MutBor (D E)
  self = record { ref_ptr = (rb, ro); ghost_name = γ; now = d }

  abbrev bound : (walk_of 𝓛 (ended E) (stayed E) (spec E 𝓛)).Ghost
  bound = (((κ, tt), (q, tt), tt, (self, (room, (x, tt))), (ps, (us, (vs, tt)))), tt)

  abbrev Post : Val → SProp 𝓤
  Post = (walk_of 𝓛 (ended E) (stayed E) (spec E 𝓛)).post bound

  exits : ps ≡ vptr rb ro ∷ [] → (new : D E) → Gives E d room.ptr x new → ent 𝓤 (sep 𝓤 (A.obs γ ((Nr E).coded.code new)) (sep 𝓤 (A.bor κ (Borrowed (mem (Nr E)) rb ro γ)) (A.lft κ q))) (Post vunit)
  exits passed new e =
      qed 𝓛 (‵ (fobs γ ((Nr E).coded.code new)) ∷ ‵ (fbor κ (Borrowed (mem (Nr E)) rb ro γ)) ∷ ‵ (flft κ q) ∷ []) ∵
      suffices ! _ (ends_at 𝓛 (ended E) (stayed E) (spec E 𝓛) bound vunit tt (new, (tt, (tt, tt))) (tt, (tt, (tt, tt)))) $ says ! e $
      nothing ! $ move ! (3 ∷ 0 ∷ []) $ join ! $ frame ! $ feq_i ! (List Val) ps (vptr rb ro ∷ []) passed $ fjoin3 ! $ nothing ! $ nothing ! $ fjoin ! $ nothing ! $ fjoin ! $ move ! (1 ∷ 0 ∷ []) $ fjoin ! $
      feq_i ! (List Val) (vunit ∷ []) (vunit ∷ []) refl $ move ! (1 ∷ 0 ∷ []) $ done !

  abbrev Had : ℕ → ℕ → Val → List (Item 𝓤)
  Had b o v = ‵ (fobs γ ((Nr E).coded.code d)) ∷ ‵ (fbor κ (Borrowed (mem (Nr E)) rb ro γ)) ∷ ‵ (flft κ q)
      ∷ ‵ (froom (room_ty E) b o) ∷ ‵ (own E x (v ∷ [])) ∷ []

  walk : ps ≡ vptr rb ro ∷ [] → Asks E d → (b o : ℕ) (v : Val) → room.ptr ≡ block_ptr b o → Good E v → ent 𝓤 (⋆ 𝓛 (Had b o v)) (WpFn 𝓤 H C Λ (function E) (vptr rb ro ∷ word (block_ptr b o) ∷ v ∷ []) Post)
  walk passed asked b o v here good =
      let ok = d.ok in
      let p : Ptr = block_ptr b o in
      let typed : (n m : Ptr) → Typed (lone (Node E).mir) (node_val n m v) = λ n m. as_fields (ty_ptr ∷ ty_ptr ∷ τ E ∷ []) (ptr_val n ∷ ptr_val m ∷ v ∷ []) (Ptr-Good n, (Ptr-Good m, (good, tt))) in
      let fits : d.len < 2 ^ 64 = omega arith in
      let more : d.len + 1 < 2 ^ 64 = omega arith in
      let ns = uncons d.links (omega arith) in
      let xs = uncons d.items (omega arith) in
      let m = ns.0 in
      let long = ap length ns.2 in
      let many = ap length xs.2 in
      let linked : IsChained d.head d.tail (m ∷ ns.1) = subst (λ ks. IsChained d.head d.tail (ks)) ns.2 (IsChained-had _ _ _ d.chained) in
      qed 𝓛 (Had b o v) ∵ enter ! C Λ (function E) (vptr rb ro ∷ word (block_ptr b o) ∷ v ∷ []) _ $ alloc_all ! (λ l. pass_all ! refl ((tt, tt), ((tt, (tt, tt)), (good, tt))) $
      let En : Env 𝓤 H = env (function E).locals l in
      nodes_opens E ! tt d rb ro $
      rewrite ! 0 (λ (ks : List Link). ‵ (Held E ks d.items)) ns.2 refl $ rewrite ! 0 (λ (ys : List (X E)). ‵ (Held E (m ∷ ns.1) ys)) xs.2 refl $
      use1 𝓛 (‵ (One E m xs.0) ⊛ ‵ (Held E ns.1 xs.1)) (cons_out E 𝓛 m ns.1 xs.0 xs.1) $ split ! $ one_opens E ! m xs.0 (λ hb ho e.
      let a : Ptr = block_ptr hb ho in
      let at : IsChained a d.tail ((a, m.1, m.2) ∷ ns.1) = ((refl, linked.0.1), subst (λ z. LeadsBackTo z ns.1 d.tail) e linked.1) in
      let new : D E = record {
        head = p;
        tail = d.tail;
        len = d.len + 1;
        items = x ∷ xs.0 ∷ xs.1;
        links = (p, a, p) ∷ (a, m.1, p) ∷ ns.1;
        ok = (omega arith, omega arith);
        small = asked.1;
        chained = ∣ IsChained-cons a d.tail p p (a, m.1, m.2) ns.1 at ∣₁;
      } in
      move ! (9 ∷ []) $ as_written ! (lone (Node E).mir) b o $
      -- [the room; the first node, in four; the others; the words; the open borrow; obs; auth; the token; the handle; the element]
      sets ! (of_opd ! (get_in ! (fld ! refl (stop !)) (sub ! 0 refl (whole !)))) refl (tt, tt) $
      sets ! (is ! (of_opd ! (load ! (through ! refl (fld ! refl (stop !))) (look_in ! 6 (sub ! 0 refl (whole !))))) (ap ptr_val (linked.0.0 ∙ e))) refl (tt, tt) $ sets ! (of_opd ! (get ! refl)) refl (tt, tt) $
      first ! $ blocks ! $ sets ! (of_opd ! (get ! refl)) refl good $
      sets ! (agg ! (and_then ! (get ! refl) (and_then ! (get ! refl) (and_then ! (get ! refl) (no_more !))))) refl (typed a p) $
      assigns ! (of_opd ! (get ! refl)) (through ! refl (stop !)) (init ! 0 refl (typed a p)) $
      assigns_last ! (of_opd ! (get ! refl)) (through ! refl (fld ! refl (stop !))) (store ! 3 refl (tt, tt)) $ exec ! C Λ En (after 4 (function E).body) (at_ret En Post) $
      assigns ! (of_opd ! (get ! refl)) (through ! refl (fld ! refl (stop !))) (store_in ! 6 (sub ! 0 refl (whole !)) (tt, tt)) $
      sets ! (of_opd ! (load ! (through ! refl (fld ! refl (stop !))) (look_in ! 6 (sub ! 2 refl (whole !))))) refl (tt, record { fits = fits }) $ sets ! (bin ! (get ! refl) (lit ! tt) (record { fits = more })) refl (tt, record { fits = more }) $
      assigns ! (of_opd ! (get ! refl)) (through ! refl (fld ! refl (stop !))) (store_in ! 6 (sub ! 2 refl (whole !)) (tt, record { fits = more })) $
      sets ! (of_opd ! (unit_lit !)) refl (tt, tt) $ move ! (0 ∷ 10 ∷ []) $ join ! $
      use1 𝓛 (‵ (One E (p, a, p) x)) (node_made E 𝓛 (Block.the_type (R E)).name b o a p x v) $ move ! (1 ∷ 2 ∷ 3 ∷ 4 ∷ []) $ one_closes E ! hb ho m.1 p xs.0 $ move ! (0 ∷ 2 ∷ []) $
      use2 𝓛 (‵ (Held E ((a, m.1, p) ∷ ns.1) (xs.0 ∷ xs.1))) (cons_in E 𝓛 (a, m.1, p) ns.1 xs.0 xs.1) $ move ! (1 ∷ 0 ∷ []) $
      use2 𝓛 (‵ (Held E new.links new.items)) (cons_in E 𝓛 (p, a, p) ((a, m.1, p) ∷ ns.1) x (xs.0 ∷ xs.1)) $ nodes_closes E ! tt new rb ro $
      returns ! (look_at ! 0 refl) $ free_all ! refl $ keep ! (0 ∷ 1 ∷ 2 ∷ []) $ by ! (exits passed new (ap (λ ys. x ∷ ys) (sym xs.2), λ i. sym here i ∷ ((λ k. sym e k ∷ places_of ns.1) ∙ ap places_of (sym ns.2)) i))))

  entry : Asks E d → ent 𝓤 (on_entry 𝓛 (ended E).signature (κ, tt) (q, tt) (self, (room, (x, tt))) (ps, (us, (vs, tt)))) (WpFn 𝓤 H C Λ (function E) (ps ++ (us ++ (vs ++ []))) Post)
  entry asked =
      qed 𝓛 ((‵ (flft κ q) ⊛ ‵ ftrue) ∷ ‵ (owns (MutRef (named 0) κ (Nr E) ∷ Room E ∷ R E ∷ []) (self, (room, (x, tt))) (ps, (us, (vs, tt)))) ∷ []) ∵ split ! $ move ! (2 ∷ []) $ fsplit3 ! $ fsplit3 ! $ feq_l ! (λ e.
      move ! (3 ∷ []) $ fsplit ! $ el_tells (boxed E) ! x vs (λ v g good. move ! (4 ∷ []) $ Room-had (Node E) ! room us (λ b o at f. keep ! (3 ∷ 4 ∷ 5 ∷ 0 ∷ 1 ∷ []) $
      by ! (subst (λ (ws : List Val × List Val × List Val). ent 𝓤 (⋆ 𝓛 (Had b o v)) (WpFn 𝓤 H C Λ (function E) (ws.0 ++ (ws.1 ++ (ws.2 ++ []))) Post)) (λ j. (sym e j, sym f j, sym g j)) (walk e asked b o v at good)))))

meets : (E : El) {M : Type 1} {𝓤 : Ura M} (𝓛 : Logic 𝓤) (𝓣 : Tables 𝓤 𝓛.H)
    → Meets 𝓛 (ended E).signature (WpFn 𝓤 𝓛.H 𝓣.C 𝓣.Λ (function E)) (closing 𝓛 (ended E) (spec E 𝓛))
meets E {𝓤 = 𝓤} 𝓛 𝓣 =
    walk_Meets 𝓛 (ended E) (stayed E) (Goes-ref 𝓛 1 0 tt (plain (λ _. Nr E)), (Goes-blank 𝓛 1 (plain (λ _. Room E)) no (λ κs x f. tt), (Goes-dropped 𝓛 1 (plain (λ _. R E)) no (λ κs x f. refl), tt))) (spec E 𝓛) (WpFn 𝓤 𝓛.H 𝓣.C 𝓣.Λ (function E)) (WpFn-mono 𝓤 𝓛.H 𝓛.laws 𝓣 (function E))
    (λ z. let a = z.0.3 in let vss = z.0.4 in needs 𝓤 (Asks E a.0.now) _ (entry E 𝓛 𝓣.C 𝓣.Λ z.0.0.0 z.0.1.0 a.0.ref_ptr.0 a.0.ref_ptr.1 a.0.ghost_name a.0.now a.1.0 a.1.1.0 vss.0 vss.1.0 vss.1.1.0))

pub link_front_spec : {M : Type 1} → stated.statement M
unfolding tables_of
link_front_spec 𝓤 𝓛 𝓜 𝓡 wired Y L y =
    let E : El = record { row = Y; laws = L } in
    let A = 𝓛.A in
    let 𝓣 : Tables 𝓤 𝓛.H = tables_of 𝓤 𝓛.H 𝓜 (tables 𝓤 𝓛.H 𝓜 𝓡 𝓡.env) in
    spared 𝓛 (ended E).signature (𝓡.run (𝓡.env (#self (args E)))) (run_framed 𝓤 𝓛.H 𝓜 𝓡 (𝓡.env (#self (args E)))) 1 (Y.lives, tt) (closing 𝓛 (ended E) (spec E 𝓛))
    (entered 𝓤 𝓛.H (triple_of 𝓛 (ended E).signature (closing 𝓛 (ended E) (spec E 𝓛))) 𝓣.C 𝓣.Λ (#self (args E)) (function E) (code.unfolded 𝓤 𝓛.H 𝓜 𝓡 wired (Y, tt)) (meets E 𝓛 𝓣))
    ((y.0.0, y.0.1, tt, y.0.3, y.0.4), y.1)
