-- Each text states one formula, or is refused for one kind at one place.
use Rattle.std.proofs.Common.{◌≡◌, refl, sym, ap, ◌∙◌, subst, ℕ, Bool, true, false, List, [], ◌∷◌, ◌++◌, length, inl, inr, append_assoc, append-nil, Option, Some, None}
use Rattle.std.specs.Prelude.{◌⊎◌}
use Rattle.qdimacs.specs.declared.token.Token.{Token}
use Rattle.qdimacs.specs.declared.fault.QdimacsKind.{QdimacsKind}
use Rattle.qdimacs.specs.declared.fault.QdimacsKind.TheVariants.{Syntax}
use Rattle.qdimacs.specs.Tokens.{tokens_of}
use Rattle.qdimacs.specs.Grammar.{File, IsFile, Begins, StopsAtToken, StopsAtEnd, StopsAt}
use Rattle.qdimacs.specs.Moves.{Reading, start, after_token, bind, after_all, is_whole, file_of}
use Rattle.qdimacs.specs.Refusals.{Refusal, first_refusal, States, IsRefused, no_file, bad_file}
use Rattle.qdimacs.proofs.Complete.{file_is_read}
use Rattle.qdimacs.proofs.Stops.{read_is_file, read_begins, bind_none, after_all-push, token_stops, end_stops}

pub one_file : (ts : List Token) (f g : File) → IsFile f ts → IsFile g ts → f ≡ g
one_file ts f g i j =
    let d = file_is_read f ts i in
    let e = file_is_read g ts j in
    let same : d.reading ≡ e.reading = (let k : Some d.reading ≡ Some e.reading = sym d.taken ∙ e.taken in cc) in
    sym d.file ∙ ap file_of same ∙ e.file

-- where tokens stop, by what is read of them
abbrev place_after : ℕ → Option Reading → (Reading → ℕ) → ℕ
place_after at None later = at
place_after at (Some r) later = later r

abbrev stop_place : ℕ → List Token → Reading → ℕ
stop_place size [] r = size
stop_place size (t ∷ ts) r = place_after t.at (after_token r t) (λ q. stop_place size ts q)

stop_past : (size : ℕ) (before rest : List Token) (r q : Reading) → after_all r before ≡ Some q → stop_place size (before ++ rest) r ≡ stop_place size rest q
stop_past size [] rest r q e = let same : r ≡ q = cc in ap (λ s. stop_place size rest s) same
stop_past size (t ∷ before) rest r q e = go (after_token r t) e (λ s. stop_past size before rest s q)
  where
    go : (o : Option Reading) → bind o (λ s. after_all s before) ≡ Some q → ((s : Reading) → after_all s before ≡ Some q → stop_place size (before ++ rest) s ≡ stop_place size rest q) →
        place_after t.at o (λ s. stop_place size (before ++ rest) s) ≡ stop_place size rest q
    go None e f = absurd cc
    go (Some s) e f = f s e

begins_runs : (ts : List Token) → Begins ts → (r : Reading) × (after_all start ts ≡ Some r)
begins_runs ts b = go (after_all start ts) refl
  where
    go : (o : Option Reading) → after_all start ts ≡ o → (r : Reading) × (after_all start ts ≡ Some r)
    go None e = let d = file_is_read b.0 (ts ++ b.1) b.2 in let k : Some d.reading ≡ None = sym d.taken ∙ bind_none ts b.1 start e in absurd cc
    go (Some r) e = (r, e)

stuck_at : (ts : List Token) (t : Token) (r : Reading) → after_all start ts ≡ Some r → ¬ Begins (ts ++ t ∷ []) → after_token r t ≡ None
stuck_at ts t r e n = go (after_token r t) refl
  where
    go : (o : Option Reading) → after_token r t ≡ o → after_token r t ≡ None
    go None h = h
    go (Some q) h = absurd (n (read_begins (ts ++ t ∷ []) q (after_all-push ts t start ∙ ap (λ o. bind o (λ p. after_token p t)) e ∙ h)))

at_token : (size : ℕ) (ts : List Token) (at : ℕ) → StopsAtToken ts at → at ≡ stop_place size ts start
at_token size ts at s =
    let b = begins_runs s.before s.begin in
    let stuck = stuck_at s.before s.stop b.0 b.1 s.no in
    s.place ∙ sym (ap (λ us. stop_place size us start) s.are ∙ stop_past size s.before (s.stop ∷ s.after) start b.0 b.1 ∙ ap (λ o. place_after s.stop.at o (λ q. stop_place size s.after q)) stuck)

at_end : (size : ℕ) (ts : List Token) (at : ℕ) → StopsAtEnd size ts at → at ≡ stop_place size ts start
at_end size ts at s =
    let b = begins_runs ts s.begin in
    s.place ∙ sym (ap (λ us. stop_place size us start) (sym (append-nil ts)) ∙ stop_past size ts [] start b.0 b.1)

stop_is : (size : ℕ) (ts : List Token) (at : ℕ) → StopsAt size ts at → at ≡ stop_place size ts start
stop_is size ts at (inl s) = at_token size ts at s
stop_is size ts at (inr s) = at_end size ts at s

no_stop : (size : ℕ) (ts : List Token) (at : ℕ) (f : File) → IsFile f ts → StopsAt size ts at → ⊥
no_stop size ts at f i (inl s) = s.no (f, s.after, subst (λ us. IsFile f us) (s.are ∙ sym (append_assoc s.before (s.stop ∷ []) s.after)) i)
no_stop size ts at f i (inr s) = s.no f i

-- the tokens behind those that were read
found : (size : ℕ) (before ts : List Token) (r : Reading) → after_all start before ≡ Some r → ((f : File) × IsFile f (before ++ ts)) ⊎ ((at : ℕ) × StopsAt size (before ++ ts) at)
found size before [] r e = go (is_whole r) refl
  where
    go : (b : Bool) → is_whole r ≡ b → ((f : File) × IsFile f (before ++ [])) ⊎ ((at : ℕ) × StopsAt size (before ++ []) at)
    go true w = inl (file_of r, subst (λ us. IsFile (file_of r) us) (sym (append-nil before)) (read_is_file before r e w))
    go false w = inr (size, subst (λ us. StopsAt size us size) (sym (append-nil before)) (end_stops size before r e w))
found size before (t ∷ ts) r e = go (after_token r t) refl (λ q. found size (before ++ t ∷ []) ts q)
  where
    go : (o : Option Reading) → after_token r t ≡ o →
        ((q : Reading) → after_all start (before ++ t ∷ []) ≡ Some q → ((f : File) × IsFile f ((before ++ t ∷ []) ++ ts)) ⊎ ((at : ℕ) × StopsAt size ((before ++ t ∷ []) ++ ts) at)) →
        ((f : File) × IsFile f (before ++ t ∷ ts)) ⊎ ((at : ℕ) × StopsAt size (before ++ t ∷ ts) at)
    go None h f = inr (t.at, token_stops size before ts t r e h)
    go (Some q) h f =
        subst (λ us. ((f : File) × IsFile f us) ⊎ ((at : ℕ) × StopsAt size us at)) (append_assoc before (t ∷ []) ts)
        (f q (after_all-push before t start ∙ ap (λ o. bind o (λ p. after_token p t)) e ∙ h))

pub each_text : (text : List ℕ) → ((f : File) × States text f) ⊎ ((kind : QdimacsKind) × (at : ℕ) × IsRefused text kind at)
each_text text = elim (found (length text) [] (tokens_of text) start refl) [
  | inl i ↦ go i.0 i.1 (first_refusal i.0) refl
  | inr s ↦ inr (Syntax, s.0, no_file refl s.1)
]
  where
    go : (f : File) → IsFile f (tokens_of text) → (o : Option Refusal) → first_refusal f ≡ o → ((f : File) × States text f) ⊎ ((kind : QdimacsKind) × (at : ℕ) × IsRefused text kind at)
    go f i None e = inl (f, record { is_file = i; is_taken = e })
    go f i (Some r) e = inr (r.kind, r.at, bad_file f i e)

pub never_both : (text : List ℕ) (f : File) (kind : QdimacsKind) (at : ℕ) → States text f → IsRefused text kind at → ⊥
never_both text f kind at s (no_file e h) = no_stop (length text) (tokens_of text) at f s.is_file h
never_both text f kind at s (bad_file g i e) =
    let same = one_file (tokens_of text) f g s.is_file i in
    let k : None ≡ Some (record { kind = kind; at = at }) = sym s.is_taken ∙ ap first_refusal same ∙ e in cc

same_refusal : (p q : Refusal) → Some p ≡ Some q → p ≡ q
same_refusal p q e = cc

pub one_refusal : (text : List ℕ) (j k : QdimacsKind) (a b : ℕ) → IsRefused text j a → IsRefused text k b → (j ≡ k) × (a ≡ b)
one_refusal text j k a b (no_file e h) (no_file d i) = (e ∙ sym d, stop_is (length text) (tokens_of text) a h ∙ sym (stop_is (length text) (tokens_of text) b i))
one_refusal text j k a b (no_file e h) (bad_file g i d) = absurd (no_stop (length text) (tokens_of text) a g i h)
one_refusal text j k a b (bad_file f h e) (no_file d i) = absurd (no_stop (length text) (tokens_of text) b f h i)
one_refusal text j k a b (bad_file f h e) (bad_file g i d) =
    let same = one_file (tokens_of text) f g h i in
    let r = same_refusal (record { kind = j; at = a }) (record { kind = k; at = b }) (sym e ∙ ap first_refusal same ∙ d) in
    (ap (λ (x : Refusal). x.kind) r, ap (λ (x : Refusal). x.at) r)
