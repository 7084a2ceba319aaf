-- No text is a proper front of another.
use Rattle.std.proofs.Common.{◌≡◌, refl, sym, ap, ◌∙◌, ℕ, List, [], ◌∷◌, ◌++◌, Option, Some, true, arith}
use Rattle.std.specs.Prelude.{IsTrue, ℤ}
use Rattle.std.specs.List.{list_all}
use Rattle.std.proofs.lemmas.Bool.{and_from, and_parts}
use Rattle.std.proofs.lemmas.List.Folds.{list_all-append}
use Rattle.proof_tree.specs.declared.tree.Version.{Version}
use Rattle.proof_tree.specs.declared.tree.Outcome.{Outcome}
use Rattle.proof_tree.specs.Tree.{Tree}
use Rattle.proof_tree.specs.Counts.{depth_of}
use Rattle.proof_tree.specs.Text.{certificate_text, has_text}
use Rattle.proof_text.specs.Symbols.{Symbol, after, start}
use Rattle.proof_text.specs.Places.{IsText}
use Rattle.proof_text.proofs.Grammar.{Runs}
use Rattle.proof_text.proofs.Owed.{is_sound, enter, sound_after}
use Rattle.proof_text.proofs.Verdicts.{go_in, not_empty}
use Rattle.proof_text.proofs.PlacesFound.{text_runs}

-- what has been read of one text is owed by the other too
alone : (u rest : List ℕ) (k : List Symbol) (m n : ℕ) → list_all is_sound k ≡ true → Runs m k u [] → Runs n k (u ++ rest) [] → rest ≡ []
alone [] rest [] m n f h g = g
alone [] rest (s ∷ k) m n f h g = absurd (not_empty m s k [] (and_parts (is_sound s) (list_all is_sound k) f).0 h)
alone (c ∷ cs) rest [] m n f h g = absurd (cc)
alone (c ∷ cs) rest (s ∷ k) m n f h g =
    let p = and_parts (is_sound s) (list_all is_sound k) f in
    let e = enter m s (c ∷ cs) h.0 p.0 h.1 in
    let is : c ∷ cs ≡ e.first ∷ e.w = e.is in
    let head : e.first ≡ c = cc in
    let goes : after s c ≡ Some e.owed = ap (after s) (sym head) ∙ e.goes_on in
    alone cs rest (e.owed ++ k) m n (list_all-append is_sound e.owed k ∙ and_from _ _ (sound_after s c e.owed p.0 goes) p.1)
    (go_in m s k e.owed c cs [] p.0 goes h) (go_in n s k e.owed c (cs ++ rest) [] p.0 goes g)

pub text_alone : (u rest : List ℕ) (m n : ℕ) → IsText m u → IsText n (u ++ rest) → rest ≡ []
text_alone u rest m n h g = alone u rest start m n refl (text_runs m u h) (text_runs n (u ++ rest) g)

pub no_proper_front : (x y : Version) (o p : Outcome) (v w : Option ℤ) (t u : Tree) (rest : List ℕ) → IsTrue (has_text x o v t) → IsTrue (has_text y p w u) → certificate_text x o v t ++ rest ≡ certificate_text y p w u → rest ≡ []
no_proper_front x y o p v w t u rest h g e = text_alone (certificate_text x o v t) rest (depth_of t) (depth_of u) (x, o, v, t, h, omega arith, refl) (y, p, w, u, g, omega arith, e)
