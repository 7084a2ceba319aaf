-- Tuples that are put into a listing, one after the other.
use Rattle.std.proofs.Common.{◌≡◌, ◌∙◌, ℕ, zero, suc, Bool, true, false, List, [], ◌∷◌, ◌++◌, ℤ, length, take, refl, sym, ap, append_assoc, append-nil, nat_lt, arith}
use Rattle.std.proofs.lemmas.Bool.Decides.{nat_tests}
use Rattle.tell_moves.specs.Lines.{tuple_line, lines_of}
use Rattle.tell_moves.specs.Puts.{State, put_to, put, puts}

-- first those of one list, and then those of another
pub puts-append : (s : State) (xs ys : List (List ℤ)) → puts s (xs ++ ys) ≡ puts (puts s xs) ys
puts-append s [] ys = refl
puts-append s (x ∷ xs) ys = puts-append (put s x) xs ys

-- where there are more already, nothing changes
put_more : (s : State) (t : List ℤ) → s.more ≡ true → put s t ≡ s
put_more s t e = by s.more e
  where
    by : (b : Bool) → b ≡ true → put_to s.text s.room b t ≡ record { text = s.text; room = s.room; more = b }
    by true e = refl
    by false e = cc

pub puts_more : (s : State) (ts : List (List ℤ)) → s.more ≡ true → puts s ts ≡ s
puts_more s [] e = refl
puts_more s (t ∷ ts) e = ap (λ z. puts z ts) (put_more s t e) ∙ puts_more s ts e

-- what stands in a listing in the end
pub text_listed : (text : List ℕ) (n : ℕ) (ts : List (List ℤ)) → (puts (record { text = text; room = n; more = false }) ts).text ≡ text ++ lines_of (take n ts)
text_listed text zero [] = sym (append-nil text)
text_listed text (suc n) [] = sym (append-nil text)
text_listed text zero (t ∷ ts) = ap (λ (s : State). s.text) (puts_more (record { text = text; room = zero; more = true }) ts refl) ∙ sym (append-nil text)
text_listed text (suc n) (t ∷ ts) = text_listed (text ++ tuple_line t) n ts ∙ append_assoc text (tuple_line t) (lines_of (take n ts))

-- tests of numbers, one more on both sides
some_more : (n : ℕ) → true ≡ nat_lt 0 (suc n)
some_more n = grind (arith, nat_tests)

none_more : (n : ℕ) → false ≡ nat_lt (suc n) 0
none_more n = grind (arith, nat_tests)

both_more : (n m : ℕ) → nat_lt n m ≡ nat_lt (suc n) (suc m)
both_more n m = grind (arith, nat_tests)

pub more_listed : (text : List ℕ) (n : ℕ) (ts : List (List ℤ)) → (puts (record { text = text; room = n; more = false }) ts).more ≡ nat_lt n (length ts)
more_listed text zero [] = refl
more_listed text (suc n) [] = none_more n
more_listed text zero (t ∷ ts) = ap (λ (s : State). s.more) (puts_more (record { text = text; room = zero; more = true }) ts refl) ∙ some_more (length ts)
more_listed text (suc n) (t ∷ ts) = more_listed (text ++ tuple_line t) n ts ∙ both_more n (length ts)
