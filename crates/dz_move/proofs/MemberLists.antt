-- Lists of members with one of their places gone, or taken by another.
use Rattle.std.proofs.Common.{◌≡◌, ◌≤◌, ◌-◌, ◌∙◌, ℕ, zero, suc, Bool, true, false, ◌||◌, cond, List, [], ◌∷◌, ◌++◌, take, drop, refl, sym, ap, ap₂, subst, arith, Result, Ok, Err}
use Rattle.std.specs.Prelude.{IfErr, IfOk, slice_set}
use Rattle.std.specs.List.{remove}
use Rattle.std.proofs.lemmas.List.Elements.{All-cons, All-head, All-tail}
use Rattle.dz_algebra.specs.Polynomial.{Polynomial}
use Rattle.dz_algebra.specs.Symbols.{Symbols}
use Rattle.dz_rank.specs.declared.symbols.Symbol.{Symbol}
use Rattle.dz_poly.specs.Books.{BookValue, IsKept, Lives, Means, polynomial}
use Rattle.dz_poly.proofs.Books.{means_lives, means_polynomial}
use Rattle.dz_monomials.specs.Ranked.{symbols_under}
use Rattle.dz_diff.specs.State.{replaced, without_place}
use Rattle.dz_diff.specs.States.{LiveAll, MeanAll, polynomials}
use Rattle.dz_diff.specs.Tests.{Polynomials, is_member}
use Rattle.dz_diff.proofs.KeptStates.{kept_polynomials, live_on}
use Rattle.dz_move.specs.declared.roots.Members.{Members}
use Rattle.dz_move.specs.declared.roots.Members.TheVariants.{Equations, Inequations}
use Rattle.dz_move.specs.Members.{is_left_out, put_at}

-- what follows of an answer that is Ok
pub if_ok : {A E : Type 0} (P Q : A → Type 0) (q : Result A E) → ((x : A) → P x → Q x) → IfOk q P → IfOk q Q
if_ok P Q (Ok x) f h = f x h
if_ok P Q (Err e) f h = tt

-- what follows of an answer that is Err
pub if_err : {A E : Type 0} (P Q : E → Type 0) (q : Result A E) → ((e : E) → P e → Q e) → IfErr q P → IfErr q Q
if_err P Q (Ok x) f h = tt
if_err P Q (Err e) f h = f e h

-- ---- places
counted_from : (i : ℕ) → 1 ≤ i → suc (i - 1) ≡ i
counted_from i h = omega (arith, h)

cut : {A : Type 0} (xs : List A) (i : ℕ) → take i xs ++ drop (suc i) xs ≡ without_place (suc i) xs
cut [] zero = refl
cut [] (suc i) = refl
cut (x ∷ xs) zero = refl
cut (x ∷ xs) (suc i) = ap (λ ys. x ∷ ys) (cut xs i)

removed : {A : Type 0} (xs : List A) (i : ℕ) → remove xs i ≡ without_place (suc i) xs
removed xs i = cut xs i

-- an element that is taken out
pub remove_is : {A : Type 0} (xs : List A) (i : ℕ) → 1 ≤ i → remove xs (i - 1) ≡ without_place i xs
remove_is xs i h = removed xs (i - 1) ∙ ap (λ i. without_place i xs) (counted_from i h)

written : {A : Type 0} (xs : List A) (i : ℕ) (y : A) → slice_set xs i y ≡ replaced (suc i) y xs
written [] i y = refl
written (x ∷ xs) zero y = refl
written (x ∷ xs) (suc i) y = ap (λ ys. x ∷ ys) (written xs i y)

-- an element that is written over
pub set_is : {A : Type 0} (xs : List A) (i : ℕ) (y : A) → 1 ≤ i → slice_set xs (i - 1) y ≡ replaced i y xs
set_is xs i y h = written xs (i - 1) y ∙ ap (λ i. replaced i y xs) (counted_from i h)

-- ---- in a book
module _ (book : BookValue) where
  without_polynomials : (i : ℕ) (ps : List ℕ) → polynomials book (without_place i ps) ≡ without_place i (polynomials book ps)
  without_polynomials i [] = refl
  without_polynomials zero (p ∷ ps) = refl
  without_polynomials (suc zero) (p ∷ ps) = refl
  without_polynomials (suc (suc i)) (p ∷ ps) = ap (λ (qs : Polynomials). polynomial book p ∷ qs) (without_polynomials (suc i) ps)

  without_live : (i : ℕ) (ps : List ℕ) → LiveAll book ps → LiveAll book (without_place i ps)
  without_live i [] h = h
  without_live zero (p ∷ ps) h = h
  without_live (suc zero) (p ∷ ps) h = All-tail (λ p. Lives book p) p ps h
  without_live (suc (suc i)) (p ∷ ps) h = All-cons (λ p. Lives book p) p (without_place (suc i) ps) (All-head (λ p. Lives book p) p ps h) (without_live (suc i) ps (All-tail (λ p. Lives book p) p ps h))

  replaced_polynomials : (i q : ℕ) (ps : List ℕ) → polynomials book (replaced i q ps) ≡ replaced i (polynomial book q) (polynomials book ps)
  replaced_polynomials i q [] = refl
  replaced_polynomials zero q (p ∷ ps) = refl
  replaced_polynomials (suc zero) q (p ∷ ps) = refl
  replaced_polynomials (suc (suc i)) q (p ∷ ps) = ap (λ (qs : Polynomials). polynomial book p ∷ qs) (replaced_polynomials (suc i) q ps)

  replaced_live : (i q : ℕ) (ps : List ℕ) → Lives book q → LiveAll book ps → LiveAll book (replaced i q ps)
  replaced_live i q [] l h = h
  replaced_live zero q (p ∷ ps) l h = h
  replaced_live (suc zero) q (p ∷ ps) l h = All-cons (λ p. Lives book p) q ps l (All-tail (λ p. Lives book p) p ps h)
  replaced_live (suc (suc i)) q (p ∷ ps) l h = All-cons (λ p. Lives book p) p (replaced (suc i) q ps) (All-head (λ p. Lives book p) p ps h) (replaced_live (suc i) q ps l (All-tail (λ p. Lives book p) p ps h))

-- ---- a norm put at a place
module _ (book : BookValue) (members : Members) (i : ℕ) (n : Polynomial Symbol) (ps : List ℕ) (live : LiveAll book ps) where
  abbrev g : Symbols Symbol
  g = symbols_under book.ranking

  -- what is put by two tests
  by_tests : (a b : Bool) → is_left_out g members n ≡ a → is_member g n (without_place i (polynomials book ps)) ≡ b
      → put_at g members i n (polynomials book ps) ≡ cond (a || b) (without_place i (polynomials book ps)) (replaced i n (polynomials book ps))
  by_tests a b e f = by_list members e ∙ ap (λ b. cond (a || b) (without_place i (polynomials book ps)) (replaced i n (polynomials book ps))) f
    where
      by_list : (m : Members) → is_left_out g m n ≡ a → put_at g m i n (polynomials book ps) ≡ cond (a || is_member g n (without_place i (polynomials book ps))) (without_place i (polynomials book ps)) (replaced i n (polynomials book ps))
      by_list Equations e = ap (λ a. cond (a || is_member g n (without_place i (polynomials book ps))) (without_place i (polynomials book ps)) (replaced i n (polynomials book ps))) e
      by_list Inequations e = ap (λ a. cond (a || is_member g n (without_place i (polynomials book ps))) (without_place i (polynomials book ps)) (replaced i n (polynomials book ps))) e

  -- the place goes
  goes : (all : List ℕ) → all ≡ without_place i ps → put_at g members i n (polynomials book ps) ≡ without_place i (polynomials book ps) → MeanAll book all (put_at g members i n (polynomials book ps))
  goes all is e = subst (λ all. MeanAll book all (put_at g members i n (polynomials book ps))) (sym is) (record { live = without_live book i ps live; are = without_polynomials book i ps ∙ sym e })

  -- the norm is left out
  pub left_out_goes : is_left_out g members n ≡ true → (all : List ℕ) → all ≡ without_place i ps → MeanAll book all (put_at g members i n (polynomials book ps))
  left_out_goes e all is = goes all is (by_tests true _ e refl)

  -- it stands at another place
  pub member_goes : is_left_out g members n ≡ false → is_member g n (without_place i (polynomials book ps)) ≡ true → (all : List ℕ) → all ≡ without_place i ps → MeanAll book all (put_at g members i n (polynomials book ps))
  member_goes e f all is = goes all is (by_tests false true e f)

  -- it comes to the place, in the book that keeps it
  pub norm_comes : is_left_out g members n ≡ false → is_member g n (without_place i (polynomials book ps)) ≡ false → (new : BookValue) (p : ℕ) → IsKept book new → Means new p n → (all : List ℕ) → all ≡ replaced i p ps → MeanAll new all (put_at g members i n (polynomials book ps))
  norm_comes e f new p keeps means all is = subst (λ all. MeanAll new all (put_at g members i n (polynomials book ps))) (sym is) (record {
    live = replaced_live new i p ps (means_lives new p n means) (live_on book new keeps ps live);
    are = replaced_polynomials new i p ps ∙ ap₂ (replaced i) (means_polynomial new p n means) (kept_polynomials book new keeps ps live) ∙ sym (by_tests false false e f);
  })
