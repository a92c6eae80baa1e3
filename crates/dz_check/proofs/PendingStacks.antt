-- A stack of pending states while the book grows and is restored.
use Rattle.std.proofs.Common.{◌≡◌, ◌≤◌, ◌∙◌, ℕ, zero, suc, List, [], ◌∷◌, take, length, refl, sym, ap, ap₂, subst, arith}
use Rattle.std.specs.Prelude.{slice_get}
use Rattle.std.proofs.lemmas.List.{take_all}
use Rattle.dz_algebra.specs.Polynomial.{Polynomial}
use Rattle.dz_rank.specs.Rankings.{RankingValue}
use Rattle.dz_rank.specs.declared.symbols.Symbol.{Symbol}
use Rattle.dz_poly.specs.Books.{BookValue, IsKept}
use Rattle.dz_poly.proofs.Books.{kept_trans}
use Rattle.dz_monomials.specs.Ranked.{symbols_under}
use Rattle.dz_diff.specs.States.{IsStateOf, StandsIn, StateValue, state_in}
use Rattle.dz_check.specs.Pending.{PendingValue, StackedIn, cut, pending_states}

-- ---- books up to a mark
shorter : {X : Type 0} (m n : ℕ) (xs : List X) → m ≤ n → take m (take n xs) ≡ take m xs
shorter zero n xs l = refl
shorter (suc m) zero xs l = absurd (omega arith)
shorter (suc m) (suc n) [] l = refl
shorter (suc m) (suc n) (x ∷ xs) l = ap (λ ys. x ∷ ys) (shorter m n xs (omega arith))

front_length : {X : Type 0} (n : ℕ) (xs : List X) → n ≤ length xs → length (take n xs) ≡ n
front_length zero xs l = refl
front_length (suc n) [] l = absurd (omega (arith, l))
front_length (suc n) (x ∷ xs) l = ap suc (front_length n xs (omega (arith, l)))

front_get : {X : Type 0} (n p : ℕ) (xs : List X) → suc p ≤ n → slice_get xs p ≡ slice_get (take n xs) p
front_get zero p xs l = absurd (omega (arith, l))
front_get (suc n) p [] l = refl
front_get (suc n) zero (x ∷ xs) l = refl
front_get (suc n) (suc p) (x ∷ xs) l = front_get n p xs (omega (arith, l))

-- a book keeps what it has up to a mark
pub cut_kept : (n : ℕ) (book : BookValue) → n ≤ length book.polynomials → IsKept (cut n book) book
cut_kept n book l =
    let k = front_length n book.polynomials l in
    record {
      ranking = refl;
      each = λ p h. front_get n p book.polynomials (subst (λ m. suc p ≤ m) k h);
      later = omega (arith, k, l);
      front = ap (λ m. take m book.polynomials) k;
    }

-- a book that only grew is the same up to a mark
pub grown_cut : (n : ℕ) (old new : BookValue) → IsKept old new → n ≤ length old.polynomials → cut n new ≡ cut n old
grown_cut n old new keeps l =
    ap₂ (λ (r : RankingValue) (ps : List (Polynomial Symbol)). record { ranking = r; polynomials = ps }) keeps.ranking (sym (shorter n (length old.polynomials) new.polynomials l) ∙ ap (take n) keeps.front)

-- up to its own mark a book is whole
pub whole_cut : (book : BookValue) → cut (length book.polynomials) book ≡ book
whole_cut book = ap (λ (ps : List (Polynomial Symbol)). record { ranking = book.ranking; polynomials = ps }) (take_all (length book.polynomials) book.polynomials (omega arith))

-- ---- stacks
module _ (base : BookValue) where
  -- under a stack the book is as it was at first
  pub stack_kept : (ps : List PendingValue) (book : BookValue) → StackedIn base book ps → IsKept base book
  stack_kept [] book h = h
  stack_kept (p ∷ ps) book h = kept_trans base (cut p.mark book) book (stack_kept ps (cut p.mark book) h.3) (cut_kept p.mark book h.0)

  -- it stands on in a book that only grows
  pub stack_grows : (ps : List PendingValue) (book new : BookValue) → IsKept book new → StackedIn base book ps → StackedIn base new ps
  stack_grows [] book new keeps h = kept_trans base book new h keeps
  stack_grows (p ∷ ps) book new keeps h =
      let same = sym (grown_cut p.mark book new keeps h.0) in
      let later = keeps.later in (
        omega (arith, h.0, later),
        subst (λ b. StandsIn b p.state) same h.1,
        subst (λ r. IsStateOf (symbols_under r) (state_in (cut p.mark new) p.state)) (sym keeps.ranking) (subst (λ b. IsStateOf (symbols_under book.ranking) (state_in b p.state)) same h.2),
        subst (λ b. StackedIn base b ps) same h.3,
      )

  -- with the same states
  pub states_stay : (ps : List PendingValue) (book new : BookValue) → IsKept book new → StackedIn base book ps → pending_states new ps ≡ pending_states book ps
  states_stay [] book new keeps h = refl
  states_stay (p ∷ ps) book new keeps h = ap (λ b. state_in b p.state ∷ pending_states b ps) (grown_cut p.mark book new keeps h.0)

  -- a state that stands in the book comes on top, with the mark of now
  pub pushed : (s : StateValue) (ps : List PendingValue) (book : BookValue) → StandsIn book s → IsStateOf (symbols_under book.ranking) (state_in book s) → StackedIn base book ps
      → StackedIn base book (record { state = s; mark = length book.polynomials } ∷ ps)
  pushed s ps book stands facts h =
      let same = sym (whole_cut book) in
      (omega arith, subst (λ b. StandsIn b s) same stands, subst (λ b. IsStateOf (symbols_under book.ranking) (state_in b s)) same facts, subst (λ b. StackedIn base b ps) same h)

  -- and is the first of the states
  pub pushed_states : (s : StateValue) (ps : List PendingValue) (book : BookValue) → pending_states book (record { state = s; mark = length book.polynomials } ∷ ps) ≡ state_in book s ∷ pending_states book ps
  pushed_states s ps book = ap (λ b. state_in b s ∷ pending_states b ps) (whole_cut book)
