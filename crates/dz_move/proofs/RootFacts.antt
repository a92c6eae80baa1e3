-- The root of a system has the facts of a state.
use Rattle.std.proofs.Common.{◌≡◌, ◌≤◌, ◌+◌, ◌∙◌, sym, ap, ap₂, subst, refl, ℕ, suc, Bool, true, false, ◌||◌, cond, List, [], ◌∷◌, ◌++◌, length, if◌then◌else◌, arith, None, Some, ℤ}
use Rattle.std.specs.Prelude.{nat_lt}
use Rattle.std.proofs.lemmas.Bool.Decides.{nat_tests}
use Rattle.std.proofs.lemmas.List.{length-append}
use Rattle.std.proofs.lemmas.List.Elements.{All-head, All-tail}
use Rattle.dz_algebra.specs.declared.Limit.TheVariants as limits
use Rattle.dz_algebra.specs.Norm.{divided, norm, signed_content}
use Rattle.dz_algebra.specs.Polynomial.{Polynomial}
use Rattle.dz_algebra.specs.Symbols.{Symbols}
use Rattle.dz_rank.specs.declared.symbols.Symbol.{Symbol}
use Rattle.dz_poly.specs.Books.{BookValue, IsBook, IsKept, Lives}
use Rattle.dz_monomials.specs.Ranked.{symbols_under}
use Rattle.dz_monomials.specs.Lists.{AllOf}
use Rattle.dz_diff.specs.Over.{IsOver}
use Rattle.dz_move.specs.Root.{System, kept_norms, root_of}
use Rattle.dz_diff.specs.State.{limit_passed, terms_of}
use Rattle.dz_diff.specs.States.{IsStateOf, LiveAll, MeanAll, polynomials, state_in}
use Rattle.dz_diff.specs.Tests.{Polynomials, is_member, is_unit, is_zero}
use Rattle.dz_diff.proofs.KeptStates.{kept_polynomials}
use Rattle.dz_move.proofs.RootStates.{root_is_state}
use Rattle.dz_move.specs.Systems.{IsSystemIn, system_in, system_limit}

-- ---- limits
-- a norm has as many terms as its polynomial
as_long : (p : Polynomial Symbol) → length (norm p) ≡ length p
unfolding norm
as_long p = all_divided (signed_content p) p
  where
    all_divided : (k : ℤ) (p : Polynomial Symbol) → length (divided k p) ≡ length p
    all_divided k [] = refl
    all_divided k (t ∷ p) = ap suc (all_divided k p)

-- the terms of two lists
terms_append : (ps qs : Polynomials) → terms_of (ps ++ qs) ≡ terms_of ps + terms_of qs
terms_append [] qs = omega arith
terms_append (p ∷ ps) qs = let e = terms_append ps qs in omega (arith, e)

module _ (g : Symbols Symbol) (is_dropped : Polynomial Symbol → Bool) where
  -- no more norms are kept than there are polynomials
  kept_count : (kept ps : Polynomials) → length (kept_norms g is_dropped kept ps) ≤ length kept + length ps
  kept_count kept [] = omega arith
  kept_count kept (p ∷ ps) = by_test (is_dropped (norm p) || is_member g (norm p) kept) (kept_count kept ps) (kept_count (kept ++ norm p ∷ []) ps)
    where
      by_test : (b : Bool) → length (kept_norms g is_dropped kept ps) ≤ length kept + length ps → length (kept_norms g is_dropped (kept ++ norm p ∷ []) ps) ≤ length (kept ++ norm p ∷ []) + length ps
          → length (if b then kept_norms g is_dropped kept ps else kept_norms g is_dropped (kept ++ norm p ∷ []) ps) ≤ length kept + length (p ∷ ps)
      by_test true h k = omega (arith, h)
      by_test false h k = let l = length-append kept (norm p ∷ []) in omega (arith, k, l)

  -- nor more terms
  kept_terms : (kept ps : Polynomials) → terms_of (kept_norms g is_dropped kept ps) ≤ terms_of kept + terms_of ps
  kept_terms kept [] = omega arith
  kept_terms kept (p ∷ ps) = by_test (is_dropped (norm p) || is_member g (norm p) kept) (kept_terms kept ps) (kept_terms (kept ++ norm p ∷ []) ps)
    where
      by_test : (b : Bool) → terms_of (kept_norms g is_dropped kept ps) ≤ terms_of kept + terms_of ps → terms_of (kept_norms g is_dropped (kept ++ norm p ∷ []) ps) ≤ terms_of (kept ++ norm p ∷ []) + terms_of ps
          → terms_of (if b then kept_norms g is_dropped kept ps else kept_norms g is_dropped (kept ++ norm p ∷ []) ps) ≤ terms_of kept + terms_of (p ∷ ps)
      by_test true h k = omega (arith, h)
      by_test false h k = let l = terms_append kept (norm p ∷ []) in let e = as_long p in omega (arith, k, l, e)

-- the two counts of a system that passes no limit
within : (m n : ℕ) → cond (nat_lt 256 m) (Some limits.Polynomials) (cond (nat_lt 65536 n) (Some limits.Node) None) ≡ None → (m ≤ 256) × (n ≤ 65536)
within m n e = by_tests (nat_lt 256 m) (nat_lt 65536 n) refl refl e
  where
    by_tests : (a b : Bool) → nat_lt 256 m ≡ a → nat_lt 65536 n ≡ b → cond a (Some limits.Polynomials) (cond b (Some limits.Node) None) ≡ None → (m ≤ 256) × (n ≤ 65536)
    by_tests true b f h e = cc
    by_tests false true f h e = cc
    by_tests false false f h e = (grind (arith, nat_tests), grind (arith, nat_tests))

-- and those of a state without forks
none_passed : (m n : ℕ) → m ≤ 256 → n ≤ 65536 → cond (nat_lt 256 m || false) (Some limits.Polynomials) (cond (nat_lt 65536 n || false) (Some limits.Node) None) ≡ None
none_passed m n h k =
    let a : nat_lt 256 m ≡ false = grind (arith, nat_tests) in
    let b : nat_lt 65536 n ≡ false = grind (arith, nat_tests) in
    ap₂ (λ a b. cond (a || false) (Some limits.Polynomials) (cond (b || false) (Some limits.Node) None)) a b

-- a root passes no limit where its system passes none
pub root_within : (g : Symbols Symbol) (s : System) → system_limit s ≡ None → limit_passed (root_of g s ∷ []) ≡ None
unfolding root_of
root_within g s e =
    let both = within (length s.equations + length s.inequations) (terms_of s.equations + terms_of s.inequations) e in
    let a = kept_count g is_zero [] s.equations in
    let b = kept_count g (is_unit g) [] s.inequations in
    let c = kept_terms g is_zero [] s.equations in
    let d = kept_terms g (is_unit g) [] s.inequations in
    let h = both.0 in
    let k = both.1 in
    none_passed (length (kept_norms g is_zero [] s.equations) + length (kept_norms g (is_unit g) [] s.inequations)) (terms_of (kept_norms g is_zero [] s.equations) + terms_of (kept_norms g (is_unit g) [] s.inequations))
    (omega (arith, a, b, h)) (omega (arith, c, d, k))

-- ---- in a book
-- the polynomials of a book are over its ranking
pub all_over : (book : BookValue) → IsBook book → (ps : List ℕ) → LiveAll book ps → AllOf (IsOver book.ranking) (polynomials book ps)
all_over book h [] live = tt
all_over book h (p ∷ ps) live =
    let k = h.each p [] (All-head (λ p. Lives book p) p ps live) in
    (record { canonical = k.canonical; belongs = k.belongs }, all_over book h ps (All-tail (λ p. Lives book p) p ps live))

-- The equations of a root are made first, and its inequations in the book that is left.
module _ (old mid new : BookValue) (es hs kept_es kept_hs : List ℕ) (stands : IsSystemIn old (record { equations = es; inequations = hs })) (first : IsKept old mid) (second : IsKept mid new)
    (equations : MeanAll mid kept_es (kept_norms (symbols_under old.ranking) is_zero [] (polynomials old es)))
    (inequations : MeanAll new kept_hs (kept_norms (symbols_under mid.ranking) (is_unit (symbols_under mid.ranking)) [] (polynomials mid hs))) where
  -- both together are the root
  pub root_is : state_in new (record { equations = kept_es; inequations = kept_hs; splits = 0 }) ≡ root_of (symbols_under old.ranking) (system_in old (record { equations = es; inequations = hs }))
  unfolding root_of
  root_is =
      ap₂ (λ (a b : Polynomials). record { equations = a; inequations = b; splits = 0 })
      (kept_polynomials mid new second kept_es equations.live ∙ equations.are)
      (inequations.are
      ∙ ap (λ r. kept_norms (symbols_under r) (is_unit (symbols_under r)) [] (polynomials mid hs)) first.ranking
      ∙ ap (kept_norms (symbols_under old.ranking) (is_unit (symbols_under old.ranking)) []) (kept_polynomials old mid first hs stands.inequations_live))

  -- which has the facts of a state
  pub root_facts : IsBook old → IsStateOf (symbols_under new.ranking) (state_in new (record { equations = kept_es; inequations = kept_hs; splits = 0 }))
  root_facts book =
      let s = system_in old (record { equations = es; inequations = hs }) in
      let facts : IsStateOf (symbols_under old.ranking) (root_of (symbols_under old.ranking) s) =
      root_is_state old.ranking s (record { equations_over = all_over old book es stands.equations_live; inequations_over = all_over old book hs stands.inequations_live }) (root_within (symbols_under old.ranking) s stands.within_limits) in
      subst (λ r. IsStateOf (symbols_under r) (state_in new (record { equations = kept_es; inequations = kept_hs; splits = 0 }))) (sym (second.ranking ∙ first.ranking)) (subst (IsStateOf (symbols_under old.ranking)) (sym root_is) facts)
