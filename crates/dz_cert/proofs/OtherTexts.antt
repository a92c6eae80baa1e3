-- The first chain in which two lists of texts differ.
use Rattle.std.proofs.Common.{◌≡◌, ◌↔◌, ℕ, zero, suc, ◌+◌, Bool, true, false, if◌then◌else◌, List, [], ◌∷◌, take, Option, Some, None, refl, sym, ap, ◌∙◌, arith, slice_get}
use Rattle.std.specs.Str.{bytes_eq}
use Rattle.std.proofs.lemmas.Slice.Eq.{bytes_eq-Decides}
use Rattle.dz_form.proofs.TextTokens.{both_true}
use Rattle.dz_cert.specs.Documents.{ChainTexts}
use Rattle.dz_cert.specs.Laws.{IsFirstOther}
use Rattle.dz_cert.specs.Verdicts.{are_same, first_other, is_same}
use Rattle.dz_cert.proofs.Found.{and_true, some_same}

-- ---- equal texts
-- texts that are the same are equal
same_equal : (ts us : List (List ℕ)) → are_same ts us ≡ true → ts ≡ us
same_equal [] [] e = refl
same_equal [] (u ∷ us) e = absurd cc
same_equal (t ∷ ts) [] e = absurd cc
same_equal (t ∷ ts) (u ∷ us) e =
    let f = both_true (bytes_eq t u) (are_same ts us) e in
    ap (λ (x : List ℕ). x ∷ ts) ((bytes_eq-Decides t u).0 f.0) ∙ ap (λ (xs : List (List ℕ)). u ∷ xs) (same_equal ts us f.1)

-- texts are the same as themselves
same_self : (ts : List (List ℕ)) → are_same ts ts ≡ true
same_self [] = refl
same_self (t ∷ ts) = and_true (bytes_eq t t) (are_same ts ts) ((bytes_eq-Decides t t).1 refl) (same_self ts)

-- chains with the same texts are equal
chain_equal : (c d : ChainTexts) → is_same c d ≡ true → c ≡ d
chain_equal c d e =
    let f = both_true (are_same c.equations d.equations) (are_same c.inequations d.inequations) e in
    ap (λ (ts : List (List ℕ)). record { equations = ts; inequations = c.inequations }) (same_equal c.equations d.equations f.0)
    ∙ ap (λ (ts : List (List ℕ)). record { equations = d.equations; inequations = ts }) (same_equal c.inequations d.inequations f.1)

-- a chain has the same texts as itself
chain_self : (c : ChainTexts) → is_same c c ≡ true
chain_self c = and_true (are_same c.equations c.equations) (are_same c.inequations c.inequations) (same_self c.equations) (same_self c.inequations)

-- ---- no other chain
-- lists without another chain are equal
none_equal : (k : ℕ) (cs ds : List ChainTexts) → first_other k cs ds ≡ None → cs ≡ ds
none_equal k [] [] e = refl
none_equal k [] (d ∷ ds) e = absurd cc
none_equal k (c ∷ cs) [] e = absurd cc
none_equal k (c ∷ cs) (d ∷ ds) e = by_first (is_same c d) refl e (none_equal (suc k) cs ds)
  where
    by_first : (is : Bool) → is_same c d ≡ is → (if is then first_other (suc k) cs ds else Some k) ≡ None → (first_other (suc k) cs ds ≡ None → cs ≡ ds) → c ∷ cs ≡ d ∷ ds
    by_first true f e more = ap (λ (x : ChainTexts). x ∷ cs) (chain_equal c d f) ∙ ap (λ (xs : List ChainTexts). d ∷ xs) (more e)
    by_first false f e more = absurd cc

-- a list has no other chain than itself
self_none : (k : ℕ) (cs : List ChainTexts) → first_other k cs cs ≡ None
self_none k [] = refl
self_none k (c ∷ cs) = rw (chain_self c) (self_none (suc k) cs)

-- no chain is other exactly where the lists are equal
pub first_other-none : (cs ds : List ChainTexts) → (first_other 1 cs ds ≡ None) ↔ (cs ≡ ds)
first_other-none cs ds = (none_equal 1 cs ds, (λ e. ap (first_other 1 cs) (sym e) ∙ self_none 1 cs))

-- ---- the first other chain
-- the first chain is other
here : (k n : ℕ) (cs ds : List ChainTexts) → Some k ≡ Some n → (slice_get cs 0 ≡ slice_get ds 0 → ⊥) → IsFirstOther k n cs ds
here k n cs ds e apart = record { index = 0; number = let same = some_same k n e in omega arith; before = refl; there = apart }

-- a later chain is
later : (k n : ℕ) (c d : ChainTexts) (cs ds : List ChainTexts) → c ≡ d → IsFirstOther (suc k) n cs ds → IsFirstOther k n (c ∷ cs) (d ∷ ds)
later k n c d cs ds same o = record {
  index = suc o.index;
  number = let e = o.number in omega arith;
  before = ap (λ (x : ChainTexts). x ∷ take o.index cs) same ∙ ap (λ (xs : List ChainTexts). d ∷ xs) o.before;
  there = o.there;
}

-- what is found is the first other chain
found_other : (k n : ℕ) (cs ds : List ChainTexts) → first_other k cs ds ≡ Some n → IsFirstOther k n cs ds
found_other k n [] [] e = absurd cc
found_other k n [] (d ∷ ds) e = here k n [] (d ∷ ds) e (λ f. cc)
found_other k n (c ∷ cs) [] e = here k n (c ∷ cs) [] e (λ f. cc)
found_other k n (c ∷ cs) (d ∷ ds) e = by_first (is_same c d) refl e (found_other (suc k) n cs ds)
  where
    by_first : (is : Bool) → is_same c d ≡ is → (if is then first_other (suc k) cs ds else Some k) ≡ Some n → (first_other (suc k) cs ds ≡ Some n → IsFirstOther (suc k) n cs ds) → IsFirstOther k n (c ∷ cs) (d ∷ ds)
    by_first true f e more = later k n c d cs ds (chain_equal c d f) (more e)
    by_first false f e more =
        here k n (c ∷ cs) (d ∷ ds) e (λ g. let same : c ≡ d = some_same c d g in let bad : true ≡ false = sym (chain_self c) ∙ ap (is_same c) same ∙ f in absurd cc)

-- the first other chain is found
other_is : (k i : ℕ) (cs ds : List ChainTexts) → take i cs ≡ take i ds → (slice_get cs i ≡ slice_get ds i → ⊥) → first_other k cs ds ≡ Some (k + i)
other_is k i [] [] before apart = absurd (apart (none_both i))
  where
    none_both : (i : ℕ) → ◌≡◌ {A = Option ChainTexts} (slice_get [] i) (slice_get [] i)
    none_both i = refl
other_is k zero [] (d ∷ ds) before apart = ap (λ (n : ℕ). Some n) (omega arith)
other_is k (suc i) [] (d ∷ ds) before apart = absurd cc
other_is k zero (c ∷ cs) [] before apart = ap (λ (n : ℕ). Some n) (omega arith)
other_is k (suc i) (c ∷ cs) [] before apart = absurd cc
other_is k zero (c ∷ cs) (d ∷ ds) before apart = by_first (is_same c d) refl
  where
    number : k ≡ k + 0
    number = omega arith

    by_first : (is : Bool) → is_same c d ≡ is → (if is then first_other (suc k) cs ds else Some k) ≡ Some (k + 0)
    by_first true f = absurd (apart (ap (λ (x : ChainTexts). Some x) (chain_equal c d f)))
    by_first false f = ap (λ (n : ℕ). Some n) number
other_is k (suc i) (c ∷ cs) (d ∷ ds) before apart =
    let first : c ≡ d = cc in
    let rest : take i cs ≡ take i ds = cc in
    let same : is_same c d ≡ true = ap (is_same c) (sym first) ∙ chain_self c in
    let number : suc k + i ≡ k + suc i = omega arith in
    rw same (other_is (suc k) i cs ds rest apart ∙ ap (λ (n : ℕ). Some n) number)

-- a number is found exactly where it is that of the first other chain
pub first_other-some : (n : ℕ) (cs ds : List ChainTexts) → (first_other 1 cs ds ≡ Some n) ↔ IsFirstOther 1 n cs ds
first_other-some n cs ds = (found_other 1 n cs ds, (λ o. other_is 1 o.index cs ds o.before o.there ∙ ap (λ (m : ℕ). Some m) (sym o.number)))
