-- Cells mean what the amounts of an operation do, as far as they fit.
use Rattle.std.proofs.Common.{◌≡◌, ◌+◌, ◌++◌, Bool, true, false, cond, leb, List, [], ◌∷◌, length, ◌&&◌, Option, Some, None, refl, sym, ap, ◌∙◌, arith}
use Rattle.std.proofs.lemmas.Bool.Decides.{nat_tests}
use Rattle.std.proofs.lemmas.List.{length-map}
use Rattle.std.specs.declared.cmp.Ordering.{Ordering}
use Rattle.dz_algebra.specs.declared.Limit.{Limit}
use Rattle.dz_algebra.specs.Order.{IsOrder, IsAbove, IsFalling}
use Rattle.dz_algebra.specs.Monomial.{Monomial, monomial_cmp}
use Rattle.dz_algebra.specs.Polynomial.{Polynomial, Contributions, IsPolynomial, keep, collect}
use Rattle.dz_algebra.specs.Gather.{onto, gather, merge}
use Rattle.dz_algebra.specs.Amount.{Amount, amounts, add_amounts, greatest, gathered, nonzero, amounts_fit}
use Rattle.dz_algebra.specs.Size.{refused, unless}
use Rattle.dz_algebra.proofs.Gathers.{gather-map, merge_puts}
use Rattle.dz_algebra.proofs.Operations.{monomial_order, nonzero_gathered, falling_amounts, gathered_polynomial, falling_gathered, onto-append, amounts-append}
use Rattle.dz_monomials.specs.Cells.{capped, add_capped, caps, keep_fitting, finished, concluded}

-- a sum that fits has parts that fit
capped_sum : (a b : Amount) → capped (add_amounts a b) ≡ add_capped (capped a) (capped b)
capped_sum a b = tests (leb a.majorant greatest) (leb b.majorant greatest) (λ e. grind (arith, nat_tests)) (λ e. grind (arith, nat_tests))
  where
    too_much : (s : Bool) → (s ≡ true → ⊥) → ◌≡◌ {A = Option Amount} (cond s (Some (add_amounts a b)) None) None
    too_much true h = absurd (h refl)
    too_much false h = refl

    tests : (x y : Bool) → (leb (a.majorant + b.majorant) greatest ≡ true → x ≡ true) → (leb (a.majorant + b.majorant) greatest ≡ true → y ≡ true) → capped (add_amounts a b) ≡ add_capped (cond x (Some a) None) (cond y (Some b) None)
    tests true true h g = refl
    tests true false h g = too_much _ (λ e. let k = g e in cc)
    tests false y h g = too_much _ (λ e. let k = h e in cc)

-- cells put onto cells are the amounts put onto the amounts
pub caps_onto : {S : Type 0} (by : Monomial S → Monomial S → Ordering) (rs ts : List (Monomial S × Amount)) → caps (onto by add_amounts rs ts) ≡ onto by add_capped (caps rs) (caps ts)
caps_onto by rs ts = gather-map by add_amounts add_capped capped capped_sum rs ts

-- the cells of amounts make what the amounts make
finished_caps : {S : Type 0} (g : List (Monomial S × Amount)) → finished (caps g) ≡ cond (amounts_fit g) (Some (nonzero g)) None
finished_caps [] = refl
finished_caps {S} (t ∷ g) = ap (keep_fitting t.0 (capped t.1)) (finished_caps g) ∙ by_tests (leb t.1.majorant greatest) (amounts_fit g)
  where
    by_tests : (b c : Bool) → keep_fitting t.0 (cond b (Some t.1) None) (cond c (Some (nonzero g)) None) ≡ cond (b && c) (Some (keep t.0 t.1.total (nonzero g))) None
    by_tests true true = refl
    by_tests true false = refl
    by_tests false c = refl

pub length-caps : {M : Type 0} (g : List (M × Amount)) → length (caps g) ≡ length g
length-caps g = length-map g (λ t. (t.0, capped t.1))

same_answer : {S : Type 0} (l : Option Limit) (b : Bool) (p : Polynomial S) → concluded l (cond b (Some p) None) ≡ unless (refused l b) p
same_answer (Some l) b p = refl
same_answer None true p = refl
same_answer None false p = refl

module _ {S : Type 0} {cmp : S → S → Ordering} (order : IsOrder cmp) where
  abbrev by : Monomial S → Monomial S → Ordering
  by = monomial_cmp cmp

  -- the cells of contributions answer what the limit, the amounts and the polynomial of the contributions do
  pub concluded_caps : (l : Option Limit) (ts : Contributions S) → concluded l (finished (caps (gathered cmp ts))) ≡ unless (refused l (amounts_fit (gathered cmp ts))) (collect by ts)
  concluded_caps l ts =
      ap (concluded l) (finished_caps (gathered cmp ts) ∙ ap (λ p. cond (amounts_fit (gathered cmp ts)) (Some p) None) (nonzero_gathered order ts))
      ∙ same_answer l (amounts_fit (gathered cmp ts)) (collect by ts)

  above_caps : (m : Monomial S) (g : List (Monomial S × Amount)) → IsAbove by m g → IsAbove by m (caps g)
  above_caps m [] a = tt
  above_caps m (t ∷ g) a = (a.0, above_caps m g a.1)

  -- cells fall as their amounts do
  pub falling_caps : (g : List (Monomial S × Amount)) → IsFalling by g → IsFalling by (caps g)
  falling_caps [] h = tt
  falling_caps (t ∷ g) h = (above_caps t.0 g h.0, falling_caps g h.1)

  -- one pass over the cells of contributions and those of falling contributions before them
  pub merged : (p ts : Contributions S) → IsFalling by (amounts p) → merge by add_capped (caps (gathered cmp ts)) (caps (amounts p)) ≡ caps (gathered cmp (p ++ ts))
  merged p ts h =
      merge_puts (monomial_order order) add_capped (caps (gathered cmp ts)) (caps (amounts p)) (falling_caps (gathered cmp ts) (falling_gathered order ts)) (falling_caps (amounts p) h)
      ∙ sym (caps_onto by (amounts p) (gathered cmp ts))
      ∙ ap caps (sym (ap (gather by add_amounts) (amounts-append order p ts) ∙ onto-append order (amounts p) (amounts ts) []))

  -- one pass over the cells of two polynomials
  pub merged_sum : (p q : Polynomial S) → IsPolynomial cmp p → IsPolynomial cmp q → merge by add_capped (caps (amounts q)) (caps (amounts p)) ≡ caps (gathered cmp (p ++ q))
  merged_sum p q h g = ap (λ a. merge by add_capped (caps a) (caps (amounts p))) (sym (gathered_polynomial order q g)) ∙ merged p q (falling_amounts order p h)
