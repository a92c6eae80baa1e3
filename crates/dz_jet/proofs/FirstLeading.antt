-- The first equation that leads to a symbol, as a search finds it.
use Rattle.std.proofs.Common.{◌≡◌, ◌<◌, ◌≤◌, ◌+◌, ◌∙◌, ℕ, suc, Bool, true, false, cond, [], drop, length, slice_index_or, Option, Some, None, refl, sym, ap, arith}
use Rattle.dz_algebra.specs.Parts.{leader}
use Rattle.dz_algebra.specs.Polynomial.{Polynomial}
use Rattle.dz_algebra.specs.Symbols.{Symbols}
use Rattle.dz_poly.specs.Books.{BookValue, IsBook, Lives, polynomial}
use Rattle.dz_rank.specs.Symbols.{HasFourExponents, IsDerivativeBy}
use Rattle.dz_rank.specs.declared.symbols.Operator.{Operator}
use Rattle.dz_rank.specs.declared.symbols.Symbol.{Symbol}
use Rattle.dz_monomials.specs.Ranked.{symbols_under}
use Rattle.dz_diff.specs.Operators.{is_proper, quotient}
use Rattle.dz_diff.specs.Tests.{Polynomials}
use Rattle.dz_step.proofs.DivisorTables.{quotient_found, quotient_missing}
use Rattle.dz_step.proofs.Searches.{drop_here, drop_end}
use Rattle.dz_jet.specs.Fixing.{IsLeading, proper_operator}
use Rattle.dz_jet.specs.Jets.{Leading, led_by, leading_to}
use Rattle.dz_jet.proofs.PairSteps.{four}
use Rattle.dz_jet.proofs.Reachings.{leader_belongs}

-- ---- the operator of one equation
module _ (book : BookValue) (whole : IsBook book) (p : ℕ) (lives : Lives book p) (w l : Symbol) (four_w : HasFourExponents w) (led : leader (symbols_under book.ranking) (polynomial book p) ≡ Some l) where
  four_l : HasFourExponents l
  four_l = four book.ranking l (leader_belongs book.ranking (polynomial book p) l (whole.each p [] lives).belongs led)

  answer : Option Operator → Option Operator
  answer o = elim o as (λ _. Option Operator) [ None ↦ None | Some t ↦ cond {A = Option Operator} (is_proper t) (Some t) None ]

  by_quotient : (o : Option Operator) → quotient w l ≡ o → proper_operator (leader (symbols_under book.ranking) (polynomial book p)) w ≡ answer o
  unfolding answer
  by_quotient o e = ap (λ (x : Option Symbol). proper_operator x w) led ∙ ap answer e

  pub no_quotient : ((t : Operator) → IsDerivativeBy t l w → ⊥) → None ≡ proper_operator (leader (symbols_under book.ranking) (polynomial book p)) w
  unfolding answer
  no_quotient f = sym (by_quotient None (quotient_missing w l four_w four_l f))

  module _ (t : Operator) (size : length t.counts ≡ 4) (by : IsDerivativeBy t l w) where
    pub proper_quotient : is_proper t ≡ true → Some t ≡ proper_operator (leader (symbols_under book.ranking) (polynomial book p)) w
    unfolding answer
    proper_quotient e = sym (by_quotient (Some t) (quotient_found w l t size four_l by) ∙ ap (λ b. cond {A = Option Operator} b (Some t) None) e)

    pub improper_quotient : is_proper t ≡ false → None ≡ proper_operator (leader (symbols_under book.ranking) (polynomial book p)) w
    unfolding answer
    improper_quotient e = sym (by_quotient (Some t) (quotient_found w l t size four_l by) ∙ ap (λ b. cond {A = Option Operator} b (Some t) None) e)

-- ---- the first of equations
module _ (g : Symbols Symbol) (w : Symbol) where
  record Led (j : ℕ) (p : Polynomial Symbol) (t : Operator) (other : Option Leading) : Type 0 where
    top : Symbol
    leads : leader g p ≡ Some top
    is : led_by j p (leader g p) w other ≡ Some (record { place = j; divisor = p; top = top; operator = t })

  led_some : (j : ℕ) (p : Polynomial Symbol) (t : Operator) (other : Option Leading) → proper_operator (leader g p) w ≡ Some t → Led j p t other
  led_some j p t other e = by_leader (leader g p) refl e
    where
      by_leader : (o : Option Symbol) → leader g p ≡ o → proper_operator o w ≡ Some t → Led j p t other
      by_leader None f h = cc
      by_leader (Some l) f h = record { top = l; leads = f; is = ap (λ (o : Option Symbol). led_by j p o w other) f ∙ by_quotient (quotient w l) h }
        where
          by_proper : (u : Operator) (b : Bool) → cond {A = Option Operator} b (Some u) None ≡ Some t → cond {A = Option Leading} b (Some (record { place = j; divisor = p; top = l; operator = u })) other ≡ Some (record { place = j; divisor = p; top = l; operator = t })
          by_proper u true h = let k : u ≡ t = cc in ap (λ (x : Leading). Some x) (ap (λ v. record { place = j; divisor = p; top = l; operator = v }) k)
          by_proper u false h = cc

          by_quotient : (o : Option Operator) → (elim o as (λ _. Option Operator) [ None ↦ None | Some u ↦ cond {A = Option Operator} (is_proper u) (Some u) None ]) ≡ Some t
              → (elim o as (λ _. Option Leading) [ None ↦ other | Some u ↦ cond {A = Option Leading} (is_proper u) (Some (record { place = j; divisor = p; top = l; operator = u })) other ]) ≡ Some (record { place = j; divisor = p; top = l; operator = t })
          by_quotient None h = cc
          by_quotient (Some u) h = by_proper u (is_proper u) h

  led_none : (j : ℕ) (p : Polynomial Symbol) (other : Option Leading) → proper_operator (leader g p) w ≡ None → led_by j p (leader g p) w other ≡ other
  led_none j p other e = by_leader (leader g p) e
    where
      by_leader : (o : Option Symbol) → proper_operator o w ≡ None → led_by j p o w other ≡ other
      by_leader None h = refl
      by_leader (Some l) h = by_quotient (quotient w l) h
        where
          by_proper : (u : Operator) (b : Bool) → cond {A = Option Operator} b (Some u) None ≡ None → cond {A = Option Leading} b (Some (record { place = j; divisor = p; top = l; operator = u })) other ≡ other
          by_proper u true h = cc
          by_proper u false h = refl

          by_quotient : (o : Option Operator) → (elim o as (λ _. Option Operator) [ None ↦ None | Some u ↦ cond {A = Option Operator} (is_proper u) (Some u) None ]) ≡ None
              → (elim o as (λ _. Option Leading) [ None ↦ other | Some u ↦ cond {A = Option Leading} (is_proper u) (Some (record { place = j; divisor = p; top = l; operator = u })) other ]) ≡ other
          by_quotient None h = refl
          by_quotient (Some u) h = by_proper u (is_proper u) h

  module _ (es : Polynomials) (i : ℕ) (rest : leading_to g w (suc i) (drop i es) ≡ leading_to g w 1 es) where
    module _ (inside : i < length es) (o : Option Operator) (is : o ≡ proper_operator (leader g (slice_index_or es i [])) w) where
      here : leading_to g w (suc i) (drop i es) ≡ led_by (suc i) (slice_index_or es i []) (leader g (slice_index_or es i [])) w (leading_to g w (suc (suc i)) (drop (i + 1) es))
      here = ap (leading_to g w (suc i)) (drop_here i es [] inside)

      pub leads_here : (t : Operator) → o ≡ Some t → IsLeading g w es (record { index = i; operator = t })
      leads_here t e =
          let x = led_some (suc i) (slice_index_or es i []) t (leading_to g w (suc (suc i)) (drop (i + 1) es)) (sym is ∙ e) in
          record { top = x.top; inside = inside; leads = x.leads; leading = sym rest ∙ here ∙ x.is }

      pub leads_behind : o ≡ None → leading_to g w (suc (i + 1)) (drop (i + 1) es) ≡ leading_to g w 1 es
      leads_behind e =
          ap (λ k. leading_to g w (suc k) (drop (i + 1) es)) (let f : i + 1 ≡ suc i = omega arith in f)
          ∙ sym (led_none (suc i) (slice_index_or es i []) (leading_to g w (suc (suc i)) (drop (i + 1) es)) (sym is ∙ e)) ∙ sym here ∙ rest

    pub leads_nowhere : length es ≤ i → leading_to g w 1 es ≡ None
    leads_nowhere h = sym rest ∙ ap (leading_to g w (suc i)) (drop_end i es h)
