-- The leader of a polynomial is read off the table of its degrees.
use Rattle.std.proofs.Common.{◌≡◌, ◌==◌, ℕ, Bool, true, false, not, [], ◌∷◌, Option, Some, None, length, map, refl, sym, ap, ◌∙◌, arith, eqb-true}
use Rattle.std.specs.Prelude.{slice_index_or}
use Rattle.std.specs.List.{list_any}
use Rattle.std.specs.declared.cmp.Ordering.TheVariants.{Greater}
use Rattle.dz_algebra.specs.Monomial.{Monomial}
use Rattle.dz_algebra.specs.Parts.{is_ground, leader}
use Rattle.dz_algebra.specs.Polynomial.{Polynomial}
use Rattle.dz_algebra.specs.Size.{symbols}
use Rattle.dz_algebra.proofs.Leaders.{ground_no_leader, no_leader_ground}
use Rattle.dz_algebra.proofs.SymbolLists.{ground_first, is_ground_symbols, leader_first}
use Rattle.dz_rank.specs.Rankings.{RankingValue, ranking_cmp}
use Rattle.dz_rank.specs.Symbols.{is_derivative}
use Rattle.dz_rank.specs.declared.symbols.Symbol.{Symbol}
use Rattle.dz_rank.specs.declared.symbols.Symbol.TheVariants.{Independent, Derivative}
use Rattle.dz_monomials.specs.Keeping.{IsTabled}
use Rattle.dz_monomials.specs.Ranked.{symbols_under}
use Rattle.dz_monomials.proofs.Multiples.{keys_degrees}
use Rattle.dz_monomials.proofs.SymbolLaws.{ranking_order}

-- a derivative is greater than an independent
above : (r : RankingValue) (s t : Symbol) → is_derivative s ≡ true → is_derivative t ≡ false → ranking_cmp r s t ≡ Greater
unfolding ranking_cmp
above r (Independent i) t h k = absurd cc
above r (Derivative u s) (Independent j) h k = refl
above r (Derivative u s) (Derivative v t) h k = absurd cc

-- a symbol, where it is a derivative
abbrev derivative_alone : Symbol → Option Symbol
derivative_alone (Independent i) = None
derivative_alone (Derivative u t) = Some (Derivative u t)

-- the first symbol of a table, where there is one and it is a derivative
abbrev first_derivative : Monomial Symbol → Option Symbol
first_derivative [] = None
first_derivative (e ∷ m) = derivative_alone e.0

-- the greatest symbol tells the leader
leader_in_table : (r : RankingValue) (p : Polynomial Symbol) (table : Monomial Symbol) → IsTabled r p table → leader (symbols_under r) p ≡ first_derivative table
leader_in_table r p table h = by_table table (sym (ap (map (λ e. e.0)) h.degrees_are ∙ keys_degrees (ranking_order r) p))
  where
    by_table : (table : Monomial Symbol) → symbols (ranking_cmp r) (map (λ t. t.0) p) ≡ map (λ e. e.0) table → leader (symbols_under r) p ≡ first_derivative table
    by_table [] list = ground_no_leader (symbols_under r) p (is_ground_symbols (symbols_under r) (ranking_order r) p ∙ ap (λ ss. not (list_any is_derivative ss)) list)
    by_table ((Independent i, e) ∷ m) list = ground_no_leader (symbols_under r) p (ground_first (symbols_under r) (ranking_order r) (above r) p (Independent i) (map (λ e. e.0) m) list refl)
    by_table ((Derivative u t, e) ∷ m) list = leader_first (symbols_under r) (ranking_order r) p (Derivative u t) (map (λ e. e.0) m) h.keepable.canonical list refl

module _ (r : RankingValue) (p : Polynomial Symbol) (table : Monomial Symbol) (h : IsTabled r p table) where
  -- no symbol occurs
  pub no_symbol_leads : true ≡ (length table == 0) → None ≡ leader (symbols_under r) p
  no_symbol_leads e = sym (leader_in_table r p table h ∙ by_table table e)
    where
      by_table : (table : Monomial Symbol) → true ≡ (length table == 0) → first_derivative table ≡ None
      by_table [] e = refl
      by_table (x ∷ m) e = let none : length (x ∷ m) ≡ 0 = eqb-true (length (x ∷ m)) 0 (sym e) in absurd (omega arith)

  first_stands : (table : Monomial Symbol) (d : Symbol × ℕ) → false ≡ (length table == 0) → first_derivative table ≡ derivative_alone (slice_index_or table 0 d).0
  first_stands [] d e = absurd cc
  first_stands (x ∷ m) d e = refl

  -- the greatest symbol is an independent
  pub no_derivative_leads : (d : Symbol × ℕ) (i : ℕ) → false ≡ (length table == 0) → (slice_index_or table 0 d).0 ≡ Independent i → None ≡ leader (symbols_under r) p
  no_derivative_leads d i e k = sym (leader_in_table r p table h ∙ first_stands table d e ∙ ap derivative_alone k)

  -- the greatest symbol is a derivative
  pub derivative_leads : (d : Symbol × ℕ) → false ≡ (length table == 0) → ((i : ℕ) → (slice_index_or table 0 d).0 ≡ Independent i → ⊥) → Some (slice_index_or table 0 d).0 ≡ leader (symbols_under r) p
  derivative_leads d e k = sym (leader_in_table r p table h ∙ first_stands table d e ∙ by_symbol (slice_index_or table 0 d).0 k)
    where
      by_symbol : (s : Symbol) → ((i : ℕ) → s ≡ Independent i → ⊥) → derivative_alone s ≡ Some s
      by_symbol (Independent i) k = absurd (k i refl)
      by_symbol (Derivative u t) k = refl

-- a polynomial without a leader is ground
pub unled_not_led : (r : RankingValue) (p : Polynomial Symbol) → is_ground (symbols_under r) p ≡ false → None ≡ leader (symbols_under r) p → ⊥
unled_not_led r p led e = let ground : is_ground (symbols_under r) p ≡ true = no_leader_ground (symbols_under r) p (sym e) in cc

-- and one with a leader is not
pub led_not_ground : (r : RankingValue) (p : Polynomial Symbol) (v : Symbol) → leader (symbols_under r) p ≡ Some v → is_ground (symbols_under r) p ≡ false
led_not_ground r p v e = by_test (is_ground (symbols_under r) p) refl
  where
    by_test : (b : Bool) → is_ground (symbols_under r) p ≡ b → b ≡ false
    by_test true k = let none : leader (symbols_under r) p ≡ None = ground_no_leader (symbols_under r) p k in absurd cc
    by_test false k = refl
