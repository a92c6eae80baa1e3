-- What entries of a book tell.
use Rattle.std.proofs.Common.{◌≡◌, ◌<◌, ◌∙◌, ℕ, zero, suc, [], ◌∷◌, length, map, get_or, refl, sym, ap, arith}
use Rattle.std.specs.Prelude.{Some, slice_get}
use Rattle.std.proofs.lemmas.List.{length-map}
use Rattle.dz_algebra.specs.Monomial.{Monomial}
use Rattle.dz_algebra.specs.Polynomial.{Polynomial}
use Rattle.dz_rank.specs.declared.symbols.Symbol.{Symbol}
use Rattle.dz_rank.specs.Rankings.{RankingValue}
use Rattle.dz_poly.specs.Books.{symbols_of}
use Rattle.dz_monomials.specs.Keeping.{IsTabled}
use Rattle.dz_monomials.proofs.Multiples.{keys_degrees}
use Rattle.dz_monomials.proofs.SymbolLaws.{ranking_order}

symbols_stand : (r : RankingValue) (p : Polynomial Symbol) (table : Monomial Symbol) → IsTabled r p table → map (λ e. e.0) table ≡ symbols_of r p
symbols_stand r p table h = ap (map (λ e. e.0)) h.degrees_are ∙ keys_degrees (ranking_order r) p

pub symbols_counted : (r : RankingValue) (p : Polynomial Symbol) (table : Monomial Symbol) → IsTabled r p table → length table ≡ length (symbols_of r p)
symbols_counted r p table h = sym (length-map table (λ e. e.0)) ∙ ap length (symbols_stand r p table h)

pub symbol_stands : (r : RankingValue) (p : Polynomial Symbol) (table : Monomial Symbol) (j : ℕ) (d : Symbol × ℕ) → IsTabled r p table → j < length table → slice_get (symbols_of r p) j ≡ Some (get_or table j d).0
symbol_stands r p table j d h l = ap (λ ss. slice_get ss j) (sym (symbols_stand r p table h)) ∙ at table j l
  where
    at : (table : Monomial Symbol) (j : ℕ) → j < length table → slice_get (map (λ e. e.0) table) j ≡ Some (get_or table j d).0
    at [] j l = absurd (omega arith)
    at (e ∷ table) zero l = refl
    at (e ∷ table) (suc j) l = at table j (omega arith)
