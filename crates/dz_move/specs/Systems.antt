-- Systems in a book, and the limits that they have.
use Rattle.std.specs.Prelude.{◌≡◌, ℕ, ◌+◌, cond, nat_lt, List, length, Option, Some, None}
use Rattle.dz_algebra.specs.declared.Limit.{Limit}
use Rattle.dz_algebra.specs.declared.Limit.TheVariants as limits
use Rattle.dz_poly.specs.Books.{BookValue}
use Rattle.dz_move.specs.Root.{System}
use Rattle.dz_diff.specs.State.{terms_of}
use Rattle.dz_diff.specs.States.{LiveAll, polynomials}

-- the limit that a system passes: at most 256 polynomials, and at most 65,536 terms in them together
abbrev pub system_limit : System → Option Limit
system_limit s =
    cond (nat_lt 256 (length s.equations + length s.inequations)) (Some limits.Polynomials)
    (cond (nat_lt 65536 (terms_of s.equations + terms_of s.inequations)) (Some limits.Node) None)

-- ---- in a book
-- a system by the numbers of its polynomials
pub record SystemValue : Type 0 where
  pub equations : List ℕ
  pub inequations : List ℕ

-- the system of the polynomials that the numbers mean
abbrev pub system_in : BookValue → SystemValue → System
system_in book s = record { equations = polynomials book s.equations; inequations = polynomials book s.inequations }

-- all polynomials of a system stand in the book, and they pass no limit
pub record IsSystemIn (book : BookValue) (s : SystemValue) : Type 0 where
  pub equations_live : LiveAll book s.equations
  pub inequations_live : LiveAll book s.inequations
  pub within_limits : system_limit (system_in book s) ≡ None
