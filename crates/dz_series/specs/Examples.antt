-- Worked texts of jets, written by hand.
use Rattle.std.specs.Prelude.{◌≡◌, [], ◌∷◌, codes, pos, neg_ℤ, Ok, Err}
use Rattle.dz_rank.specs.declared.rankings.Kind.TheVariants.{LexA}
use Rattle.dz_rank.specs.Rankings.{RankingValue}
use Rattle.dz_syntax.specs.Names.{Declared}
use Rattle.dz_jet.specs.Examples.{at, conic, gradient, ordinary, over, plane, starts, u, x, y}
use Rattle.dz_jet.specs.Fractions.{whole}
use Rattle.dz_series.specs.Series.{series_answer, wide_at}
use Rattle.dz_series.specs.SeriesReports.{done, series_report, stopped, unprinted, wide}

-- ---- texts
-- the names x and u
abbrev pub ordinary_names : Declared
ordinary_names = record { all = codes "x" ∷ codes "u" ∷ []; independents = 1 }

-- the names x, y and u
abbrev pub plane_names : Declared
plane_names = record { all = codes "x" ∷ codes "y" ∷ codes "u" ∷ []; independents = 2 }

pub record SeriesExamples : Type 0 where
  -- at x = 0: u = 1, u[x] = 2, u[x,x] = 2, u[x,x,x] = 0
  pub conic_series : series_answer ordinary_names ordinary.signature ((x, whole (pos 0)) ∷ (u 0, whole (pos 1)) ∷ (u 1, whole (pos 2)) ∷ (u 2, whole (pos 2)) ∷ (u 3, whole (pos 0)) ∷ [])
      ≡ Ok (codes "value u = 1\nvalue u[x] = 2\nvalue u[x,x] = 2\nvalue u[x,x,x] = 0\nseries u = 1 + 2*x + x^2\n")
  -- at x = 1/2: negative coefficients, and factorials that stay
  pub half_series : series_answer ordinary_names ordinary.signature ((x, over 1 2) ∷ (u 0, whole (neg_ℤ (pos 1))) ∷ (u 1, over 1 3) ∷ (u 2, whole (neg_ℤ (pos 1))) ∷ (u 3, whole (pos 6)) ∷ [])
      ≡ Ok (codes "value u = -1\nvalue u[x] = 1/3\nvalue u[x,x] = -1\nvalue u[x,x,x] = 6\nseries u = -1 + 1/3*(x - 1/2) - 1/2*(x - 1/2)^2 + (x - 1/2)^3\n")
  -- at x = -1 and y = 0: two displacements, in declared order
  pub plane_series : series_answer plane_names plane.signature ((x, whole (neg_ℤ (pos 1))) ∷ (y, whole (pos 0)) ∷ (at 0 0, whole (pos 0)) ∷ (at 1 1, whole (pos 4)) ∷ [])
      ≡ Ok (codes "value u = 0\nvalue u[x,y] = 4\nseries u = 4*(x + 1)*y\n")
  -- no value but zeros
  pub zero_series : series_answer ordinary_names ordinary.signature ((x, whole (pos 0)) ∷ (u 0, whole (pos 0)) ∷ []) ≡ Ok (codes "value u = 0\nseries u = 0\n")
  -- u[x,x] is 1/2^126, and half of it does not fit
  pub wide_series : series_answer ordinary_names ordinary.signature ((x, whole (pos 0)) ∷ (u 0, whole (pos 1)) ∷ (u 1, whole (pos 1)) ∷ (u 2, over 1 85070591730234615865843651857942052864) ∷ []) ≡ Err (wide_at (u 2))

-- ---- reports
-- the dependent u over x and y, without an order of degrees
abbrev pub unordered : RankingValue
unordered = record { signature = plane.signature; blocks = record { kind = LexA; dependents = 0 ∷ [] } ∷ [] }

pub record ReportExamples : Type 0 where
  -- from u = 1 and u[x] = 2 on
  pub conic_report : series_report ordinary ordinary_names 1 conic (starts 1 2) 3
      ≡ record { printed = codes "series chain 1 order 3\nvalue u = 1\nvalue u[x] = 2\nvalue u[x,x] = 2\nvalue u[x,x,x] = 0\nseries u = 1 + 2*x + x^2\nend\n"; ending = done }
  -- points that are refused
  pub not_orderly : series_report unordered plane_names 1 (gradient 1) [] 3 ≡ unprinted (codes "the ranking is not orderly")
  pub lacks : series_report ordinary ordinary_names 1 conic ((x, whole (pos 0)) ∷ []) 3 ≡ unprinted (codes "u has no value")
  pub too_much : series_report ordinary ordinary_names 1 conic ((u 2, whole (pos 2)) ∷ starts 1 2) 3 ≡ unprinted (codes "u[x,x] is not free")
  pub off : series_report ordinary ordinary_names 1 conic (starts 1 3) 3 ≡ unprinted (codes "equation 1 is 5")
  pub singular : series_report ordinary ordinary_names 1 conic (starts 0 0) 3 ≡ unprinted (codes "separant 1 vanishes")
  -- the square of 2^64 does not fit
  pub too_wide : series_report ordinary ordinary_names 1 conic (starts 1 18446744073709551616) 3 ≡ stopped wide (codes "wide equation 1")
