-- Worked examples of documents.
use Rattle.std.specs.Prelude.{◌≡◌, ℕ, List, [], ◌∷◌, pos, neg_ℤ, codes, Err}
use Rattle.dz_algebra.specs.Monomial.{Monomial}
use Rattle.dz_rank.specs.declared.rankings.Kind.TheVariants.{GrlexA}
use Rattle.dz_rank.specs.declared.symbols.Symbol.{Symbol}
use Rattle.dz_rank.specs.declared.symbols.Symbol.TheVariants.{Derivative}
use Rattle.dz_rank.specs.Rankings.{BlockValue}
use Rattle.dz_diff.specs.Operations.{Setting, setting_of}
use Rattle.dz_move.specs.Root.{System}
use Rattle.dz_step.specs.declared.Step.{Step}
use Rattle.dz_step.specs.declared.Which.TheVariants.{Initial, Separant}
use Rattle.dz_syntax.specs.Names.{Declared}
use Rattle.dz_move.specs.Moves.{reduce, split}
use Rattle.dz_move.specs.Lines.{Line, act, chain}
use Rattle.dz_cert.specs.Documents.{document_of}
use Rattle.dz_cert.specs.Reading.{bad_line, bytes_after, document_at, ends_early}

-- ---- symbols and settings
-- so many dependents over one independent, under some blocks
abbrev pub setting : ℕ → List BlockValue → Setting
setting n blocks = setting_of (record { signature = record { independents = 1; dependents = n }; blocks = blocks })

-- a block of the kind grlexA
abbrev pub graded : List ℕ → BlockValue
graded us = record { kind = GrlexA; dependents = us }

-- a dependent derived so often
abbrev pub derived : ℕ → ℕ → Symbol
derived u i = Derivative u (record { counts = i ∷ 0 ∷ 0 ∷ 0 ∷ [] })

-- one symbol, as a monomial
abbrev pub one : Symbol → Monomial Symbol
one s = (s, 1) ∷ []

-- the step by the equation of a place, derived so often
abbrev pub step : ℕ → ℕ → Step
step place i = record { place = place; operator = record { counts = i ∷ 0 ∷ 0 ∷ 0 ∷ [] } }

-- ---- one equation of the second degree
-- the independent x and the dependent u
abbrev pub conic_names : Declared
conic_names = record { all = codes "x" ∷ codes "u" ∷ []; independents = 1 }

-- u before nothing else
abbrev pub conic_setting : Setting
conic_setting = setting 1 (graded (0 ∷ []) ∷ [])

-- u[x]^2 - 4*u
abbrev pub conic : System
conic = record { equations = (((derived 0 1, 2) ∷ [], pos 1) ∷ (one (derived 0 0), neg_ℤ (pos 4)) ∷ []) ∷ []; inequations = [] }

-- its tree
abbrev pub conic_lines : List Line
conic_lines = act (split 1 Separant) ∷ chain ∷ act (reduce 1 (step 2 0 ∷ [])) ∷ act (reduce 2 (step 1 1 ∷ [])) ∷ chain ∷ []

-- ---- a model of two species, observed through one of them
-- the independent t and the dependents a, b and y
abbrev pub model_names : Declared
model_names = record { all = codes "t" ∷ codes "a" ∷ codes "b" ∷ codes "y" ∷ []; independents = 1 }

-- a and b before y
abbrev pub model_setting : Setting
model_setting = setting 3 (graded (0 ∷ 1 ∷ []) ∷ graded (2 ∷ []) ∷ [])

-- a[t] - a + a*b, b[t] + b - a*b and a - y
abbrev pub model : System
model = record {
  equations =
      ((one (derived 0 1), pos 1) ∷ ((derived 0 0, 1) ∷ (derived 1 0, 1) ∷ [], pos 1) ∷ (one (derived 0 0), neg_ℤ (pos 1)) ∷ [])
      ∷ ((one (derived 1 1), pos 1) ∷ ((derived 0 0, 1) ∷ (derived 1 0, 1) ∷ [], neg_ℤ (pos 1)) ∷ (one (derived 1 0), pos 1) ∷ [])
      ∷ ((one (derived 0 0), pos 1) ∷ (one (derived 2 0), neg_ℤ (pos 1)) ∷ [])
      ∷ [];
  inequations = [];
}

-- its tree
abbrev pub model_lines : List Line
model_lines =
    act (reduce 1 (step 3 1 ∷ step 3 0 ∷ []))
    ∷ act (reduce 2 (step 3 0 ∷ []))
    ∷ act (split 1 Initial)
    ∷ act (reduce 2 (step 1 1 ∷ step 1 0 ∷ []))
    ∷ chain
    ∷ act (reduce 1 (step 4 1 ∷ step 4 0 ∷ []))
    ∷ act (reduce 1 (step 3 0 ∷ []))
    ∷ act (reduce 2 (step 3 0 ∷ []))
    ∷ chain
    ∷ []

-- ---- documents
-- the documents of both trees
pub record DocumentExamples : Type 0 where
  pub conic_document : document_of conic_setting conic_names conic (record { budget = 1000000; lines = conic_lines })
      ≡ codes "blad certificate 1\nbudget 1000000\ntree\nsplit 1 separant\nchain\nreduce 1 2:-\nreduce 2 1:x\nchain\nchains 2\nchain 1\nequation u[x]^2 - 4*u\ninequation u[x]\nchain 2\nequation u\nend\n"
  pub model_document : document_of model_setting model_names model (record { budget = 1000000; lines = model_lines })
      ≡ codes "blad certificate 1\nbudget 1000000\ntree\nreduce 1 3:t 3:-\nreduce 2 3:-\nsplit 1 initial\nreduce 2 1:t 1:-\nchain\nreduce 1 4:t 4:-\nreduce 1 3:-\nreduce 2 3:-\nchain\nchains 2\nchain 1\nequation b*y + y[t] - y\nequation y[t,t]*y - y[t]^2 - y[t]*y^2 + y[t]*y + y^3 - y^2\nequation a - y\ninequation y\nchain 2\nequation b[t] + b\nequation a\nequation y\nend\n"

-- faults of bytes
pub record FaultExamples : Type 0 where
  pub wrong_version : document_at conic_names (codes "blad certificate 9\nbudget 1\ntree\nclosed\nchains 0\nend\n") ≡ Err (bad_line 1)
  pub leading_zero : document_at conic_names (codes "blad certificate 1\nbudget 1\ntree\nsplit 01 separant\n") ≡ Err (bad_line 4)
  pub wrong_count : document_at conic_names (codes "blad certificate 1\nbudget 1\ntree\nclosed\nchains 3\n") ≡ Err (bad_line 5)
  pub cut : document_at conic_names (codes "blad certificate 1\nbudget 1\ntree\nclosed\nchains 0\nen") ≡ Err ends_early
  pub longer : document_at conic_names (codes "blad certificate 1\nbudget 1\ntree\nclosed\nchains 0\nend\nx") ≡ Err bytes_after
