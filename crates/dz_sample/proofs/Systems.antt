-- The system of a sample in a book: how long it is, and that it passes no limit.
use Rattle.std.proofs.Common.{◌≡◌, ◌≤◌, ◌∙◌, ◌+◌, ◌*◌, sym, ap, ℕ, false, List, [], ◌∷◌, length, refl, arith, map, None, Some}
use Rattle.std.specs.Prelude.{nat_lt}
use Rattle.std.specs.declared.cmp.Ordering.{Ordering}
use Rattle.std.proofs.lemmas.Bool.{le-ltb}
use Rattle.std.proofs.lemmas.List.{length-map}
use Rattle.dz_algebra.specs.declared.Limit.{Limit}
use Rattle.dz_diff.specs.State.{terms_of}
use Rattle.dz_diff.specs.States.{MeanAll}
use Rattle.dz_poly.specs.Books.{BookValue, polynomial}
use Rattle.dz_rank.specs.Rankings.{RankingValue, ranking_cmp}
use Rattle.dz_rank.specs.declared.symbols.Symbol.{Symbol}
use Rattle.dz_sample.specs.Equations.{dependent_of, derivative_of, equation_polynomial}
use Rattle.dz_sample.specs.Ranking.{sample_ranking}
use Rattle.dz_sample.specs.Sample.{sample}
use Rattle.dz_sample.specs.System.{sampled_system}
use Rattle.dz_sample.specs.declared.equations.SampleEquation.{SampleEquation}
use Rattle.dz_move.specs.Root.{System}
use Rattle.dz_move.specs.Systems.{SystemValue, system_in, system_limit}
use Rattle.dz_sample.proofs.Lengths.{rest_length, sample_length}

few_terms : (cmp : Symbol → Symbol → Ordering) (es : List SampleEquation) → terms_of (map (equation_polynomial cmp) es) ≤ 2 * length es
few_terms cmp [] = omega arith
few_terms cmp (e ∷ es) = omega (arith, rest_length cmp (derivative_of e) (dependent_of e) e.coefficient, few_terms cmp es)

system_length : (seed size : ℕ) → length (sampled_system seed size).equations ≡ 16 + size
unfolding sampled_system
system_length seed size = length-map (sample seed size) (equation_polynomial (ranking_cmp sample_ranking)) ∙ sample_length seed size

-- a sample passes no limit
no_limit : (seed size : ℕ) → size ≤ 200 → system_limit (sampled_system seed size) ≡ None
unfolding sampled_system
no_limit seed size few =
    let cmp = ranking_cmp sample_ranking in
    let es = sample seed size in
    let count = length-map es (equation_polynomial cmp) in
    let members : nat_lt 256 (length (map (equation_polynomial cmp) es) + 0) ≡ false = le-ltb 256 _ (omega (arith, count, sample_length seed size)) in
    let terms : nat_lt 65536 (terms_of (map (equation_polynomial cmp) es) + 0) ≡ false = le-ltb 65536 _ (omega (arith, few_terms cmp es, sample_length seed size)) in
    rw (members, terms) refl

-- ---- in a book
-- the numbers that mean the polynomials of a sample's equations
pub system_is : (book : BookValue) (r : RankingValue) (es : List SampleEquation) (ps qs : List ℕ) (seed size : ℕ) → r ≡ sample_ranking → es ≡ sample seed size → qs ≡ []
    → MeanAll book ps (map (equation_polynomial (ranking_cmp r)) es) → system_in book (record { equations = ps; inequations = qs }) ≡ sampled_system seed size
unfolding sampled_system
system_is book r es ps qs seed size ranking sample none mean =
    let equations = mean.are ∙ ap (λ (r : RankingValue). map (equation_polynomial (ranking_cmp r)) es) ranking ∙ ap (map (equation_polynomial (ranking_cmp sample_ranking))) sample in
    rw (none, equations) refl

pub count_is : (book : BookValue) (s : SystemValue) (seed size : ℕ) → system_in book s ≡ sampled_system seed size → length s.equations ≡ 16 + size
count_is book s seed size is =
    sym (length-map s.equations (λ p. polynomial book p)) ∙ ap (λ (t : System). length t.equations) is ∙ system_length seed size

pub not_refused : (t : System) (limit : Limit) (seed size : ℕ) → t ≡ sampled_system seed size → size ≤ 200 → system_limit t ≡ Some limit → ⊥
not_refused t limit seed size is few refused =
    let within : None ≡ Some limit = sym (no_limit seed size few) ∙ sym (ap system_limit is) ∙ refused in
    absurd cc
