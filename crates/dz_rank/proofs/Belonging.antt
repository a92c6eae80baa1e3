-- Derivatives and quotients of symbols of a signature belong to it.
use Rattle.std.proofs.Common.{◌≡◌, ◌<◌, ◌+◌, ◌∙◌, ℕ, zero, suc, List, [], ◌∷◌, length, sum, drop, max, IsTrue, slice_index_or, All, refl, sym, ap, subst, arith}
use Rattle.dz_rank.specs.declared.rankings.Signature.{Signature}
use Rattle.dz_rank.specs.declared.symbols.Operator.{Operator}
use Rattle.dz_rank.specs.declared.symbols.Symbol.{Symbol}
use Rattle.dz_rank.specs.declared.symbols.Symbol.TheVariants.{Independent, Derivative}
use Rattle.dz_rank.specs.Symbols.{IsOperatorOf, BelongsTo, is_derivative, total_order, raised, raised_symbol, exponent_sums, exponent_maxima, derivative_by, IsDerivativeBy, least_common_derivative}
use Rattle.dz_rank.proofs.Exponents.{sum_of_exponent_sums}

-- ---- lists of zeros
abbrev Zeros : List ℕ → Type 0
Zeros ks = All (λ k. k ≡ 0) ks

head : (k : ℕ) (ks : List ℕ) → Zeros (k ∷ ks) → k ≡ 0
head k ks p = p 0 0 (omega arith)

tail : (k : ℕ) (ks : List ℕ) → Zeros (k ∷ ks) → Zeros ks
tail k ks p = λ i d h. p (suc i) d (omega arith)

cons : (k : ℕ) (ks : List ℕ) → k ≡ 0 → Zeros ks → Zeros (k ∷ ks)
cons k ks e p = at
  where
    at : (i d : ℕ) → i < length (k ∷ ks) → slice_index_or (k ∷ ks) i d ≡ 0
    at zero d h = e
    at (suc i) d h = p i d (omega arith)

zeros_of_sums : (n : ℕ) (ss ts : List ℕ) → Zeros (drop n ss) → Zeros (drop n ts) → Zeros (drop n (exponent_sums ss ts))
zeros_of_sums n [] ts p q = q
zeros_of_sums n (s ∷ ss) [] p q = p
zeros_of_sums zero (s ∷ ss) (t ∷ ts) p q = cons (s + t) (exponent_sums ss ts) (omega (arith, head s ss p, head t ts q)) (zeros_of_sums zero ss ts (tail s ss p) (tail t ts q))
zeros_of_sums (suc n) (s ∷ ss) (t ∷ ts) p q = zeros_of_sums n ss ts p q

zeros_of_maxima : (n : ℕ) (ss ts : List ℕ) → Zeros (drop n ss) → Zeros (drop n ts) → Zeros (drop n (exponent_maxima ss ts))
zeros_of_maxima n [] ts p q = q
zeros_of_maxima n (s ∷ ss) [] p q = p
zeros_of_maxima zero (s ∷ ss) (t ∷ ts) p q = cons (max s t) (exponent_maxima ss ts) (omega (arith, head s ss p, head t ts q)) (zeros_of_maxima zero ss ts (tail s ss p) (tail t ts q))
zeros_of_maxima (suc n) (s ∷ ss) (t ∷ ts) p q = zeros_of_maxima n ss ts p q

zeros_of_quotient : (n : ℕ) (ss ts : List ℕ) → length ss ≡ length ts → Zeros (drop n (exponent_sums ss ts)) → Zeros (drop n ts)
zeros_of_quotient n [] ts e p = p
zeros_of_quotient n (s ∷ ss) [] e p = absurd (omega arith)
zeros_of_quotient zero (s ∷ ss) (t ∷ ts) e p = cons t ts (omega (arith, head (s + t) (exponent_sums ss ts) p)) (zeros_of_quotient zero ss ts (omega arith) (tail (s + t) (exponent_sums ss ts) p))
zeros_of_quotient (suc n) (s ∷ ss) (t ∷ ts) e p = zeros_of_quotient n ss ts (omega arith) p

zeros_of_raised : (n i : ℕ) (ks : List ℕ) → i < n → i < length ks → Zeros (drop n ks) → Zeros (drop n (raised i ks))
zeros_of_raised zero i ks h g p = absurd (omega arith)
zeros_of_raised (suc n) i [] h g p = absurd (omega arith)
zeros_of_raised (suc n) zero (k ∷ ks) h g p = p
zeros_of_raised (suc n) (suc i) (k ∷ ks) h g p = zeros_of_raised n i ks (omega arith) (omega arith) p

-- ---- lengths
length_of_sums : (ss ts : List ℕ) → length ss ≡ length ts → length (exponent_sums ss ts) ≡ length ss
length_of_sums [] ts e = sym e
length_of_sums (s ∷ ss) [] e = refl
length_of_sums (s ∷ ss) (t ∷ ts) e = ap suc (length_of_sums ss ts (omega arith))

length_of_maxima : (ss ts : List ℕ) → length ss ≡ length ts → length (exponent_maxima ss ts) ≡ length ss
length_of_maxima [] ts e = sym e
length_of_maxima (s ∷ ss) [] e = refl
length_of_maxima (s ∷ ss) (t ∷ ts) e = ap suc (length_of_maxima ss ts (omega arith))

length_of_raised : (i : ℕ) (ks : List ℕ) → i < length ks → length (raised i ks) ≡ length ks
length_of_raised i [] h = absurd (omega arith)
length_of_raised zero (k ∷ ks) h = refl
length_of_raised (suc i) (k ∷ ks) h = ap suc (length_of_raised i ks (omega arith))

-- ---- operators and symbols
pub product_is_operator : (n : ℕ) (s t : Operator) → IsOperatorOf n s → IsOperatorOf n t → IsOperatorOf n (record { counts = exponent_sums s.counts t.counts })
product_is_operator n s t p q = record { size = length_of_sums s.counts t.counts (p.size ∙ sym q.size) ∙ p.size; zeros = zeros_of_sums n s.counts t.counts p.zeros q.zeros }

-- a derivative by an operator of the signature belongs to it
pub derivative_belongs : (g : Signature) (a : Symbol) (t : Operator) → BelongsTo g a → IsOperatorOf g.independents t → BelongsTo g (derivative_by t a)
derivative_belongs g (Independent i) t p q = p
derivative_belongs g (Derivative u s) t p q = (p.0, product_is_operator g.independents s t p.1 q)

-- a derivative by one derivation of the signature, of at most four, belongs to it
pub raised_belongs : (g : Signature) (i : ℕ) (a : Symbol) → i < g.independents → i < 4 → BelongsTo g a → BelongsTo g (raised_symbol i a)
raised_belongs g i (Independent j) h k p = p
raised_belongs g i (Derivative u s) h k p =
    let inside : i < length s.counts = subst (λ n. i < n) (sym p.1.size) k in
    (p.0, record { size = length_of_raised i s.counts inside ∙ p.1.size; zeros = zeros_of_raised g.independents i s.counts h inside p.1.zeros })

pub least_common_belongs : (g : Signature) (a b : Symbol) → BelongsTo g a → BelongsTo g b → BelongsTo g (least_common_derivative a b)
least_common_belongs g (Independent i) b p q = p
least_common_belongs g (Derivative u s) (Independent j) p q = p
least_common_belongs g (Derivative u s) (Derivative v t) p q = (p.0, record { size = length_of_maxima s.counts t.counts (p.1.size ∙ sym q.1.size) ∙ p.1.size; zeros = zeros_of_maxima g.independents s.counts t.counts p.1.zeros q.1.zeros })

-- a quotient of derivatives of the signature is an operator of it
pub quotient_is_operator : (g : Signature) (a b : Symbol) (t : Operator) → BelongsTo g a → BelongsTo g b → length t.counts ≡ 4 → IsDerivativeBy t b a → IsOperatorOf g.independents t
quotient_is_operator g a (Independent j) t p q l d = cc
quotient_is_operator g (Independent i) (Derivative v s) t p q l d = cc
quotient_is_operator g (Derivative u r) (Derivative v s) t p q l d =
    record { size = l; zeros = zeros_of_quotient g.independents s.counts t.counts (q.1.size ∙ sym l) (subst (λ ks. Zeros (drop g.independents ks)) (ap exponents_of d.1) p.1.zeros) }
  where
    exponents_of : Symbol → List ℕ
    exponents_of (Independent i) = []
    exponents_of (Derivative w o) = o.counts

-- the total order of a derivative is the sum of the total orders
pub total_order_of_derivative : (a : Symbol) (t : Operator) → IsTrue (is_derivative a) → total_order (derivative_by t a) ≡ total_order a + sum t.counts
total_order_of_derivative (Independent i) t d = cc
total_order_of_derivative (Derivative u s) t d = sum_of_exponent_sums s.counts t.counts
