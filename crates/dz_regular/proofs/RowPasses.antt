-- The components of rows, one after the other.
use Rattle.std.specs.Prelude.{slice_index_or, All, unsigned_abs}
use Rattle.std.specs.Int.{IsGcd, ◌∣◌}
use Rattle.std.proofs.Common.{◌≡◌, ◌<◌, ◌≤◌, ◌+◌, ◌-◌, ◌∙◌, ◌++◌, ℕ, zero, suc, List, [], ◌∷◌, length, drop, take, refl, sym, ap, ap₂, arith, subst, Ok, Err, Result}
use Rattle.std.proofs.lemmas.List.{append_assoc, append-nil, length-append, map-append}
use Rattle.std.proofs.lemmas.List.Elements.{All-cons, All-nil}
use Rattle.std.proofs.lemmas.Nat.Gcd.{dvd_refl}
use Rattle.dz_algebra.specs.Norm.{content, gcd}
use Rattle.dz_algebra.proofs.Norms.{Divides}
use Rattle.dz_algebra.specs.Polynomial.{Polynomial}
use Rattle.dz_algebra.specs.Size.{Refusal}
use Rattle.dz_algebra.specs.Symbols.{Symbols}
use Rattle.dz_rank.specs.Rankings.{RankingValue}
use Rattle.dz_rank.specs.declared.symbols.Symbol.{Symbol}
use Rattle.dz_monomials.specs.Divisions.{DividesAll}
use Rattle.dz_terms.specs.Entries.{EntryValue, IsEntry, IsSomeEntry}
use Rattle.dz_monomials.proofs.Contents.{divisor_is}
use Rattle.dz_monomials.specs.Stops.{IsStop}
use Rattle.dz_monomials.specs.declared.PolyStop.{PolyStop}
use Rattle.dz_algebra.specs.Outcome.{◌>>=◌}
use Rattle.dz_diff.specs.Tests.{Polynomials}
use Rattle.dz_step.proofs.StepParts.{stop_first}
use Rattle.dz_monomials.specs.Lists.{AllOf}
use Rattle.dz_regular.specs.Combining.{Multipliers, common_content, crossed, crossed_all, divided_all, row_divisor, terms_in_all}
use Rattle.dz_regular.specs.Rows.{zeros}
use Rattle.dz_regular.specs.Working.{AreEntries, IsRow, polynomials_of}
use Rattle.dz_regular.specs.declared.rows.WorkingRow.{WorkingRow}
use Rattle.dz_regular.proofs.RowSums.{row_divides}
use Rattle.dz_ask.proofs.ListPasses.{all_dropped, dropped, taken_more}

-- an answer with components before those that it has
abbrev pub prepended : Polynomials → Result Polynomials Refusal → Result Polynomials Refusal
prepended us x = x >>= (λ vs. Ok (us ++ vs))

-- a component may pass from an answer to those before it
prepended-cons : (us : Polynomials) (t : Polynomial Symbol) (x : Result Polynomials Refusal) → prepended us (x >>= (λ vs. Ok (t ∷ vs))) ≡ prepended (us ++ t ∷ []) x
prepended-cons us t (Ok vs) = ap Ok (sym (append_assoc us (t ∷ []) vs))
prepended-cons us t (Err e) = refl

-- nothing stands before an answer at first
pub prepended-nil : (x : Result Polynomials Refusal) → x ≡ prepended [] x
prepended-nil (Ok vs) = refl
prepended-nil (Err e) = refl

-- ---- combining
module _ (g : Symbols Symbol) (m : Multipliers) (xs ys : List EntryValue) (whole : Result Polynomials Refusal) (i : ℕ) (x y : EntryValue) (h : i < length xs) (k : i < length ys)
    (e : x ≡ slice_index_or xs i x) (f : y ≡ slice_index_or ys i y) (us : Polynomials)
    (so_far : whole ≡ prepended us (crossed_all g m (polynomials_of (drop i xs)) (polynomials_of (drop i ys)))) where
  -- what is left of both begins with these
  here : whole ≡ prepended us (crossed_all g m (polynomials_of (x ∷ drop (i + 1) xs)) (polynomials_of (y ∷ drop (i + 1) ys)))
  here =
      so_far ∙ ap (λ l. prepended us (crossed_all g m (polynomials_of l) (polynomials_of (drop i ys)))) (dropped xs i x h e)
      ∙ ap (λ l. prepended us (crossed_all g m (polynomials_of (x ∷ drop (i + 1) xs)) (polynomials_of l))) (dropped ys i y k f)

  pub crossed_more : (z : Polynomial Symbol) → crossed g m x.terms y.terms ≡ Ok z → whole ≡ prepended (us ++ z ∷ []) (crossed_all g m (polynomials_of (drop (i + 1) xs)) (polynomials_of (drop (i + 1) ys)))
  crossed_more z q =
      here ∙ ap (λ (a : Result (Polynomial Symbol) Refusal). prepended us (a >>= (λ z. crossed_all g m (polynomials_of (drop (i + 1) xs)) (polynomials_of (drop (i + 1) ys)) >>= (λ vs. Ok (z ∷ vs))))) q
      ∙ prepended-cons us z (crossed_all g m (polynomials_of (drop (i + 1) xs)) (polynomials_of (drop (i + 1) ys)))

  pub crossed_refused : (stop : PolyStop) → IsStop stop (crossed g m x.terms y.terms) → IsStop stop whole
  crossed_refused stop q = subst (IsStop stop) (sym here) (stop_first stop (crossed_all g m (polynomials_of (x ∷ drop (i + 1) xs)) (polynomials_of (y ∷ drop (i + 1) ys))) _ (stop_first stop (crossed g m x.terms y.terms) _ q))

-- where none is left, all are made
pub crossed_all_made : (g : Symbols Symbol) (m : Multipliers) (xs ys : List EntryValue) (whole : Result Polynomials Refusal) (i : ℕ) → length xs ≤ i → (us : Polynomials)
    → whole ≡ prepended us (crossed_all g m (polynomials_of (drop i xs)) (polynomials_of (drop i ys))) → whole ≡ Ok us
crossed_all_made g m xs ys whole i h us e = e ∙ ap (λ l. prepended us (crossed_all g m (polynomials_of l) (polynomials_of (drop i ys)))) (all_dropped xs i h) ∙ ap Ok (append-nil us)

-- ---- counting
-- what is left of a budget, where components are still to be counted
pub counted_first : (es : List EntryValue) (i : ℕ) (e : EntryValue) → i < length es → e ≡ slice_index_or es i e → terms_in_all (polynomials_of (drop i es)) ≡ length e.terms + terms_in_all (polynomials_of (drop (i + 1) es))
counted_first es i e h there = ap (λ l. terms_in_all (polynomials_of l)) (dropped es i e h there)

-- ---- dividing
-- one more is divided
divided-append : (k : ℕ) (ps : Polynomials) (p : Polynomial Symbol) → divided_all k (ps ++ p ∷ []) ≡ divided_all k ps ++ divided_all k (p ∷ [])
divided-append k [] p = refl
divided-append k (q ∷ ps) p = ap (λ l. divided_all k (q ∷ []) ++ l) (divided-append k ps p)

pub divided_more : (k : ℕ) (es : List EntryValue) (i : ℕ) (e : EntryValue) → i < length es → e ≡ slice_index_or es i e → divided_all k (polynomials_of (take (i + 1) es)) ≡ divided_all k (polynomials_of (take i es)) ++ divided_all k (e.terms ∷ [])
divided_more k es i e h there =
    ap (λ l. divided_all k (polynomials_of l)) (taken_more es i e h there) ∙ ap (divided_all k) (map-append (λ (e : EntryValue). e.terms) (take i es) (e ∷ [])) ∙ divided-append k (polynomials_of (take i es)) e.terms

-- ---- members of lists of entries
-- one more is one more
pub one_longer : {A : Type 0} (xs all : List A) (x : A) (n : ℕ) → all ≡ xs ++ x ∷ [] → length xs ≡ n → length all ≡ n + 1
one_longer xs all x n e l = ap length e ∙ length-append xs (x ∷ []) ∙ ap (λ k. k + 1) l

-- what has the terms and the table of a member of some entries is an entry
pub entry_there : (r : RankingValue) (es : List EntryValue) (i : ℕ) (e : EntryValue) → AreEntries r es → i < length es → e ≡ slice_index_or es i e → (x : EntryValue) → x.terms ≡ e.terms → x.degrees ≡ e.degrees → IsEntry r x
entry_there r es i e h l there x t d =
    let k : IsEntry r e = subst (IsEntry r) (sym there) (h i e l) in
    rw (t, d) k

pub some_entry_there : (es : List EntryValue) (i : ℕ) (e : EntryValue) → All IsSomeEntry es → i < length es → e ≡ slice_index_or es i e → (x : EntryValue) → x.terms ≡ e.terms → x.degrees ≡ e.degrees → IsSomeEntry x
some_entry_there es i e h l there x t d =
    let k : IsSomeEntry e = subst IsSomeEntry (sym there) (h i e l) in
    rw (t, d) k

-- and is divided by what divides all of them
pub divides_there : (k : ℕ) (es : List EntryValue) (i : ℕ) (e : EntryValue) → All (λ (e : EntryValue). DividesAll k e.terms) es → i < length es → e ≡ slice_index_or es i e → (x : EntryValue) → x.terms ≡ e.terms → DividesAll k x.terms
divides_there k es i e h l there x t =
    subst (DividesAll k) (sym t) (subst (λ (a : EntryValue). DividesAll k a.terms) (sym there) (h i e l))

-- ---- the divisor of a row
divides_each : (k : ℕ) (p : Polynomial Symbol) → Divides k p → DividesAll k p
divides_each k [] h = All-nil (λ t. k ∣ unsigned_abs t.1)
divides_each k (t ∷ p) h = All-cons (λ t. k ∣ unsigned_abs t.1) t p h.0 (divides_each k p h.1)

-- the divisor of entries divides each
pub divisor_divides : (es : List EntryValue) (k : ℕ) → k ≡ row_divisor (polynomials_of es) → All (λ (e : EntryValue). DividesAll k e.terms) es
divisor_divides es k e = subst (λ n. All (λ (e : EntryValue). DividesAll n e.terms) es) (sym e) (all (row_divisor (polynomials_of es)) es (row_divides (polynomials_of es)))
  where
    all : (n : ℕ) (es : List EntryValue) → AllOf (λ (p : Polynomial Symbol). Divides n p) (polynomials_of es) → All (λ (e : EntryValue). DividesAll n e.terms) es
    all n [] h = All-nil (λ (e : EntryValue). DividesAll n e.terms)
    all n (e ∷ es) h = All-cons (λ (e : EntryValue). DividesAll n e.terms) e es (divides_each n e.terms h.0) (all n es h.1)

-- a number is the greatest common divisor of itself and itself
pub gcd_same : (a : ℕ) → gcd a a ≡ a
gcd_same a = sym (divisor_is a a a (dvd_refl a, dvd_refl a, λ d h k. h))

-- one more before the others
pub one_more : (i all k g : ℕ) (es : List EntryValue) (e : EntryValue) → i < length es → all ≡ common_content (polynomials_of (drop (length es - i) es)) → e ≡ slice_index_or es (length es - 1 - i) e → k ≡ content e.terms → IsGcd k all g
    → g ≡ common_content (polynomials_of (drop (length es - (i + 1)) es))
one_more i all k g es e l so_far there c h =
    let at = length es - 1 - i in
    let inside : at < length es = omega (arith, l) in
    let here : length es - (i + 1) ≡ at = omega (arith, l) in
    let next : length es - i ≡ at + 1 = omega (arith, l) in
    divisor_is k all g h
    ∙ ap₂ gcd c (so_far ∙ ap (λ n. common_content (polynomials_of (drop n es))) next)
    ∙ sym (ap (λ n. common_content (polynomials_of (drop n es))) here ∙ ap (λ l. common_content (polynomials_of l)) (dropped es at e inside there))

-- ---- rows
-- one more zero
pub zeros_more : (n : ℕ) → zeros n ++ [] ∷ [] ≡ zeros (n + 1)
zeros_more zero = refl
zeros_more (suc n) = let k : suc (n + 1) ≡ suc n + 1 = omega arith in ap (λ l. [] ∷ l) (zeros_more n) ∙ ap zeros k

-- a row has entries
pub row_entries : (r : RankingValue) (n : ℕ) (w : WorkingRow) (a b : EntryValue) (ps : List EntryValue) → w.components.items ≡ a ∷ b ∷ ps → IsEntry r a → IsEntry r b → AreEntries r ps → length ps ≡ n → IsRow r n w
row_entries r n w a b ps e h k j l = record {
  entries = subst (AreEntries r) (sym e) (All-cons (IsEntry r) a (b ∷ ps) h (All-cons (IsEntry r) b ps k j));
  width = ap length e ∙ ap (λ n. suc (suc n)) l ∙ omega arith;
}
