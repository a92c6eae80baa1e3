-- One turn of a loop over what commas separate.
use Rattle.std.proofs.Common.{◌≡◌, ℕ, zero, suc, ◌-◌, ◌<◌, List, [], ◌∷◌, ◌++◌, Result, Ok, refl, sym, ap, ◌∙◌, arith}
use Rattle.dz_syntax.specs.declared.token.Token.{Token}
use Rattle.dz_syntax.specs.declared.token.Token.TheVariants.{Comma}
use Rattle.dz_syntax.specs.declared.fault.Fault.{Fault}
use Rattle.dz_syntax.specs.declared.fault.Stop.{Stop}
use Rattle.dz_syntax.specs.declared.fault.Stop.TheVariants as stops
use Rattle.dz_syntax.specs.Tokens.{front, behind}
use Rattle.dz_algebra.specs.Outcome.{◌>>=◌}
use Rattle.dz_syntax.specs.Faults.{Fails}
use Rattle.dz_syntax.specs.Marks.{separated, separated_from, expected, is_semicolon}

-- what reads one element, behind those that were found
abbrev pub Element : Type 0 → Type 0
Element X = List X → List ℕ → Result (X × List ℕ) Fault

separated-turn : {X : Type 0} (element : Element X) (n : ℕ) (found : List X) (text : List ℕ) → 0 < n
    → separated element n found text ≡ (element found text >>= λ x. separated_from (separated element (n - 1)) (found ++ x.0 ∷ []) (front x.1) x.1)
unfolding separated
separated-turn element zero found text lt = absurd (omega arith)
separated-turn element (suc n) found text lt = let k : suc n - 1 ≡ n = omega arith in rw k refl

separated-read : {X : Type 0} (element : Element X) (n : ℕ) (found : List X) (text : List ℕ) (x : X × List ℕ) → 0 < n → element found text ≡ Ok x
    → separated element n found text ≡ separated_from (separated element (n - 1)) (found ++ x.0 ∷ []) (front x.1) x.1
separated-read element n found text x lt e = separated-turn element n found text lt ∙ rw e refl

pub separated_fail : {X : Type 0} (stop : Stop) (element : Element X) (n : ℕ) (found : List X) (text : List ℕ) (total : Result (List X × List ℕ) Fault) → 0 < n
    → Fails stop (element found text) → separated element n found text ≡ total → Fails stop total
separated_fail stops.Memory element n found text total lt e so_far = tt
separated_fail (stops.Fault f) element n found text total lt e so_far = sym so_far ∙ separated-turn element n found text lt ∙ rw e refl

pub separated_more : {X : Type 0} (element : Element X) (n : ℕ) (found : List X) (text : List ℕ) (x : X × List ℕ) (total : Result (List X × List ℕ) Fault) → 0 < n → element found text ≡ Ok x
    → front x.1 ≡ Comma → separated element n found text ≡ total → separated element (n - 1) (found ++ x.0 ∷ []) (behind x.1) ≡ total
separated_more element n found text x total lt e comma so_far =
    sym (separated-read element n found text x lt e ∙ ap (λ t. separated_from (separated element (n - 1)) (found ++ x.0 ∷ []) t x.1) comma) ∙ so_far

last_of : {X : Type 0} (more : List X → List ℕ → Result (List X × List ℕ) Fault) (found : List X) (t : Token) (text : List ℕ) → (t ≡ Comma → ⊥)
    → separated_from more found t text ≡ (expected (is_semicolon t) text >>= λ rest. Ok (found, rest))
last_of more found Comma text other = absurd (other refl)
last_of more found t text other = refl

pub separated_end : {X : Type 0} (element : Element X) (n : ℕ) (found : List X) (text : List ℕ) (x : X × List ℕ) (total : Result (List X × List ℕ) Fault) → 0 < n → element found text ≡ Ok x
    → (front x.1 ≡ Comma → ⊥) → separated element n found text ≡ total → total ≡ (expected (is_semicolon (front x.1)) x.1 >>= λ rest. Ok (found ++ x.0 ∷ [], rest))
separated_end element n found text x total lt e other so_far =
    sym so_far ∙ separated-read element n found text x lt e ∙ last_of (separated element (n - 1)) (found ++ x.0 ∷ []) (front x.1) x.1 other
