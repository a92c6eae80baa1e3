-- What is in the grammar is read, where nothing behind it would bind it more tightly.
use Rattle.std.proofs.Common.{◌≡◌, ◌⊎◌, ℕ, zero, suc, ◌≤◌, ◌<◌, List, [], ◌∷◌, ◌++◌, length, Result, Ok, Some, true, leb, pos, refl, sym, ap, ◌∙◌, append_assoc, append-nil, arith, inl, inr, le-leb}
use Rattle.dz_syntax.specs.declared.token.Token.{Token}
use Rattle.dz_syntax.specs.declared.token.Token.TheVariants.{Name, Plus, Minus, Star, Caret}
use Rattle.dz_syntax.specs.declared.fault.Fault.{Fault}
use Rattle.dz_syntax.specs.declared.fault.SyntaxKind.{SyntaxKind}
use Rattle.dz_syntax.specs.declared.fault.SyntaxKind.TheVariants.{Literal, Exponent}
use Rattle.dz_syntax.specs.declared.expression.Op.{Op}
use Rattle.dz_syntax.specs.declared.expression.Op.TheVariants as ops
use Rattle.dz_syntax.specs.Tokens.{front, behind, bytes_of}
use Rattle.dz_syntax.specs.Numbers.{number_from, at_most}
use Rattle.dz_syntax.specs.Names.{Declared}
use Rattle.dz_syntax.specs.Atoms.{literal_at, literal_from, number_or, symbol_at, symbol_from}
use Rattle.dz_algebra.specs.Outcome.{◌>>=◌}
use Rattle.dz_syntax.specs.Expressions.{State, Reader, most_literal, most_exponent, past, put, number_op, symbol_op, exponent_at, atom_with, power_from, power_with, factors, factors_from, product_with, sums, sums_from, first_from, poly_with, closed_from, inside}
use Rattle.dz_syntax.specs.Grammar.{Grammar, binding, IsNumber, IsAtom, IsPower, IsFactors, IsProduct, IsSums, IsFirst, IsPoly, IsInside}
use Rattle.dz_syntax.proofs.Shorter.{Shrinks, factors_within, sums_within, inside_within}

-- the state after these steps
abbrev pub then : State → List Op → List ℕ → State
then s o rest = record { out = s.out ++ o; text = rest }

-- what the grammar has is read, if what follows binds less than k
abbrev pub IsComplete : ℕ → Grammar → Reader → Type 0
IsComplete k g r = (s : State) (o : List Op) (rest : List ℕ) → g s.text o rest → binding (front rest) < k → r s ≡ Ok (then s o rest)

-- the first step of a chain
pub on_ok : {A B : Type 0} (r : Result A Fault) (x : A) (f : A → Result B Fault) → r ≡ Ok x → (r >>= f) ≡ f x
on_ok r x f e = rw e refl

pub literal_complete : (most : ℕ) (kind : SyntaxKind) (text : List ℕ) (n : ℕ) (rest : List ℕ) → IsNumber most text n rest → literal_at most kind text ≡ Ok (n, rest)
unfolding literal_at
literal_complete most kind text n rest a =
    let fits : leb (number_from 0 (bytes_of text)) most ≡ true = rw a.value (le-leb n most a.bound) in
    let e : at_most most (number_from 0 (bytes_of text)) ≡ Some n = rw (fits, a.value) refl in
    ap (λ t. literal_from most kind t text) a.token ∙ ap (number_or kind text) e ∙ ap (λ (r : List ℕ). Ok (n, r)) (sym a.end)

-- a name is at the front of a symbol
symbol_name : (names : Declared) (t : Token) (text : List ℕ) (x : _) → symbol_from names t text ≡ Ok x → t ≡ Name
symbol_name names Name text x e = refl
symbol_name names t text x e = absurd cc

pub symbol_front : (names : Declared) (text : List ℕ) (x : _) → symbol_at names text ≡ Ok x → front text ≡ Name
unfolding symbol_at
symbol_front names text x e = symbol_name names (front text) text x e

power_stops : (t : Token) (s : State) → binding t < 3 → power_from t s ≡ Ok s
power_stops Caret s lt = absurd (omega arith)
power_stops t s lt = refl

factors_stop : (names : Declared) (more inner : Reader) (t : Token) (s : State) → binding t < 2 → factors_from names more inner t s ≡ Ok s
factors_stop names more inner Star s lt = absurd (omega arith)
factors_stop names more inner t s lt = refl

sums_stop : (names : Declared) (more inner : Reader) (t : Token) (s : State) → binding t < 1 → sums_from names more inner t s ≡ Ok s
sums_stop names more inner Plus s lt = absurd (omega arith)
sums_stop names more inner Minus s lt = absurd (omega arith)
sums_stop names more inner t s lt = refl

module _ (names : Declared) (g : Grammar) (inner : Reader) where
  abbrev pub InnerIsComplete : Type 0
  InnerIsComplete = (s : State) (o : List Op) (rest : List ℕ) → g s.text o rest → inner s ≡ Ok (then s o rest)

  atom_complete : InnerIsComplete → (s : State) (o : List Op) (rest : List ℕ) → IsAtom names g s.text o rest → atom_with names inner s ≡ Ok (then s o rest)
  unfolding atom_with number_op symbol_op
  atom_complete h s o rest (inl a) =
      rw (a.1.token, a.2) (on_ok (literal_at most_literal Literal s.text) (a.0, rest) (λ n. Ok (record { out = s.out ++ ops.Number (pos n.0) ∷ []; text = n.1 })) (literal_complete most_literal Literal s.text a.0 rest a.1))
  atom_complete h s o rest (inr (inl a)) =
      let e = symbol_front names s.text (a.0, rest) a.1 in
      rw (e, a.2) (on_ok (symbol_at names s.text) (a.0, rest) (λ v. Ok (record { out = s.out ++ ops.Symbol v.0 ∷ []; text = v.1 })) a.1)
  atom_complete h s o rest (inr (inr a)) = rw a.0 (h s o rest a.1)

  power_complete : InnerIsComplete → IsComplete 3 (IsPower names g) (power_with names inner)
  unfolding power_with exponent_at
  power_complete h s o rest (inl a) lt =
      on_ok (atom_with names inner s) (then s o rest) (λ m. power_from (front m.text) m) (atom_complete h s o rest a) ∙ power_stops (front rest) (then s o rest) lt
  power_complete h s o rest (inr a) lt =
      let m = then s a.0 a.1 in
      let k = literal_complete most_exponent Exponent (behind a.1) a.2 rest a.5 in
      on_ok (atom_with names inner s) m (λ m. power_from (front m.text) m) (atom_complete h s a.0 a.1 a.3)
      ∙ ap (λ t. power_from t m) a.4
      ∙ on_ok (literal_at most_exponent Exponent (behind a.1)) (a.2, rest) (λ k. Ok (record { out = m.out ++ ops.Power k.0 ∷ []; text = k.1 })) k
      ∙ ap (λ (l : List Op). Ok (record { out = l; text = rest })) (append_assoc s.out a.0 (ops.Power a.2 ∷ []) ∙ ap (λ (l : List Op). s.out ++ l) (sym a.6))

  -- what stands before more factors ends as a power does
  before_factors : (n : ℕ) (text : List ℕ) (o : List Op) (rest : List ℕ) → IsFactors names g n text o rest → binding (front rest) < 2 → binding (front text) < 3
  before_factors zero text o rest a lt = rw (← a.1) (omega arith)
  before_factors (suc n) text o rest a lt = rw a.3 (omega arith)

  factors_complete : InnerIsComplete → (n fuel : ℕ) (s : State) (o : List Op) (rest : List ℕ) → IsFactors names g n s.text o rest → binding (front rest) < 2 → n ≤ fuel
      → factors names inner fuel s ≡ Ok (then s o rest)
  unfolding factors
  factors_complete h zero zero s o rest a lt le = rw (a.0, a.1, append-nil) refl
  factors_complete h zero (suc fuel) s o rest a lt le =
      let e : binding (front s.text) < 2 = rw (← a.1) lt in
      factors_stop names (λ s. factors names inner fuel s) inner (front s.text) s e ∙ rw (a.0, a.1, append-nil) refl
  factors_complete h (suc n) zero s o rest a lt le = absurd (omega arith)
  factors_complete h (suc n) (suc fuel) s o rest a lt le =
      let more = λ (s : State). factors names inner fuel s in
      let m = then (past s) a.0 a.2 in
      let first = power_complete h (past s) a.0 a.2 a.4 (before_factors n a.2 a.1 rest a.5 lt) in
      let others = factors_complete h n fuel (put ops.Mul m) a.1 rest a.5 lt (omega arith) in
      let e : ((s.out ++ a.0) ++ (ops.Mul ∷ [])) ++ a.1 ≡ s.out ++ o = rw a.6 (append_assoc (s.out ++ a.0) (ops.Mul ∷ []) a.1 ∙ append_assoc s.out a.0 (ops.Mul ∷ a.1)) in
      ap (λ t. factors_from names more inner t s) a.3
      ∙ on_ok (power_with names inner (past s)) m (λ m. more (put ops.Mul m)) first
      ∙ others ∙ ap (λ (l : List Op). Ok (record { out = l; text = rest })) e

  product_complete : InnerIsComplete → Shrinks g → IsComplete 2 (IsProduct names g) (product_with names inner)
  unfolding product_with
  product_complete h shrinks s o rest a lt =
      let m = then s a.0 a.2 in
      let first = power_complete h s a.0 a.2 a.4 (before_factors a.3 a.2 a.1 rest a.5 lt) in
      let enough : a.3 ≤ length a.2 = omega (arith, factors_within names g shrinks a.3 a.2 a.1 rest a.5) in
      on_ok (power_with names inner s) m (λ m. factors names inner (length m.text) m) first
      ∙ factors_complete h a.3 (length a.2) m a.1 rest a.5 lt enough
      ∙ ap (λ (l : List Op). Ok (record { out = l; text = rest })) (append_assoc s.out a.0 a.1 ∙ ap (λ (l : List Op). s.out ++ l) (sym a.6))

  -- what stands before more terms ends as a product does
  before_sums : (n : ℕ) (text : List ℕ) (o : List Op) (rest : List ℕ) → IsSums names g n text o rest → binding (front rest) < 1 → binding (front text) < 2
  before_sums zero text o rest a lt = rw (← a.1) (omega arith)
  before_sums (suc n) text o rest a lt = elim a.4 [ inl sign ↦ rw sign.0 (omega arith) | inr sign ↦ rw sign.0 (omega arith) ]

  sign_reads : (more : Reader) (op : Op) (s : State) → ((front s.text ≡ Plus) × (op ≡ ops.Add)) ⊎ ((front s.text ≡ Minus) × (op ≡ ops.Sub))
      → sums_from names more inner (front s.text) s ≡ (product_with names inner (past s) >>= λ m. more (put op m))
  sign_reads more op s (inl sign) = rw (sign.0, sign.1) refl
  sign_reads more op s (inr sign) = rw (sign.0, sign.1) refl

  sums_complete : InnerIsComplete → Shrinks g → (n fuel : ℕ) (s : State) (o : List Op) (rest : List ℕ) → IsSums names g n s.text o rest → binding (front rest) < 1 → n ≤ fuel
      → sums names inner fuel s ≡ Ok (then s o rest)
  unfolding sums
  sums_complete h shrinks zero zero s o rest a lt le = rw (a.0, a.1, append-nil) refl
  sums_complete h shrinks zero (suc fuel) s o rest a lt le =
      let e : binding (front s.text) < 1 = rw (← a.1) lt in
      sums_stop names (λ s. sums names inner fuel s) inner (front s.text) s e ∙ rw (a.0, a.1, append-nil) refl
  sums_complete h shrinks (suc n) zero s o rest a lt le = absurd (omega arith)
  sums_complete h shrinks (suc n) (suc fuel) s o rest a lt le =
      let more = λ (s : State). sums names inner fuel s in
      let m = then (past s) a.0 a.2 in
      let first = product_complete h shrinks (past s) a.0 a.2 a.5 (before_sums n a.2 a.1 rest a.6 lt) in
      let others = sums_complete h shrinks n fuel (put a.3 m) a.1 rest a.6 lt (omega arith) in
      let e : ((s.out ++ a.0) ++ (a.3 ∷ [])) ++ a.1 ≡ s.out ++ o = rw a.7 (append_assoc (s.out ++ a.0) (a.3 ∷ []) a.1 ∙ append_assoc s.out a.0 (a.3 ∷ a.1)) in
      sign_reads more a.3 s a.4
      ∙ on_ok (product_with names inner (past s)) m (λ m. more (put a.3 m)) first
      ∙ others ∙ ap (λ (l : List Op). Ok (record { out = l; text = rest })) e

  -- a product does not begin with a sign
  atom_unsigned : (text : List ℕ) (o : List Op) (rest : List ℕ) → IsAtom names g text o rest → binding (front text) < 1
  atom_unsigned text o rest (inl a) = rw a.1.token (omega arith)
  atom_unsigned text o rest (inr (inl a)) = rw (symbol_front names text (a.0, rest) a.1) (omega arith)
  atom_unsigned text o rest (inr (inr a)) = rw a.0 (omega arith)

  power_unsigned : (text : List ℕ) (o : List Op) (rest : List ℕ) → IsPower names g text o rest → binding (front text) < 1
  power_unsigned text o rest (inl a) = atom_unsigned text o rest a
  power_unsigned text o rest (inr a) = atom_unsigned text a.0 a.1 a.3

  unsigned_reads : (t : Token) (s : State) → binding t < 1 → first_from names inner t s ≡ product_with names inner s
  unsigned_reads Plus s lt = absurd (omega arith)
  unsigned_reads Minus s lt = absurd (omega arith)
  unsigned_reads t s lt = refl

  first_complete : InnerIsComplete → Shrinks g → (s : State) (o : List Op) (rest : List ℕ) → IsFirst names g s.text o rest → binding (front rest) < 2
      → first_from names inner (front s.text) s ≡ Ok (then s o rest)
  first_complete h shrinks s o rest (inl a) lt =
      unsigned_reads (front s.text) s (power_unsigned s.text a.0 a.2 a.4) ∙ product_complete h shrinks s o rest a lt
  first_complete h shrinks s o rest (inr (inl a)) lt = rw a.0 (product_complete h shrinks (past s) o rest a.1 lt)
  first_complete h shrinks s o rest (inr (inr a)) lt =
      rw a.1 (on_ok (product_with names inner (past s)) (then (past s) a.0 rest) (λ m. Ok (put ops.Negate m)) (product_complete h shrinks (past s) a.0 rest a.2 lt)
      ∙ ap (λ (l : List Op). Ok (record { out = l; text = rest })) (append_assoc s.out a.0 (ops.Negate ∷ []) ∙ ap (λ (l : List Op). s.out ++ l) (sym a.3)))

  pub poly_complete : InnerIsComplete → Shrinks g → IsComplete 1 (IsPoly names g) (poly_with names inner)
  unfolding poly_with
  poly_complete h shrinks s o rest a lt =
      let m = then s a.0 a.2 in
      let first = first_complete h shrinks s a.0 a.2 a.4 (before_sums a.3 a.2 a.1 rest a.5 lt) in
      let enough : a.3 ≤ length a.2 = omega (arith, sums_within names g shrinks a.3 a.2 a.1 rest a.5) in
      on_ok (first_from names inner (front s.text) s) m (λ m. sums names inner (length m.text) m) first
      ∙ sums_complete h shrinks a.3 (length a.2) m a.1 rest a.5 lt enough
      ∙ ap (λ (l : List Op). Ok (record { out = l; text = rest })) (append_assoc s.out a.0 a.1 ∙ ap (λ (l : List Op). s.out ++ l) (sym a.6))

pub inside_complete : (names : Declared) (n : ℕ) (s : State) (o : List Op) (rest : List ℕ) → IsInside names n s.text o rest → inside names n s ≡ Ok (then s o rest)
unfolding inside IsInside
inside_complete names zero s o rest a = absurd a
inside_complete names (suc n) s o rest a =
    let m = then s o a.0 in
    let lt : binding (front a.0) < 1 = rw a.2 (omega arith) in
    on_ok (poly_with names (inside names n) (past s)) m (λ m. closed_from (front m.text) m) (poly_complete names (IsInside names n) (inside names n) (inside_complete names n) (inside_within names n) (past s) o a.0 a.1 lt)
    ∙ ap (λ t. closed_from t m) a.2 ∙ ap (λ (r : List ℕ). Ok (record { out = s.out ++ o; text = r })) (sym a.3)
