-- What is in the grammar is one expression in postfix order.
use Rattle.std.proofs.Common.{◌≡◌, ◌⊎◌, ℕ, zero, suc, ◌<◌, ◌≤◌, slice_index_or, List, [], ◌∷◌, ◌++◌, Ok, pos, All, refl, sym, ap, subst, ◌∙◌, append_assoc, append-nil, inl, inr, arith}
use Rattle.std.proofs.lemmas.List.Elements.{All-append}
use Rattle.dz_rank.specs.declared.rankings.Signature.{Signature}
use Rattle.dz_rank.specs.declared.symbols.Symbol.{Symbol}
use Rattle.dz_rank.specs.Symbols.{BelongsTo, total_order}
use Rattle.dz_syntax.specs.declared.token.Token.TheVariants.{Plus, Minus}
use Rattle.dz_syntax.specs.declared.expression.Op.{Op}
use Rattle.dz_syntax.specs.declared.expression.Op.TheVariants as ops
use Rattle.dz_syntax.specs.Tokens.{front, behind}
use Rattle.dz_syntax.specs.Names.{Declared}
use Rattle.dz_syntax.specs.Atoms.{symbol_at}
use Rattle.dz_syntax.specs.Grammar.{Grammar, IsAtom, IsPower, IsFactors, IsProduct, IsSums, IsFirst, IsPoly, IsInside}
use Rattle.dz_syntax.specs.Postfix.{IsStep, values_after, IsExpression}

-- the steps leave one value more, whatever follows
pub record Makes (g : Signature) (o : List Op) : Type 0 where
  pub fit : All (λ op. IsStep g op) o
  pub one : (n : ℕ) (rest : List Op) → values_after n (o ++ rest) ≡ values_after (suc n) rest

-- the steps leave as many values as they find, at least one
pub record Keeps (g : Signature) (o : List Op) : Type 0 where
  pub fit : All (λ op. IsStep g op) o
  pub same : (n : ℕ) (rest : List Op) → values_after (suc n) (o ++ rest) ≡ values_after (suc n) rest

pub single : (g : Signature) (op : Op) → IsStep g op → All (λ op. IsStep g op) (op ∷ [])
single g op is = at
  where
    at : (i : ℕ) (d : Op) → i < 1 → IsStep g (slice_index_or (op ∷ []) i d)
    at zero d lt = is
    at (suc i) d lt = absurd (omega arith)

none : (g : Signature) → All (λ op. IsStep g op) []
none g = λ i d lt. absurd (omega arith)

join : (g : Signature) (a b : List Op) → All (λ op. IsStep g op) a → All (λ op. IsStep g op) b → All (λ op. IsStep g op) (a ++ b)
join g a b p q = All-append (λ op. IsStep g op) a b p q

-- an expression and a step on one value
one_then : (g : Signature) (a : List Op) (op : Op) → Makes g a → IsStep g op → ((n : ℕ) (rest : List Op) → values_after (suc n) (op ∷ rest) ≡ values_after (suc n) rest) → Makes g (a ++ op ∷ [])
one_then g a op p is step = record {
  fit = join g a (op ∷ []) p.fit (single g op is);
  one = λ n rest. ap (values_after n) (append_assoc a (op ∷ []) rest) ∙ p.one n (op ∷ rest) ∙ step n rest;
}

-- an expression, a step on two values, and what keeps the count
two_then : (g : Signature) (a : List Op) (op : Op) (b : List Op) → Makes g a → IsStep g op → ((n : ℕ) (rest : List Op) → values_after (suc (suc n)) (op ∷ rest) ≡ values_after (suc n) rest) → Keeps g b
    → Keeps g (a ++ (op ∷ b))
two_then g a op b p is step q = record {
  fit = join g a (op ∷ b) p.fit (join g (op ∷ []) b (single g op is) q.fit);
  same = λ n rest. ap (values_after (suc n)) (append_assoc a (op ∷ b) rest) ∙ p.one (suc n) (op ∷ (b ++ rest)) ∙ step n (b ++ rest) ∙ q.same n rest;
}

makes_then : (g : Signature) (a b : List Op) → Makes g a → Keeps g b → Makes g (a ++ b)
makes_then g a b p q = record {
  fit = join g a b p.fit q.fit;
  one = λ n rest. ap (values_after n) (append_assoc a b rest) ∙ p.one n (b ++ rest) ∙ q.same n rest;
}

keeps_nothing : (g : Signature) → Keeps g []
keeps_nothing g = record { fit = none g; same = λ n rest. refl }

module _ (names : Declared) (s : Signature) (g : Grammar) where
  -- the symbols that are read are those of the signature
  abbrev pub SymbolsFit : Type 0
  SymbolsFit = (text : List ℕ) (v : Symbol) (rest : List ℕ) → symbol_at names text ≡ Ok (v, rest) → BelongsTo s v × (total_order v ≤ 60)

  abbrev pub InnerMakes : Type 0
  InnerMakes = (text : List ℕ) (o : List Op) (rest : List ℕ) → g text o rest → Makes s o

  atom_makes : SymbolsFit → InnerMakes → (text : List ℕ) (o : List Op) (rest : List ℕ) → IsAtom names g text o rest → Makes s o
  atom_makes fits inner text o rest (inl a) =
      subst (λ (l : List Op). Makes s l) (sym a.2) (record { fit = single s (ops.Number (pos a.0)) (a.0, a.1.bound, refl); one = λ n more. refl })
  atom_makes fits inner text o rest (inr (inl a)) =
      subst (λ (l : List Op). Makes s l) (sym a.2) (record { fit = single s (ops.Symbol a.0) (fits text a.0 rest a.1); one = λ n more. refl })
  atom_makes fits inner text o rest (inr (inr a)) = inner text o rest a.1

  power_makes : SymbolsFit → InnerMakes → (text : List ℕ) (o : List Op) (rest : List ℕ) → IsPower names g text o rest → Makes s o
  power_makes fits inner text o rest (inl a) = atom_makes fits inner text o rest a
  power_makes fits inner text o rest (inr a) =
      subst (λ (l : List Op). Makes s l) (sym a.6) (one_then s a.0 (ops.Power a.2) (atom_makes fits inner text a.0 a.1 a.3) a.5.bound (λ n more. refl))

  factors_keep : SymbolsFit → InnerMakes → (n : ℕ) (text : List ℕ) (o : List Op) (rest : List ℕ) → IsFactors names g n text o rest → Keeps s o
  factors_keep fits inner zero text o rest a = subst (λ (l : List Op). Keeps s l) (sym a.0) (keeps_nothing s)
  factors_keep fits inner (suc n) text o rest a =
      subst (λ (l : List Op). Keeps s l) (sym a.6)
      (two_then s a.0 ops.Mul a.1 (power_makes fits inner (behind text) a.0 a.2 a.4) tt (λ n more. refl) (factors_keep fits inner n a.2 a.1 rest a.5))

  product_makes : SymbolsFit → InnerMakes → (text : List ℕ) (o : List Op) (rest : List ℕ) → IsProduct names g text o rest → Makes s o
  product_makes fits inner text o rest a =
      subst (λ (l : List Op). Makes s l) (sym a.6) (makes_then s a.0 a.1 (power_makes fits inner text a.0 a.2 a.4) (factors_keep fits inner a.3 a.2 a.1 rest a.5))

  sum_step : (text : List ℕ) (a : List Op) (op : Op) (b : List Op) → ((front text ≡ Plus) × (op ≡ ops.Add)) ⊎ ((front text ≡ Minus) × (op ≡ ops.Sub)) → Makes s a → Keeps s b → Keeps s (a ++ (op ∷ b))
  sum_step text a op b (inl sign) p q = subst (λ (op : Op). Keeps s (a ++ (op ∷ b))) (sym sign.1) (two_then s a ops.Add b p tt (λ n more. refl) q)
  sum_step text a op b (inr sign) p q = subst (λ (op : Op). Keeps s (a ++ (op ∷ b))) (sym sign.1) (two_then s a ops.Sub b p tt (λ n more. refl) q)

  sums_keep : SymbolsFit → InnerMakes → (n : ℕ) (text : List ℕ) (o : List Op) (rest : List ℕ) → IsSums names g n text o rest → Keeps s o
  sums_keep fits inner zero text o rest a = subst (λ (l : List Op). Keeps s l) (sym a.0) (keeps_nothing s)
  sums_keep fits inner (suc n) text o rest a =
      subst (λ (l : List Op). Keeps s l) (sym a.7)
      (sum_step text a.0 a.3 a.1 a.4 (product_makes fits inner (behind text) a.0 a.2 a.5) (sums_keep fits inner n a.2 a.1 rest a.6))

  first_makes : SymbolsFit → InnerMakes → (text : List ℕ) (o : List Op) (rest : List ℕ) → IsFirst names g text o rest → Makes s o
  first_makes fits inner text o rest (inl a) = product_makes fits inner text o rest a
  first_makes fits inner text o rest (inr (inl a)) = product_makes fits inner (behind text) o rest a.1
  first_makes fits inner text o rest (inr (inr a)) =
      subst (λ (l : List Op). Makes s l) (sym a.3) (one_then s a.0 ops.Negate (product_makes fits inner (behind text) a.0 rest a.2) tt (λ n more. refl))

  poly_makes : SymbolsFit → InnerMakes → (text : List ℕ) (o : List Op) (rest : List ℕ) → IsPoly names g text o rest → Makes s o
  poly_makes fits inner text o rest a =
      subst (λ (l : List Op). Makes s l) (sym a.6) (makes_then s a.0 a.1 (first_makes fits inner text a.0 a.2 a.4) (sums_keep fits inner a.3 a.2 a.1 rest a.5))

inside_makes : (names : Declared) (s : Signature) (n : ℕ) → SymbolsFit names s (IsInside names n) → (text : List ℕ) (o : List Op) (rest : List ℕ) → IsInside names n text o rest → Makes s o
unfolding IsInside
inside_makes names s zero fits text o rest a = absurd a
inside_makes names s (suc n) fits text o rest a = poly_makes names s (IsInside names n) fits (inside_makes names s n fits) (behind text) o a.0 a.1

pub poly_is_made : (names : Declared) (s : Signature) → ((text : List ℕ) (v : Symbol) (rest : List ℕ) → symbol_at names text ≡ Ok (v, rest) → BelongsTo s v × (total_order v ≤ 60))
    → (text : List ℕ) (o : List Op) (rest : List ℕ) → IsPoly names (IsInside names 64) text o rest → Makes s o
poly_is_made names s fits text o rest p = poly_makes names s (IsInside names 64) fits (inside_makes names s 64 fits) text o rest p

pub made_expression : (s : Signature) (o : List Op) → Makes s o → IsExpression s o
made_expression s o m = record { fit = m.fit; one = ap (values_after 0) (sym (append-nil o)) ∙ m.one 0 [] }

-- two expressions and a step on both
pub two_made : (s : Signature) (a b : List Op) (op : Op) → Makes s a → Makes s b → IsStep s op → ((n : ℕ) (rest : List Op) → values_after (suc (suc n)) (op ∷ rest) ≡ values_after (suc n) rest)
    → Makes s ((a ++ b) ++ op ∷ [])
two_made s a b op p q is step = record {
  fit = join s (a ++ b) (op ∷ []) (join s a b p.fit q.fit) (single s op is);
  one = λ n rest.
      ap (values_after n) (append_assoc (a ++ b) (op ∷ []) rest ∙ append_assoc a b (op ∷ rest))
      ∙ p.one n (b ++ (op ∷ rest)) ∙ q.one (suc n) (op ∷ rest) ∙ step n rest;
}
