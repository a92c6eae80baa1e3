-- The values on a stack, and what comes in the place of the latest.
use Rattle.std.proofs.Common.{◌≡◌, ◌∙◌, sym, ap, subst, ℕ, List, [], ◌∷◌, ◌++◌, map, reverse, Result, Ok, Err, inl, inr}
use Rattle.std.specs.Prelude.{Some}
use Rattle.std.proofs.lemmas.List.{map-append, reverse-append}
use Rattle.std.proofs.lemmas.List.Elements.{All-pop, All-push}
use Rattle.dz_algebra.specs.Polynomial.{Polynomial}
use Rattle.dz_algebra.specs.Size.{Refusal, difference_answer, operation, product_answer, sum_answer}
use Rattle.dz_algebra.specs.Symbols.{Symbols}
use Rattle.dz_rank.specs.Rankings.{RankingValue}
use Rattle.dz_rank.specs.declared.symbols.Symbol.{Symbol}
use Rattle.dz_syntax.specs.declared.expression.Op.{Op}
use Rattle.dz_syntax.specs.declared.expression.Op.TheVariants.{Add, Sub, Mul, Power}
use Rattle.dz_terms.specs.Entries.{IsEntry}
use Rattle.dz_monomials.specs.Signs.{with_sign}
use Rattle.dz_monomials.specs.Stops.{IsStop}
use Rattle.dz_monomials.specs.declared.PolyStop.{PolyStop}
use Rattle.dz_terms.specs.Entries.{EntryValue}
use Rattle.dz_monomials.specs.declared.sign.Sign.TheVariants.{Plus, Minus}
use Rattle.dz_monomials.proofs.Summing.{minus_negates, plus_same}
use Rattle.dz_form.specs.Values.{AreEntries, Polynomials, onto, power_answer, step_answer, values_of}

-- a value on top of a stack is its latest
pub values_more : (stack more : List EntryValue) (e : EntryValue) → more ≡ stack ++ e ∷ [] → values_of more ≡ e.terms ∷ values_of stack
values_more stack more e is =
    ap values_of is ∙ ap reverse (map-append (λ (e : EntryValue). e.terms) stack (e ∷ [])) ∙ reverse-append (map (λ (e : EntryValue). e.terms) stack) (e.terms ∷ [])

-- the latest entry of a stack, and those below it
popped : (r : RankingValue) (stack more : List EntryValue) (e : EntryValue) → more ≡ stack ++ e ∷ [] → AreEntries r more → AreEntries r stack × IsEntry r e
popped r stack more e is h = All-pop (λ (e : EntryValue). IsEntry r e) more stack (Some e) is h

-- the latest entry of a stack
pub entry_taken : (r : RankingValue) (stack more : List EntryValue) (e : EntryValue) → more ≡ stack ++ e ∷ [] → AreEntries r more → IsEntry r e
entry_taken r stack more e is h = (popped r stack more e is h).1

-- the entries below it
pub entries_left : (r : RankingValue) (stack more : List EntryValue) (e : EntryValue) → more ≡ stack ++ e ∷ [] → AreEntries r more → AreEntries r stack
entries_left r stack more e is h = (popped r stack more e is h).0

-- an entry on top of others
pub entries_more : (r : RankingValue) (stack more : List EntryValue) (e : EntryValue) → more ≡ stack ++ e ∷ [] → AreEntries r stack → IsEntry r e → AreEntries r more
entries_more r stack more e is h k = subst (AreEntries r) (sym is) (All-push (λ (e : EntryValue). IsEntry r e) stack e h k)

module _ (g : Symbols Symbol) where
  -- the refusal of an operation is that of its step
  refused : (values : Polynomials) (o : Result (Polynomial Symbol) Refusal) (stop : PolyStop) → IsStop stop o → IsStop stop (onto values o)
  refused values (Ok q) stop (inl m) = inl m
  refused values (Ok q) stop (inr m) = absurd cc
  refused values (Err e) stop m = m

  -- what a step answers at a latest value
  at_one : (op : Op) (values below : Polynomials) (a : Polynomial Symbol) → values ≡ a ∷ below → step_answer g op values ≡ step_answer g op (a ∷ below)
  at_one op values below a e = ap (step_answer g op) e

  -- and at two
  at_two : (op : Op) (values mid below : Polynomials) (a b : Polynomial Symbol) → values ≡ b ∷ mid → mid ≡ a ∷ below → step_answer g op values ≡ step_answer g op (b ∷ a ∷ below)
  at_two op values mid below a b e f = ap (step_answer g op) (e ∙ ap (λ vs. b ∷ vs) f)

  -- the power of the latest value comes in its place
  pub power_made : (k : ℕ) (values below : Polynomials) (a p : Polynomial Symbol) → values ≡ a ∷ below → power_answer g a k ≡ Ok p → step_answer g (Power k) values ≡ Ok (p ∷ below)
  power_made k values below a p e f = at_one (Power k) values below a e ∙ ap (onto below) f

  -- or is refused
  pub power_refused : (k : ℕ) (values below : Polynomials) (a : Polynomial Symbol) (stop : PolyStop) → values ≡ a ∷ below → IsStop stop (power_answer g a k) → IsStop stop (step_answer g (Power k) values)
  power_refused k values below a stop e m = subst (IsStop stop) (sym (at_one (Power k) values below a e)) (refused below (power_answer g a k) stop m)

  -- the sum of the two latest values comes in their place
  pub sum_made : (values mid below : Polynomials) (a b p : Polynomial Symbol) → values ≡ b ∷ mid → mid ≡ a ∷ below → operation g (a ++ with_sign Plus b) ≡ Ok p → step_answer g Add values ≡ Ok (p ∷ below)
  sum_made values mid below a b p e f h = at_two Add values mid below a b e f ∙ ap (λ q. onto below (operation g (a ++ q))) (sym (plus_same b)) ∙ ap (onto below) h

  -- or is refused
  pub sum_refused : (values mid below : Polynomials) (a b : Polynomial Symbol) (stop : PolyStop) → values ≡ b ∷ mid → mid ≡ a ∷ below → IsStop stop (operation g (a ++ with_sign Plus b)) → IsStop stop (step_answer g Add values)
  sum_refused values mid below a b stop e f m =
      subst (IsStop stop) (sym (at_two Add values mid below a b e f)) (refused below (sum_answer g a b) stop (subst (λ q. IsStop stop (operation g (a ++ q))) (plus_same b) m))

  -- the difference of the two latest values comes in their place
  pub difference_made : (values mid below : Polynomials) (a b p : Polynomial Symbol) → values ≡ b ∷ mid → mid ≡ a ∷ below → operation g (a ++ with_sign Minus b) ≡ Ok p → step_answer g Sub values ≡ Ok (p ∷ below)
  difference_made values mid below a b p e f h = at_two Sub values mid below a b e f ∙ ap (λ q. onto below (operation g (a ++ q))) (sym (minus_negates b)) ∙ ap (onto below) h

  -- or is refused
  pub difference_refused : (values mid below : Polynomials) (a b : Polynomial Symbol) (stop : PolyStop) → values ≡ b ∷ mid → mid ≡ a ∷ below → IsStop stop (operation g (a ++ with_sign Minus b)) → IsStop stop (step_answer g Sub values)
  difference_refused values mid below a b stop e f m =
      subst (IsStop stop) (sym (at_two Sub values mid below a b e f)) (refused below (difference_answer g a b) stop (subst (λ q. IsStop stop (operation g (a ++ q))) (minus_negates b) m))

  -- the product of the two latest values comes in their place
  pub product_made : (values mid below : Polynomials) (a b p : Polynomial Symbol) → values ≡ b ∷ mid → mid ≡ a ∷ below → product_answer g a b ≡ Ok p → step_answer g Mul values ≡ Ok (p ∷ below)
  product_made values mid below a b p e f h = at_two Mul values mid below a b e f ∙ ap (onto below) h

  -- or is refused
  pub product_refused : (values mid below : Polynomials) (a b : Polynomial Symbol) (stop : PolyStop) → values ≡ b ∷ mid → mid ≡ a ∷ below → IsStop stop (product_answer g a b) → IsStop stop (step_answer g Mul values)
  product_refused values mid below a b stop e f m = subst (IsStop stop) (sym (at_two Mul values mid below a b e f)) (refused below (product_answer g a b) stop m)
