-- The initial and the separant of an equation, made in a book and tested.
use Rattle.std.specs.Prelude.{IfErr, IfOk, IfSome, Result}
use Rattle.std.proofs.Common.{◌≡◌, ◌∙◌, inr, ℕ, Option, Some, Ok, Err, sym, ap, ap₂, subst}
use Rattle.dz_algebra.specs.Parts.{initial, leader}
use Rattle.dz_algebra.specs.Polynomial.{Polynomial}
use Rattle.dz_algebra.specs.Size.{Refusal, separant_answer}
use Rattle.dz_int.specs.Fractions.{Fraction}
use Rattle.dz_poly.specs.Books.{BookValue, Gives, IsKept, Lives, Means, polynomial}
use Rattle.dz_poly.proofs.Books.{kept_polynomial, means_polynomial}
use Rattle.dz_rank.specs.Rankings.{RankingValue, ranking_cmp}
use Rattle.dz_rank.specs.declared.symbols.Symbol.{Symbol}
use Rattle.dz_monomials.specs.Ranked.{symbols_under}
use Rattle.dz_monomials.specs.declared.PolyStop.{PolyStop}
use Rattle.dz_jet.specs.declared.faults.JetFault.{JetFault}
use Rattle.dz_jet.specs.declared.faults.Part.TheVariants as parts
use Rattle.dz_jet.specs.Jets.{Values, test_multipliers, test_part, value_in}
use Rattle.dz_jet.specs.Stops.{IsFault}
use Rattle.dz_jet.proofs.PointSteps.{separant_tested}

-- a fact of what there is
pub some_fact : {A : Type 0} (o : Option A) (P : A → Type 0) (x : A) → o ≡ Some x → IfSome o P → P x
some_fact o P x e h = subst (λ y. IfSome y P) e h

-- an answer that is known as it stands
pub ok_same : {A : Type 0} (t x : Result A JetFault) → t ≡ x → IfOk x (λ v. t ≡ Ok v)
ok_same t (Ok v) e = e
ok_same t (Err f) e = tt

pub err_same : {A : Type 0} (t x : Result A JetFault) → t ≡ x → IfErr x (λ e. IsFault e t)
err_same t (Ok v) e = tt
err_same t (Err f) e = inr e

-- what was made is what the definition answers
pub given_polynomial : (new : BookValue) (q : ℕ) (x : Result (Polynomial Symbol) Refusal) → Gives new (Ok q) x → x ≡ Ok (polynomial new q)
given_polynomial new q (Ok a) h = ap (λ b. Ok b) (sym (means_polynomial new q a h))
given_polynomial new q (Err e) h = absurd h

module _ (old mid new : BookValue) (p : ℕ) (l : Symbol) (lives : Lives old p) (kept : IsKept old mid) where
  pub led_later : leader (symbols_under old.ranking) (polynomial old p) ≡ Some l → leader (symbols_under mid.ranking) (polynomial mid p) ≡ Some l
  led_later led = ap₂ (λ r q. leader (symbols_under r) q) kept.ranking (kept_polynomial old mid p kept lives) ∙ led

  pub separant_gives : leader (symbols_under old.ranking) (polynomial old p) ≡ Some l → (result : Result ℕ PolyStop)
      → IfSome (leader (symbols_under mid.ranking) (polynomial mid p)) (λ v. Gives new result (separant_answer (symbols_under mid.ranking) v (polynomial mid p)))
      → Gives new result (separant_answer (symbols_under old.ranking) l (polynomial old p))
  separant_gives led result h =
      subst (Gives new result) (ap₂ (λ r q. separant_answer (symbols_under r) l q) kept.ranking (kept_polynomial old mid p kept lives))
      (some_fact (leader (symbols_under mid.ranking) (polynomial mid p)) (λ v. Gives new result (separant_answer (symbols_under mid.ranking) v (polynomial mid p))) l (led_later led) h)

-- ---- an equation whose leader is l
module _ (old mid : BookValue) (kept : IsKept old mid) (values : Values) (place p : ℕ) (l : Symbol) (led : leader (symbols_under old.ranking) (polynomial old p) ≡ Some l) where
  -- the test of its initial, which was made in a book
  pub initial_tested : (i : ℕ) (x : Result Fraction JetFault) → IfSome (leader (symbols_under old.ranking) (polynomial old p)) (λ v. Means mid i (initial (ranking_cmp old.ranking) v (polynomial old p)))
      → x ≡ test_part (value_in (symbols_under mid.ranking) values) (parts.Initial place) (polynomial mid i) → x ≡ test_part (value_in (symbols_under old.ranking) values) (parts.Initial place) (initial (ranking_cmp old.ranking) l (polynomial old p))
  initial_tested i x made h =
      let same = means_polynomial mid i (initial (ranking_cmp old.ranking) l (polynomial old p)) (some_fact (leader (symbols_under old.ranking) (polynomial old p)) (λ v. Means mid i (initial (ranking_cmp old.ranking) v (polynomial old p))) l led made) in
      h ∙ ap₂ (λ (r : RankingValue) (f : Polynomial Symbol). test_part (value_in (symbols_under r) values) (parts.Initial place) f) kept.ranking same

  -- and of its separant, where the initial has a value
  pub separant_answered : (new : BookValue) → IsKept mid new → (v : Fraction) → Ok v ≡ test_part (value_in (symbols_under old.ranking) values) (parts.Initial place) (initial (ranking_cmp old.ranking) l (polynomial old p))
      → (i : ℕ) (x : Result Fraction JetFault) → Gives new (Ok i) (separant_answer (symbols_under old.ranking) l (polynomial old p)) → x ≡ test_part (value_in (symbols_under new.ranking) values) (parts.Separant place) (polynomial new i)
      → test_multipliers (symbols_under old.ranking) (value_in (symbols_under old.ranking) values) place (polynomial old p) (leader (symbols_under old.ranking) (polynomial old p)) ≡ x
  separant_answered new later v passes i x gives h =
      separant_tested (value_in (symbols_under old.ranking) values) (symbols_under old.ranking) place (polynomial old p) l led v passes (polynomial new i) x (given_polynomial new i (separant_answer (symbols_under old.ranking) l (polynomial old p)) gives)
      (h ∙ ap (λ (r : RankingValue). test_part (value_in (symbols_under r) values) (parts.Separant place) (polynomial new i)) (later.ranking ∙ kept.ranking))
