-- The root of a system has the facts of a state, where it passes no limit.
use Rattle.std.proofs.Common.{◌≡◌, Bool, true, false, ◌||◌, if◌then◌else◌, [], ◌∷◌, ◌++◌, None, refl, sym, ap₂, ◌∙◌}
use Rattle.std.specs.List.{IsDistinct, AllByRecursion}
use Rattle.dz_algebra.specs.Norm.{norm}
use Rattle.dz_algebra.specs.Polynomial.{Polynomial}
use Rattle.dz_algebra.specs.Symbols.{Symbols}
use Rattle.dz_algebra.proofs.NormLaws.{norm_idempotent}
use Rattle.dz_rank.specs.Rankings.{RankingValue, ranking_cmp}
use Rattle.dz_rank.specs.declared.symbols.Symbol.{Symbol}
use Rattle.dz_monomials.specs.Ranked.{symbols_under}
use Rattle.dz_monomials.proofs.SymbolLaws.{ranking_order}
use Rattle.dz_monomials.specs.Lists.{AllOf}
use Rattle.dz_diff.specs.Over.{AreOver, IsOver}
use Rattle.dz_move.specs.Root.{System, kept_norms, root_of}
use Rattle.dz_diff.specs.Tests.{Polynomials, has_unit, has_zero, is_member, is_unit, is_zero, same}
use Rattle.dz_diff.specs.State.{limit_passed}
use Rattle.dz_diff.specs.States.{IsStateOf}
use Rattle.dz_diff.proofs.SameTests.{same_is}

-- a disjunction that fails has both parts false
pub or_none : (a b : Bool) → (a || b) ≡ false → (a ≡ false) × (b ≡ false)
or_none true b e = absurd cc
or_none false b e = (refl, e)

-- one member more
pub all_push : (P : Polynomial Symbol → Type 0) (ps : Polynomials) (p : Polynomial Symbol) → AllOf P ps → P p → AllOf P (ps ++ p ∷ [])
all_push P [] p h k = (k, tt)
all_push P (q ∷ ps) p h k = (h.0, all_push P ps p h.1 k)

each_push : (P : Polynomial Symbol → Type 0) (ps : Polynomials) (p : Polynomial Symbol) → AllByRecursion P ps → P p → AllByRecursion P (ps ++ p ∷ [])
each_push P [] p h k = (k, tt)
each_push P (q ∷ ps) p h k = (h.0, each_push P ps p h.1 k)

-- no member is zero
pub no_zeros : (ps : Polynomials) → AllOf (λ p. is_zero p ≡ false) ps → has_zero ps ≡ false
no_zeros [] h = refl
no_zeros (p ∷ ps) h = ap₂ (λ a b. a || b) h.0 (no_zeros ps h.1)

module _ (r : RankingValue) where
  abbrev g : Symbols Symbol
  g = symbols_under r

  -- no member is ground and not zero
  pub no_units : (ps : Polynomials) → AllOf (λ p. is_unit g p ≡ false) ps → has_unit g ps ≡ false
  no_units [] h = refl
  no_units (p ∷ ps) h = ap₂ (λ a b. a || b) h.0 (no_units ps h.1)

  -- the test of two polynomials is the same from both sides
  pub same_back : (p q : Polynomial Symbol) → same g p q ≡ false → same g q p ≡ false
  same_back p q e = by_test (same g q p) refl
    where
      by_test : (b : Bool) → same g q p ≡ b → b ≡ false
      by_test false k = refl
      by_test true k = let is : q ≡ p = same_is g (ranking_order r) q p k in let other : same g p q ≡ true = ap₂ (same g) (sym is) is ∙ k in absurd cc

  -- a polynomial that is no member, behind a list without repeats
  pub distinct_push : (ps : Polynomials) (p : Polynomial Symbol) → IsDistinct (same g) ps → is_member g p ps ≡ false → IsDistinct (same g) (ps ++ p ∷ [])
  unfolding IsDistinct
  distinct_push [] p h e = (tt, tt)
  distinct_push (q ∷ ps) p h e =
      let two = or_none (same g p q) (is_member g p ps) e in
      (each_push (λ x. same g q x ≡ false) ps p h.0 (same_back p q two.0), distinct_push ps p h.1 two.1)

  module _ (is_dropped : Polynomial Symbol → Bool) where
    -- what is true of the norms that are kept
    pub record AreKept (ps : Polynomials) : Type 0 where
      pub normalised : AllOf (λ p. norm p ≡ p) ps
      pub distinct : IsDistinct (same g) ps
      pub none_dropped : AllOf (λ p. is_dropped p ≡ false) ps

    norms_kept : (kept ps : Polynomials) → AllOf (IsOver r) ps → AreKept kept → AreKept (kept_norms g is_dropped kept ps)
    norms_kept kept [] over h = h
    norms_kept kept (p ∷ ps) over h = by_tests (is_dropped (norm p)) (is_member g (norm p) kept) refl refl (norms_kept kept ps over.1 h) (norms_kept (kept ++ norm p ∷ []) ps over.1)
      where
        by_tests : (a b : Bool) → is_dropped (norm p) ≡ a → is_member g (norm p) kept ≡ b → AreKept (kept_norms g is_dropped kept ps) → (AreKept (kept ++ norm p ∷ []) → AreKept (kept_norms g is_dropped (kept ++ norm p ∷ []) ps))
            → AreKept (if a || b then kept_norms g is_dropped kept ps else kept_norms g is_dropped (kept ++ norm p ∷ []) ps)
        by_tests true b e f stays grows = stays
        by_tests false true e f stays grows = stays
        by_tests false false e f stays grows = grows (record {
          normalised = all_push (λ p. norm p ≡ p) kept (norm p) h.normalised (norm_idempotent (ranking_cmp r) p (over.0).canonical);
          distinct = distinct_push kept (norm p) h.distinct f;
          none_dropped = all_push (λ p. is_dropped p ≡ false) kept (norm p) h.none_dropped e;
        })

    first_kept : AreKept []
    unfolding IsDistinct
    first_kept = record { normalised = tt; distinct = tt; none_dropped = tt }

  -- so the root has the facts of a state
  pub root_is_state : (s : System) → AreOver r s.equations s.inequations → limit_passed (root_of g s ∷ []) ≡ None → IsStateOf g (root_of g s)
  unfolding root_of
  root_is_state s over within =
      let es : AreKept is_zero (kept_norms g is_zero [] s.equations) = norms_kept is_zero [] s.equations over.equations_over (first_kept is_zero) in
      let hs : AreKept (is_unit g) (kept_norms g (is_unit g) [] s.inequations) = norms_kept (is_unit g) [] s.inequations over.inequations_over (first_kept (is_unit g)) in
      record {
        equations_normalised = es.normalised;
        inequations_normalised = hs.normalised;
        equations_distinct = es.distinct;
        inequations_distinct = hs.distinct;
        no_zero = no_zeros (kept_norms g is_zero [] s.equations) es.none_dropped;
        no_unit = no_units (kept_norms g (is_unit g) [] s.inequations) hs.none_dropped;
        within_limits = within;
      }
