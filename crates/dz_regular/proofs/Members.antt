-- The member whose leader is the greatest that occurs.
use Rattle.std.specs.Prelude.{slice_index_or, nat_lt, cond}
use Rattle.std.specs.Ordering.{match_ordering}
use Rattle.std.specs.declared.cmp.Ordering.{Ordering}
use Rattle.std.specs.declared.cmp.Ordering.TheVariants.{Less, Equal, Greater}
use Rattle.std.proofs.Common.{◌≡◌, ◌<◌, ◌+◌, ℕ, zero, suc, Bool, true, false, [], ◌∷◌, length, refl, subst, arith, Option, Some, None}
use Rattle.std.proofs.lemmas.Bool.Decides.{nat_tests}
use Rattle.dz_algebra.specs.Parts.{degree, leader}
use Rattle.dz_algebra.specs.Polynomial.{Polynomial}
use Rattle.dz_algebra.specs.Symbols.{Symbols}
use Rattle.dz_rank.specs.declared.symbols.Symbol.{Symbol}
use Rattle.dz_rank.specs.Rankings.{RankingValue, ranking_cmp}
use Rattle.dz_monomials.specs.Ranked.{symbols_under}
use Rattle.dz_monomials.specs.Lists.{AllOf}
use Rattle.dz_diff.specs.Over.{IsOver}
use Rattle.dz_diff.specs.Tests.{Polynomials}
use Rattle.dz_diff.proofs.LeaderBounds.{leader_degree}
use Rattle.dz_regular.specs.Runs.{greatest_leader, greatest_leader_from, greater_leader, with_member}

some_same : {A : Type 0} (a b : A) → ◌≡◌ {A = Option A} (Some a) (Some b) → a ≡ b
some_same a b e = cc

module _ (g : Symbols Symbol) (f : Polynomial Symbol) (P : ℕ × Symbol → Type 0) where
  -- what holds of each leader that occurs holds of the one that is found
  pub found_holds : (i : ℕ) (ps : Polynomials) (best : Option (ℕ × Symbol))
      → ((j : ℕ) (v : Symbol) → j < length ps → leader g (slice_index_or ps j []) ≡ Some v → 0 < degree g.cmp v f → P (i + j, v))
      → ((b : ℕ × Symbol) → best ≡ Some b → P b)
      → (b : ℕ × Symbol) → greatest_leader_from g f i ps best ≡ Some b → P b
  found_holds i [] best each so_far b e = so_far b e
  found_holds i (p ∷ ps) best each so_far b e =
      found_holds (i + 1) ps (with_member g f i (leader g p) best)
      (λ j v l h o. subst (λ n. P (n, v)) (omega arith) (each (suc j) v (omega (arith, l)) h o))
      (by_leader (leader g p) refl) b e
    where
      here : (v : Symbol) → leader g p ≡ Some v → 0 < degree g.cmp v f → P (i, v)
      here v h o = subst (λ n. P (n, v)) (omega arith) (each 0 v (omega arith) h o)

      by_order : (v : Symbol) → P (i, v) → (c : ℕ × Symbol) → P c → (o : Ordering) → (b : ℕ × Symbol) → match_ordering o (Some c) (Some c) (Some (i, v)) ≡ Some b → P b
      by_order v n c h Less b e = subst P (some_same c b e) h
      by_order v n c h Equal b e = subst P (some_same c b e) h
      by_order v n c h Greater b e = subst P (some_same (i, v) b e) n

      by_best : (v : Symbol) → P (i, v) → (o : Option (ℕ × Symbol)) → ((b : ℕ × Symbol) → o ≡ Some b → P b) → (b : ℕ × Symbol) → greater_leader g i v o ≡ Some b → P b
      by_best v n None h b e = subst P (some_same (i, v) b e) n
      by_best v n (Some c) h b e = by_order v n c (h c refl) (g.cmp v c.1) b e

      by_degree : (v : Symbol) → leader g p ≡ Some v → (t : Bool) → nat_lt 0 (degree g.cmp v f) ≡ t → (b : ℕ × Symbol) → cond t (greater_leader g i v best) best ≡ Some b → P b
      by_degree v h true d b e = by_best v (here v h (grind (arith, nat_tests))) best so_far b e
      by_degree v h false d b e = so_far b e

      by_leader : (o : Option Symbol) → leader g p ≡ o → (b : ℕ × Symbol) → with_member g f i o best ≡ Some b → P b
      by_leader None h b e = so_far b e
      by_leader (Some v) h b e = by_degree v h (nat_lt 0 (degree g.cmp v f)) refl b e

-- a member with its leader, which occurs
pub record IsMember (g : Symbols Symbol) (equations : Polynomials) (f : Polynomial Symbol) (b : ℕ × Symbol) : Type 0 where
  pub inside : b.0 < length equations
  pub leads : leader g (slice_index_or equations b.0 []) ≡ Some b.1
  pub occurs : 0 < degree g.cmp b.1 f

-- what is found is one
pub found_member : (g : Symbols Symbol) (equations : Polynomials) (f : Polynomial Symbol) (b : ℕ × Symbol) → greatest_leader g equations f ≡ Some b → IsMember g equations f b
found_member g equations f b e = found_holds g f (IsMember g equations f) 0 equations None (λ j v l h o. let k : j ≡ 0 + j = omega arith in subst (λ n. IsMember g equations f (n, v)) k (record { inside = l; leads = h; occurs = o })) (λ b h. cc) b e

-- the leader of a canonical member occurs in it
pub member_occurs : (r : RankingValue) (equations : Polynomials) (i : ℕ) (v : Symbol) → AllOf (IsOver r) equations → i < length equations → leader (symbols_under r) (slice_index_or equations i []) ≡ Some v → 0 < degree (ranking_cmp r) v (slice_index_or equations i [])
member_occurs r [] i v h l e = absurd (omega (arith, l))
member_occurs r (p ∷ ps) zero v h l e = let one = leader_degree r v p h.0.canonical e in omega (arith, one)
member_occurs r (p ∷ ps) (suc i) v h l e = member_occurs r ps i v h.1 (omega (arith, l)) e
