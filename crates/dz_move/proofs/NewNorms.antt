-- Whether a norm is new, by its leader and by the lists of a state.
use Rattle.std.proofs.Common.{◌≡◌, ◌∙◌, ◌&&◌, true, false, not, [], ◌∷◌, ℤ, refl, ap, ap₂, sym, Some, None}
use Rattle.dz_algebra.specs.Norm.{divided, norm, signed_content}
use Rattle.dz_algebra.specs.Parts.{has_derivative, is_ground, leader}
use Rattle.dz_algebra.specs.Polynomial.{Polynomial}
use Rattle.dz_algebra.proofs.Leaders.{no_leader_ground}
use Rattle.dz_rank.specs.declared.symbols.Symbol.{Symbol}
use Rattle.dz_rank.specs.Rankings.{RankingValue}
use Rattle.dz_monomials.specs.Ranked.{symbols_under}
use Rattle.dz_diff.specs.State.{State, without_place}
use Rattle.dz_diff.specs.Tests.{is_member}
use Rattle.dz_diff.proofs.Leading.{led_not_ground}
use Rattle.dz_diff.proofs.MemberTests.{none_left_out}
use Rattle.dz_move.specs.Parts.{is_new}

module _ (r : RankingValue) (s : State) (h : Polynomial Symbol) where
  -- a ground norm is not
  pub ground_not_new : leader (symbols_under r) h ≡ None → false ≡ is_new (symbols_under r) s h
  ground_not_new e = sym (ap (λ b. not b && not (is_member (symbols_under r) h s.equations) && not (is_member (symbols_under r) h s.inequations)) (no_leader_ground (symbols_under r) h e))

  -- an equation is not
  pub equation_not_new : (l : Symbol) → leader (symbols_under r) h ≡ Some l → is_member (symbols_under r) h (without_place 0 s.equations) ≡ true → false ≡ is_new (symbols_under r) s h
  equation_not_new l e f =
      sym (ap₂ (λ a b. not a && not b && not (is_member (symbols_under r) h s.inequations)) (led_not_ground r h l e) (ap (is_member (symbols_under r) h) (none_left_out s.equations) ∙ f))

  -- else it is where it is no inequation
  pub new_unless : (l : Symbol) → leader (symbols_under r) h ≡ Some l → is_member (symbols_under r) h (without_place 0 s.equations) ≡ false → not (is_member (symbols_under r) h (without_place 0 s.inequations)) ≡ is_new (symbols_under r) s h
  new_unless l e f =
      ap (λ ps. not (is_member (symbols_under r) h ps)) (sym (none_left_out s.inequations))
      ∙ sym (ap₂ (λ a b. not a && not b && not (is_member (symbols_under r) h s.inequations)) (led_not_ground r h l e) (ap (is_member (symbols_under r) h) (none_left_out s.equations) ∙ f))

-- a norm has the derivatives of its polynomial
divided_ground : (r : RankingValue) (c : ℤ) (p : Polynomial Symbol) → is_ground (symbols_under r) (divided c p) ≡ is_ground (symbols_under r) p
divided_ground r c [] = refl
divided_ground r c (t ∷ p) = ap (λ b. not (has_derivative (symbols_under r) t.0) && b) (divided_ground r c p)

pub norm_ground : (r : RankingValue) (p : Polynomial Symbol) → is_ground (symbols_under r) (norm p) ≡ is_ground (symbols_under r) p
unfolding norm
norm_ground r p = divided_ground r (signed_content p) p
