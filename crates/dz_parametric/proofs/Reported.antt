-- What is printed of cones, and that it may be.
use Rattle.std.specs.List.{range_with_len}
use Rattle.std.specs.Prelude.{replicate, codes, OnOk, Result, Ok, Err, is_ok, if◌then◌else◌}
use Rattle.std.proofs.Common.{◌≡◌, ◌<◌, ◌≤◌, ◌+◌, ◌-◌, ◌∙◌, ℕ, zero, suc, Bool, true, false, cond, All, List, [], ◌∷◌, ◌++◌, length, map, drop, slice_index_or, refl, sym, ap, ap₂, arith, append-nil, append_assoc}
use Rattle.std.proofs.lemmas.List.{drop_all, length-map}
use Rattle.dz_rank.specs.Rankings.{RankingValue}
use Rattle.dz_syntax.specs.Names.{Declared}
use Rattle.dz_form.specs.Texts.{joined, name_numbered}
use Rattle.dz_monomials.specs.Lists.{AllOf}
use Rattle.dz_diff.specs.State.{State}
use Rattle.dz_parametric.specs.declared.listing.Cone.{Cone}
use Rattle.dz_parametric.specs.Cones.{Direction, cone_of, cones_of, cones_of_exponents, cones_with, operators_of}
use Rattle.dz_parametric.specs.Parametric.{leaders_in}
use Rattle.dz_parametric.specs.Reports.{IsConeOver, free_names, listed_names, names_text}
use Rattle.dz_parametric.proofs.ConeLaws.{all_directions}
use Rattle.dz_parametric.proofs.Members.{all_flat_map, all_range}
use Rattle.dz_parametric.proofs.OrderLists.{length_filled, zeros_behind}

-- ---- names
-- names behind others
abbrev behind : List ℕ → List (List ℕ) → List ℕ
behind mark [] = []
behind mark (name ∷ more) = mark ++ name ++ behind mark more

joined_behind : (mark name : List ℕ) (more : List (List ℕ)) → joined mark (name ∷ more) ≡ name ++ behind mark more
joined_behind mark name [] = sym (append-nil name)
joined_behind mark name (next ∷ more) =
    ap (λ xs. name ++ mark ++ xs) (joined_behind mark next more) ∙ append_assoc name mark (next ++ behind mark more) ∙ ap (λ xs. name ++ xs) (sym (append_assoc mark next (behind mark more)))

module _ (names : Declared) where
  listed_behind : (i : ℕ) (fs : List Bool) → listed_names names true i fs ≡ behind (codes ",") (free_names names i fs)
  listed_behind i [] = refl
  listed_behind i (true ∷ fs) = ap (λ xs. codes "," ++ name_numbered names i ++ xs) (listed_behind (suc i) fs)
  listed_behind i (false ∷ fs) = listed_behind (suc i) fs

  listed_text : (i : ℕ) (fs : List Bool) → listed_names names false i fs ≡ names_text (free_names names i fs)
  listed_text i [] = refl
  listed_text i (true ∷ fs) = ap (λ xs. name_numbered names i ++ xs) (listed_behind (suc i) fs) ∙ sym (joined_behind (codes ",") (name_numbered names i) (free_names names (suc i) fs))
  listed_text i (false ∷ fs) = listed_text (suc i) fs

  -- no direction is left
  pub names_end : (fs : List Bool) (i : ℕ) (some : Bool) (old now last : List ℕ) → length fs ≤ i → now ++ listed_names names some i (drop i fs) ≡ old ++ listed_names names false 0 fs → last ≡ now ++ cond some [] (codes "-") → last ≡ old ++ names_text (free_names names 0 fs)
  names_end fs i some old now last h whole after =
      after ∙ ap (λ gs. now ++ listed_names names some i gs) (sym (drop_all i fs h)) ∙ whole ∙ ap (λ xs. old ++ xs) (listed_text 0 fs)

  -- one direction more
  pub names_more : (i : ℕ) (fs : List Bool) (d some : Bool) → i < length fs → listed_names names some i (drop i fs) ≡ cond (slice_index_or fs i d) (cond some (codes ",") [] ++ name_numbered names i ++ listed_names names true (i + 1) (drop (i + 1) fs)) (listed_names names some (i + 1) (drop (i + 1) fs))
  names_more i fs d some h = at i i fs h ∙ ap₂ (λ (j k : ℕ). cond (slice_index_or fs i d) (cond some (codes ",") [] ++ name_numbered names i ++ listed_names names true j (drop k fs)) (listed_names names some j (drop k fs))) (let e : suc i ≡ i + 1 = omega arith in e) (let e : suc i ≡ i + 1 = omega arith in e)
    where
      at : (j i : ℕ) (fs : List Bool) → i < length fs → listed_names names some j (drop i fs) ≡ cond (slice_index_or fs i d) (cond some (codes ",") [] ++ name_numbered names j ++ listed_names names true (suc j) (drop (suc i) fs)) (listed_names names some (suc j) (drop (suc i) fs))
      at j i [] h = absurd (omega arith)
      at j zero (f ∷ fs) h = refl
      at j (suc i) (f ∷ fs) h = at j i fs (omega (arith, h))

-- ---- pieces
pub five_pieces : (old a b c d e : List ℕ) → ((((old ++ a) ++ b) ++ c) ++ d) ++ e ≡ old ++ (a ++ b ++ c ++ d ++ e)
five_pieces old a b c d e =
    ap (λ t. t ++ e) (ap (λ t. t ++ d) (ap (λ t. t ++ c) (append_assoc old a b) ∙ append_assoc old (a ++ b) c) ∙ append_assoc old (a ++ b ++ c) d) ∙ append_assoc old (a ++ b ++ c ++ d) e

-- what is appended last, if it is
pub last_appended : {A E : Type 0} (result : Result A E) (new old piece out : List ℕ) → new ≡ (if is_ok result then old ++ piece else old) → old ++ piece ≡ out → OnOk result (new ≡ out)
last_appended (Ok a) new old piece out e f = e ∙ f
last_appended (Err d) new old piece out e f = tt

-- ---- cones
module _ (r : RankingValue) (few : r.signature.independents ≤ 4) where
  abbrev n : ℕ
  n = r.signature.independents

  free_inside : (ds : List Direction) (j i : ℕ) → slice_index_or (map (λ d. d.is_free) ds ++ replicate j false) i false ≡ true → i < length ds
  free_inside [] zero i e = absurd cc
  free_inside [] (suc j) zero e = absurd cc
  free_inside [] (suc j) (suc i) e = absurd (let k = free_inside [] j i e in omega (arith, k))
  free_inside (d ∷ ds) j zero e = omega arith
  free_inside (d ∷ ds) j (suc i) e = omega (arith, free_inside ds j i e)

  one_over : (u : ℕ) → u < r.signature.dependents → (ds : List Direction) → length ds ≡ n → IsConeOver r.signature (cone_of n u ds)
  one_over u l ds e = record {
    belongs = (
      l,
      record {
        size = length_filled (map (λ d. d.exponent) ds) (4 - n) ∙ omega (arith, length-map ds (λ d. d.exponent), e, few);
        zeros = zeros_behind n (4 - n) (map (λ d. d.exponent) ds) (length-map ds (λ d. d.exponent) ∙ e);
      },
    );
    free = λ i f. omega (arith, e, free_inside ds (4 - n) i f);
  }

  all_over : (u : ℕ) → u < r.signature.dependents → (cs : List (List Direction)) → AllOf (λ ds. length ds ≡ n) cs → AllOf (IsConeOver r.signature) (map (cone_of n u) cs)
  all_over u l [] h = tt
  all_over u l (ds ∷ cs) h = (one_over u l ds h.0, all_over u l cs h.1)

  indices : (cs : List Cone) → AllOf (IsConeOver r.signature) cs → All (IsConeOver r.signature) cs
  indices [] h i d l = absurd (omega arith)
  indices (c ∷ cs) h zero d l = h.0
  indices (c ∷ cs) h (suc i) d l = indices cs h.1 i d (omega (arith, l))

  pub cones_over : (s : State) → All (IsConeOver r.signature) (cones_of r s)
  cones_over s = indices (cones_of r s)
      (all_flat_map (cones_with n (leaders_in r s)) (IsConeOver r.signature) (range_with_len 0 r.signature.dependents)
      (all_range (λ u. AllOf (IsConeOver r.signature) (cones_with n (leaders_in r s) u)) 0 r.signature.dependents
      (λ u a l. all_over u (omega (arith, l)) (cones_of_exponents n (operators_of u (leaders_in r s))) (all_directions n (operators_of u (leaders_in r s))))))
