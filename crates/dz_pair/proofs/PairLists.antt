-- The lists of pairs, as far as the loops have come.
use Rattle.std.specs.Prelude.{map, drop, slice_index_or}
use Rattle.std.proofs.Common.{◌≡◌, ◌<◌, ◌≤◌, ◌+◌, ◌∙◌, ◌++◌, ℕ, zero, suc, true, false, cond, List, [], ◌∷◌, length, refl, sym, ap, ap₂, arith, Option, None, append-nil, append_assoc}
use Rattle.std.proofs.lemmas.List.{drop_all, drop_more}
use Rattle.dz_algebra.specs.Parts.{leader}
use Rattle.dz_algebra.specs.Polynomial.{Polynomial}
use Rattle.dz_algebra.specs.Symbols.{Symbols}
use Rattle.dz_rank.specs.declared.symbols.Symbol.{Symbol}
use Rattle.dz_poly.specs.Books.{BookValue, polynomial}
use Rattle.dz_monomials.specs.Ranked.{symbols_under}
use Rattle.dz_diff.specs.State.{State}
use Rattle.dz_diff.specs.States.{polynomials}
use Rattle.dz_diff.specs.Tests.{Polynomials}
use Rattle.dz_pair.specs.Crossings.{crossings_from, crossings_with}
use Rattle.dz_pair.specs.Pair.{critical_pairs, leaders_cross, pairs_from, pairs_with}

-- ---- the leaders of equations
-- the leaders of polynomials
abbrev pub leaders_of : Symbols Symbol → Polynomials → List (Option Symbol)
leaders_of g ps = map (λ p. leader g p) ps

module _ (book : BookValue) where
  abbrev g : Symbols Symbol
  g = symbols_under book.ranking

  -- one equation more
  pub leader_more : (ps : List ℕ) (i p : ℕ) (done all : List (Option Symbol)) (l : Option Symbol) → i < length ps → p ≡ slice_index_or ps i p → l ≡ leader g (polynomial book p)
      → done ++ leaders_of g (polynomials book (drop i ps)) ≡ all → (done ++ l ∷ []) ++ leaders_of g (polynomials book (drop (i + 1) ps)) ≡ all
  leader_more ps i p done all l inside there is whole =
      append_assoc done (l ∷ []) (leaders_of g (polynomials book (drop (i + 1) ps)))
      ∙ ap (λ (o : Option Symbol). done ++ o ∷ leaders_of g (polynomials book (drop (i + 1) ps))) (is ∙ ap (λ p. leader g (polynomial book p)) there)
      ∙ ap (λ (qs : List ℕ). done ++ leaders_of g (polynomials book qs)) (sym (drop_more ps i p inside))
      ∙ whole

  -- no equation is left
  pub leaders_done : (ps : List ℕ) (i : ℕ) (done all : List (Option Symbol)) → length ps ≤ i → done ++ leaders_of g (polynomials book (drop i ps)) ≡ all → done ≡ all
  leaders_done ps i done all past whole = sym (ap (λ (qs : List ℕ). done ++ leaders_of g (polynomials book qs)) (drop_all i ps past) ∙ append-nil done) ∙ whole

-- ---- the pairs of one leader
module _ (ls : List (Option Symbol)) (i : ℕ) where
  -- what is read inside does not depend on what stands for a missing leader
  pub read_here : (l : Option Symbol) → i < length ls → l ≡ slice_index_or ls i l → l ≡ slice_index_or ls i None
  read_here l inside is = is ∙ any ls i inside
    where
      any : (ls : List (Option Symbol)) (i : ℕ) → i < length ls → slice_index_or ls i l ≡ slice_index_or ls i None
      any [] i h = absurd (omega arith)
      any (x ∷ ls) zero h = refl
      any (x ∷ ls) (suc i) h = any ls i (omega arith)

module _ (ls : List (Option Symbol)) (i : ℕ) where
  -- the leader at the index
  abbrev pub here : Option Symbol
  here = slice_index_or ls i None

  -- its pairs with the leaders from an index on
  abbrev pub pairs_here : ℕ → List (ℕ × ℕ)
  pairs_here j = crossings_with (i + 1) (j + 1) here (drop j ls)

  -- the pairs of the leaders behind it
  abbrev pub pairs_behind : List (ℕ × ℕ)
  pairs_behind = crossings_from (i + 2) (drop (i + 1) ls)

  -- all pairs from the index on are those of its leader and those behind
  pub all_here : (done : List (ℕ × ℕ)) → i < length ls → (done ++ pairs_here (i + 1)) ++ pairs_behind ≡ done ++ crossings_from (i + 1) (drop i ls)
  all_here done inside =
      append_assoc done (pairs_here (i + 1)) pairs_behind ∙ ap (λ xs. done ++ xs) (sym split_here)
    where
      split_here : crossings_from (i + 1) (drop i ls) ≡ pairs_here (i + 1) ++ pairs_behind
      split_here =
          ap (crossings_from (i + 1)) (drop_more ls i None inside)
          ∙ ap (λ n. crossings_with (i + 1) n here (drop (i + 1) ls) ++ crossings_from n (drop (i + 1) ls)) (let e : suc (i + 1) ≡ i + 1 + 1 = omega arith in e)
          ∙ ap (λ n. pairs_here (i + 1) ++ crossings_from n (drop (i + 1) ls)) (let e : i + 1 + 1 ≡ i + 2 = omega arith in e)

  module _ (j : ℕ) (inside : j < length ls) (m : Option Symbol) (is : m ≡ slice_index_or ls j m) (done all : List (ℕ × ℕ)) (whole : (done ++ pairs_here j) ++ pairs_behind ≡ all) where
    -- the leader at the other index
    split : pairs_here j ≡ cond (leaders_cross here m) ((i + 1, j + 1) ∷ pairs_here (j + 1)) (pairs_here (j + 1))
    split =
        ap (crossings_with (i + 1) (j + 1) here) (drop_more ls j m inside)
        ∙ ap₂ (λ (o : Option Symbol) (n : ℕ). cond (leaders_cross here o) ((i + 1, j + 1) ∷ crossings_with (i + 1) n here (drop (j + 1) ls)) (crossings_with (i + 1) n here (drop (j + 1) ls))) (sym is) (let e : suc (j + 1) ≡ j + 1 + 1 = omega arith in e)

    -- it crosses
    pub pair_found : leaders_cross here m ≡ true → ((done ++ (i + 1, j + 1) ∷ []) ++ pairs_here (j + 1)) ++ pairs_behind ≡ all
    pair_found e =
        ap (λ xs. xs ++ pairs_behind) (append_assoc done ((i + 1, j + 1) ∷ []) (pairs_here (j + 1)))
        ∙ ap (λ xs. (done ++ xs) ++ pairs_behind) (sym (split ∙ ap (λ b. cond b ((i + 1, j + 1) ∷ pairs_here (j + 1)) (pairs_here (j + 1))) e))
        ∙ whole

    -- it does not
    pub pair_passed : leaders_cross here m ≡ false → (done ++ pairs_here (j + 1)) ++ pairs_behind ≡ all
    pair_passed e =
        ap (λ xs. (done ++ xs) ++ pairs_behind) (sym (split ∙ ap (λ b. cond b ((i + 1, j + 1) ∷ pairs_here (j + 1)) (pairs_here (j + 1))) e))
        ∙ whole

  -- no leader is left
  pub pairs_done : (j : ℕ) (done all : List (ℕ × ℕ)) → length ls ≤ j → (done ++ pairs_here j) ++ pairs_behind ≡ all → done ++ pairs_behind ≡ all
  pairs_done j done all past whole =
      ap (λ xs. xs ++ pairs_behind) (sym (ap (λ xs. done ++ crossings_with (i + 1) (j + 1) here xs) (drop_all j ls past) ∙ append-nil done)) ∙ whole

-- ---- the pairs of polynomials are those of their leaders
module _ (g : Symbols Symbol) where
  of_leaders_with : (i j : ℕ) (p : Polynomial Symbol) (qs : Polynomials) → crossings_with i j (leader g p) (leaders_of g qs) ≡ pairs_with g i j p qs
  of_leaders_with i j p [] = refl
  of_leaders_with i j p (q ∷ qs) = ap (λ xs. cond (leaders_cross (leader g p) (leader g q)) ((i, j) ∷ xs) xs) (of_leaders_with i (suc j) p qs)

  of_leaders : (i : ℕ) (ps : Polynomials) → crossings_from i (leaders_of g ps) ≡ pairs_from g i ps
  of_leaders i [] = refl
  of_leaders i (p ∷ ps) = ap₂ (λ xs ys. xs ++ ys) (of_leaders_with i (suc i) p ps) (of_leaders (suc i) ps)

  -- all leaders have been looked at
  pub are_critical : (s : State) (ls : List (Option Symbol)) (i : ℕ) (done : List (ℕ × ℕ)) → ls ≡ leaders_of g s.equations → length ls ≤ i → done ++ crossings_from (i + 1) (drop i ls) ≡ crossings_from 1 ls → done ≡ critical_pairs g s
  are_critical s ls i done are past whole =
      sym (ap (λ xs. done ++ crossings_from (i + 1) xs) (drop_all i ls past) ∙ append-nil done)
      ∙ whole ∙ ap (crossings_from 1) are ∙ of_leaders 1 s.equations
