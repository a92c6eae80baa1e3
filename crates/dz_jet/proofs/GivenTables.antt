-- The table of the needed values among those that are given.
use Rattle.std.specs.Option.{is_none}
use Rattle.std.specs.List.{filter, range_with_len}
use Rattle.std.proofs.Common.{◌≡◌, inl, inr, ◌∙◌, ℕ, suc, Bool, true, false, cond, List, [], ◌∷◌, ◌++◌, map, pos, Option, Some, None, refl, sym, ap}
use Rattle.std.specs.declared.cmp.Ordering.{Ordering}
use Rattle.std.specs.declared.cmp.Ordering.TheVariants.{Less}
use Rattle.dz_algebra.specs.Parts.{leader}
use Rattle.dz_algebra.specs.Symbols.{Symbols}
use Rattle.dz_int.specs.Fractions.{Fraction}
use Rattle.dz_rank.specs.Rankings.{RankingValue, ranking_cmp}
use Rattle.dz_rank.specs.Symbols.{is_derivative}
use Rattle.dz_rank.specs.declared.symbols.Symbol.{Symbol}
use Rattle.dz_rank.specs.declared.symbols.Symbol.TheVariants.{Independent}
use Rattle.dz_monomials.specs.Ranked.{symbols_under}
use Rattle.dz_monomials.specs.Lists.{AllOf}
use Rattle.dz_diff.specs.State.{State}
use Rattle.dz_diff.specs.Tests.{Polynomials, same_symbol}
use Rattle.dz_jet.specs.Fractions.{whole}
use Rattle.dz_jet.specs.Jets.{Values, led_by, leading_to, given_to, independents_of, is_among, is_needed, value_in}
use Rattle.dz_jet.specs.Tables.{IsTable, first_not_free, keys}
use Rattle.dz_parametric.specs.Orders.{IsRising}
use Rattle.dz_jet.proofs.FilteredLists.{among_in, in_among, none_fails}
use Rattle.dz_jet.proofs.JetLists.{given_key, itself_same, same_is}
use Rattle.dz_parametric.proofs.Members.{In, all_map, all_range}

-- ---- lists that give each symbol the value of a function
keys_mapped : (f : Symbol → Fraction) (ss : List Symbol) → keys (map (λ s. (s, f s)) ss) ≡ ss
keys_mapped f [] = refl
keys_mapped f (s ∷ ss) = ap (λ ts. s ∷ ts) (keys_mapped f ss)

module _ (r : RankingValue) (f : Symbol → Fraction) where
  mapped_given : (ss : List Symbol) (s : Symbol) → In s ss → given_to (symbols_under r) (map (λ t. (t, f t)) ss) s ≡ Some (f s)
  mapped_given [] s h = absurd h
  mapped_given (t ∷ ss) s h = by_test (same_symbol (symbols_under r) t s) refl h (λ k. mapped_given ss s k)
    where
      by_test : (b : Bool) → same_symbol (symbols_under r) t s ≡ b → In s (t ∷ ss) → (In s ss → given_to (symbols_under r) (map (λ t. (t, f t)) ss) s ≡ Some (f s)) → cond b (Some (f t)) (given_to (symbols_under r) (map (λ t. (t, f t)) ss) s) ≡ Some (f s)
      by_test true e h m = ap (λ u. Some (f u)) (same_is r t s e)
      by_test false e (inr k) m = m k
      by_test false e (inl k) m = absurd (let g : same_symbol (symbols_under r) t s ≡ true = ap (λ u. same_symbol (symbols_under r) u s) k ∙ itself_same r s in cc)

  mapped_none : (ss : List Symbol) (s : Symbol) → (In s ss → ⊥) → given_to (symbols_under r) (map (λ t. (t, f t)) ss) s ≡ None
  mapped_none [] s n = refl
  mapped_none (t ∷ ss) s n = by_test (same_symbol (symbols_under r) t s) refl (mapped_none ss s (λ h. n (inr h)))
    where
      by_test : (b : Bool) → same_symbol (symbols_under r) t s ≡ b → given_to (symbols_under r) (map (λ t. (t, f t)) ss) s ≡ None → cond b (Some (f t)) (given_to (symbols_under r) (map (λ t. (t, f t)) ss) s) ≡ None
      by_test true e m = absurd (n (inl (same_is r t s e)))
      by_test false e m = m

-- ---- filtered lists
filter_append : (test : Symbol → Bool) (xs ys : List Symbol) → filter test (xs ++ ys) ≡ filter test xs ++ filter test ys
filter_append test [] ys = refl
filter_append test (x ∷ xs) ys = by_test (test x) (filter_append test xs ys)
  where
    by_test : (b : Bool) → filter test (xs ++ ys) ≡ filter test xs ++ filter test ys → cond b (x ∷ filter test (xs ++ ys)) (filter test (xs ++ ys)) ≡ cond b (x ∷ filter test xs) (filter test xs) ++ filter test ys
    by_test true m = ap (λ zs. x ∷ zs) m
    by_test false m = m

filter_all : (test : Symbol → Bool) (xs : List Symbol) → AllOf (λ s. test s ≡ true) xs → filter test xs ≡ xs
filter_all test [] h = refl
filter_all test (x ∷ xs) h = ap (λ b. cond b (x ∷ filter test xs) (filter test xs)) h.0 ∙ ap (λ zs. x ∷ zs) (filter_all test xs h.1)

all_filter : (P : Symbol → Type 0) (test : Symbol → Bool) (xs : List Symbol) → AllOf P xs → AllOf P (filter test xs)
all_filter P test [] h = tt
all_filter P test (x ∷ xs) h = by_test (test x) (all_filter P test xs h.1)
  where
    by_test : (b : Bool) → AllOf P (filter test xs) → AllOf P (cond b (x ∷ filter test xs) (filter test xs))
    by_test true k = (h.0, k)
    by_test false k = k

rising_filter : (cmp : Symbol → Symbol → Ordering) (test : Symbol → Bool) (xs : List Symbol) → IsRising cmp xs → IsRising cmp (filter test xs)
rising_filter cmp test [] h = tt
rising_filter cmp test (x ∷ xs) h = by_test (test x) (rising_filter cmp test xs h.1)
  where
    by_test : (b : Bool) → IsRising cmp (filter test xs) → IsRising cmp (cond b (x ∷ filter test xs) (filter test xs))
    by_test true k = (all_filter (λ t. cmp x t ≡ Less) test xs h.0, k)
    by_test false k = k

-- ---- independents
pub independent_not_led : (g : Symbols Symbol) (i j : ℕ) (es : Polynomials) → leading_to g (Independent i) j es ≡ None
independent_not_led g i j [] = refl
independent_not_led g i j (p ∷ es) = by_leader (leader g p) (independent_not_led g i (suc j) es)
  where
    by_leader : (o : Option Symbol) → leading_to g (Independent i) (suc j) es ≡ None → led_by j p o (Independent i) (leading_to g (Independent i) (suc j) es) ≡ None
    by_leader None m = m
    by_leader (Some l) m = m

independents_needed : (g : Symbols Symbol) (s : State) (n : ℕ) → AllOf (λ v. is_needed g s v ≡ true) (map (λ i. Independent i) (range_with_len 0 n))
independents_needed g s n = all_map (λ i. Independent i) (λ v. is_needed g s v ≡ true) (range_with_len 0 n) (all_range (λ i. is_needed g s (Independent i) ≡ true) 0 n (λ i a b. ap is_none (independent_not_led g i 1 s.equations)))

-- ---- the table
module _ (r : RankingValue) (s : State) (f : Symbol → Fraction) (ds : List Symbol) (rises : IsRising (ranking_cmp r) ds) (proper : AllOf (λ v. is_derivative v ≡ true) ds) where
  abbrev needed : List Symbol
  needed = filter (is_needed (symbols_under r) s) (independents_of r.signature ++ ds)

  pub needed_table : IsTable r (map (λ v. (v, f v)) (filter (is_needed (symbols_under r) s) (independents_of r.signature ++ ds)))
  needed_table = record {
    derivatives = filter (is_needed (symbols_under r) s) ds;
    keys_are =
        keys_mapped f needed ∙ filter_append (is_needed (symbols_under r) s) (independents_of r.signature) ds
        ∙ ap (λ zs. zs ++ filter (is_needed (symbols_under r) s) ds) (filter_all (is_needed (symbols_under r) s) (independents_of r.signature) (independents_needed (symbols_under r) s r.signature.independents));
    rising = rising_filter (ranking_cmp r) (is_needed (symbols_under r) s) ds rises;
    proper = all_filter (λ v. is_derivative v ≡ true) (is_needed (symbols_under r) s) ds proper;
  }

  abbrev value_of : Option Fraction → Fraction
  value_of o = elim o as (λ _. Fraction) [ None ↦ whole (pos 0) | Some x ↦ x ]

  -- it gives each symbol the value that is given, where no other is
  pub needed_same : (known : Values) → ((v : Symbol) → f v ≡ value_in (symbols_under r) known v) → first_not_free r s known (independents_of r.signature ++ ds) ≡ None
      → (v : Symbol) → value_in (symbols_under r) (map (λ v. (v, f v)) (filter (is_needed (symbols_under r) s) (independents_of r.signature ++ ds))) v ≡ value_in (symbols_under r) known v
  needed_same known is free v = by_test (is_among (symbols_under r) needed v) refl
    where
      unknown : (o : Option Fraction) → given_to (symbols_under r) known v ≡ o → is_among (symbols_under r) needed v ≡ false → given_to (symbols_under r) known v ≡ None
      unknown None e h = e
      unknown (Some x) e h =
          absurd (let t = none_fails (is_among (symbols_under r) needed) (keys known) free v (given_key r known v x e) in let g : true ≡ false = sym t ∙ h in cc)

      by_test : (b : Bool) → is_among (symbols_under r) needed v ≡ b → value_in (symbols_under r) (map (λ v. (v, f v)) needed) v ≡ value_in (symbols_under r) known v
      by_test true e = ap value_of (mapped_given r f needed v (among_in r needed v e)) ∙ is v
      by_test false e =
          ap value_of (mapped_none r f needed v (λ h. let t = in_among r needed v h in let g : true ≡ false = sym t ∙ e in cc) ∙ sym (unknown (given_to (symbols_under r) known v) refl e))
