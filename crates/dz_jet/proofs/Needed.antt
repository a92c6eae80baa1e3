-- The values that are needed, and those that are not.
use Rattle.std.specs.List.{filter}
use Rattle.std.proofs.Common.{◌≡◌, ◌<◌, ◌≤◌, ◌∙◌, ℕ, Bool, true, false, List, refl, sym, arith}
use Rattle.dz_rank.specs.Rankings.{RankingValue}
use Rattle.dz_rank.specs.Symbols.{BelongsTo, total_order}
use Rattle.dz_rank.specs.declared.symbols.Symbol.{Symbol}
use Rattle.dz_monomials.specs.Ranked.{symbols_under}
use Rattle.dz_diff.specs.State.{State}
use Rattle.dz_jet.specs.Jets.{is_among, is_needed}
use Rattle.dz_jet.proofs.JetSymbols.{all_listed, in_jet, jet_symbols}
use Rattle.dz_parametric.proofs.Members.{In, of_member}
use Rattle.dz_parametric.proofs.OrderLists.{IsListed}
use Rattle.dz_jet.proofs.FilteredLists.{among_in, in_among, in_filter, in_filtered, filtered_passes}

module _ (r : RankingValue) (few : r.signature.independents ≤ 4) (st : State) (m : ℕ) where
  abbrev needed : List Symbol
  needed = filter (is_needed (symbols_under r) st) (jet_symbols r few m)

  -- a symbol of the signature is free where its order is not too great and its value is needed
  pub free : (s : Symbol) → BelongsTo r.signature s → total_order s ≤ m → is_needed (symbols_under r) st s ≡ true → is_among (symbols_under r) needed s ≡ true
  free s b h t = in_among r needed s (in_filtered (is_needed (symbols_under r) st) (jet_symbols r few m) s (in_jet r few m s b h) t)

  not_among : (s : Symbol) → (In s needed → ⊥) → is_among (symbols_under r) needed s ≡ false
  not_among s f = by_test (is_among (symbols_under r) needed s) refl
    where
      by_test : (b : Bool) → is_among (symbols_under r) needed s ≡ b → is_among (symbols_under r) needed s ≡ false
      by_test true e = absurd (f (among_in r needed s e))
      by_test false e = e

  pub high : (s : Symbol) → m < total_order s → is_among (symbols_under r) needed s ≡ false
  high s l = not_among s (λ h. let k = (of_member (IsListed r few m) s (jet_symbols r few m) (all_listed r few m) (in_filter (is_needed (symbols_under r) st) (jet_symbols r few m) s h)).within in omega arith)

  pub fixed : (s : Symbol) → is_needed (symbols_under r) st s ≡ false → is_among (symbols_under r) needed s ≡ false
  fixed s e = not_among s (λ h. let t = filtered_passes (is_needed (symbols_under r) st) (jet_symbols r few m) s h in let f : true ≡ false = sym t ∙ e in cc)
