-- The entry that is next, by what the searches find.
use Rattle.std.proofs.Common.{◌≡◌, ℕ, true, false, cond, List, [], ◌∷◌, refl, sym, ap, subst, ◌∙◌, Option, Some, None}
use Rattle.dz_rank.specs.declared.symbols.Symbol.{Symbol}
use Rattle.dz_diff.specs.Operations.{Setting}
use Rattle.dz_diff.specs.State.{State}
use Rattle.dz_step.specs.declared.Which.{Which}
use Rattle.dz_pair.specs.Pair.{critical_pairs}
use Rattle.dz_move.specs.Lines.{Entry, closed}
use Rattle.dz_move.specs.Moves.{divide, factor}
use Rattle.dz_move.specs.Root.{is_closed}
use Rattle.dz_engine.specs.declared.admitting.Members.TheVariants.{Equations, Inequations}
use Rattle.dz_engine.specs.declared.rules.Found.{Found}
use Rattle.dz_engine.specs.declared.rules.Found.TheVariants as found
use Rattle.dz_engine.specs.Finding.{divisible, factorable, reducible, splittable, weedable}
use Rattle.dz_engine.specs.Naming.{IsFound, split_entry}
use Rattle.dz_engine.specs.Order.{closed_next, divide_next, factor_next, first_of, line_alone, next_entry, pairs_next, plain, reduce_next, split_next, weed_next}
use Rattle.dz_engine.proofs.FoundRules.{divide_found, factor_found, reduce_found, reduce_not_found, split_found, split_line, weed_found, weed_not_found}

-- the first that there is, past one that is none
past : (o : Option Entry) (os : List (Option Entry)) (x : Entry) → o ≡ None → first_of (o ∷ os) x ≡ first_of os x
past None os x e = refl
past (Some y) os x e = cc

-- the first, where there is one
here : (o : Option Entry) (os : List (Option Entry)) (x y : Entry) → o ≡ Some y → first_of (o ∷ os) x ≡ y
here o os x y e = ap (λ o. first_of (o ∷ os) x) e

module _ (g : Setting) (budget w : ℕ) (s : State) where
  -- the entry where the pairs are left
  abbrev last : Entry
  last = pairs_next g budget s w [] (critical_pairs g.symbols s)

  -- and where weeding is left, and so on
  abbrev at_weed : List (Option Entry)
  at_weed = weed_next g budget w s ∷ []

  abbrev at_split : List (Option Entry)
  at_split = split_next g budget w s ∷ at_weed

  abbrev at_factor : List (Option Entry)
  at_factor = factor_next g budget w s ∷ at_split

  abbrev at_reduce : List (Option Entry)
  at_reduce = reduce_next g budget w s ∷ at_factor

  abbrev at_divide : List (Option Entry)
  at_divide = divide_next g budget w s ∷ at_reduce

  -- the entry of a closed state
  pub closed_found : is_closed g.symbols s ≡ true → next_entry g budget w s ≡ line_alone closed
  unfolding next_entry
  closed_found e = here (closed_next g s) at_divide last (line_alone closed) (ap (λ b. cond b (Some (line_alone closed)) None) e)

  -- the state is not closed
  pub after_closed : is_closed g.symbols s ≡ false → next_entry g budget w s ≡ first_of at_divide last
  unfolding next_entry
  after_closed e = past (closed_next g s) at_divide last (ap (λ b. cond b (Some (line_alone closed)) None) e)

  -- an action without a run that is found
  abbrev acted : Option (ℕ × Symbol) → (ℕ → Symbol → Entry) → Option Entry
  acted o named = elim o as (λ _. Option Entry) [ None ↦ None | Some f ↦ Some (named f.0 f.1) ]

  pub divided : (i : ℕ) (v : Symbol) → divisible g.symbols s ≡ Some (i, v) → first_of at_divide last ≡ plain g budget w s (divide i v)
  divided i v e = here (divide_next g budget w s) at_reduce last (plain g budget w s (divide i v)) (divide_found g budget w s ∙ ap (λ o. acted o (λ i v. plain g budget w s (divide i v))) e)

  pub after_divide : divisible g.symbols s ≡ None → first_of at_divide last ≡ first_of at_reduce last
  after_divide e = past (divide_next g budget w s) at_reduce last (divide_found g budget w s ∙ ap (λ o. acted o (λ i v. plain g budget w s (divide i v))) e)

  pub reduced : (e : Entry) (i : ℕ) → e ≡ first_of at_reduce last → reducible g s ≡ Some i → IsFound g budget w s (found.Run Equations i) e
  reduced e i f h = let k = reduce_found g budget w s i h in (k.member, k.is_there, f ∙ here (reduce_next g budget w s) at_factor last _ k.names)

  pub after_reduce : reducible g s ≡ None → first_of at_reduce last ≡ first_of at_factor last
  after_reduce e = past (reduce_next g budget w s) at_factor last (reduce_not_found g budget w s e)

  pub factored : (i : ℕ) (v : Symbol) → factorable g.symbols s ≡ Some (i, v) → first_of at_factor last ≡ plain g budget w s (factor i v)
  factored i v e = here (factor_next g budget w s) at_split last (plain g budget w s (factor i v)) (factor_found g budget w s ∙ ap (λ o. acted o (λ i v. plain g budget w s (factor i v))) e)

  pub after_factor : factorable g.symbols s ≡ None → first_of at_factor last ≡ first_of at_split last
  after_factor e = past (factor_next g budget w s) at_split last (factor_found g budget w s ∙ ap (λ o. acted o (λ i v. plain g budget w s (factor i v))) e)

  -- a split
  abbrev splits : Option (ℕ × Option Which) → Option Entry
  splits o = elim o as (λ _. Option Entry) [ None ↦ None | Some f ↦ Some (split_line g budget w s f.0 f.1) ]

  split : (i : ℕ) (o : Option Which) → splittable g.symbols s ≡ Some (i, o) → first_of at_split last ≡ split_line g budget w s i o
  split i o e = here (split_next g budget w s) at_weed last (split_line g budget w s i o) (split_found g budget w s ∙ ap splits e)

  same_split : (i : ℕ) (o : Option Which) → split_line g budget w s i o ≡ split_entry g budget w s i o
  same_split i None = refl
  same_split i (Some which) = refl

  pub split_is : (e : Entry) (i : ℕ) (o : Option Which) (x : Found) → e ≡ first_of at_split last → splittable g.symbols s ≡ Some (i, o) → IsFound g budget w s x (split_entry g budget w s i o) → IsFound g budget w s x e
  split_is e i o x f h k = subst (λ (e : Entry). IsFound g budget w s x e) (sym (f ∙ split i o h ∙ same_split i o)) k

  pub after_split : splittable g.symbols s ≡ None → first_of at_split last ≡ first_of at_weed last
  after_split e = past (split_next g budget w s) at_weed last (split_found g budget w s ∙ ap splits e)

  pub weeded : (e : Entry) (j : ℕ) → e ≡ first_of at_weed last → weedable g s ≡ Some j → IsFound g budget w s (found.Run Inequations j) e
  weeded e j f h = let k = weed_found g budget w s j h in (k.member, k.is_there, f ∙ here (weed_next g budget w s) [] last _ k.names)

  pub after_weed : weedable g s ≡ None → first_of at_weed last ≡ last
  after_weed e = past (weed_next g budget w s) [] last (weed_not_found g budget w s e)
