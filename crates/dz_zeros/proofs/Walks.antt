-- A point solves the root of a certified tree exactly when it solves the state at one of its ends; and these states are good.
use Rattle.std.specs.Prelude.{⊤}
use Rattle.std.proofs.Common.{◌≡◌, ◌⊎◌, inl, inr, ℕ, ◌+◌, nat_le, List, [], ◌∷◌, ◌++◌, length, refl, subst, Result, Ok, Err}
use Rattle.dz_rank.specs.Rankings.{RankingValue}
use Rattle.dz_monomials.specs.Ranked.{symbols_under}
use Rattle.dz_algebra.specs.Outcome.{◌>>=◌, needs, told_as}
use Rattle.dz_monomials.specs.Lists.{AllOf, SomeOf}
use Rattle.dz_diff.specs.Operations.{setting_of}
use Rattle.dz_diff.specs.State.{State}
use Rattle.dz_move.specs.Root.{is_closed}
use Rattle.dz_algebra.proofs.Outcomes.{bind_ok, told_ok, then_ok, ok_same}
use Rattle.dz_diff.proofs.Places.{all-append, some_left, some_right, some_parts}
use Rattle.dz_move.specs.declared.Rule.{Rule}
use Rattle.dz_move.specs.declared.Rule.TheVariants as rules
use Rattle.dz_move.specs.Moves.{perform}
use Rattle.dz_tree.specs.Chain.{chain_weight}
use Rattle.dz_move.specs.Lines.{Evidence, Line, act, closed, chain, pair, spent, spent_pairs, open_wide, open_separant, open_large, Entry}
use Rattle.dz_check.specs.Reasons.{reason_holds}
use Rattle.dz_check.specs.Walk.{End, Below, nothing_below, ended, entered, told_at_line, walk}
use Rattle.dz_zeros.proofs.Meaning.{Meaning}
use Rattle.dz_zeros.proofs.Actions.{Solution, GoodState, perform_shares, closed_has_none}

module _ {r : RankingValue} {R : Type 0} (m : Meaning r R) where
  -- the state at an end is solved
  abbrev pub SolvedEnd : End → Type 0
  SolvedEnd e = Solution m e.state

  -- the state at an end is good
  abbrev pub GoodEnd : End → Type 0
  GoodEnd e = GoodState m e.state

  -- the solutions of a state are those below it
  record Below_shares (s : State) (b : Below) : Type 0 where
    down : Solution m s → SomeOf (Solution m) b.states ⊎ SomeOf SolvedEnd b.ends
    up_states : SomeOf (Solution m) b.states → Solution m s
    up_ends : SomeOf SolvedEnd b.ends → Solution m s
    good : AllOf (GoodState m) b.states
    good_ends : AllOf GoodEnd b.ends

  is_end : (line : Line) (s : State) (w : ℕ) (b : Below) → GoodState m s → ended line s w ≡ b → Below_shares s b
  is_end line s w b good e = subst (Below_shares s) e (record { down = λ h. inr (inl h); up_states = λ h. absurd h; up_ends = only; good = tt; good_ends = (good, tt) })
    where
      only : SomeOf SolvedEnd (record { line = line; state = s } ∷ []) → Solution m s
      only (inl h) = h
      only (inr h) = absurd h

  open_shares : (budget w : ℕ) (s : State) (line : Line) (es : List Evidence) (b : Below) → GoodState m s
      → ◌>>=◌ {A = ⊤} {B = Below} {E = ℕ × Rule} (needs (reason_holds (setting_of r) budget w s line es) (0, rules.Reason)) (λ _. Ok (ended line s 0)) ≡ Ok b → Below_shares s b
  open_shares budget w s line es b good e = is_end line s 0 b good (ok_same (ended line s 0) b (then_ok (reason_holds (setting_of r) budget w s line es) _ _ b e).1)

  entered_shares : (budget w : ℕ) (s : State) (line : Line) (es : List Evidence) (b : Below) → entered (setting_of r) budget w s line es ≡ Ok b → GoodState m s → Below_shares s b
  unfolding entered
  entered_shares budget w s (act action) es b e good =
      let a1 = bind_ok (told_as told_at_line (perform (setting_of r) s action)) _ b e in
      let d = a1.0 in
      let a2 = then_ok (nat_le (w + d.weight) budget) _ _ b a1.2 in
      let k = perform_shares m s action d (told_ok told_at_line (perform (setting_of r) s action) d a1.1) good in
      subst (Below_shares s) (ok_same (record { states = d.after; ends = []; weight = d.weight }) b a2.1) (record { down = λ h. inl (k.down h); up_states = k.up; up_ends = λ h. absurd h; good = k.good; good_ends = tt })
  entered_shares budget w s closed es b e good =
      let a = then_ok (is_closed (symbols_under r) s) _ _ b e in
      subst (Below_shares s) (ok_same nothing_below b a.1) (record { down = λ h. absurd (closed_has_none m s a.0 good h); up_states = λ h. absurd h; up_ends = λ h. absurd h; good = tt; good_ends = tt })
  entered_shares budget w s chain es b e good =
      let a = bind_ok (chain_weight (setting_of r) s (λ n. nat_le (w + n) budget) es) _ b e in
      is_end chain s a.0 b good (ok_same (ended chain s a.0) b a.2)
  entered_shares budget w s (pair x) es b e good = cc
  entered_shares budget w s (spent action) es b e good = open_shares budget w s (spent action) es b good e
  entered_shares budget w s spent_pairs es b e good = open_shares budget w s spent_pairs es b good e
  entered_shares budget w s (open_wide action) es b e good = open_shares budget w s (open_wide action) es b good e
  entered_shares budget w s (open_separant i) es b e good = open_shares budget w s (open_separant i) es b good e
  entered_shares budget w s (open_large limit action) es b e good = open_shares budget w s (open_large limit action) es b good e

  -- ---- the induction over the lines
  abbrev Same : List State → List End → Type 0
  Same pending ends = (SomeOf (Solution m) pending → SomeOf SolvedEnd ends) × (SomeOf SolvedEnd ends → SomeOf (Solution m) pending) × AllOf GoodEnd ends

  joined : (s : State) (pending : List State) (b : Below) (ends : List End) → Below_shares s b → Same (b.states ++ pending) ends → Same (s ∷ pending) (b.ends ++ ends)
  joined s pending b ends k h = (down, up, all-append GoodEnd b.ends ends k.good_ends h.2)
    where
      down : SomeOf (Solution m) (s ∷ pending) → SomeOf SolvedEnd (b.ends ++ ends)
      down (inl x) = elim (k.down x) [
        | inl y ↦ some_right SolvedEnd b.ends ends (h.0 (some_left (Solution m) b.states pending y))
        | inr y ↦ some_left SolvedEnd b.ends ends y
      ]
      down (inr x) = some_right SolvedEnd b.ends ends (h.0 (some_right (Solution m) b.states pending x))

      up : SomeOf SolvedEnd (b.ends ++ ends) → SomeOf (Solution m) (s ∷ pending)
      up x = elim (some_parts SolvedEnd b.ends ends x) [
        | inl y ↦ inl (k.up_ends y)
        | inr y ↦ elim (some_parts (Solution m) b.states pending (h.1 y)) [ inl z ↦ inl (k.up_states z) | inr z ↦ inr z ]
      ]

  -- the solutions of the pending states are those of the ends below them, and the states at these are good
  pub walk_same : (budget w place : ℕ) (pending : List State) (es : List Entry) (ends : List End) → walk (setting_of r) budget w place pending es ≡ Ok ends → AllOf (GoodState m) pending → Same pending ends
  walk_same budget w place pending [] ends e good = without_entries pending e
    where
      without_entries : (pending : List State) → walk (setting_of r) budget w place pending [] ≡ Ok ends → Same pending ends
      without_entries [] e = let f : [] ≡ ends = ok_same [] ends e in subst (Same []) f ((λ h. absurd h), (λ h. absurd h), tt)
      without_entries (s ∷ pending) e = cc
  walk_same budget w place [] (x ∷ es) ends e good = cc
  walk_same budget w place (s ∷ pending) (x ∷ es) ends e good =
      by_entry (entered (setting_of r) budget w s x.line x.evidence) refl (λ b ends f h. walk_same budget (w + b.weight) (place + 1 + length x.evidence) (b.states ++ pending) es ends f h) e
    where
      by_entry : (q : Result Below (ℕ × Rule)) → entered (setting_of r) budget w s x.line x.evidence ≡ q
          → ((b : Below) (ends : List End) → walk (setting_of r) budget (w + b.weight) (place + 1 + length x.evidence) (b.states ++ pending) es ≡ Ok ends → AllOf (GoodState m) (b.states ++ pending) → Same (b.states ++ pending) ends)
          → (elim q as (λ _. Result (List End) (ℕ × Rule)) [
            | Err r ↦ Err (place + r.0, r.1)
            | Ok b ↦ walk (setting_of r) budget (w + b.weight) (place + 1 + length x.evidence) (b.states ++ pending) es >>= (λ ends. Ok (b.ends ++ ends))
          ]) ≡ Ok ends → Same (s ∷ pending) ends
      by_entry (Err r) f ih e = cc
      by_entry (Ok b) f ih e =
          let k = entered_shares budget w s x.line x.evidence b f good.0 in
          let a = bind_ok (walk (setting_of r) budget (w + b.weight) (place + 1 + length x.evidence) (b.states ++ pending) es) _ ends e in
          let h = ih b a.0 a.1 (all-append (GoodState m) b.states pending k.good good.1) in
          subst (Same (s ∷ pending)) (ok_same (b.ends ++ a.0) ends a.2) (joined s pending b a.0 k h)
