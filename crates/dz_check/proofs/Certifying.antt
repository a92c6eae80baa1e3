-- The walk over a tree comes to its end exactly where each entry holds.
use Rattle.std.specs.Prelude.{⊤}
use Rattle.std.proofs.Common.{◌≡◌, ◌↔◌, ℕ, ◌+◌, ◌≤◌, nat_le, Bool, true, false, cond, List, [], ◌∷◌, ◌++◌, length, refl, sym, ap, ◌∙◌, subst, Result, Ok, Err, IsOk}
use Rattle.std.proofs.lemmas.Bool.{leb-true, le-leb}
use Rattle.dz_algebra.specs.Outcome.{◌>>=◌, needs, told_as}
use Rattle.dz_diff.specs.Operations.{Setting}
use Rattle.dz_diff.specs.State.{State}
use Rattle.dz_move.specs.Root.{System, is_closed, root_of}
use Rattle.dz_algebra.proofs.Outcomes.{bind_ok, told_ok, then_ok, ok_same}
use Rattle.dz_move.specs.declared.Rule.{Rule}
use Rattle.dz_move.specs.declared.Rule.TheVariants as rules
use Rattle.dz_move.specs.Moves.{perform}
use Rattle.dz_tree.specs.Chain.{chain_weight}
use Rattle.dz_move.specs.Lines.{Evidence, Line, act, closed, chain, pair, spent, spent_pairs, open_wide, open_separant, open_large, Entry, entries_of}
use Rattle.dz_check.specs.Reasons.{reason_holds}
use Rattle.dz_tree.specs.Trees.{Tree}
use Rattle.dz_check.specs.Walk.{End, Below, nothing_below, ended, told_at_line, entered, walk, ends_of, ends_in, all_chains, Verdict, accepted, partial, rejected, judged, verdict_of}
use Rattle.dz_check.specs.Certified.{EndsBy, HoldsAt, IsCertifiedFrom, IsCertified}
use Rattle.dz_tree.specs.Forms.{IsTree}

module _ (g : Setting) (budget : ℕ) where
  -- ---- an entry that is entered holds
  by_end : (test : Bool) (r : ℕ × Rule) (c b : Below) → ◌>>=◌ {A = ⊤} {B = Below} {E = ℕ × Rule} (needs test r) (λ _. Ok c) ≡ Ok b → c.states ≡ [] → c.weight ≡ 0 → EndsBy (test ≡ true) b.states b.weight
  by_end test r c b e none free =
      let a = then_ok test r (λ _. Ok c) b e in
      let same = ok_same c b a.1 in
      record { holds = a.0; none = ap (λ x. x.states) (sym same) ∙ none; free = ap (λ x. x.weight) (sym same) ∙ free }

  pub entered_holds : (w : ℕ) (s : State) (line : Line) (es : List Evidence) (b : Below) → entered g budget w s line es ≡ Ok b → HoldsAt g budget w s line es b.states b.weight
  unfolding entered
  entered_holds w s (act action) es b e =
      let a1 = bind_ok (told_as told_at_line (perform g s action)) _ b e in
      let d = a1.0 in
      let a2 = then_ok (nat_le (w + d.weight) budget) _ _ b a1.2 in
      subst (λ (x : Below). (perform g s action ≡ Ok (record { after = x.states; weight = x.weight })) × (w + x.weight ≤ budget)) (ok_same (record { states = d.after; ends = []; weight = d.weight }) b a2.1)
      (told_ok told_at_line (perform g s action) d a1.1, leb-true (w + d.weight) budget a2.0)
  entered_holds w s closed es b e = by_end (is_closed g.symbols s) (0, rules.Closed) nothing_below b e refl refl
  entered_holds w s chain es b e =
      let a = bind_ok (chain_weight g s (λ n. nat_le (w + n) budget) es) _ b e in
      subst (λ (x : Below). (chain_weight g s (λ n. nat_le (w + n) budget) es ≡ Ok x.weight) × (x.states ≡ [])) (ok_same (ended chain s a.0) b a.2) (a.1, refl)
  entered_holds w s (pair x) es b e = cc
  entered_holds w s (spent action) es b e = by_end (reason_holds g budget w s (spent action) es) (0, rules.Reason) (ended (spent action) s 0) b e refl refl
  entered_holds w s spent_pairs es b e = by_end (reason_holds g budget w s spent_pairs es) (0, rules.Reason) (ended spent_pairs s 0) b e refl refl
  entered_holds w s (open_wide action) es b e = by_end (reason_holds g budget w s (open_wide action) es) (0, rules.Reason) (ended (open_wide action) s 0) b e refl refl
  entered_holds w s (open_separant i) es b e = by_end (reason_holds g budget w s (open_separant i) es) (0, rules.Reason) (ended (open_separant i) s 0) b e refl refl
  entered_holds w s (open_large limit action) es b e = by_end (reason_holds g budget w s (open_large limit action) es) (0, rules.Reason) (ended (open_large limit action) s 0) b e refl refl

  -- ---- an entry that holds is entered
  -- it is, with these states below and this weight
  pub record IsEntered (w : ℕ) (s : State) (line : Line) (es : List Evidence) (after : List State) (k : ℕ) : Type 0 where
    pub below : Below
    pub is : entered g budget w s line es ≡ Ok below
    pub states_are : below.states ≡ after
    pub weight_is : below.weight ≡ k

  end_entered : (test : Bool) (r : ℕ × Rule) (c : Below) → test ≡ true → ◌>>=◌ {A = ⊤} {B = Below} {E = ℕ × Rule} (needs test r) (λ _. Ok c) ≡ Ok c
  end_entered true r c e = refl
  end_entered false r c e = cc

  holds_entered : (w : ℕ) (s : State) (line : Line) (es : List Evidence) (after : List State) (k : ℕ) → HoldsAt g budget w s line es after k → IsEntered w s line es after k
  unfolding entered
  holds_entered w s (act action) es after k h = record {
    below = record { states = after; ends = []; weight = k };
    is = ap (λ q. told_as told_at_line q >>= (λ d. needs (nat_le (w + d.weight) budget) (0, rules.Weight) >>= (λ _. Ok (record { states = d.after; ends = []; weight = d.weight })))) h.0
        ∙ end_entered (nat_le (w + k) budget) (0, rules.Weight) (record { states = after; ends = []; weight = k }) (le-leb (w + k) budget h.1);
    states_are = refl;
    weight_is = refl;
  }
  holds_entered w s closed es after k h = record { below = nothing_below; is = end_entered (is_closed g.symbols s) (0, rules.Closed) nothing_below h.holds; states_are = sym h.none; weight_is = sym h.free }
  holds_entered w s chain es after k h = record { below = ended chain s k; is = ap (λ q. q >>= (λ n. Ok (ended chain s n))) h.0; states_are = sym h.1; weight_is = refl }
  holds_entered w s (pair x) es after k h = absurd h
  holds_entered w s (spent action) es after k h = record { below = ended (spent action) s 0; is = end_entered (reason_holds g budget w s (spent action) es) (0, rules.Reason) (ended (spent action) s 0) h.holds; states_are = sym h.none; weight_is = sym h.free }
  holds_entered w s spent_pairs es after k h = record { below = ended spent_pairs s 0; is = end_entered (reason_holds g budget w s spent_pairs es) (0, rules.Reason) (ended spent_pairs s 0) h.holds; states_are = sym h.none; weight_is = sym h.free }
  holds_entered w s (open_wide action) es after k h = record { below = ended (open_wide action) s 0; is = end_entered (reason_holds g budget w s (open_wide action) es) (0, rules.Reason) (ended (open_wide action) s 0) h.holds; states_are = sym h.none; weight_is = sym h.free }
  holds_entered w s (open_separant i) es after k h = record { below = ended (open_separant i) s 0; is = end_entered (reason_holds g budget w s (open_separant i) es) (0, rules.Reason) (ended (open_separant i) s 0) h.holds; states_are = sym h.none; weight_is = sym h.free }
  holds_entered w s (open_large limit action) es after k h = record { below = ended (open_large limit action) s 0; is = end_entered (reason_holds g budget w s (open_large limit action) es) (0, rules.Reason) (ended (open_large limit action) s 0) h.holds; states_are = sym h.none; weight_is = sym h.free }

  -- ---- the walk
  certified_walk : (w place : ℕ) (pending : List State) (es : List Entry) (ends : List End) → walk g budget w place pending es ≡ Ok ends → IsCertifiedFrom g budget w pending es
  certified_walk w place [] [] ends e = tt
  certified_walk w place [] (x ∷ es) ends e = cc
  certified_walk w place (s ∷ pending) [] ends e = cc
  certified_walk w place (s ∷ pending) (x ∷ es) ends e =
      by_entry (entered g budget w s x.line x.evidence) refl (λ b ends f. certified_walk (w + b.weight) (place + 1 + length x.evidence) (b.states ++ pending) es ends f) e
    where
      by_entry : (q : Result Below (ℕ × Rule)) → entered g budget w s x.line x.evidence ≡ q
          → ((b : Below) (ends : List End) → walk g budget (w + b.weight) (place + 1 + length x.evidence) (b.states ++ pending) es ≡ Ok ends → IsCertifiedFrom g budget (w + b.weight) (b.states ++ pending) es)
          → (elim q as (λ _. Result (List End) (ℕ × Rule)) [
            | Err r ↦ Err (place + r.0, r.1)
            | Ok b ↦ walk g budget (w + b.weight) (place + 1 + length x.evidence) (b.states ++ pending) es >>= (λ ends. Ok (b.ends ++ ends))
          ]) ≡ Ok ends → IsCertifiedFrom g budget w (s ∷ pending) (x ∷ es)
      by_entry (Err r) f ih e = cc
      by_entry (Ok b) f ih e =
          let a = bind_ok (walk g budget (w + b.weight) (place + 1 + length x.evidence) (b.states ++ pending) es) _ ends e in
          (b.states, b.weight, entered_holds w s x.line x.evidence b f, ih b a.0 a.1)

  walk_certified : (w place : ℕ) (pending : List State) (es : List Entry) → IsCertifiedFrom g budget w pending es → IsOk (walk g budget w place pending es)
  walk_certified w place [] [] h = refl
  walk_certified w place [] (x ∷ es) h = absurd h
  walk_certified w place (s ∷ pending) [] h = absurd h
  walk_certified w place (s ∷ pending) (x ∷ es) (after, k, holds, more) =
      let q = holds_entered w s x.line x.evidence after k holds in
      let more' : IsCertifiedFrom g budget (w + (q.below).weight) ((q.below).states ++ pending) es =
      subst (λ n. IsCertifiedFrom g budget (w + n) ((q.below).states ++ pending) es) (sym q.weight_is) (subst (λ (ss : List State). IsCertifiedFrom g budget (w + k) (ss ++ pending) es) (sym q.states_are) more) in
      by_entry (entered g budget w s x.line x.evidence) refl q.below q.is (walk_certified (w + (q.below).weight) (place + 1 + length x.evidence) ((q.below).states ++ pending) es more')
    where
      ok_after : (q : Result (List End) (ℕ × Rule)) (b : Below) → IsOk q → IsOk (◌>>=◌ {A = List End} {B = List End} {E = ℕ × Rule} q (λ ends. Ok (b.ends ++ ends)))
      ok_after (Ok ends) b h = refl
      ok_after (Err r) b h = cc

      by_entry : (q : Result Below (ℕ × Rule)) → entered g budget w s x.line x.evidence ≡ q → (b : Below) → q ≡ Ok b
          → IsOk (walk g budget (w + b.weight) (place + 1 + length x.evidence) (b.states ++ pending) es)
          → IsOk (elim q as (λ _. Result (List End) (ℕ × Rule)) [
            | Err r ↦ Err (place + r.0, r.1)
            | Ok b ↦ walk g budget (w + b.weight) (place + 1 + length x.evidence) (b.states ++ pending) es >>= (λ ends. Ok (b.ends ++ ends))
          ])
      by_entry (Err r) f b i h = cc
      by_entry (Ok c) f b i h =
          let same : b ≡ c = cc in
          ok_after (walk g budget (w + c.weight) (place + 1 + length x.evidence) (c.states ++ pending) es) c (subst (λ (y : Below). IsOk (walk g budget (w + y.weight) (place + 1 + length x.evidence) (y.states ++ pending) es)) same h)

-- ---- the verdict
module _ (g : Setting) (system : System) (tree : Tree) where
  certified_answer : IsTree tree → (q : Result (List End) (ℕ × Rule)) → ends_of g system tree ≡ q → IsOk q → IsCertified g system tree
  unfolding ends_of
  certified_answer formed (Ok ends) e ok = record { formed = formed; holds = certified_walk g tree.budget 0 1 (root_of g.symbols system ∷ []) (entries_of tree.lines) ends e }
  certified_answer formed (Err r) e ok = cc

  -- the walk over a certified tree comes to its end
  pub answer_certified : IsCertified g system tree → IsOk (ends_of g system tree)
  unfolding ends_of
  answer_certified h = walk_certified g tree.budget 0 1 (root_of g.symbols system ∷ []) (entries_of tree.lines) h.holds

  -- and only over such a tree
  pub certified_is : IsTree tree → IsOk (ends_of g system tree) ↔ IsCertified g system tree
  certified_is formed = (certified_answer formed (ends_of g system tree) refl, answer_certified)

  by_verdict : IsTree tree → (done : Bool) (v : Verdict) → ((ends : List End) → (cond (all_chains ends) accepted partial ≡ v) ↔ (all_chains ends ≡ done)) → ((n : ℕ) (r : Rule) → rejected n r ≡ v → ⊥)
      → (q : Result (List End) (ℕ × Rule)) → ends_of g system tree ≡ q → (judged q ≡ v) ↔ (IsCertified g system tree × (all_chains (ends_in q) ≡ done))
  by_verdict formed done v same apart (Ok ends) e = ((λ h. (certified_answer formed (Ok ends) e refl, (same ends).0 h)), (λ h. (same ends).1 h.1))
  by_verdict formed done v same apart (Err r) e = ((λ h. absurd (apart r.0 r.1 h)), (λ h. absurd (not_ok (ends_of g system tree) e (answer_certified h.0))))
    where
      not_ok : (q : Result (List End) (ℕ × Rule)) → q ≡ Err r → IsOk q → ⊥
      not_ok (Ok ends) f ok = cc
      not_ok (Err k) f ok = cc

  all_accepted : (b : Bool) → (cond b accepted partial ≡ accepted) ↔ (b ≡ true)
  all_accepted true = ((λ h. refl), (λ h. refl))
  all_accepted false = ((λ h. cc), (λ h. cc))

  some_partial : (b : Bool) → (cond b accepted partial ≡ partial) ↔ (b ≡ false)
  some_partial true = ((λ h. cc), (λ h. cc))
  some_partial false = ((λ h. refl), (λ h. refl))

  -- accepted exactly where certified and complete
  pub accepted_is : IsTree tree → (verdict_of g system tree ≡ accepted) ↔ (IsCertified g system tree × (all_chains (ends_in (ends_of g system tree)) ≡ true))
  accepted_is formed = by_verdict formed true accepted (λ ends. all_accepted (all_chains ends)) (λ n r h. cc) (ends_of g system tree) refl

  -- partial exactly where certified and not complete
  pub partial_is : IsTree tree → (verdict_of g system tree ≡ partial) ↔ (IsCertified g system tree × (all_chains (ends_in (ends_of g system tree)) ≡ false))
  partial_is formed = by_verdict formed false partial (λ ends. some_partial (all_chains ends)) (λ n r h. cc) (ends_of g system tree) refl
