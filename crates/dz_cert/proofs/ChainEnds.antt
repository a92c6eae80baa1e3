-- The ends of a certified tree: their states are over the ranking, and as many of them are chains as lines are.
use Rattle.std.specs.Prelude.{⊤}
use Rattle.std.proofs.Common.{◌≡◌, ℕ, suc, ◌+◌, ◌≤◌, nat_le, Bool, true, false, if◌then◌else◌, List, [], ◌∷◌, ◌++◌, length, filter, None, Result, Ok, Err, IsOk, refl, ap, subst, ◌∙◌, arith}
use Rattle.std.proofs.lemmas.List.{length-append, length-map}
use Rattle.std.proofs.lemmas.List.Elements.{filter-append}
use Rattle.dz_monomials.specs.Lists.{AllOf}
use Rattle.dz_diff.specs.Operations.{setting_of}
use Rattle.dz_algebra.specs.Outcome.{◌>>=◌, needs, told_as}
use Rattle.dz_diff.specs.State.{State}
use Rattle.dz_algebra.proofs.Outcomes.{bind_ok, ok_same, then_ok, told_ok}
use Rattle.dz_rank.specs.Rankings.{RankingValue}
use Rattle.dz_monomials.specs.Ranked.{symbols_under}
use Rattle.dz_check.specs.Certified.{IsCertified}
use Rattle.dz_tree.specs.Chain.{chain_weight}
use Rattle.dz_move.specs.Lines.{Evidence, Line, act, closed, chain, pair, spent, spent_pairs, open_wide, open_separant, open_large, Entry, entries_of, is_chain_line}
use Rattle.dz_move.specs.Moves.{perform}
use Rattle.dz_check.specs.Reasons.{reason_holds}
use Rattle.dz_move.specs.Root.{System, is_closed, root_of}
use Rattle.dz_move.specs.Standing.{IsStateOver, MayStand}
use Rattle.dz_move.specs.Systems.{system_limit}
use Rattle.dz_tree.specs.Trees.{Tree}
use Rattle.dz_check.specs.Walk.{Below, End, chains_of, ended, ends_in, ends_of, entered, is_chain_end, nothing_below, told_at_line, walk}
use Rattle.dz_move.specs.declared.Rule.{Rule}
use Rattle.dz_move.specs.declared.Rule.TheVariants as rules
use Rattle.dz_check.proofs.Certifying.{answer_certified}
use Rattle.dz_move.proofs.StateFacts.{state_laws}
use Rattle.dz_cert.specs.Documents.{chain_count}

-- ---- lists
-- what holds of all of two lists
all-append : {A : Type 0} (P : A → Type 0) (xs ys : List A) → AllOf P xs → AllOf P ys → AllOf P (xs ++ ys)
all-append P [] ys f g = g
all-append P (x ∷ xs) ys f g = (f.0, all-append P xs ys f.1 g)

-- ---- lines and entries
-- one for a chain, and zero for another line
abbrev chain_number : Line → ℕ
chain_number line = if is_chain_line line then 1 else 0

-- how many entries are chains
abbrev chain_entries : List Entry → ℕ
chain_entries [] = 0
chain_entries (e ∷ es) = chain_number e.line + chain_entries es

-- nothing before a number
start : (n : ℕ) → 0 + n ≡ n
start n = omega arith

-- one before a number
after_one : (m n : ℕ) → m ≡ n → 1 + m ≡ suc n
after_one m n e = omega arith

-- as many entries are chains as lines
entries_counted : (lines : List Line) → chain_entries (entries_of lines) ≡ chain_count lines
entries_counted [] = refl
entries_counted (act action ∷ lines) = start (chain_entries (entries_of lines)) ∙ entries_counted lines
entries_counted (closed ∷ lines) = start (chain_entries (entries_of lines)) ∙ entries_counted lines
entries_counted (chain ∷ lines) = after_one (chain_entries (entries_of lines)) (chain_count lines) (entries_counted lines)
entries_counted (pair e ∷ lines) = entries_counted lines
entries_counted (spent action ∷ lines) = start (chain_entries (entries_of lines)) ∙ entries_counted lines
entries_counted (spent_pairs ∷ lines) = start (chain_entries (entries_of lines)) ∙ entries_counted lines
entries_counted (open_wide action ∷ lines) = start (chain_entries (entries_of lines)) ∙ entries_counted lines
entries_counted (open_separant i ∷ lines) = start (chain_entries (entries_of lines)) ∙ entries_counted lines
entries_counted (open_large limit action ∷ lines) = start (chain_entries (entries_of lines)) ∙ entries_counted lines

module _ (r : RankingValue) (few : r.signature.independents ≤ 4) (budget : ℕ) where
  -- ---- one entry
  -- what an entry leaves below a state over the ranking: states and ends over it, and an end that is a chain exactly at a chain
  record IsBelow (line : Line) (b : Below) : Type 0 where
    pub states : AllOf (IsStateOver r) b.states
    pub ends : AllOf (λ (e : End). IsStateOver r e.state) b.ends
    pub count : length (filter is_chain_end b.ends) ≡ chain_number line

  -- an open end
  open_below : (line : Line) (s : State) (test : Bool) (b : Below) → IsStateOver r s → is_chain_line line ≡ false
      → ◌>>=◌ {A = ⊤} {B = Below} {E = ℕ × Rule} (needs test (0, rules.Reason)) (λ _. Ok (ended line s 0)) ≡ Ok b → IsBelow line b
  open_below line s test b over other e =
      subst (IsBelow line) (ok_same (ended line s 0) b (then_ok test (0, rules.Reason) (λ _. Ok (ended line s 0)) b e).1)
      (record { states = tt; ends = (over, tt); count = rw other refl })

  -- an entry that is entered
  entered_below : (w : ℕ) (s : State) (line : Line) (es : List Evidence) (b : Below) → IsStateOver r s → entered (setting_of r) budget w s line es ≡ Ok b → IsBelow line b
  unfolding entered
  entered_below w s (act action) es b over e =
      let a1 = bind_ok (told_as told_at_line (perform (setting_of r) s action)) _ b e in
      let d = a1.0 in
      let a2 = then_ok (nat_le (w + d.weight) budget) _ _ b a1.2 in
      subst (IsBelow (act action)) (ok_same (record { states = d.after; ends = []; weight = d.weight }) b a2.1)
      (record { states = (state_laws r few).kept s action d over (told_ok told_at_line (perform (setting_of r) s action) d a1.1); ends = tt; count = refl })
  entered_below w s closed es b over e =
      subst (IsBelow closed) (ok_same nothing_below b (then_ok (is_closed (symbols_under r) s) (0, rules.Closed) (λ _. Ok nothing_below) b e).1) (record { states = tt; ends = tt; count = refl })
  entered_below w s chain es b over e =
      let a = bind_ok (chain_weight (setting_of r) s (λ n. nat_le (w + n) budget) es) _ b e in
      subst (IsBelow chain) (ok_same (ended chain s a.0) b a.2) (record { states = tt; ends = (over, tt); count = refl })
  entered_below w s (pair x) es b over e = absurd cc
  entered_below w s (spent action) es b over e = open_below (spent action) s (reason_holds (setting_of r) budget w s (spent action) es) b over refl e
  entered_below w s spent_pairs es b over e = open_below spent_pairs s (reason_holds (setting_of r) budget w s spent_pairs es) b over refl e
  entered_below w s (open_wide action) es b over e = open_below (open_wide action) s (reason_holds (setting_of r) budget w s (open_wide action) es) b over refl e
  entered_below w s (open_separant i) es b over e = open_below (open_separant i) s (reason_holds (setting_of r) budget w s (open_separant i) es) b over refl e
  entered_below w s (open_large limit action) es b over e = open_below (open_large limit action) s (reason_holds (setting_of r) budget w s (open_large limit action) es) b over refl e

  -- ---- the walk
  -- ends over the ranking, of which as many are chains as entries
  record AreEnds (es : List Entry) (ends : List End) : Type 0 where
    pub over : AllOf (λ (e : End). IsStateOver r e.state) ends
    pub count : length (filter is_chain_end ends) ≡ chain_entries es

  -- the ends of one entry before others
  ends_more : (x : Entry) (es : List Entry) (b : Below) (ends : List End) → IsBelow x.line b → AreEnds es ends → AreEnds (x ∷ es) (b.ends ++ ends)
  ends_more x es b ends below are = record {
    over = all-append (λ (e : End). IsStateOver r e.state) b.ends ends below.ends are.over;
    count = ap length (filter-append is_chain_end b.ends ends) ∙ length-append (filter is_chain_end b.ends) (filter is_chain_end ends) ∙ ap (λ n. n + length (filter is_chain_end ends)) below.count ∙ ap (λ n. chain_number x.line + n) are.count;
  }

  -- the ends below pending states over the ranking
  walk_ends : (w place : ℕ) (pending : List State) (es : List Entry) (ends : List End) → AllOf (IsStateOver r) pending → walk (setting_of r) budget w place pending es ≡ Ok ends → AreEnds es ends
  walk_ends w place [] [] ends over e = subst (AreEnds []) (ok_same [] ends e) (record { over = tt; count = refl })
  walk_ends w place [] (x ∷ es) ends over e = absurd cc
  walk_ends w place (s ∷ pending) [] ends over e = absurd cc
  walk_ends w place (s ∷ pending) (x ∷ es) ends over e =
      by_entry (entered (setting_of r) budget w s x.line x.evidence) refl
      (λ b ends all f. walk_ends (w + b.weight) (place + 1 + length x.evidence) (b.states ++ pending) es ends all f) e
    where
      by_entry : (q : Result Below (ℕ × Rule)) → entered (setting_of r) budget w s x.line x.evidence ≡ q
          → ((b : Below) (ends : List End) → AllOf (IsStateOver r) (b.states ++ pending) → walk (setting_of r) budget (w + b.weight) (place + 1 + length x.evidence) (b.states ++ pending) es ≡ Ok ends → AreEnds es ends)
          → (elim q as (λ _. Result (List End) (ℕ × Rule)) [
            | Err k ↦ Err (place + k.0, k.1)
            | Ok b ↦ walk (setting_of r) budget (w + b.weight) (place + 1 + length x.evidence) (b.states ++ pending) es >>= (λ ends. Ok (b.ends ++ ends))
          ]) ≡ Ok ends → AreEnds (x ∷ es) ends
      by_entry (Err k) f again e = absurd cc
      by_entry (Ok b) f again e =
          let below = entered_below w s x.line x.evidence b over.0 f in
          let a = bind_ok (walk (setting_of r) budget (w + b.weight) (place + 1 + length x.evidence) (b.states ++ pending) es) _ ends e in
          subst (AreEnds (x ∷ es)) (ok_same (b.ends ++ a.0) ends a.2) (ends_more x es b a.0 below (again b a.0 (all-append (IsStateOver r) b.states pending below.states over.1) a.1))

-- ---- a certified tree
-- the ends that are chains have their states over the ranking
chain_states_over : (r : RankingValue) (ends : List End) → AllOf (λ (e : End). IsStateOver r e.state) ends → AllOf (IsStateOver r) (chains_of ends)
chain_states_over r [] all = tt
chain_states_over r (e ∷ ends) all = by_line (is_chain_end e) refl (chain_states_over r ends all.1)
  where
    by_line : (is : Bool) → is_chain_end e ≡ is → AllOf (IsStateOver r) (chains_of ends) → AllOf (IsStateOver r) (chains_of (e ∷ ends))
    by_line true f more = rw f (all.0, more)
    by_line false f more = rw f more

-- the states of the chains of a tree are over the ranking, and as many as lines are chains
pub record AreChains (r : RankingValue) (tree : Tree) (states : List State) : Type 0 where
  pub over : AllOf (IsStateOver r) states
  pub count : length states ≡ chain_count tree.lines

-- by what the walk answers
chains_by : (r : RankingValue) (few : r.signature.independents ≤ 4) (tree : Tree) (q : Result (List End) (ℕ × Rule)) → IsOk q → ((ends : List End) → q ≡ Ok ends → AreEnds r few tree.budget (entries_of tree.lines) ends) → AreChains r tree (chains_of (ends_in q))
chains_by r few tree (Ok ends) ok f =
    let are = f ends refl in
    record { over = chain_states_over r ends are.over; count = length-map (filter is_chain_end ends) (λ e. e.state) ∙ are.count ∙ entries_counted tree.lines }
chains_by r few tree (Err k) ok f = absurd cc

-- the chains of a certified tree
pub certified_chains : (r : RankingValue) (system : System) (tree : Tree) → r.signature.independents ≤ 4 → MayStand r system.equations system.inequations → system_limit system ≡ None
    → IsCertified (setting_of r) system tree → AreChains r tree (chains_of (ends_in (ends_of (setting_of r) system tree)))
unfolding ends_of
certified_chains r system tree few stand within certified =
    chains_by r few tree (ends_of (setting_of r) system tree) (answer_certified (setting_of r) system tree certified)
    (λ ends e. walk_ends r few tree.budget 0 1 (root_of (symbols_under r) system ∷ []) (entries_of tree.lines) ends ((state_laws r few).root system stand within, tt) e)
