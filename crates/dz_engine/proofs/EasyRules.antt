-- The lines of the rules without runs hold: closed, divide, factor, split.
use Rattle.std.specs.Prelude.{⊤}
use Rattle.std.proofs.Common.{◌≡◌, ℕ, zero, suc, ◌+◌, ◌==◌, nat_le, Bool, true, false, not, ◌&&◌, ◌||◌, cond, List, [], ◌∷◌, ◌++◌, length, refl, sym, ap, ◌∙◌, subst, Result, Ok, Err, Option, Some, None, is_ok, ◌⊎◌, inl, inr, arith}
use Rattle.std.proofs.lemmas.Bool.{eq-eqb}
use Rattle.dz_algebra.specs.declared.Limit.{Limit}
use Rattle.dz_algebra.specs.declared.Limit.TheVariants as limits
use Rattle.dz_algebra.specs.Monomial.{Monomial, MonomialIn}
use Rattle.dz_algebra.specs.Polynomial.{Polynomial, PolynomialIn, symbol_polynomial}
use Rattle.dz_algebra.specs.Norm.{norm}
use Rattle.dz_algebra.specs.Parts.{is_ground, leader}
use Rattle.dz_algebra.specs.Size.{Refusal, wide, large, separant_answer}
use Rattle.dz_algebra.specs.Symbols.{Symbols}
use Rattle.dz_rank.specs.declared.symbols.Symbol.{Symbol}
use Rattle.dz_algebra.specs.Outcome.{◌>>=◌, needs, given, numbered, told_as}
use Rattle.dz_monomials.specs.Lists.{AllOf}
use Rattle.dz_diff.specs.Tests.{is_member, same}
use Rattle.dz_diff.specs.Operations.{Setting}
use Rattle.dz_diff.specs.State.{State, at_place, put_equation, limit_passed}
use Rattle.dz_move.specs.Root.{is_closed}
use Rattle.dz_algebra.proofs.Outcomes.{both}
use Rattle.dz_step.specs.declared.Which.{Which}
use Rattle.dz_step.specs.declared.Which.TheVariants.{Initial, Separant}
use Rattle.dz_step.specs.Step.{multiplier_answer}
use Rattle.dz_step.specs.FullRun.{derivatives_of, or_else}
use Rattle.dz_step.proofs.NextSteps.{in_derivatives}
use Rattle.dz_move.specs.declared.Rule.{Rule}
use Rattle.dz_move.specs.declared.Rule.TheVariants as rules
use Rattle.dz_move.specs.Fault.{Fault, refusal, rule}
use Rattle.dz_monomials.specs.PowerDivision.{is_divided, quotient_by}
use Rattle.dz_move.specs.Moves.{Action, divide, split, factor, steps_of, Done, within, settled, with_equations, forked, divided_at, split_at, factored, perform}
use Rattle.dz_tree.specs.Chain.{passes}
use Rattle.dz_move.specs.Lines.{act, closed, spent, open_separant, Entry}
use Rattle.dz_check.specs.Reasons.{limit_number, is_wide, is_large_by, refused_after, separant_refused, reason_holds}
use Rattle.dz_check.specs.Walk.{Below, entered}
use Rattle.dz_engine.specs.Order.{line_alone, open_line, plain, first_place, first_symbol, symbols_of, closed_next, divide_next, factor_next, split_on, split_next}
use Rattle.dz_engine.specs.Resting.{EntryHolds}
use Rattle.dz_engine.proofs.WorkedTrees.{plain_holds}

-- a separant of an equation is refused only if it is wide
abbrev pub SeparantsAreWide : Setting → State → Type 0
SeparantsAreWide g s =
    (i : ℕ) (p : Polynomial Symbol) (l : Symbol) (r : Refusal) → at_place i s.equations ≡ Some p → leader g.symbols p ≡ Some l → separant_answer g.symbols l p ≡ Err r → r ≡ wide

-- ---- refusals that an open end may tell
-- an operation is refused or a state passes a limit, and no other rule fails
abbrev pub IsRefusal : Fault → Type 0
IsRefusal (refusal r) = ⊤
IsRefusal (rule r) = ⊥

-- there is an answer, or a refusal after n steps
abbrev pub Answers : {A : Type 0} → ℕ → Result A (ℕ × Fault) → Type 0
Answers n (Ok x) = ⊤
Answers n (Err e) = (e.0 ≡ n) × IsRefusal e.1

-- states that are settled are an answer, or a limit refuses them
pub answers_settled : (k : ℕ) (ss : List State) (w : ℕ) → Answers k (settled k ss w)
answers_settled k ss w = by_limit (limit_passed ss)
  where
    by_limit : (o : Option Limit) → Answers {A = Done} k (numbered k (within o) >>= (λ _. Ok (record { after = ss; weight = w })))
    by_limit None = tt
    by_limit (Some limit) = (refl, tt)

-- a test that holds
pub needs_is : {A E : Type 0} (b : Bool) (k : E) (f : ⊤ → Result A E) → b ≡ true → (needs b k >>= f) ≡ f tt
needs_is true k f e = refl
needs_is false k f e = cc

-- something that is there
pub given_is : {A B E : Type 0} (o : Option A) (k : E) (f : A → Result B E) (x : A) → o ≡ Some x → (given o k >>= f) ≡ f x
given_is o k f x e = ap (λ q. given q k >>= f) e

-- the rest of a computation, where there is what it takes
pub answers_given : {A B : Type 0} (n : ℕ) (o : Option A) (k : ℕ × Fault) (f : A → Result B (ℕ × Fault)) (x : A) → o ≡ Some x → Answers n (f x) → Answers n (given o k >>= f)
answers_given n o k f x e h = subst (Answers n) (sym (given_is o k f x e)) h

-- the rest of a computation, where its test holds
pub answers_needs : {A : Type 0} (n : ℕ) (b : Bool) (k : ℕ × Fault) (f : ⊤ → Result A (ℕ × Fault)) → b ≡ true → Answers n (f tt) → Answers n (needs b k >>= f)
answers_needs n b k f e h = subst (Answers n) (sym (needs_is b k f e)) h

-- an operation that answers
pub answers_operation : {A B : Type 0} (n k : ℕ) (q : Result A Refusal) (f : A → Result B (ℕ × Fault)) (x : A) → q ≡ Ok x → Answers n (f x) → Answers n (numbered k (told_as refusal q) >>= f)
answers_operation n k q f x e h = subst (λ r. Answers n (numbered k (told_as refusal r) >>= f)) (sym e) h

-- both parts make a conjunction
pub and_is : (a b : Bool) → a ≡ true → b ≡ true → (a && b) ≡ true
and_is true b e f = f
and_is false b e f = e

-- a limit is itself, by its number
same_limit : (limit : Limit) → (limit_number limit == limit_number limit) ≡ true
same_limit limits.Order = refl
same_limit limits.Exponent = refl
same_limit limits.Symbols = refl
same_limit limits.Terms = refl
same_limit limits.Polynomials = refl
same_limit limits.Node = refl
same_limit limits.Splits = refl

-- a number is itself
same_number : (n : ℕ) → (n == n) ≡ true
same_number n = eq-eqb n n refl

-- an end holds where its test does
pub holds_needs : (b : Bool) (x : Below) (r : Rule) → b ≡ true → is_ok {T = Below} {E = ℕ × Rule} (◌>>=◌ {A = ⊤} {B = Below} {E = ℕ × Rule} (needs b (0, r)) (λ _. Ok x)) ≡ true
holds_needs true x r e = refl
holds_needs false x r e = cc

-- ---- places and symbols
-- what a search by places found
pub record Found {A : Type 0} (named : ℕ → A → Option Entry) (xs : List A) (e : Entry) : Type 0 where
  pub place : ℕ
  pub member : A
  pub is_there : at_place place xs ≡ Some member
  pub names : named place member ≡ Some e

-- the first of two is one of them
pub or_else_is : {A : Type 0} (o p : Option A) (x : A) → or_else o p ≡ Some x → (o ≡ Some x) ⊎ (p ≡ Some x)
or_else_is (Some y) p x e = inl e
or_else_is None p x e = inr e

-- where there is none, both are none
pub none_parts : {A : Type 0} (o p : Option A) → or_else o p ≡ None → (o ≡ None) × (p ≡ None)
none_parts None p e = (refl, e)
none_parts (Some x) p e = cc

-- the search from the suc n-th place on
found_from : {A : Type 0} (named : ℕ → A → Option Entry) (e : Entry) (n : ℕ) (xs : List A) → first_place (suc n) named xs ≡ Some e → Found (λ i x. named (n + i) x) xs e
found_from named e n [] h = cc
found_from named e n (x ∷ xs) h = elim (or_else_is (named (suc n) x) (first_place (suc (suc n)) named xs) e h) [
  | inl f ↦ record { place = 1; member = x; is_there = refl; names = ap (λ i. named i x) (omega arith) ∙ f }
  | inr f ↦ by_rest (found_from named e (suc n) xs f)
]
  where
    by_rest : Found (λ i x. named (suc n + i) x) xs e → Found (λ i x. named (n + i) x) (x ∷ xs) e
    by_rest r = by_place r.place r.member r.is_there r.names
      where
        by_place : (i : ℕ) (y : _) → at_place i xs ≡ Some y → named (suc n + i) y ≡ Some e → Found (λ i x. named (n + i) x) (x ∷ xs) e
        by_place zero y a b = absurd (no_zero xs a)
          where
            no_zero : (xs : List _) → at_place zero xs ≡ Some y → ⊥
            no_zero [] a = cc
            no_zero (x ∷ xs) a = cc
        by_place (suc i) y a b = record { place = suc (suc i); member = y; is_there = a; names = ap (λ k. named k y) (omega arith) ∙ b }

-- what the search from the first place on found
pub found : {A : Type 0} (named : ℕ → A → Option Entry) (e : Entry) (xs : List A) → first_place 1 named xs ≡ Some e → Found named xs e
found named e xs h =
    let r = found_from named e 0 xs h in
    record { place = r.place; member = r.member; is_there = r.is_there; names = ap (λ i. named i r.member) (omega arith) ∙ r.names }

-- nothing is named at any place
none_from : {A : Type 0} (named : ℕ → A → Option Entry) (n i : ℕ) (xs : List A) (x : A) → first_place (suc n) named xs ≡ None → at_place i xs ≡ Some x → named (n + i) x ≡ None
none_from named n i [] x h k = cc
none_from named n zero (y ∷ ys) x h k = cc
none_from named n (suc zero) (y ∷ ys) x h k =
    let a = none_parts (named (suc n) y) (first_place (suc (suc n)) named ys) h in
    let f : y ≡ x = cc in
    ap (λ i. named i x) (omega arith) ∙ subst (λ z. named (suc n) z ≡ None) f a.0
none_from named n (suc (suc i)) (y ∷ ys) x h k =
    let a = none_parts (named (suc n) y) (first_place (suc (suc n)) named ys) h in
    ap (λ i. named i x) (omega arith) ∙ none_from named (suc n) (suc i) ys x a.1 k

-- where nothing is found, nothing is named at any place
pub none_at : {A : Type 0} (named : ℕ → A → Option Entry) (i : ℕ) (xs : List A) (x : A) → first_place 1 named xs ≡ None → at_place i xs ≡ Some x → named i x ≡ None
none_at named i xs x h k = ap (λ i. named i x) (omega arith) ∙ none_from named 0 i xs x h k

-- a symbol that passes a test is one of the list
pub symbol_passes : (test : Symbol → Bool) (P : Symbol → Type 0) (vs : List Symbol) (v : Symbol) → first_symbol test vs ≡ Some v → AllOf P vs → (test v ≡ true) × P v
symbol_passes test P [] v e h = cc
symbol_passes test P (u ∷ vs) v e h = by_test (test u) refl e (λ e. symbol_passes test P vs v e h.1)
  where
    by_test : (b : Bool) → test u ≡ b → cond b (Some u) (first_symbol test vs) ≡ Some v → (first_symbol test vs ≡ Some v → (test v ≡ true) × P v) → (test v ≡ true) × P v
    by_test true f e ih = let k : u ≡ v = cc in (subst (λ x. test x ≡ true) k f, subst P k h.0)
    by_test false f e ih = ih e

-- ---- the derivatives of a polynomial are derivatives
-- nothing is asked of symbols
any_monomial : (m : Monomial Symbol) → MonomialIn (λ _. ⊤) m
any_monomial [] = tt
any_monomial (p ∷ m) = (tt, any_monomial m)

any_symbols : (p : Polynomial Symbol) → PolynomialIn (λ _. ⊤) p
any_symbols [] = tt
any_symbols (t ∷ p) = (any_monomial t.0, any_symbols p)

-- they are derivatives
pub are_derivatives : (g : Symbols Symbol) (p : Polynomial Symbol) → AllOf (λ v. g.is_derivative v ≡ true) (derivatives_of g p)
are_derivatives g p = in_derivatives g (λ v. g.is_derivative v ≡ true) (λ _. ⊤) (λ s h e. e) p (any_symbols p)

-- nothing is asked of members
any_of : (vs : List Symbol) → AllOf (λ _. ⊤) vs
any_of [] = tt
any_of (v ∷ vs) = (tt, any_of vs)

-- ---- open ends and plain actions
module _ (g : Setting) (budget w : ℕ) (s : State) where
  -- a refusal of an action after all its steps is a reason
  pub open_holds : (action : Action) (fault : Fault) → perform g s action ≡ Err (length (steps_of action), fault) → IsRefusal fault → EntryHolds g budget w s (line_alone (open_line fault action))
  unfolding entered reason_holds
  open_holds action (refusal wide) e h = holds_needs (refused_after (length (steps_of action)) is_wide (perform g s action)) _ rules.Reason (ap (refused_after (length (steps_of action)) is_wide) e ∙ and_is _ _ (same_number (length (steps_of action))) refl)
  open_holds action (refusal (large limit)) e h =
      holds_needs (refused_after (length (steps_of action)) (is_large_by limit) (perform g s action)) _ rules.Reason (ap (refused_after (length (steps_of action)) (is_large_by limit)) e ∙ and_is _ _ (same_number (length (steps_of action))) (same_limit limit))
  open_holds action (rule r) e h = absurd h

  -- the line of an action that is refused
  plain_refused : (action : Action) (e : ℕ × Fault) → perform g s action ≡ Err e → line_alone (open_line e.1 action) ≡ plain g budget w s action
  plain_refused action e i = sym (ap (λ q. elim q as (λ _. Entry) [ Ok d ↦ line_alone (cond (nat_le (w + d.weight) budget) (act action) (spent action)) | Err e ↦ line_alone (open_line e.1 action) ]) i)

  -- an action that has an answer or is refused, as it is
  pub plain_goes : (action : Action) → Answers (length (steps_of action)) (perform g s action) → EntryHolds g budget w s (plain g budget w s action)
  plain_goes action h = by_answer (perform g s action) refl h
    where
      by_answer : (q : Result Done (ℕ × Fault)) → perform g s action ≡ q → Answers (length (steps_of action)) q → EntryHolds g budget w s (plain g budget w s action)
      by_answer (Ok d) i h = plain_holds g budget w s action d i
      by_answer (Err e) i h =
          let j : perform g s action ≡ Err (length (steps_of action), e.1) = i ∙ ap (λ n. Err (n, e.1)) h.0 in
          subst (EntryHolds g budget w s) (plain_refused action e i) (open_holds action e.1 j h.1)

  -- ---- closed
  -- the line of a closed state holds
  pub closed_goes : (e : Entry) → closed_next g s ≡ Some e → EntryHolds g budget w s e
  unfolding entered
  closed_goes e h = by_test (is_closed g.symbols s) refl h
    where
      by_test : (b : Bool) → is_closed g.symbols s ≡ b → cond b (Some (line_alone closed)) None ≡ Some e → EntryHolds g budget w s e
      by_test true i h = let k : line_alone closed ≡ e = cc in subst (EntryHolds g budget w s) k (holds_needs (is_closed g.symbols s) _ rules.Closed i)
      by_test false i h = cc

  -- ---- divide
  -- a division that may be made
  divide_answers : (i : ℕ) (v : Symbol) (p : Polynomial Symbol) → at_place i s.equations ≡ Some p → (is_divided g.symbols.cmp v p && is_member g.symbols (symbol_polynomial v) s.inequations) ≡ true → Answers 0 (perform g s (divide i v))
  unfolding divided_at
  divide_answers i v p e h = answers_given 0 (at_place i s.equations) _ _ p e (answers_needs 0 (is_divided g.symbols.cmp v p && is_member g.symbols (symbol_polynomial v) s.inequations) _ _ h (answers_settled 0 (with_equations s (put_equation g.symbols i (quotient_by g.symbols.cmp v p) s.equations) ∷ []) (1 + length (quotient_by g.symbols.cmp v p))))

  -- the line of the rule that divides holds
  pub divide_goes : (e : Entry) → divide_next g budget w s ≡ Some e → EntryHolds g budget w s e
  divide_goes e h = let r = found _ e s.equations h in by_symbol r.place r.member r.is_there (first_symbol (λ v. is_member g.symbols (symbol_polynomial v) s.inequations && is_divided g.symbols.cmp v r.member) (symbols_of g.symbols r.member)) refl r.names
    where
      by_symbol : (i : ℕ) (p : Polynomial Symbol) → at_place i s.equations ≡ Some p → (o : Option Symbol) → first_symbol (λ v. is_member g.symbols (symbol_polynomial v) s.inequations && is_divided g.symbols.cmp v p) (symbols_of g.symbols p) ≡ o
          → (elim o as (λ _. Option Entry) [ None ↦ None | Some v ↦ Some (plain g budget w s (divide i v)) ]) ≡ Some e → EntryHolds g budget w s e
      by_symbol i p a None f h = cc
      by_symbol i p a (Some v) f h =
          let k : plain g budget w s (divide i v) ≡ e = cc in
          let t = (symbol_passes (λ v. is_member g.symbols (symbol_polynomial v) s.inequations && is_divided g.symbols.cmp v p) (λ _. ⊤) (symbols_of g.symbols p) v f (any_of (symbols_of g.symbols p))).0 in
          let b = both (is_member g.symbols (symbol_polynomial v) s.inequations) (is_divided g.symbols.cmp v p) t in
          subst (EntryHolds g budget w s) k (plain_goes (divide i v) (divide_answers i v p a (and_is _ _ b.1 b.0)))

  -- ---- factor
  -- a factor that may be taken out
  factor_answers : (i : ℕ) (v : Symbol) (p : Polynomial Symbol) → at_place i s.equations ≡ Some p → (g.symbols.is_derivative v && is_divided g.symbols.cmp v p && not (same g.symbols p (symbol_polynomial v)) && not (is_member g.symbols (symbol_polynomial v) s.inequations)) ≡ true → Answers 0 (perform g s (factor i v))
  unfolding factored
  factor_answers i v p e h = answers_given 0 (at_place i s.equations) _ _ p e (answers_needs 0 (g.symbols.is_derivative v && is_divided g.symbols.cmp v p && not (same g.symbols p (symbol_polynomial v)) && not (is_member g.symbols (symbol_polynomial v) s.inequations)) _ _ h
      (answers_settled 0 (forked s (put_equation g.symbols i (quotient_by g.symbols.cmp v p) s.equations) (s.inequations ++ symbol_polynomial v ∷ []) ∷ forked s (put_equation g.symbols i (symbol_polynomial v) s.equations) s.inequations ∷ []) (1 + length (quotient_by g.symbols.cmp v p))))

  -- the line of the rule that factors holds
  pub factor_goes : (e : Entry) → factor_next g budget w s ≡ Some e → EntryHolds g budget w s e
  factor_goes e h = let r = found _ e s.equations h in by_symbol r.place r.member r.is_there (first_symbol (λ v. is_divided g.symbols.cmp v r.member && not (same g.symbols r.member (symbol_polynomial v)) && not (is_member g.symbols (symbol_polynomial v) s.inequations)) (derivatives_of g.symbols r.member)) refl r.names
    where
      by_symbol : (i : ℕ) (p : Polynomial Symbol) → at_place i s.equations ≡ Some p → (o : Option Symbol) → first_symbol (λ v. is_divided g.symbols.cmp v p && not (same g.symbols p (symbol_polynomial v)) && not (is_member g.symbols (symbol_polynomial v) s.inequations)) (derivatives_of g.symbols p) ≡ o
          → (elim o as (λ _. Option Entry) [ None ↦ None | Some v ↦ Some (plain g budget w s (factor i v)) ]) ≡ Some e → EntryHolds g budget w s e
      by_symbol i p a None f h = cc
      by_symbol i p a (Some v) f h =
          let k : plain g budget w s (factor i v) ≡ e = cc in
          let t = symbol_passes (λ v. is_divided g.symbols.cmp v p && not (same g.symbols p (symbol_polynomial v)) && not (is_member g.symbols (symbol_polynomial v) s.inequations)) (λ v. g.symbols.is_derivative v ≡ true) (derivatives_of g.symbols p) v f (are_derivatives g.symbols p) in
          let b = both (is_divided g.symbols.cmp v p && not (same g.symbols p (symbol_polynomial v))) (not (is_member g.symbols (symbol_polynomial v) s.inequations)) t.0 in
          let c = both (is_divided g.symbols.cmp v p) (not (same g.symbols p (symbol_polynomial v))) b.0 in
          subst (EntryHolds g budget w s) k (plain_goes (factor i v) (factor_answers i v p a (and_is _ _ (and_is _ _ (and_is _ _ t.1 c.0) c.1) b.1)))

  -- ---- split
  -- an equation whose separant does not fit
  open_separant_holds : (i : ℕ) (p : Polynomial Symbol) (l : Symbol) → at_place i s.equations ≡ Some p → leader g.symbols p ≡ Some l → separant_answer g.symbols l p ≡ Err wide → EntryHolds g budget w s (line_alone (open_separant i))
  unfolding entered reason_holds
  open_separant_holds i p l a e h = holds_needs (passes (separant_refused g.symbols) (at_place i s.equations)) _ rules.Reason
      (ap (passes (separant_refused g.symbols)) a ∙ ap (passes (λ l. refused_after 0 is_wide (numbered 0 (told_as refusal (separant_answer g.symbols l p))))) e ∙ ap (λ q. refused_after 0 is_wide (numbered 0 (told_as refusal q))) h)

  -- a split on a multiplier that may be split on
  split_answers : (i : ℕ) (which : Which) (p m : Polynomial Symbol) (l : Symbol) → at_place i s.equations ≡ Some p → leader g.symbols p ≡ Some l → multiplier_answer g.symbols which l p ≡ Ok m
      → (not (is_ground g.symbols m) && not (is_member g.symbols (norm m) s.equations) && not (is_member g.symbols (norm m) s.inequations)) ≡ true → Answers 0 (perform g s (split i which))
  unfolding split_at
  split_answers i which p m l a e f h =
      answers_given 0 (at_place i s.equations) _ _ p a (answers_given 0 (leader g.symbols p) _ _ l e (answers_operation 0 0 (multiplier_answer g.symbols which l p) _ m f
      (answers_needs 0 (not (is_ground g.symbols m) && not (is_member g.symbols (norm m) s.equations) && not (is_member g.symbols (norm m) s.inequations)) _ _ h
      (answers_settled 0 (forked s s.equations (s.inequations ++ norm m ∷ []) ∷ forked s (s.equations ++ norm m ∷ []) s.inequations ∷ []) (1 + length (norm m))))))

  -- the line of a split on one multiplier holds
  split_on_goes : (e : Entry) (i : ℕ) (which : Which) (p : Polynomial Symbol) (l : Symbol) → at_place i s.equations ≡ Some p → leader g.symbols p ≡ Some l → ((r : Refusal) → multiplier_answer g.symbols which l p ≡ Err r → separant_answer g.symbols l p ≡ Err wide)
      → split_on g budget w s i which (multiplier_answer g.symbols which l p) ≡ Some e → EntryHolds g budget w s e
  split_on_goes e i which p l a b refuse h = by_answer (multiplier_answer g.symbols which l p) refl h
    where
      by_test : (m : Polynomial Symbol) → multiplier_answer g.symbols which l p ≡ Ok m → (c d f : Bool) → is_ground g.symbols m ≡ c → is_member g.symbols (norm m) s.equations ≡ d → is_member g.symbols (norm m) s.inequations ≡ f
          → cond (c || d || f) None (Some (plain g budget w s (split i which))) ≡ Some e → EntryHolds g budget w s e
      by_test m k true d f on_ground on_equations on_inequations h = cc
      by_test m k false true f on_ground on_equations on_inequations h = cc
      by_test m k false false true on_ground on_equations on_inequations h = cc
      by_test m k false false false on_ground on_equations on_inequations h =
          let r : plain g budget w s (split i which) ≡ e = cc in
          subst (EntryHolds g budget w s) r (plain_goes (split i which) (split_answers i which p m l a b k (and_is _ _ (and_is _ _ (ap not on_ground) (ap not on_equations)) (ap not on_inequations))))

      by_answer : (q : Result (Polynomial Symbol) Refusal) → multiplier_answer g.symbols which l p ≡ q → split_on g budget w s i which q ≡ Some e → EntryHolds g budget w s e
      by_answer (Err r) k h = let same : line_alone (open_separant i) ≡ e = cc in subst (EntryHolds g budget w s) same (open_separant_holds i p l a b (refuse r k))
      by_answer (Ok m) k h = by_test m k (is_ground g.symbols m) (is_member g.symbols (norm m) s.equations) (is_member g.symbols (norm m) s.inequations) refl refl refl h

  -- the line of the rule that splits holds
  pub split_goes : SeparantsAreWide g s → (e : Entry) → split_next g budget w s ≡ Some e → EntryHolds g budget w s e
  split_goes wides e h = let r = found _ e s.equations h in by_leader r.place r.member r.is_there (leader g.symbols r.member) refl r.names
    where
      by_leader : (i : ℕ) (p : Polynomial Symbol) → at_place i s.equations ≡ Some p → (o : Option Symbol) → leader g.symbols p ≡ o
          → (elim o as (λ _. Option Entry) [ None ↦ None | Some l ↦ or_else (split_on g budget w s i Initial (multiplier_answer g.symbols Initial l p)) (split_on g budget w s i Separant (multiplier_answer g.symbols Separant l p)) ]) ≡ Some e → EntryHolds g budget w s e
      by_leader i p a None b h = cc
      by_leader i p a (Some l) b h = elim (or_else_is (split_on g budget w s i Initial (multiplier_answer g.symbols Initial l p)) (split_on g budget w s i Separant (multiplier_answer g.symbols Separant l p)) e h) [
        | inl k ↦ split_on_goes e i Initial p l a b (λ r z. cc) k
        | inr k ↦ split_on_goes e i Separant p l a b (λ r z. z ∙ ap (λ q. Err q) (wides i p l r a b z)) k
      ]
