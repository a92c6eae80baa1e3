-- Lines that are named.
use Rattle.std.proofs.Common.{◌≡◌, ◌≤◌, ◌<◌, ◌+◌, ◌-◌, ◌^◌, ℕ, nat_le, Bool, true, false, cond, List, [], ◌∷◌, refl, sym, ap, subst, ◌∙◌, Option, Some, None, Result, Ok, Err, arith}
use Rattle.std.specs.Prelude.{IfErr, IfOk, IsSome, MatchResult}
use Rattle.std.proofs.lemmas.Bool.{leb-true}
use Rattle.std.proofs.lemmas.List.Elements.{All-head, All-tail}
use Rattle.dz_algebra.specs.Polynomial.{Polynomial}
use Rattle.dz_algebra.specs.Size.{wide}
use Rattle.dz_rank.specs.declared.symbols.Symbol.{Symbol}
use Rattle.dz_poly.specs.Books.{BookValue, IsBook, Lives, polynomial}
use Rattle.dz_monomials.specs.Keeping.{IsKeepable}
use Rattle.dz_monomials.specs.Ranked.{symbols_under}
use Rattle.dz_monomials.specs.Lists.{AllOf}
use Rattle.dz_diff.specs.Operations.{Setting, setting_of}
use Rattle.dz_diff.specs.State.{State, at_place}
use Rattle.dz_diff.specs.States.{IsStateOf, LiveAll, StandsIn, StateValue, polynomials, state_in}
use Rattle.dz_diff.specs.Tests.{Polynomials}
use Rattle.dz_step.specs.declared.Step.{Step}
use Rattle.dz_step.specs.declared.Role.{Role}
use Rattle.dz_step.specs.FullRun.{Course, finished, full_run, stopped}
use Rattle.dz_step.specs.Step.{refused}
use Rattle.dz_step.proofs.BookPlaces.{none_at, some_at}
use Rattle.dz_step.specs.declared.Role.TheVariants.{Equation, Inequation}
use Rattle.dz_step.specs.declared.replaying.RunEnd.{RunEnd}
use Rattle.dz_step.specs.Run.{run}
use Rattle.dz_step.proofs.FullRuns.{full_run_is_run}
use Rattle.dz_algebra.specs.Outcome.{◌>>=◌, given, told_as}
use Rattle.dz_move.specs.declared.Rule.TheVariants as rules
use Rattle.dz_move.specs.Fault.{rule, run_fault}
use Rattle.dz_move.specs.KnownEnds.{IsKnownEnd}
use Rattle.dz_engine.specs.declared.admitting.Members.TheVariants.{Equations, Inequations}
use Rattle.dz_engine.specs.declared.courses.Coursed.TheVariants as courses
use Rattle.dz_engine.specs.declared.naming.Named.TheVariants.{Known}
use Rattle.dz_engine.specs.Finding.{role_in}
use Rattle.dz_move.specs.declared.lines.Next.{Next}
use Rattle.dz_move.specs.declared.lines.Next.TheVariants as nexts
use Rattle.dz_move.specs.declared.drafts.Performed.{Performed}
use Rattle.dz_move.specs.Actions.{IsPerformed}
use Rattle.dz_move.specs.Fault.{Fault}
use Rattle.dz_move.specs.Lines.{Entry, act, open_wide, spent}
use Rattle.dz_move.specs.Moves.{Done, perform}
use Rattle.dz_move.specs.Parts.{is_act}
use Rattle.dz_move.specs.Standing.{IsStateOver}
use Rattle.dz_move.specs.TreeLines.{action_of, wide_line}
use Rattle.dz_engine.specs.declared.admitting.Members.{Members}
use Rattle.dz_engine.specs.declared.courses.Coursed.{Coursed}
use Rattle.dz_engine.specs.declared.naming.Named.{Named}
use Rattle.dz_engine.specs.Naming.{IsAction, IsCoursed, IsFound, IsNamed, members_of, run_action}
use Rattle.dz_engine.specs.declared.rules.Found.{Found}
use Rattle.dz_engine.specs.declared.rules.Found.TheVariants as found
use Rattle.dz_engine.specs.Order.{by_course, line_alone, next_entry, open_line, plain}
use Rattle.dz_engine.specs.Resting.{EntryHolds}
use Rattle.dz_engine.proofs.OrderOfWork.{next_holds}

-- ---- an action that does not fit
pub wide_is : (next : Next) → IsAction next → wide_line next ≡ open_wide (action_of next)
wide_is (nexts.Reduce i steps) h = refl
wide_is (nexts.Weed j steps) h = refl
wide_is (nexts.Pair i j steps) h = refl
wide_is (nexts.Divide i v) h = refl
wide_is (nexts.Split i which) h = refl
wide_is (nexts.Factor i v) h = refl
wide_is (nexts.Separant i) h = absurd h

-- a full run with an operation that does not fit
pub wide_named : (g : Setting) (budget w : ℕ) (s : State) (members : Members) (i : ℕ) (steps : List Step) (next : Next) (x : Named) (course : Course) → action_of next ≡ run_action members i steps → IsAction next → course ≡ stopped steps (refused wide)
    → (is_act (wide_line next) ≡ false → IsNamed g budget w s x (line_alone (wide_line next))) → IsNamed g budget w s x (by_course g budget w s (run_action members i) course)
wide_named g budget w s members i steps next x course e h k f =
    let line = wide_is next h ∙ ap open_wide e in
    subst (λ (e : Entry). IsNamed g budget w s x e) (ap line_alone line ∙ sym (ap (by_course g budget w s (run_action members i)) k)) (f (ap is_act line))

-- ---- the member at a place
-- something stands there
pub not_none : (book : BookValue) (ps : List ℕ) (qs : Polynomials) (i : ℕ) → polynomials book ps ≡ qs → IsSome (at_place i qs) → at_place i ps ≡ None → ⊥
not_none book ps qs i e h k = no (at_place i qs) h (sym (ap (at_place i) e) ∙ none_at book ps i k)
  where
    no : {A : Type 0} (o : Option A) → IsSome o → o ≡ None → ⊥
    no None h k = cc
    no (Some x) h k = cc

-- and it is what the number means
pub member_is : (book : BookValue) (ps : List ℕ) (qs : Polynomials) (i p : ℕ) (q : Polynomial Symbol) → polynomials book ps ≡ qs → at_place i ps ≡ Some p → at_place i qs ≡ Some q → polynomial book p ≡ q
member_is book ps qs i p q e h k = same (polynomial book p) q (sym (some_at book ps i p h) ∙ ap (at_place i) e ∙ k)
  where
    same : {A : Type 0} (x y : A) → Some x ≡ Some y → x ≡ y
    same x y e = cc

-- ---- an action that holds
module _ (book : BookValue) (g : Setting) (budget w : ℕ) (s : State) (next : Next) (x : Performed) (h : IsPerformed book x (perform g s (action_of next))) (low : w ≤ budget) (most : budget < 2 ^ 32) where
  -- what is named for it
  abbrev bounded : Result Done (ℕ × Fault) → Entry
  bounded q = elim q as (λ _. Entry) [ Ok d ↦ line_alone (cond (nat_le (w + d.weight) budget) (act (action_of next)) (spent (action_of next))) | Err e ↦ line_alone (open_line e.1 (action_of next)) ]

  -- it passes the budget
  pub spent_is : budget - w < x.weight → plain g budget w s (action_of next) ≡ line_alone (spent (action_of next))
  spent_is l = ap bounded h.is ∙ ap (λ b. line_alone (cond b (act (action_of next)) (spent (action_of next)))) (by_test (nat_le (w + h.weight) budget) refl)
    where
      by_test : (b : Bool) → nat_le (w + h.weight) budget ≡ b → b ≡ false
      by_test true e = absurd (omega (arith, leb-true (w + h.weight) budget e, h.weighs, l))
      by_test false e = refl

-- ---- a full run on it
-- by the role, the budget and the polynomial as they are defined
pub course_is : (g : Setting) (s : State) (x : Coursed) (role role' : Role) (left left' : ℕ) (p p' : Polynomial Symbol) → role ≡ role' → left ≡ left' → p ≡ p' → IsCoursed x (full_run g s role left p) → IsCoursed x (full_run g s role' left' p')
course_is g s x role role' left left' p p' e f h k =
    subst (λ p. IsCoursed x (full_run g s role' left' p)) h (subst (λ n. IsCoursed x (full_run g s role' n p)) f (subst (λ r. IsCoursed x (full_run g s r left p)) e k))

-- ---- the equation at a place
-- something stands there
pub nothing_at : (book : BookValue) (ps qs : List ℕ) (i : ℕ) (p : Polynomial Symbol) → qs ≡ ps → at_place i (polynomials book ps) ≡ Some p → at_place i qs ≡ None → ⊥
nothing_at book ps qs i p e h k = no (sym h ∙ none_at book ps i (ap (at_place i) (sym e) ∙ k))
  where
    no : ◌≡◌ {A = Option (Polynomial Symbol)} (Some p) None → ⊥
    no e = cc

-- and it is what an entry has
pub entry_at : (book : BookValue) (ps qs : List ℕ) (i n : ℕ) (p q : Polynomial Symbol) → qs ≡ ps → at_place i qs ≡ Some n → at_place i (polynomials book ps) ≡ Some p → q ≡ polynomial book n → q ≡ p
entry_at book ps qs i n p q e h k f = f ∙ member_is book qs (polynomials book ps) i n p (ap (polynomials book) e) h k

-- ---- what may stand in a book
-- the polynomials of a book may
pub keepables_in : (book : BookValue) → IsBook book → (ps : List ℕ) → LiveAll book ps → AllOf (IsKeepable book.ranking) (polynomials book ps)
keepables_in book h [] l = tt
keepables_in book h (p ∷ ps) l = (h.each p [] (All-head (λ p. Lives book p) p ps l), keepables_in book h ps (All-tail (λ p. Lives book p) p ps l))

-- so a state in a book has the facts of one over the ranking
pub state_over : (book : BookValue) → IsBook book → (s : StateValue) → StandsIn book s → IsStateOf (symbols_under book.ranking) (state_in book s) → IsStateOver book.ranking (state_in book s)
state_over book h s stands facts = record { stands = record { equations_keepable = keepables_in book h s.equations stands.equations_live; inequations_keepable = keepables_in book h s.inequations stands.inequations_live }; facts = facts }

-- ---- what is found
-- something stands where a run is found
pub found_there : (g : Setting) (budget w : ℕ) (s : State) (members : Members) (i : ℕ) (x : Found) (e : Entry) → x ≡ found.Run members i → IsFound g budget w s x e → IsSome (at_place i (members_of members s))
found_there g budget w s members i x e k h = let f = subst (λ x. IsFound g budget w s x e) k h in some _ f.0 f.1
  where
    some : {A : Type 0} (o : Option A) (x : A) → o ≡ Some x → IsSome o
    some None x e = cc
    some (Some y) x e = refl

-- the entry that is next holds in a book
pub holds_in : (book : BookValue) → IsBook book → book.ranking.signature.independents ≤ 4 → (s : StateValue) → StandsIn book s → IsStateOf (symbols_under book.ranking) (state_in book s) → (budget w : ℕ) → w ≤ budget
    → EntryHolds (setting_of book.ranking) budget w (state_in book s) (next_entry (setting_of book.ranking) budget w (state_in book s))
holds_in book h few s stands facts budget w low = let o = state_over book h s stands facts in next_holds book.ranking few budget w (state_in book s) o.stands o.facts low

-- ---- a full run that ends
-- its end is known
pub known_end : (g : Setting) (s : State) (members : Members) (i left : ℕ) (p : Polynomial Symbol) (steps : List Step) (x : RunEnd) → at_place i (members_of members s) ≡ Some p → full_run g s (role_in members i) left p ≡ finished steps (x.end).terms x.count → x.count < 2 ^ 32
    → (terms : ℕ) → IsKnownEnd g s (run_action members i steps) (record { terms = terms; run = x })
known_end g s Equations i left p steps x there e few terms = record {
  count = x.count;
  is = ap (λ o. given o (0, rule rules.Place) >>= (λ f. told_as run_fault (run g s (Equation i) f steps))) there ∙ ap (told_as run_fault) (full_run_is_run g s (Equation i) left p steps (x.end).terms x.count e).0;
  counted = omega (arith, few);
}
known_end g s Inequations i left p steps x there e few terms = record {
  count = x.count;
  is = ap (λ o. given o (0, rule rules.Place) >>= (λ f. told_as run_fault (run g s (Inequation i) f steps))) there ∙ ap (told_as run_fault) (full_run_is_run g s (Inequation i) left p steps (x.end).terms x.count e).0;
  counted = omega (arith, few);
}

-- so it is named with it
pub known_named : (g : Setting) (budget w left : ℕ) (s : State) (members : Members) (i : ℕ) (p : Polynomial Symbol) (steps : List Step) (next : Next) (x : RunEnd) (terms : ℕ) → action_of next ≡ run_action members i steps → IsAction next → at_place i (members_of members s) ≡ Some p
    → IsCoursed (courses.Ended steps x) (full_run g s (role_in members i) left p) → IsNamed g budget w s (Known next (record { terms = terms; run = x })) (by_course g budget w s (run_action members i) (full_run g s (role_in members i) left p))
known_named g budget w left s members i p steps next x terms e h there k = (
  ap (by_course g budget w s (run_action members i)) k.0 ∙ ap (plain g budget w s) (sym e),
  h,
  subst (λ a. IsKnownEnd g s a (record { terms = terms; run = x })) (sym e) (known_end g s members i left p steps x there k.0 k.1 terms),
)

-- ---- answers
-- what is known of both is known of a result
pub matched : {A E : Type 0} (q : Result A E) (P : A → Type 0) (Q : E → Type 0) → IfOk q P → IfErr q Q → MatchResult q P Q
matched (Ok x) P Q h k = h
matched (Err e) P Q h k = k
