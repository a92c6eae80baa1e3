-- The values of the items of a system, one after the other, and the system of both groups.
use Rattle.std.proofs.Common.{◌≡◌, ◌<◌, ◌+◌, ◌∙◌, ◌++◌, sym, ap, subst, refl, ℕ, List, [], ◌∷◌, length, drop, Some, Result, Ok, Err, append_assoc}
use Rattle.std.specs.Prelude.{slice_index_or}
use Rattle.std.proofs.lemmas.List.{map-append, drop_more}
use Rattle.std.proofs.lemmas.List.Elements.{All-push}
use Rattle.dz_algebra.specs.declared.Limit.{Limit}
use Rattle.dz_algebra.specs.Polynomial.{Polynomial}
use Rattle.dz_algebra.specs.Outcome.{◌>>=◌}
use Rattle.dz_form.specs.Values.{item_answer}
use Rattle.dz_poly.proofs.Books.{means_lives, means_polynomial}
use Rattle.dz_poly.specs.Books.{BookValue, IsKept, Lives, Means, polynomial}
use Rattle.dz_rank.specs.declared.symbols.Symbol.{Symbol}
use Rattle.dz_syntax.specs.declared.expression.Op.{Op}
use Rattle.dz_syntax.specs.Systems.{Tree}
use Rattle.dz_monomials.specs.Ranked.{symbols_under}
use Rattle.dz_move.specs.Root.{System}
use Rattle.dz_diff.specs.States.{LiveAll, polynomials}
use Rattle.dz_diff.specs.Tests.{Polynomials}
use Rattle.dz_diff.proofs.KeptStates.{kept_polynomials, live_on}
use Rattle.dz_move.specs.Systems.{IsSystemIn, SystemValue, system_in, system_limit}
use Rattle.dz_run.specs.declared.system.Group.{Group}
use Rattle.dz_run.specs.declared.system.Group.TheVariants.{Equation, Inequation}
use Rattle.dz_run.specs.declared.system.Refused.{Refused}
use Rattle.dz_run.specs.declared.system.Refused.TheVariants.{TooMany}
use Rattle.dz_run.specs.System.{GivesAll, GivesNumbered, GivesSystem, before, behind, items_answer, numbered, or_limit, ranking_of, system_answer, within_limits}

-- one number more
pub polynomials_push : (book : BookValue) (ps : List ℕ) (p : ℕ) → polynomials book (ps ++ p ∷ []) ≡ polynomials book ps ++ polynomial book p ∷ []
polynomials_push book ps p = map-append (λ p. polynomial book p) ps (p ∷ [])

-- numbers that live, and one more
pub live_push : (book : BookValue) (ps : List ℕ) (p : ℕ) → LiveAll book ps → Lives book p → LiveAll book (ps ++ p ∷ [])
live_push book ps p live l = All-push (λ p. Lives book p) ps p live l

-- values before an answer, one by one
pub behind_before : (ps : Polynomials) (p : Polynomial Symbol) (r : Result Polynomials Refused) → behind (ps ++ p ∷ []) r ≡ behind ps (before p r)
behind_before ps p (Ok qs) = ap (λ (xs : Polynomials). Ok xs) (append_assoc ps (p ∷ []) qs)
behind_before ps p (Err e) = refl

-- the polynomial of a number that an answer gives
numbered_given : (book : BookValue) (p : ℕ) (r : Result (Polynomial Symbol) Refused) → GivesNumbered book (Ok p) r → (q : Polynomial Symbol) × (r ≡ Ok q) × Means book p q
numbered_given book p (Ok q) given = (q, refl, given)
numbered_given book p (Err e) given = absurd given

-- an item more was expanded
pub items_more : (old now made : BookValue) (group : Group) (items : List (List Op)) (i : ℕ) (d : List Op) (ps : List ℕ) (p : ℕ) (total : Result Polynomials Refused) → i < length items → LiveAll now ps → IsKept old now → IsKept now made
    → GivesNumbered made (Ok p) (numbered group (i + 1) (item_answer (symbols_under now.ranking) (slice_index_or items i d)))
    → behind (polynomials now ps) (items_answer (symbols_under old.ranking) group i (drop i items)) ≡ total
    → LiveAll made (ps ++ p ∷ []) × (behind (polynomials made (ps ++ p ∷ [])) (items_answer (symbols_under old.ranking) group (i + 1) (drop (i + 1) items)) ≡ total)
items_more old now made group items i d ps p total inside live kept kept' given whole =
    let g = symbols_under old.ranking in
    let item = slice_index_or items i d in
    let answer = numbered_given made p _ given in
    let value : numbered group (i + 1) (item_answer g item) ≡ Ok answer.0 = sym (ap (λ r. numbered group (i + 1) (item_answer (symbols_under r) item)) kept.ranking) ∙ answer.1 in
    let rest = items_answer g group (i + 1) (drop (i + 1) items) in (
      live_push made ps p (live_on now made kept' ps live) (means_lives made p answer.0 answer.2),
      ap (λ qs. behind qs rest) (polynomials_push made ps p ∙ ap (λ (qs : Polynomials). qs ++ polynomial made p ∷ []) (kept_polynomials now made kept' ps live) ∙ ap (λ (q : Polynomial Symbol). polynomials now ps ++ q ∷ []) (means_polynomial made p answer.0 answer.2))
          ∙ behind_before (polynomials now ps) answer.0 rest
          ∙ ap (λ r. behind (polynomials now ps) (r >>= λ q. before q rest)) (sym value)
          ∙ ap (λ (xs : List (List Op)). behind (polynomials now ps) (items_answer g group i xs)) (sym (drop_more items i d inside)) ∙ whole,
    )

-- the answer that numbers mean
pub all_given : {X : Type 0} (view : X → List ℕ) (book : BookValue) (x : X) (r : Result Polynomials Refused) → GivesAll view book (Ok x) r → LiveAll book (view x) × (r ≡ Ok (polynomials book (view x)))
all_given view book x (Ok qs) given = (given.live, ap (λ (ps : Polynomials). Ok ps) (sym given.are))
all_given view book x (Err e) given = absurd given

-- the two groups together
pub both_given : (r s : Result Polynomials Refused) (es hs : Polynomials) (f : Polynomials → Polynomials → Result System Refused) → r ≡ Ok es → s ≡ Ok hs → (r >>= λ es. s >>= λ hs. f es hs) ≡ f es hs
both_given r s es hs f e h = ap (λ x. x >>= λ es. s >>= λ hs. f es hs) e ∙ ap (λ x. x >>= λ hs. f es hs) h

-- the system of a text, from the values of its equations and then its inequations
pub system_is : {X : Type 0} (view : X → List ℕ) (old mid new : BookValue) (tree : Tree) (es hs : X) (equations inequations : List (List Op)) → old.ranking ≡ ranking_of tree → IsKept old mid → IsKept mid new
    → equations ≡ tree.equations → inequations ≡ tree.inequations
    → GivesAll view mid (Ok es) (items_answer (symbols_under old.ranking) Equation 0 equations) → GivesAll view new (Ok hs) (items_answer (symbols_under mid.ranking) Inequation 0 inequations)
    → system_answer tree ≡ within_limits (polynomials new (view es)) (polynomials new (view hs))
unfolding system_answer
system_is view old mid new tree es hs equations inequations ranking kept kept' e h first second =
    let g = symbols_under (ranking_of tree) in
    let one = all_given view mid es _ first in
    let two = all_given view new hs _ second in
    let firsts : items_answer g Equation 0 tree.equations ≡ Ok (polynomials mid (view es)) =
    ap (λ r. items_answer (symbols_under r) Equation 0 tree.equations) (sym ranking) ∙ ap (items_answer (symbols_under old.ranking) Equation 0) (sym e) ∙ one.1 in
    let seconds : items_answer g Inequation 0 tree.inequations ≡ Ok (polynomials new (view hs)) =
    ap (λ r. items_answer (symbols_under r) Inequation 0 tree.inequations) (sym (kept.ranking ∙ ranking)) ∙ ap (items_answer (symbols_under mid.ranking) Inequation 0) (sym h) ∙ two.1 in
    both_given _ _ (polynomials mid (view es)) (polynomials new (view hs)) within_limits firsts seconds
    ∙ ap (λ qs. within_limits qs (polynomials new (view hs))) (sym (kept_polynomials mid new kept' (view es) one.0))

module _ (book : BookValue) (es hs : List ℕ) (answer : Result System Refused) (is : answer ≡ within_limits (polynomials book es) (polynomials book hs)) where
  -- the system of these lists, where it passes no limit
  pub system_given : (s : SystemValue) → s ≡ record { equations = es; inequations = hs } → IsSystemIn book s → GivesSystem book (Ok s) answer
  system_given s same within =
      let told : answer ≡ Ok (system_in book s) =
      is ∙ ap (λ (x : SystemValue). or_limit (system_in book x) (system_limit (system_in book x))) (sym same) ∙ ap (or_limit (system_in book s)) within.within_limits in
      subst (GivesSystem book (Ok s)) (sym told) (within, refl)

  -- the limit that it passes
  pub limit_given : (limit : Limit) → system_limit (record { equations = polynomials book es; inequations = polynomials book hs }) ≡ Some limit → answer ≡ Err (TooMany limit)
  limit_given limit passed = is ∙ ap (or_limit (record { equations = polynomials book es; inequations = polynomials book hs })) passed
