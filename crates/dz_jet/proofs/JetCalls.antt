-- The parts of a jet's answer, in the words of the calls that make a jet.
use Rattle.std.specs.Prelude.{⊤, Result}
use Rattle.std.specs.List.{filter}
use Rattle.std.proofs.Common.{◌≡◌, ◌≤◌, ◌∙◌, ◌-◌, ◌++◌, ℕ, List, [], All, length, take, drop, Ok, Err, refl, ap, ap₂, sym, subst, arith}
use Rattle.dz_int.specs.Fractions.{Fraction}
use Rattle.dz_poly.specs.Books.{BookValue, IsKept}
use Rattle.dz_rank.specs.Rankings.{RankingValue}
use Rattle.dz_rank.specs.Symbols.{BelongsTo}
use Rattle.dz_rank.specs.declared.rankings.Signature.{Signature}
use Rattle.dz_rank.specs.declared.symbols.Symbol.{Symbol}
use Rattle.dz_monomials.specs.Ranked.{symbols_under}
use Rattle.dz_diff.specs.Operations.{setting_of}
use Rattle.dz_diff.specs.State.{State}
use Rattle.dz_diff.specs.States.{StandsIn, StateValue, polynomials, state_in}
use Rattle.dz_diff.specs.Tests.{Polynomials}
use Rattle.dz_diff.proofs.KeptStates.{kept_polynomials, kept_state}
use Rattle.dz_jet.specs.declared.faults.JetFault.{JetFault}
use Rattle.dz_jet.specs.Fixing.{AreSeparants}
use Rattle.dz_jet.specs.Jets.{Values, independents_of, is_needed, jet_answer, jet_order, test_all_multipliers, test_equations, test_given, test_inequations, value_in, with_values}
use Rattle.dz_parametric.specs.Orders.{derivatives_to}
use Rattle.dz_jet.specs.Stops.{IsFault}
use Rattle.dz_jet.specs.Tables.{IsBegun, IsTable}
use Rattle.dz_jet.proofs.GivenAnswers.{derivatives_belong, derivatives_proper, derivatives_rise}
use Rattle.dz_jet.proofs.JetWhole.{derivatives_behind, equations_fail, front_begun, given_fails, inequations_fail, multipliers_fail, values_behind, values_fail, values_pass}
use Rattle.dz_jet.proofs.SeparantValues.{separants_found}
use Rattle.dz_jet.proofs.TableLists.{front_short, table_length}

-- the derivatives of a jet
abbrev pub derivatives_in : BookValue → StateValue → ℕ → List Symbol
derivatives_in b s n = derivatives_to b.ranking (jet_order (symbols_under b.ranking) (state_in b s) n)

-- its symbols
abbrev pub symbols_in : BookValue → StateValue → ℕ → List Symbol
symbols_in b s n = independents_of b.ranking.signature ++ derivatives_to b.ranking (jet_order (symbols_under b.ranking) (state_in b s) n)

-- ---- what is known after each call
-- the values of a table are those that are given, and are all that are needed
pub record IsGiven (b : BookValue) (s : StateValue) (known : Values) (n : ℕ) (table : Values) : Type 0 where
  pub is_table : IsTable b.ranking table
  pub same : (v : Symbol) → value_in (symbols_under b.ranking) table v ≡ value_in (symbols_under b.ranking) known v
  pub given : test_given (symbols_under b.ranking) known (filter (is_needed (symbols_under b.ranking) (state_in b s)) (symbols_in b s n)) ≡ Ok tt

-- the equations vanish there
pub record IsTested (b : BookValue) (s : StateValue) (known : Values) (n : ℕ) (table : Values) : Type 0 where
  pub before : IsGiven b s known n table
  pub vanish : Ok tt ≡ test_equations (value_in (symbols_under b.ranking) known) 1 (state_in b s).equations

-- the initials and the separants do not, and these are the separants' values
pub record AreMultiplied (b : BookValue) (s : StateValue) (known : Values) (n : ℕ) (table : Values) (ss : List Fraction) : Type 0 where
  pub before : IsTested b s known n table
  pub differ : test_all_multipliers (symbols_under b.ranking) (value_in (symbols_under b.ranking) known) 1 (state_in b s).equations ≡ Ok ss

-- nor do the inequations
pub record ArePassed (b : BookValue) (s : StateValue) (known : Values) (n : ℕ) (table : Values) (ss : List Fraction) : Type 0 where
  pub before : AreMultiplied b s known n table ss
  pub stay : Ok tt ≡ test_inequations (value_in (symbols_under b.ranking) known) 1 (state_in b s).inequations

-- a jet begins with the values of the independents, and the rest are the derivatives
pub record IsCut (b : BookValue) (s : StateValue) (n : ℕ) (table jet : Values) (rest : List Symbol) : Type 0 where
  pub front : jet ≡ take b.ranking.signature.independents table
  pub behind : rest ≡ derivatives_in b s n

-- ---- the symbols, and where the derivatives begin
-- the number of independents
pub independents_are : {q r : RankingValue} {g : Signature} → g ≡ q.signature → q ≡ r → g.independents ≡ r.signature.independents
independents_are is ranking = ap (λ (g : Signature). g.independents) is ∙ ap (λ (q : RankingValue). q.signature.independents) ranking

-- a table has a value for each independent
pub front_fits : (r : RankingValue) (table xs : Values) (k : ℕ) → IsTable r table → k ≡ r.signature.independents → xs ≡ table → k ≤ length xs
front_fits r table xs k is e same = let l = ap (λ (ys : Values). length ys) same in omega (arith, table_length r table is, e, l)

module _ (b : BookValue) (s : StateValue) (n : ℕ) where
  -- the symbols that are listed
  pub listed : {q : RankingValue} {k : ℕ} {xs : List Symbol} → q ≡ b.ranking → k ≡ jet_order (symbols_under b.ranking) (state_in b s) n → xs ≡ independents_of q.signature ++ derivatives_to q k → xs ≡ symbols_in b s n
  listed ranking order is = is ∙ ap₂ (λ (q : RankingValue) (k : ℕ). independents_of q.signature ++ derivatives_to q k) ranking order

  -- each independent is among them
  pub symbols_fit : (xs : List Symbol) (k : ℕ) → k ≡ b.ranking.signature.independents → xs ≡ symbols_in b s n → k ≤ length xs
  symbols_fit xs k e same = let l = ap (λ (ys : List Symbol). length ys) same in omega (arith, front_short b.ranking.signature.independents (derivatives_in b s n), e, l)

  -- the slices of a table and of the symbols
  pub cut_here : (table jet xs : Values) (ys : List Symbol) (k : ℕ) → k ≡ b.ranking.signature.independents → jet ≡ take k xs → xs ≡ table → ys ≡ symbols_in b s n → IsCut b s n table jet (take (length ys - k) (drop k ys))
  cut_here table jet xs ys k e is same listed = record {
    front = is ∙ ap₂ (λ (k : ℕ) (zs : Values). take k zs) e same;
    behind = ap (λ (k : ℕ). take (length ys - k) (drop k ys)) e ∙ derivatives_behind b.ranking ys (derivatives_in b s n) listed;
  }

  -- the derivatives belong to the ranking of the book, later too
  pub rest_belongs : (mid : BookValue) {table jet : Values} {rest : List Symbol} → IsKept b mid → b.ranking.signature.independents ≤ 4 → IsCut b s n table jet rest → All (BelongsTo mid.ranking.signature) rest
  rest_belongs mid kept few cut =
      subst (λ (zs : List Symbol). All (BelongsTo mid.ranking.signature) zs) (sym cut.behind)
      (subst (λ (q : RankingValue). All (BelongsTo q.signature) (derivatives_in b s n)) (sym kept.ranking) (derivatives_belong b.ranking few (jet_order (symbols_under b.ranking) (state_in b s) n)))

-- ---- the given values
module _ (b : BookValue) (s : StateValue) (known : Values) (n : ℕ) {xs : List Symbol} (listed : xs ≡ symbols_in b s n) where
  -- the test of the given values, for these symbols
  abbrev test : List Symbol → Result ⊤ JetFault
  test ys = test_given (symbols_under b.ranking) known (filter (is_needed (symbols_under b.ranking) (state_in b s)) ys)

  -- one that is missing, or that is not needed
  pub given_stops : (e : JetFault) → IsFault e (test xs) → IsFault e (jet_answer b.ranking (state_in b s) known n)
  given_stops e h = given_fails b.ranking (state_in b s) known n e (subst (λ (ys : List Symbol). IsFault e (test ys)) listed h)

  -- all are given
  pub given_passes : {table : Values} → IsTable b.ranking table → ((v : Symbol) → value_in (symbols_under b.ranking) table v ≡ value_in (symbols_under b.ranking) known v) → test xs ≡ Ok tt → IsGiven b s known n table
  given_passes is same h = record { is_table = is; same = same; given = sym (ap test listed) ∙ h }

-- the values of a table, in a book that was only added to
at_table : (b : BookValue) (s : StateValue) (known : Values) (n : ℕ) (table : Values) → IsGiven b s known n table → (q : RankingValue) (xs : Values) → q ≡ b.ranking → xs ≡ table → value_in (symbols_under q) xs ≡ value_in (symbols_under b.ranking) known
at_table b s known n table given q xs ranking values =
    ap₂ (λ (q : RankingValue) (ys : Values). value_in (symbols_under q) ys) ranking values ∙ (λ i v. given.same v i)

-- ---- the tests of the chain
module _ {b : BookValue} {s : StateValue} {known : Values} {n : ℕ} {table : Values} (given : IsGiven b s known n table) {xs : Values} {es : List ℕ} (values : xs ≡ table) (members : es ≡ s.equations) where
  -- what a call tests are the equations at the given values
  equations_are : test_equations (value_in (symbols_under b.ranking) xs) 1 (polynomials b es) ≡ test_equations (value_in (symbols_under b.ranking) known) 1 (state_in b s).equations
  equations_are = ap₂ (λ (f : Symbol → Fraction) (ps : List ℕ). test_equations f 1 (polynomials b ps)) (at_table b s known n table given b.ranking xs refl values) members

  -- an equation that does not vanish
  pub equations_stop : (e : JetFault) → Err e ≡ test_equations (value_in (symbols_under b.ranking) xs) 1 (polynomials b es) → IsFault e (jet_answer b.ranking (state_in b s) known n)
  equations_stop e h = equations_fail b.ranking (state_in b s) known n given.given e (h ∙ equations_are)

  -- all vanish
  pub equations_pass : Ok tt ≡ test_equations (value_in (symbols_under b.ranking) xs) 1 (polynomials b es) → IsTested b s known n table
  equations_pass h = record { before = given; vanish = h ∙ equations_are }

module _ {b : BookValue} {s : StateValue} {known : Values} {n : ℕ} {table : Values} (tested : IsTested b s known n table) {xs : Values} {es : List ℕ} (values : xs ≡ table) (members : es ≡ s.equations) where
  -- and their initials and separants
  multipliers_are : test_all_multipliers (symbols_under b.ranking) (value_in (symbols_under b.ranking) xs) 1 (polynomials b es) ≡ test_all_multipliers (symbols_under b.ranking) (value_in (symbols_under b.ranking) known) 1 (state_in b s).equations
  multipliers_are = ap₂ (λ (f : Symbol → Fraction) (ps : List ℕ). test_all_multipliers (symbols_under b.ranking) f 1 (polynomials b ps)) (at_table b s known n table tested.before b.ranking xs refl values) members

  -- an initial or a separant that vanishes
  pub multipliers_stop : (e : JetFault) → IsFault e (test_all_multipliers (symbols_under b.ranking) (value_in (symbols_under b.ranking) xs) 1 (polynomials b es)) → IsFault e (jet_answer b.ranking (state_in b s) known n)
  multipliers_stop e h = multipliers_fail b.ranking (state_in b s) known n tested.before.given tested.vanish e (subst (IsFault e) multipliers_are h)

  -- none vanishes
  pub multipliers_pass : {ss : List Fraction} → test_all_multipliers (symbols_under b.ranking) (value_in (symbols_under b.ranking) xs) 1 (polynomials b es) ≡ Ok ss → AreMultiplied b s known n table ss
  multipliers_pass h = record { before = tested; differ = sym multipliers_are ∙ h }

module _ {b mid : BookValue} {s : StateValue} {known : Values} {n : ℕ} {table : Values} {ss : List Fraction} (multiplied : AreMultiplied b s known n table ss) (kept : IsKept b mid) (stands : StandsIn b s) {xs : Values} (values : xs ≡ table) where
  -- a table gives the given values in the later book too
  value_is : value_in (symbols_under mid.ranking) xs ≡ value_in (symbols_under b.ranking) known
  value_is = at_table b s known n table multiplied.before.before mid.ranking xs kept.ranking values

  -- the separants' values, in a book that was added to
  pub separants_here : {zs : List Fraction} → zs ≡ ss → AreSeparants (symbols_under mid.ranking) (value_in (symbols_under mid.ranking) xs) (polynomials mid s.equations) zs
  separants_here e =
      subst (λ (zs : List Fraction). AreSeparants (symbols_under mid.ranking) (value_in (symbols_under mid.ranking) xs) (polynomials mid s.equations) zs) (sym e)
      (subst (λ (f : Symbol → Fraction). AreSeparants (symbols_under mid.ranking) f (polynomials mid s.equations) ss) (sym value_is)
      (subst (λ (ps : Polynomials). AreSeparants (symbols_under mid.ranking) (value_in (symbols_under b.ranking) known) ps ss) (sym (kept_polynomials b mid kept s.equations stands.equations_live))
      (subst (λ (q : RankingValue). AreSeparants (symbols_under q) (value_in (symbols_under b.ranking) known) (state_in b s).equations ss) (sym kept.ranking)
      (separants_found (symbols_under b.ranking) (value_in (symbols_under b.ranking) known) (state_in b s).equations ss multiplied.differ))))

  module _ {hs : List ℕ} (members : hs ≡ s.inequations) where
    -- what a call tests are the inequations at the given values
    inequations_are : test_inequations (value_in (symbols_under mid.ranking) xs) 1 (polynomials mid hs) ≡ test_inequations (value_in (symbols_under b.ranking) known) 1 (state_in b s).inequations
    inequations_are = ap₂ (λ (f : Symbol → Fraction) (ps : Polynomials). test_inequations f 1 ps) value_is (ap (polynomials mid) members ∙ kept_polynomials b mid kept s.inequations stands.inequations_live)

    -- an inequation that vanishes
    pub inequations_stop : (e : JetFault) → Err e ≡ test_inequations (value_in (symbols_under mid.ranking) xs) 1 (polynomials mid hs) → IsFault e (jet_answer b.ranking (state_in b s) known n)
    inequations_stop e h = inequations_fail b.ranking (state_in b s) known n multiplied.before.before.given multiplied.before.vanish ss multiplied.differ e (h ∙ inequations_are)

    -- none vanishes
    pub inequations_pass : Ok tt ≡ test_inequations (value_in (symbols_under mid.ranking) xs) 1 (polynomials mid hs) → ArePassed b s known n table ss
    inequations_pass h = record { before = multiplied; stay = h ∙ inequations_are }

-- ---- the values of the derivatives
module _ {b : BookValue} {s : StateValue} {known : Values} {n : ℕ} {table jet : Values} {rest : List Symbol} (given : IsGiven b s known n table) (cut : IsCut b s n table jet rest) {mid : BookValue} (kept : IsKept b mid) where
  -- a jet that is begun
  pub begun_here : b.ranking.signature.independents ≤ 4 → IsBegun mid.ranking jet rest
  begun_here few =
      let m = jet_order (symbols_under b.ranking) (state_in b s) n in
      subst (λ (zs : List Symbol). IsBegun mid.ranking jet zs) (sym cut.behind)
      (subst (λ (ys : Values). IsBegun mid.ranking ys (derivatives_in b s n)) (sym cut.front)
      (subst (λ (q : RankingValue). IsBegun q (take b.ranking.signature.independents table) (derivatives_in b s n)) (sym kept.ranking)
      (front_begun b.ranking (state_in b s) (value_in (symbols_under b.ranking) known) table given.is_table given.same (derivatives_in b s n) (derivatives_rise b.ranking few m) (derivatives_proper b.ranking few m))))

  -- what a call adds are the values of the derivatives
  values_are : StandsIn b s → (xs : Values) → xs ≡ table → with_values (setting_of mid.ranking) (state_in mid s) (value_in (symbols_under mid.ranking) xs) jet rest ≡ with_values (setting_of b.ranking) (state_in b s) (value_in (symbols_under b.ranking) known) [] (symbols_in b s n)
  values_are stands xs values =
      ap₂ (λ (q : RankingValue) (t : State). with_values (setting_of q) t (value_in (symbols_under mid.ranking) xs) jet rest) kept.ranking (kept_state b mid kept s stands)
      ∙ ap (λ (f : Symbol → Fraction). with_values (setting_of b.ranking) (state_in b s) f jet rest) (at_table b s known n table given mid.ranking xs kept.ranking values)
      ∙ ap₂ (λ (ys : Values) (zs : List Symbol). with_values (setting_of b.ranking) (state_in b s) (value_in (symbols_under b.ranking) known) ys zs) cut.front cut.behind
      ∙ sym (values_behind b.ranking (state_in b s) (value_in (symbols_under b.ranking) known) table given.is_table given.same (derivatives_in b s n))

module _ {b mid : BookValue} {s : StateValue} {known : Values} {n : ℕ} {table jet : Values} {rest : List Symbol} {ss : List Fraction} (passed : ArePassed b s known n table ss) (cut : IsCut b s n table jet rest) (kept : IsKept b mid) (stands : StandsIn b s) {xs : Values} (values : xs ≡ table) where
  -- a value that does not fit
  pub values_stop : (e : JetFault) → IsFault e (with_values (setting_of mid.ranking) (state_in mid s) (value_in (symbols_under mid.ranking) xs) jet rest) → IsFault e (jet_answer b.ranking (state_in b s) known n)
  values_stop e h = values_fail b.ranking (state_in b s) known n passed.before.before.before.given passed.before.before.vanish ss passed.before.differ passed.stay e (subst (IsFault e) (values_are passed.before.before.before cut kept stands xs values) h)

  -- all values
  pub values_here : (all : Values) → with_values (setting_of mid.ranking) (state_in mid s) (value_in (symbols_under mid.ranking) xs) jet rest ≡ Ok all → jet_answer b.ranking (state_in b s) known n ≡ Ok all
  values_here all h = values_pass b.ranking (state_in b s) known n passed.before.before.before.given passed.before.before.vanish ss passed.before.differ passed.stay all (sym (values_are passed.before.before.before cut kept stands xs values) ∙ h)
