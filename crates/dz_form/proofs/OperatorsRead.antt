-- The canonical texts of operators are read, and nothing else.
use Rattle.std.proofs.Common.{◌≡◌, ℕ, zero, suc, ◌<◌, ◌≤◌, ◌+◌, ◌-◌, length, drop, replicate, map, sum, List, [], ◌∷◌, ◌++◌, Bool, true, false, Option, Some, None, IfSome, IfNone, refl, sym, ap, subst, ◌∙◌, arith, append_assoc}
use Rattle.std.specs.Prelude.{if◌then◌else◌, cond, ◌==◌, codes, ⊤, nat_lt, position, slice_set, slice_index}
use Rattle.std.specs.Str.{bytes_eq}
use Rattle.std.specs.Option.{option_and_then}
use Rattle.std.specs.List.{list_all}
use Rattle.std.proofs.lemmas.Bool.Decides.{nat_tests, Decides-eqb}
use Rattle.std.proofs.lemmas.List.{drop_at, drop-drop, get_or-replicate, length-replicate, length_push}
use Rattle.std.proofs.lemmas.List.Elements.{All-head, All-tail}
use Rattle.std.proofs.lemmas.List.Quantifiers.{position-Some}
use Rattle.std.proofs.lemmas.Slice.Eq.{bytes_eq-Decides}
use Rattle.dz_rank.specs.declared.symbols.Operator.{Operator}
use Rattle.dz_rank.specs.declared.symbols.Symbol.{Symbol}
use Rattle.dz_rank.specs.declared.symbols.Symbol.TheVariants.{Independent, Derivative}
use Rattle.dz_rank.specs.Symbols.{IsOperatorOf, identity}
use Rattle.dz_syntax.specs.Names.{Declared, IsDeclared, find, plain, symbol_numbered}
use Rattle.dz_syntax.specs.Atoms.{raised}
use Rattle.dz_syntax.proofs.SymbolsFit.{MayGrow, raised_may_grow, identity_may_grow}
use Rattle.dz_form.specs.Texts.{joined, derivations_text, is_identity, name_numbered, operator_text}
use Rattle.dz_form.specs.Reading.{IsOperatorText, split_once, raised_last, with_name, derivations_from, derivations, operator_at}
use Rattle.dz_form.proofs.TextTokens.{both_true}
use Rattle.dz_form.proofs.SymbolTexts.{AreBelow, Zeros, raised_by, raised_at, times, indices, indices-zeros, length-indices, indices_below, repeated-names, operator_is, first_of, find-independent}
use Rattle.dz_form.proofs.CutTexts.{some_is, lacks, name_lacks, split_once-at, split_once-none, split_once-some}

-- ---- what a name stands for

-- what a name stands for, by its place
found_by : (names : Declared) (name : List ℕ) (s : Symbol) (place : Option ℕ) → position (λ n. bytes_eq name n) names.all ≡ place → symbol_numbered names.independents place ≡ Some s
    → (i : ℕ) × (i < length names.all) × (name ≡ name_numbered names i) × (symbol_numbered names.independents (Some i) ≡ Some s)
found_by names name s None is e = absurd cc
found_by names name s (Some i) is e =
    let f = position-Some (λ n. bytes_eq name n) names.all i [] is in
    (i, f.0, (bytes_eq-Decides name (name_numbered names i)).0 f.1, e)

-- a name that stands for a symbol is declared
pub found : (names : Declared) (name : List ℕ) (s : Symbol) → find names name ≡ Some s
    → (i : ℕ) × (i < length names.all) × (name ≡ name_numbered names i) × (symbol_numbered names.independents (Some i) ≡ Some s)
unfolding find
found names name s e = found_by names name s (position (λ n. bytes_eq name n) names.all) refl e

-- an independent, by whether the number is one of an independent
independent_by : (names : Declared) (j i : ℕ) (below : Bool) → nat_lt j names.independents ≡ below → (if below then Independent j else plain (j - names.independents)) ≡ Independent i
    → (j < names.independents) × (j ≡ i)
independent_by names j i true is e = (grind (arith, nat_tests), cc)
independent_by names j i false is e = absurd cc

-- a name that stands for an independent is its name
pub independent_found : (names : Declared) (name : List ℕ) (i : ℕ) → find names name ≡ Some (Independent i) → (i < names.independents) × (name ≡ name_numbered names i)
independent_found names name i e =
    let f = found names name (Independent i) e in
    let g = independent_by names f.0 i (nat_lt f.0 names.independents) refl (some_is Symbol _ (Independent i) f.3) in
    (subst (λ (j : ℕ). j < names.independents) g.1 g.0, f.2 ∙ ap (name_numbered names) g.1)

-- ---- exponents that are zero

-- numbers that are tested to be zero
zeros_from : (ks : List ℕ) → list_all (λ k. k == 0) ks ≡ true → Zeros ks
zeros_from [] all i d lt = absurd (omega arith)
zeros_from (k ∷ ks) all zero d lt = (Decides-eqb k 0).0 (both_true (k == 0) (list_all (λ k. k == 0) ks) all).0
zeros_from (k ∷ ks) all (suc i) d lt = zeros_from ks (both_true (k == 0) (list_all (λ k. k == 0) ks) all).1 i d (omega arith)

-- zeros pass the test
zeros_pass : (ks : List ℕ) → Zeros ks → list_all (λ k. k == 0) ks ≡ true
zeros_pass [] z = refl
zeros_pass (k ∷ ks) z = rw (All-head (λ k. k ≡ 0) k ks z) (zeros_pass ks (All-tail (λ k. k ≡ 0) k ks z))

-- copies of zero
zeros_replicate : (n : ℕ) → Zeros (replicate n 0)
zeros_replicate n i d lt = get_or-replicate n i 0 d (omega (arith, length-replicate {A = ℕ}, lt))

-- ---- one name more

-- copies before two lists
times-append : (i count : ℕ) (is js : List ℕ) → times i count (is ++ js) ≡ times i count is ++ js
times-append i zero is js = refl
times-append i (suc count) is js = ap (λ (more : List ℕ). i ∷ more) (times-append i count is js)

-- one copy more
times-push : (i count : ℕ) → times i (count + 1) [] ≡ times i count [] ++ i ∷ []
times-push i zero = refl
times-push i (suc count) = let e : suc count + 1 ≡ suc (count + 1) = omega arith in rw e (ap (λ (more : List ℕ). i ∷ more) (times-push i count))

-- an independent that none behind it is taken before comes last
indices-raised : (i k : ℕ) (counts : List ℕ) → i < length counts → Zeros (drop (i + 1) counts) → indices k (slice_set counts i (slice_index counts i + 1)) ≡ indices k counts ++ (k + i) ∷ []
indices-raised i k [] lt z = absurd (omega arith)
indices-raised zero k (count ∷ counts) lt z =
    let last : k + 0 ≡ k = omega arith in
    rw (indices-zeros (suc k) counts z, last) (times-push k count)
indices-raised (suc i) k (count ∷ counts) lt z =
    let next : suc i + 1 ≡ suc (i + 1) = omega arith in
    let zeros : Zeros (drop (i + 1) counts) = subst (λ (n : ℕ). Zeros (drop n (count ∷ counts))) next z in
    let sums : suc k + i ≡ k + suc i = omega arith in
    ap (times k count) (indices-raised i (suc k) counts (omega arith) zeros)
    ∙ times-append k count (indices (suc k) counts) ((suc k + i) ∷ [])
    ∙ ap (λ (j : ℕ). times k count (indices (suc k) counts) ++ j ∷ []) sums

-- what is known of an operator with one name more
record OneMore (names : Declared) (o : Operator) (name : List ℕ) (p : Operator) : Type 0 where
  independent : ℕ
  below : independent < names.independents
  name_is : name ≡ name_numbered names independent
  zeros : Zeros (drop (independent + 1) o.counts)
  raised_is : raised o independent ≡ p

-- an operator with one name more, by the test
raised_if : (o p : Operator) (i : ℕ) (last : Bool) → (if last then Some (raised o i) else None) ≡ Some p → (last ≡ true) × (raised o i ≡ p)
raised_if o p i true e = (refl, some_is Operator (raised o i) p e)
raised_if o p i false e = absurd cc

-- the same, by what the name stands for
one_more_by : (names : Declared) (o : Operator) (name : List ℕ) (p : Operator) (s : Option Symbol) → find names name ≡ s → raised_last o s ≡ Some p → OneMore names o name p
one_more_by names o name p None is e = absurd cc
one_more_by names o name p (Some (Derivative u t)) is e = absurd cc
one_more_by names o name p (Some (Independent i)) is e =
    let f = independent_found names name i is in
    let g = raised_if o p i (list_all (λ count. count == 0) (drop (i + 1) o.counts)) e in
    record { independent = i; below = f.0; name_is = f.1; zeros = zeros_from (drop (i + 1) o.counts) g.0; raised_is = g.1 }

-- an operator that is read with one name more
one_more : (names : Declared) (o : Operator) (name : List ℕ) (p : Operator) → with_name names o name ≡ Some p → OneMore names o name p
unfolding with_name
one_more names o name p e = one_more_by names o name p (find names name) refl e

-- ---- what is read is canonical

-- both steps of a chain that gives something
pub and_then_some : {A B : Type 0} (f : A → Option B) (r : Option A) (y : B) → option_and_then f r ≡ Some y → (x : A) × (r ≡ Some x) × (f x ≡ Some y)
and_then_some f None y e = absurd cc
and_then_some f (Some x) y e = (x, refl, e)

-- A text has the names of independents with commas between them, by which an operator becomes another.
record ReadNames (names : Declared) (o : Operator) (text : List ℕ) (p : Operator) : Type 0 where
  first : ℕ
  others : List ℕ
  text_is : text ≡ joined (codes ",") (map (name_numbered names) (first ∷ others))
  indices_are : indices 0 p.counts ≡ indices 0 o.counts ++ first ∷ others
  operator : IsOperatorOf names.independents p
  order : sum p.counts ≤ 60

-- an operator with one name more may still grow
grown : (names : Declared) (left : ℕ) (o : Operator) (name : List ℕ) (p : Operator) → MayGrow names (suc left) o → OneMore names o name p → MayGrow names left p
grown names left o name p m one = subst (λ (p : Operator). MayGrow names left p) one.raised_is (raised_may_grow names left o one.independent one.below m)

-- one name more comes last
one_more_indices : (names : Declared) (left : ℕ) (o : Operator) (name : List ℕ) (p : Operator) → IsDeclared names → MayGrow names left o → (one : OneMore names o name p)
    → indices 0 p.counts ≡ indices 0 o.counts ++ one.independent ∷ []
one_more_indices names left o name p d m one =
    let zero_plus : 0 + one.independent ≡ one.independent = omega arith in
    let within : one.independent < length o.counts = omega (arith, one.below, d.independents_fit, m.is.size) in
    ap (λ (o : Operator). indices 0 o.counts) (sym one.raised_is)
    ∙ indices-raised one.independent 0 o.counts within one.zeros
    ∙ ap (λ (i : ℕ). indices 0 o.counts ++ i ∷ []) zero_plus

-- the first name is read, and then the others
names_from : (names : Declared) (left : ℕ) (o : Operator) (text : List ℕ) (p : Operator) → IsDeclared names → MayGrow names (suc left) o
    → ((o : Operator) (text : List ℕ) → MayGrow names left o → derivations left names o text ≡ Some p → ReadNames names o text p)
    → (cut : Option (List ℕ × List ℕ)) → split_once 44 text ≡ cut → derivations_from (λ o rest. derivations left names o rest) names o text cut ≡ Some p → ReadNames names o text p
names_from names left o text p d m more None is e =
    let one = one_more names o text p e in
    let g = grown names left o text p m one in
    record {
      first = one.independent;
      others = [];
      text_is = one.name_is;
      indices_are = one_more_indices names (suc left) o text p d m one;
      operator = g.is;
      order = omega (arith, g.total);
    }
names_from names left o text p d m more (Some cut) is e =
    let f = and_then_some (λ o. derivations left names o cut.1) (with_name names o cut.0) p e in
    let one = one_more names o cut.0 f.0 f.1 in
    let rest = more f.0 cut.1 (grown names left o cut.0 f.0 m one) f.2 in
    let name = name_numbered names one.independent in
    let names_behind = joined (codes ",") (map (name_numbered names) (rest.first ∷ rest.others)) in
    record {
      first = one.independent;
      others = rest.first ∷ rest.others;
      text_is = split_once-some 44 text cut is ∙ ap (λ (t : List ℕ). t ++ 44 ∷ cut.1) one.name_is ∙ ap (λ (t : List ℕ). name ++ 44 ∷ t) rest.text_is ∙ sym (append_assoc name (codes ",") names_behind);
      indices_are = rest.indices_are ∙ ap (λ (is : List ℕ). is ++ rest.first ∷ rest.others) (one_more_indices names (suc left) o cut.0 f.0 d m one) ∙ append_assoc (indices 0 o.counts) (one.independent ∷ []) (rest.first ∷ rest.others);
      operator = rest.operator;
      order = rest.order;
    }

-- what is read is names of independents with commas between them
derivations_sound : (names : Declared) (left : ℕ) (o : Operator) (text : List ℕ) (p : Operator) → IsDeclared names → MayGrow names left o → derivations left names o text ≡ Some p → ReadNames names o text p
unfolding derivations
derivations_sound names zero o text p d m e = absurd cc
derivations_sound names (suc left) o text p d m e =
    names_from names left o text p d m (λ o text n f. derivations_sound names left o text p d n f) (split_once 44 text) refl e

-- an operator with a name takes a derivation
some_names : (o : Operator) (i : ℕ) (more : List ℕ) → indices 0 o.counts ≡ i ∷ more → is_identity o ≡ false
some_names o i more e =
    let some : 0 < sum o.counts = omega (arith, length-indices 0 o.counts, ap length e) in
    grind (arith, nat_tests)

-- a text is that of the derivations of an operator that takes one
pub record IsDerivationsText (names : Declared) (o : Operator) (text : List ℕ) : Type 0 where
  pub operator : IsOperatorOf names.independents o
  pub order : sum o.counts ≤ 60
  pub proper : is_identity o ≡ false
  pub text_is : derivations_text names o ≡ text

-- the names that are read are the text of the operator
names_are_text : (names : Declared) (text : List ℕ) (o : Operator) → IsDeclared names → ReadNames names identity text o → IsDerivationsText names o text
names_are_text names text o d r =
    record {
      operator = r.operator;
      order = r.order;
      proper = some_names o r.first r.others r.indices_are;
      text_is = rw (repeated-names names o d r.operator, r.indices_are) (sym r.text_is);
    }

-- what is read is the text of derivations
pub derivations_found : (names : Declared) (text : List ℕ) (o : Operator) → IsDeclared names → derivations 60 names identity text ≡ Some o → IsDerivationsText names o text
derivations_found names text o d e = names_are_text names text o d (derivations_sound names 60 identity text o d (identity_may_grow names) e)

-- derivations are the text of an operator
derivations_are_text : (names : Declared) (text : List ℕ) (o : Operator) → IsDerivationsText names o text → IsOperatorText names o text
unfolding operator_text
derivations_are_text names text o t = record { operator = t.operator; order = t.order; text_is = rw t.proper t.text_is }

-- - is the text of the identity
minus_is_identity : (names : Declared) (text : List ℕ) → text ≡ codes "-" → IsOperatorText names identity text
unfolding operator_text
minus_is_identity names text e = let m = identity_may_grow names in record { operator = m.is; order = omega arith; text_is = sym e }

-- what is read is canonical, by whether it is -
operator_found_by : (names : Declared) (text : List ℕ) (o : Operator) (minus : Bool) → IsDeclared names → bytes_eq text (codes "-") ≡ minus
    → (if minus then Some identity else derivations 60 names identity text) ≡ Some o → IsOperatorText names o text
operator_found_by names text o true d is e = subst (λ (o : Operator). IsOperatorText names o text) (some_is Operator identity o e) (minus_is_identity names text ((bytes_eq-Decides text (codes "-")).0 is))
operator_found_by names text o false d is e = derivations_are_text names text o (derivations_found names text o d e)

-- what is read as an operator is its text
operator_found : (names : Declared) (text : List ℕ) (o : Operator) → IsDeclared names → operator_at names text ≡ Some o → IsOperatorText names o text
unfolding operator_at
operator_found names text o d e = operator_found_by names text o (bytes_eq text (codes "-")) d refl e

-- ---- what is canonical is read

-- each independent may come after those before it
abbrev Rises : Operator → List ℕ → Type 0
Rises o [] = ⊤
Rises o (i ∷ is) = Zeros (drop (i + 1) o.counts) × Rises (raised o i) is

-- copies of an independent may come where it may
rises-times : (done : List ℕ) (k count x : ℕ) (more is : List ℕ) → length done ≡ k → Zeros more → Rises (record { counts = done ++ (x + count) ∷ more }) is
    → Rises (record { counts = done ++ x ∷ more }) (times k count is)
rises-times done k zero x more is e z rises = let same : x + 0 ≡ x = omega arith in subst (λ (y : ℕ). Rises (record { counts = done ++ y ∷ more }) is) same rises
rises-times done k (suc count) x more is e z rises =
    let text : List ℕ = done ++ x ∷ more in
    let behind : more ≡ drop (k + 1) text = sym (sym (drop-drop 1 k text) ∙ ap (drop 1) (drop_at done (x ∷ more) k e)) in
    let same : x + suc count ≡ x + 1 + count = omega arith in
    let next = rises-times done k count (x + 1) more is e z (subst (λ (y : ℕ). Rises (record { counts = done ++ y ∷ more }) is) same rises) in
    (subst (λ (ks : List ℕ). Zeros ks) behind z, subst (λ (o : Operator). Rises o (times k count is)) (sym (raised_at done k x more e)) next)

-- the independents of an operator come in order
rises-indices : (done : List ℕ) (k : ℕ) (counts : List ℕ) → length done ≡ k → Rises (record { counts = done ++ replicate (length counts) 0 }) (indices k counts)
rises-indices done k [] e = tt
rises-indices done k (count ∷ counts) e =
    let zeros : List ℕ = replicate (length counts) 0 in
    let count_is : count ≡ 0 + count = omega arith in
    let next : length (done ++ count ∷ []) ≡ suc k = omega (arith, length_push done count) in
    let same : (done ++ count ∷ []) ++ zeros ≡ done ++ (0 + count) ∷ zeros = append_assoc done (count ∷ []) zeros ∙ ap (λ (y : ℕ). done ++ y ∷ zeros) count_is in
    rises-times done k count 0 zeros (indices (suc k) counts) e (zeros_replicate (length counts))
    (subst (λ (all : List ℕ). Rises (record { counts = all }) (indices (suc k) counts)) same (rises-indices (done ++ count ∷ []) (suc k) counts next))

-- a name that may come is read
name_taken : (names : Declared) (o : Operator) (i : ℕ) → IsDeclared names → i < names.independents → Zeros (drop (i + 1) o.counts) → with_name names o (name_numbered names i) ≡ Some (raised o i)
unfolding with_name
name_taken names o i d lt z = ap (raised_last o) (find-independent names i d lt) ∙ rw (zeros_pass (drop (i + 1) o.counts) z) refl

-- a name has no comma
lacks_comma : (names : Declared) (i : ℕ) → IsDeclared names → i < names.independents → lacks 44 (name_numbered names i) ≡ true
lacks_comma names i d lt = name_lacks 44 (name_numbered names i) refl (d.are_names i [] (omega (arith, d.independents_are))).bytes

-- names that may come one after another are read
derivations_complete : (names : Declared) (left : ℕ) (o : Operator) (i : ℕ) (is : List ℕ) → IsDeclared names → length is ≤ left → AreBelow names.independents (i ∷ is) → Rises o (i ∷ is)
    → derivations (suc left) names o (joined (codes ",") (map (name_numbered names) (i ∷ is))) ≡ Some (raised_by o (i ∷ is))
unfolding derivations
derivations_complete names left o i [] d fits below rises =
    let name = name_numbered names i in
    ap (derivations_from (λ o rest. derivations left names o rest) names o name) (split_once-none 44 name (lacks_comma names i d below.0)) ∙ name_taken names o i d below.0 rises.0
derivations_complete names zero o i (j ∷ is) d fits below rises = absurd (omega arith)
derivations_complete names (suc left) o i (j ∷ is) d fits below rises =
    let name = name_numbered names i in
    let others = joined (codes ",") (map (name_numbered names) (j ∷ is)) in
    let more = λ (o : Operator) (rest : List ℕ). derivations (suc left) names o rest in
    ap (λ (text : List ℕ). derivations_from more names o text (split_once 44 text)) (append_assoc name (codes ",") others)
    ∙ ap (derivations_from more names o (name ++ 44 ∷ others)) (split_once-at 44 name others (lacks_comma names i d below.0))
    ∙ ap (option_and_then (λ o. more o others)) (name_taken names o i d below.0 rises.0)
    ∙ derivations_complete names left (raised o i) j is d (omega arith) below.1 rises.1

-- the derivations of an operator are read, by its numbers
derivations_of : (names : Declared) (o : Operator) (i : ℕ) (more : List ℕ) → IsDeclared names → IsOperatorOf names.independents o → sum o.counts ≤ 60 → indices 0 o.counts ≡ i ∷ more
    → derivations 60 names identity (derivations_text names o) ≡ Some o
derivations_of names o i more d is fits e =
    let zero_plus : 0 + names.independents ≡ names.independents = omega arith in
    let below : AreBelow names.independents (i ∷ more) =
    subst (λ (is : List ℕ). AreBelow names.independents is) e (subst (λ (n : ℕ). AreBelow n (indices 0 o.counts)) zero_plus (indices_below names.independents 0 o.counts is.zeros)) in
    let fewer : length more ≤ 59 = omega (arith, length-indices 0 o.counts, ap length e, fits) in
    let four : record { counts = replicate (length o.counts) 0 } ≡ identity = rw is.size refl in
    let rises : Rises identity (i ∷ more) = subst (λ (is : List ℕ). Rises identity is) e (subst (λ (start : Operator). Rises start (indices 0 o.counts)) four (rises-indices [] 0 o.counts refl)) in
    ap (λ (texts : List (List ℕ)). derivations 60 names identity (joined (codes ",") texts)) (repeated-names names o d is ∙ ap (map (name_numbered names)) e)
    ∙ derivations_complete names 59 identity i more d fewer below rises
    ∙ ap (λ (o : Operator). Some o) (operator_is o (i ∷ more) names.independents is e)

-- the derivations of an operator are read
pub derivations_read : (names : Declared) (o : Operator) → IsDeclared names → IsOperatorOf names.independents o → sum o.counts ≤ 60 → is_identity o ≡ false → derivations 60 names identity (derivations_text names o) ≡ Some o
derivations_read names o d is fits proper =
    let some : 0 < sum o.counts = grind (arith, nat_tests) in
    let f = first_of (indices 0 o.counts) (omega (arith, some, length-indices 0 o.counts)) in
    derivations_of names o f.0 f.1 d is fits f.2

-- what is not read is no text of an operator, by whether it is -
none_by : (names : Declared) (o : Operator) (text : List ℕ) (none minus : Bool) → IsDeclared names → IsOperatorOf names.independents o → sum o.counts ≤ 60 → is_identity o ≡ none → bytes_eq text (codes "-") ≡ minus
    → cond none (codes "-") (derivations_text names o) ≡ text → (if minus then Some identity else derivations 60 names identity text) ≡ None → ⊥
none_by names o text none true d is fits i m e f = absurd cc
none_by names o text true false d is fits i m e f = let same = (bytes_eq-Decides text (codes "-")).1 (sym e) in cc
none_by names o text false false d is fits i m e f = let read = ap (derivations 60 names identity) (sym e) ∙ derivations_read names o d is fits i in cc

-- what is not read is no text of an operator
operator_none : (names : Declared) (text : List ℕ) → IsDeclared names → operator_at names text ≡ None → (o : Operator) → IsOperatorText names o text → ⊥
unfolding operator_at operator_text
operator_none names text d e o t = none_by names o text (is_identity o) (bytes_eq text (codes "-")) d t.operator t.order refl refl t.text_is e

-- ---- what the reader promises

-- the operator that is found
pub when_found : (names : Declared) (text : List ℕ) (r : Option Operator) → IsDeclared names → r ≡ operator_at names text → IfSome r (λ o. IsOperatorText names o text)
when_found names text None d e = tt
when_found names text (Some o) d e = operator_found names text o d (sym e)

-- where none is found
pub when_none : (names : Declared) (text : List ℕ) (r : Option Operator) → IsDeclared names → r ≡ operator_at names text → IfNone r ((o : Operator) → IsOperatorText names o text → ⊥)
when_none names text None d e = operator_none names text d (sym e)
when_none names text (Some o) d e = tt
