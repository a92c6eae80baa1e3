-- The texts of symbols are read as their symbols.
use Rattle.std.proofs.Common.{◌≡◌, ℕ, zero, suc, ◌<◌, ◌≤◌, ◌+◌, ◌-◌, length, take, drop, replicate, get_or, map, sum, List, [], ◌∷◌, ◌++◌, Bool, true, false, Some, Ok, All, refl, sym, ap, subst, ◌∙◌, arith, append-nil, append_assoc}
use Rattle.std.specs.Prelude.{cond, codes, ⊤, nat_lt, position}
use Rattle.std.specs.Str.{bytes_eq}
use Rattle.std.specs.List.{position_or_len}
use Rattle.std.specs.Cmp.Lexicographic.{nat_list_eq_equiv}
use Rattle.std.proofs.lemmas.Bool.Decides.{nat_tests}
use Rattle.std.proofs.lemmas.List.{get_or-take, get_or_at, set_at, length-take-le, length_push}
use Rattle.std.proofs.lemmas.List.Elements.{All-head, All-tail}
use Rattle.std.proofs.lemmas.List.Sums.{position_or_len_is, sum_by-cons}
use Rattle.std.proofs.lemmas.Map.Keys.{apart_from_distinct}
use Rattle.dz_rank.specs.declared.symbols.Operator.{Operator}
use Rattle.dz_rank.specs.declared.symbols.Symbol.{Symbol}
use Rattle.dz_rank.specs.declared.symbols.Symbol.TheVariants.{Independent, Derivative}
use Rattle.dz_rank.specs.Symbols.{BelongsTo, IsOperatorOf, identity, total_order}
use Rattle.dz_syntax.specs.declared.token.Token.{Token}
use Rattle.dz_syntax.specs.declared.token.Token.TheVariants.{Name, OpenBracket, Nothing}
use Rattle.dz_syntax.specs.Tokens.{is_name_byte, skip_from, front, behind, bytes_of}
use Rattle.dz_syntax.specs.Names.{Declared, IsDeclared, dependents, find, plain, signature_of, symbol_numbered}
use Rattle.dz_syntax.specs.Atoms.{as_independent, independent_from, independent_at, raised, names_go_on, names_in, symbol_of, symbol_if, symbol_from, symbol_at}
use Rattle.dz_syntax.proofs.Complete.{on_ok}
use Rattle.dz_form.specs.Texts.{joined, copies, repeated, independents, derivations_text, is_identity, name_numbered, symbol_text}
use Rattle.dz_form.proofs.TextTokens.{IsToken, begins, name_token, comma, open_bracket, close_bracket, nothing}

-- ---- texts with a mark between them

-- texts, each behind a mark
abbrev pub behind_marks : List ℕ → List (List ℕ) → List ℕ
behind_marks mark [] = []
behind_marks mark (text ∷ texts) = mark ++ (text ++ behind_marks mark texts)

-- texts with a mark between them are the first one and the others, each behind a mark
pub joined-cons : (mark text : List ℕ) (texts : List (List ℕ)) → joined mark (text ∷ texts) ≡ text ++ behind_marks mark texts
joined-cons mark text [] = sym (append-nil text)
joined-cons mark text (next ∷ more) = append_assoc text mark (joined mark (next ∷ more)) ∙ ap (λ (t : List ℕ). text ++ (mark ++ t)) (joined-cons mark next more)

-- ---- what a name stands for

-- the first index at which a test passes
pub position_is : {X : Type 0} (p : X → Bool) (xs : List X) (i : ℕ) → i < length xs → position_or_len p xs ≡ i → position p xs ≡ Some i
position_is p xs i lt e = let within : nat_lt i (length xs) ≡ true = grind (arith, nat_tests) in rw (e, within) refl

-- a declared name stands for the symbol of its number
find-name : (names : Declared) (i : ℕ) → IsDeclared names → i < length names.all → find names (name_numbered names i) ≡ symbol_numbered names.independents (Some i)
unfolding find
find-name names i is lt =
    let name = name_numbered names i in
    let earlier = λ (k : ℕ) (h : k < i). nat_list_eq_equiv.symm name (get_or names.all k []) ∙ apart_from_distinct bytes_eq names.all k i [] is.distinct h lt in
    let here = position_or_len_is (λ n. bytes_eq name n) names.all i [] (omega arith) earlier (λ _. nat_list_eq_equiv.refl name) in
    ap (symbol_numbered names.independents) (position_is (λ n. bytes_eq name n) names.all i lt here)

-- the name of an independent
pub find-independent : (names : Declared) (i : ℕ) → IsDeclared names → i < names.independents → find names (name_numbered names i) ≡ Some (Independent i)
find-independent names i is lt =
    let below : nat_lt i names.independents ≡ true = grind (arith, nat_tests) in
    find-name names i is (omega (arith, is.independents_are)) ∙ rw below refl

-- the name of a dependent
pub find-dependent : (names : Declared) (u : ℕ) → IsDeclared names → u < dependents names → find names (name_numbered names (names.independents + u)) ≡ Some (plain u)
find-dependent names u is lt =
    let above : nat_lt (names.independents + u) names.independents ≡ false = grind (arith, nat_tests) in
    let number : names.independents + u - names.independents ≡ u = omega arith in
    find-name names (names.independents + u) is (omega (arith, is.independents_are, lt)) ∙ rw (above, number) refl

-- the token of a declared name
declared_token : (names : Declared) (i : ℕ) (rest : List ℕ) → IsDeclared names → i < length names.all → begins is_name_byte rest ≡ false → IsToken Name (name_numbered names i) rest
declared_token names i rest is lt stop = name_token (name_numbered names i) rest (is.are_names i [] lt) stop

-- ---- names in brackets

-- an operator with more derivations
abbrev pub raised_by : Operator → List ℕ → Operator
raised_by o [] = o
raised_by o (i ∷ is) = raised_by (raised o i) is

-- every number of a list is below a bound
abbrev pub AreBelow : ℕ → List ℕ → Type 0
AreBelow n [] = ⊤
AreBelow n (i ∷ is) = (i < n) × AreBelow n is

-- an independent at the front is read
independent_read : (names : Declared) (i : ℕ) (text : List ℕ) → IsDeclared names → i < names.independents → front text ≡ Name → bytes_of text ≡ name_numbered names i
    → independent_at names text ≡ Ok i
unfolding independent_at
independent_read names i text is lt name bytes =
    ap (λ t. independent_from names t text) name ∙ ap (λ (b : List ℕ). as_independent text (find names b)) bytes ∙ ap (as_independent text) (find-independent names i is lt)

-- one name, and the token behind it
one_name : (names : Declared) (left : ℕ) (o : Operator) (i : ℕ) (rest : List ℕ) → IsDeclared names → i < names.independents → begins is_name_byte rest ≡ false
    → names_in (suc left) names o (skip_from false (name_numbered names i ++ rest))
    ≡ names_go_on (λ rest. names_in left names (raised o i) rest) (raised o i) (front (skip_from false rest)) (skip_from false rest)
unfolding names_in
one_name names left o i rest is lt stop =
    let t = declared_token names i rest is (omega (arith, is.independents_are)) stop in
    let text = name_numbered names i ++ rest in
    let go_on = λ (i : ℕ). names_go_on (λ rest. names_in left names (raised o i) rest) (raised o i) (front (behind text)) (behind text) in
    ap (λ (text : List ℕ). names_in (suc left) names o text) t.stands
    ∙ on_ok (independent_at names text) i go_on (independent_read names i text is lt t.token t.bytes_are)
    ∙ ap (λ (text : List ℕ). names_go_on (λ rest. names_in left names (raised o i) rest) (raised o i) (front text) text) t.behind_is

-- the names of these numbers, each behind a comma, and then a bracket
abbrev names_end : Declared → List ℕ → List ℕ → List ℕ
names_end names is rest = behind_marks (codes ",") (map (name_numbered names) is) ++ (codes "]" ++ rest)

-- what follows a name in brackets begins with no byte of a name
names_end_stops : (names : Declared) (is : List ℕ) (rest : List ℕ) → begins is_name_byte (names_end names is rest) ≡ false
names_end_stops names [] rest = refl
names_end_stops names (i ∷ is) rest = refl

-- names in brackets are read, each once more
names_read : (names : Declared) (left : ℕ) (o : Operator) (i : ℕ) (is rest : List ℕ) → IsDeclared names → length is ≤ left → AreBelow names.independents (i ∷ is)
    → names_in (suc left) names o (skip_from false (name_numbered names i ++ names_end names is rest)) ≡ Ok (raised_by o (i ∷ is), skip_from false rest)
names_read names left o i [] rest d fits below =
    let end = close_bracket rest in
    one_name names left o i (codes "]" ++ rest) d below.0 refl
    ∙ ap (λ t. names_go_on (λ rest. names_in left names (raised o i) rest) (raised o i) t (codes "]" ++ rest)) end.token
    ∙ ap (λ (rest : List ℕ). Ok (raised o i, rest)) end.behind_is
names_read names zero o i (j ∷ is) rest d fits below = absurd (omega arith)
names_read names (suc left) o i (j ∷ is) rest d fits below =
    let text = name_numbered names j ++ names_end names is rest in
    let more = comma text in
    one_name names (suc left) o i (names_end names (j ∷ is) rest) d below.0 refl
    ∙ ap (λ (text : List ℕ). names_go_on (λ rest. names_in (suc left) names (raised o i) rest) (raised o i) (front (44 ∷ text)) (44 ∷ text)) (append_assoc (name_numbered names j) (behind_marks (codes ",") (map (name_numbered names) is)) (codes "]" ++ rest))
    ∙ ap (λ t. names_go_on (λ rest. names_in (suc left) names (raised o i) rest) (raised o i) t (codes "," ++ text)) more.token
    ∙ ap (λ (text : List ℕ). names_in (suc left) names (raised o i) text) more.behind_is
    ∙ names_read names left (raised o i) j is rest d (omega arith) below.1

-- ---- the derivations of an operator

-- a number, so often, before other numbers
abbrev pub times : ℕ → ℕ → List ℕ → List ℕ
times i zero is = is
times i (suc count) is = i ∷ times i count is

-- the numbers of the independents, from k on, each as often as its exponent says
abbrev pub indices : ℕ → List ℕ → List ℕ
indices k [] = []
indices k (count ∷ counts) = times k count (indices (suc k) counts)

-- all numbers are zero
abbrev pub Zeros : List ℕ → Type 0
Zeros ks = All (λ k. k ≡ 0) ks

-- no independent stands where no exponent is positive
pub indices-zeros : (k : ℕ) (counts : List ℕ) → Zeros counts → indices k counts ≡ []
indices-zeros k [] z = refl
indices-zeros k (c ∷ counts) z = rw (All-head (λ k. k ≡ 0) c counts z) (indices-zeros (suc k) counts (All-tail (λ k. k ≡ 0) c counts z))

-- copies of a name are names of copies
copies-map : (f : ℕ → List ℕ) (k count : ℕ) (is : List ℕ) → copies (f k) count (map f is) ≡ map f (times k count is)
copies-map f k zero is = refl
copies-map f k (suc count) is = ap (λ (names : List (List ℕ)). f k ∷ names) (copies-map f k count is)

-- repeated names are names of repeated numbers
repeated-map : (f : ℕ → List ℕ) (names : List (List ℕ)) (k : ℕ) (counts : List ℕ) → ((j : ℕ) → j < length names → get_or names j [] ≡ f (k + j)) → Zeros (drop (length names) counts)
    → repeated names counts ≡ map f (indices k counts)
repeated-map f [] k counts at z = rw (indices-zeros k counts z) refl
repeated-map f (name ∷ names) k [] at z = refl
repeated-map f (name ∷ names) k (count ∷ counts) at z =
    let here : name ≡ f k = at 0 (omega arith) ∙ ap f (omega arith) in
    let more = repeated-map f names (suc k) counts (λ j lt. at (suc j) (omega arith) ∙ ap f (omega arith)) z in
    rw (here, more) (copies-map f k count (indices (suc k) counts))

-- how many numbers there are with copies of one
length-times : (i count : ℕ) (is : List ℕ) → length (times i count is) ≡ count + length is
length-times i zero is = omega arith
length-times i (suc count) is = omega (arith, length-times i count is)

-- as many as the exponents add up to
pub length-indices : (k : ℕ) (counts : List ℕ) → length (indices k counts) ≡ sum counts
length-indices k [] = refl
length-indices k (count ∷ counts) = omega (arith, length-times k count (indices (suc k) counts), length-indices (suc k) counts, sum_by-cons (λ x. x) count counts)

-- copies of a number below a bound are below it
times_below : (n i count : ℕ) (is : List ℕ) → i < n → AreBelow n is → AreBelow n (times i count is)
times_below n i zero is lt below = below
times_below n i (suc count) is lt below = (lt, times_below n i count is lt below)

-- the numbers are those of independents
pub indices_below : (m k : ℕ) (counts : List ℕ) → Zeros (drop m counts) → AreBelow (k + m) (indices k counts)
indices_below zero k counts z = rw (indices-zeros k counts z) tt
indices_below (suc m) k [] z = tt
indices_below (suc m) k (count ∷ counts) z =
    let sums : suc k + m ≡ k + suc m = omega arith in
    times_below (k + suc m) k count (indices (suc k) counts) (omega arith) (subst (λ (n : ℕ). AreBelow n (indices (suc k) counts)) sums (indices_below m (suc k) counts z))

-- once more at a place
pub raised_at : (done : List ℕ) (k x : ℕ) (more : List ℕ) → length done ≡ k → raised (record { counts = done ++ x ∷ more }) k ≡ record { counts = done ++ (x + 1) ∷ more }
raised_at done k x more e = ap (λ (counts : List ℕ). record { counts = counts }) (rw (get_or_at done x more 0 k e) (set_at done x more (x + 1) k e))

-- so often more at a place
raised_by-times : (done : List ℕ) (k count x : ℕ) (more is : List ℕ) → length done ≡ k
    → raised_by (record { counts = done ++ x ∷ more }) (times k count is) ≡ raised_by (record { counts = done ++ (x + count) ∷ more }) is
raised_by-times done k zero x more is e = ap (λ (y : ℕ). raised_by (record { counts = done ++ y ∷ more }) is) (omega arith)
raised_by-times done k (suc count) x more is e =
    ap (λ (o : Operator). raised_by o (times k count is)) (raised_at done k x more e)
    ∙ raised_by-times done k count (x + 1) more is e
    ∙ ap (λ (y : ℕ). raised_by (record { counts = done ++ y ∷ more }) is) (omega arith)

-- the exponents from a place on, taken one by one
raised_by-indices : (done : List ℕ) (k : ℕ) (counts : List ℕ) → length done ≡ k → raised_by (record { counts = done ++ replicate (length counts) 0 }) (indices k counts) ≡ record { counts = done ++ counts }
raised_by-indices done k [] e = refl
raised_by-indices done k (count ∷ counts) e =
    let zeros : List ℕ = replicate (length counts) 0 in
    let count_is : 0 + count ≡ count = omega arith in
    let next : length (done ++ count ∷ []) ≡ suc k = omega (arith, length_push done count) in
    let same : done ++ (0 + count) ∷ zeros ≡ (done ++ count ∷ []) ++ zeros = ap (λ (y : ℕ). done ++ y ∷ zeros) count_is ∙ sym (append_assoc done (count ∷ []) zeros) in
    raised_by-times done k count 0 zeros (indices (suc k) counts) e
    ∙ ap (λ (all : List ℕ). raised_by (record { counts = all }) (indices (suc k) counts)) same
    ∙ raised_by-indices (done ++ count ∷ []) (suc k) counts next
    ∙ ap (λ (all : List ℕ). record { counts = all }) (append_assoc done (count ∷ []) counts)

-- a list with an element has a first one
pub first_of : (xs : List ℕ) → 0 < length xs → (x : ℕ) × (more : List ℕ) × (xs ≡ x ∷ more)
first_of [] some = absurd (omega arith)
first_of (x ∷ more) some = (x, more, refl)

-- the names in the text of an operator
pub repeated-names : (names : Declared) (o : Operator) → IsDeclared names → IsOperatorOf names.independents o → repeated (independents names) o.counts ≡ map (name_numbered names) (indices 0 o.counts)
repeated-names names o d is =
    let size : length (take names.independents names.all) ≡ names.independents = length-take-le names.independents names.all d.independents_are in
    let zeros : Zeros (drop (length (take names.independents names.all)) o.counts) = rw size is.zeros in
    repeated-map (name_numbered names) (independents names) 0 o.counts
    (λ j lt. let less : j < names.independents = omega (arith, size, lt) in get_or-take names.independents names.all j [] less ∙ ap (name_numbered names) (omega arith)) zeros

-- the text of an operator, by the numbers of its names
derivations_text-cons : (names : Declared) (o : Operator) (i : ℕ) (more rest : List ℕ) → IsDeclared names → IsOperatorOf names.independents o → indices 0 o.counts ≡ i ∷ more
    → derivations_text names o ++ (codes "]" ++ rest) ≡ name_numbered names i ++ names_end names more rest
derivations_text-cons names o i more rest d is e =
    let others : List (List ℕ) = map (name_numbered names) more in
    let texts : derivations_text names o ≡ name_numbered names i ++ behind_marks (codes ",") others =
    rw (repeated-names names o d is, e) (joined-cons (codes ",") (name_numbered names i) others) in
    ap (λ (text : List ℕ). text ++ (codes "]" ++ rest)) texts ∙ append_assoc (name_numbered names i) (behind_marks (codes ",") others) (codes "]" ++ rest)

-- its numbers, taken one by one, make an operator
pub operator_is : (o : Operator) (is : List ℕ) (n : ℕ) → IsOperatorOf n o → indices 0 o.counts ≡ is → raised_by identity is ≡ o
operator_is o is n fits e =
    let four : identity ≡ record { counts = replicate (length o.counts) 0 } = rw fits.size refl in
    rw (four, ← e) (raised_by-indices [] 0 o.counts refl)

-- an operator is read, by its numbers
operator_by : (names : Declared) (o : Operator) (i : ℕ) (more rest : List ℕ) → IsDeclared names → IsOperatorOf names.independents o → sum o.counts ≤ 60 → indices 0 o.counts ≡ i ∷ more
    → names_in 60 names identity (skip_from false (derivations_text names o ++ (codes "]" ++ rest))) ≡ Ok (o, skip_from false rest)
operator_by names o i more rest d is fits e =
    let zero_plus : 0 + names.independents ≡ names.independents = omega arith in
    let below : AreBelow names.independents (i ∷ more) =
    subst (λ (is : List ℕ). AreBelow names.independents is) e (subst (λ (n : ℕ). AreBelow n (indices 0 o.counts)) zero_plus (indices_below names.independents 0 o.counts is.zeros)) in
    let fewer : length more ≤ 59 = omega (arith, length-indices 0 o.counts, ap length e, fits) in
    ap (λ (text : List ℕ). names_in 60 names identity (skip_from false text)) (derivations_text-cons names o i more rest d is e)
    ∙ names_read names 59 identity i more rest d fewer below
    ∙ ap (λ (o : Operator). Ok (o, skip_from false rest)) (operator_is o (i ∷ more) names.independents is e)

-- an operator that takes a derivation is read
pub operator_read : (names : Declared) (o : Operator) (rest : List ℕ) → IsDeclared names → IsOperatorOf names.independents o → sum o.counts ≤ 60 → is_identity o ≡ false
    → names_in 60 names identity (skip_from false (derivations_text names o ++ (codes "]" ++ rest))) ≡ Ok (o, skip_from false rest)
operator_read names o rest d is fits proper =
    let some : 0 < sum o.counts = grind (arith, nat_tests) in
    let f = first_of (indices 0 o.counts) (omega (arith, some, length-indices 0 o.counts)) in
    operator_by names o f.0 f.1 rest d is fits f.2

-- the operator that takes no derivation
sum_zero : (counts : List ℕ) → sum counts ≡ 0 → counts ≡ replicate (length counts) 0
sum_zero [] none = refl
sum_zero (count ∷ counts) none =
    let sums = sum_by-cons (λ x. x) count counts in
    let here : count ≡ 0 = omega (arith, sums, none) in
    let others : sum counts ≡ 0 = omega (arith, sums, none) in
    rw (here, ← sum_zero counts others) refl

-- the operator whose exponents add up to zero
identity_from_sum : (n : ℕ) (o : Operator) → IsOperatorOf n o → sum o.counts ≡ 0 → o ≡ identity
identity_from_sum n o is none = ap (λ (counts : List ℕ). record { counts = counts }) (sum_zero o.counts none ∙ ap (λ (k : ℕ). replicate k 0) is.size)

-- what is tested to take no derivation takes none
pub identity_is : (n : ℕ) (o : Operator) → IsOperatorOf n o → is_identity o ≡ true → o ≡ identity
identity_is n o is none = identity_from_sum n o is (grind (arith, nat_tests))

-- ---- symbols

-- A symbol ends before this text: it does not begin with a byte of a name, nor, behind blanks, with an opening bracket.
pub record Ends (rest : List ℕ) : Type 0 where
  pub apart : begins is_name_byte rest ≡ false
  pub no_bracket : front (skip_from false rest) ≡ OpenBracket → ⊥

-- the end of the text
pub ends_nil : Ends []
ends_nil = record { apart = refl; no_bracket = λ e. let no : Nothing ≡ OpenBracket = sym nothing ∙ e in cc }

-- a symbol without brackets
no_brackets : (names : Declared) (text : List ℕ) (s : Symbol) (t : Token) → (t ≡ OpenBracket → ⊥) → symbol_of names text s t ≡ Ok (s, behind text)
no_brackets names text (Independent i) OpenBracket other = absurd (other refl)
no_brackets names text (Derivative u o) OpenBracket other = absurd (other refl)
no_brackets names text s t other = refl

-- a declared name, with what it stands for
name_read : (names : Declared) (i : ℕ) (s : Symbol) (rest : List ℕ) → IsDeclared names → i < length names.all → begins is_name_byte rest ≡ false → find names (name_numbered names i) ≡ Some s
    → symbol_at names (skip_from false (name_numbered names i ++ rest)) ≡ symbol_of names (name_numbered names i ++ rest) s (front (behind (name_numbered names i ++ rest)))
unfolding symbol_at
name_read names i s rest d lt stop found =
    let t = declared_token names i rest d lt stop in
    let text = name_numbered names i ++ rest in
    ap (λ (text : List ℕ). symbol_from names (front text) text) t.stands
    ∙ ap (λ t. symbol_from names t text) t.token
    ∙ ap (λ (name : List ℕ). symbol_if names text (find names name)) t.bytes_are
    ∙ ap (symbol_if names text) found

-- a name alone
plain_read : (names : Declared) (i : ℕ) (s : Symbol) (rest : List ℕ) → IsDeclared names → i < length names.all → Ends rest → find names (name_numbered names i) ≡ Some s
    → symbol_at names (skip_from false (name_numbered names i ++ rest)) ≡ Ok (s, skip_from false rest)
plain_read names i s rest d lt ends found =
    let t = declared_token names i rest d lt ends.apart in
    let text = name_numbered names i ++ rest in
    let other : front (behind text) ≡ OpenBracket → ⊥ = λ e. ends.no_bracket (ap front (sym t.behind_is) ∙ e) in
    name_read names i s rest d lt ends.apart found
    ∙ no_brackets names text s (front (behind text)) other
    ∙ ap (λ (rest : List ℕ). Ok (s, rest)) t.behind_is

-- a name and an operator in brackets
brackets_read : (names : Declared) (i u : ℕ) (o : Operator) (inside rest : List ℕ) → IsDeclared names → i < length names.all → find names (name_numbered names i) ≡ Some (plain u)
    → names_in 60 names identity (skip_from false inside) ≡ Ok (o, skip_from false rest)
    → symbol_at names (skip_from false (name_numbered names i ++ (codes "[" ++ inside))) ≡ Ok (Derivative u o, skip_from false rest)
brackets_read names i u o inside rest d lt found read =
    let t = declared_token names i (codes "[" ++ inside) d lt refl in
    let bracket = open_bracket inside in
    let text = name_numbered names i ++ (codes "[" ++ inside) in
    name_read names i (plain u) (codes "[" ++ inside) d lt refl found
    ∙ ap (symbol_of names text (plain u)) (ap front t.behind_is ∙ bracket.token)
    ∙ on_ok (names_in 60 names identity (behind (behind text))) (o, skip_from false rest) (λ o. Ok (Derivative u o.0, o.1))
    (ap (λ (text : List ℕ). names_in 60 names identity text) (ap behind t.behind_is ∙ bracket.behind_is) ∙ read)

-- a derivative, by whether it has brackets
derivative_read : (names : Declared) (u : ℕ) (o : Operator) (none : Bool) (rest : List ℕ) → IsDeclared names → u < dependents names → IsOperatorOf names.independents o → sum o.counts ≤ 60
    → Ends rest → is_identity o ≡ none
    → symbol_at names (skip_from false ((name_numbered names (names.independents + u) ++ cond none [] (codes "[" ++ derivations_text names o ++ codes "]")) ++ rest))
    ≡ Ok (Derivative u o, skip_from false rest)
derivative_read names u o true rest d lt is fits ends none =
    let name = name_numbered names (names.independents + u) in
    ap (λ (text : List ℕ). symbol_at names (skip_from false (text ++ rest))) (append-nil name)
    ∙ plain_read names (names.independents + u) (plain u) rest d (omega (arith, lt)) ends (find-dependent names u d lt)
    ∙ ap (λ (o : Operator). Ok (Derivative u o, skip_from false rest)) (sym (identity_is names.independents o is none))
derivative_read names u o false rest d lt is fits ends none =
    let name = name_numbered names (names.independents + u) in
    let inside = derivations_text names o ++ (codes "]" ++ rest) in
    let text : (name ++ (codes "[" ++ derivations_text names o ++ codes "]")) ++ rest ≡ name ++ (codes "[" ++ inside) =
    append_assoc name (codes "[" ++ derivations_text names o ++ codes "]") rest ∙ ap (λ (t : List ℕ). name ++ (codes "[" ++ t)) (append_assoc (derivations_text names o) (codes "]") rest) in
    ap (λ (text : List ℕ). symbol_at names (skip_from false text)) text
    ∙ brackets_read names (names.independents + u) u o inside rest d (omega (arith, lt)) (find-dependent names u d lt) (operator_read names o rest d is fits none)

-- the text of a symbol is read as the symbol
pub symbol_read : (names : Declared) (s : Symbol) (rest : List ℕ) → IsDeclared names → BelongsTo (signature_of names) s → total_order s ≤ 60 → Ends rest
    → symbol_at names (skip_from false (symbol_text names s ++ rest)) ≡ Ok (s, skip_from false rest)
unfolding symbol_text
symbol_read names (Independent i) rest d belongs fits ends =
    plain_read names i (Independent i) rest d (omega (arith, belongs, d.independents_are)) ends (find-independent names i d belongs)
symbol_read names (Derivative u o) rest d belongs fits ends = derivative_read names u o (is_identity o) rest d belongs.0 belongs.1 fits ends refl
