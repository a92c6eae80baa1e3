-- What is read leaves less text.
use Rattle.std.proofs.Common.{◌≡◌, ◌⊎◌, ℕ, zero, suc, ◌+◌, ◌≤◌, ◌<◌, List, [], ◌∷◌, length, take, drop, Result, Ok, Option, Some, None, Bool, true, false, not, cond, eqb, IsTrue, refl, ap, arith, inl, inr, length-drop}
use Rattle.std.specs.Char.{is_ascii_digit}
use Rattle.dz_syntax.specs.declared.token.Token.{Token}
use Rattle.dz_syntax.specs.declared.token.Token.TheVariants.{Name, Number, OpenBracket, CloseBracket, Comma, Star, Plus, Minus, Differs, Bad}
use Rattle.dz_syntax.specs.declared.fault.Fault.{Fault}
use Rattle.dz_rank.specs.declared.symbols.Operator.{Operator}
use Rattle.dz_rank.specs.declared.symbols.Symbol.{Symbol}
use Rattle.dz_rank.specs.declared.symbols.Symbol.TheVariants.{Independent, Derivative}
use Rattle.dz_syntax.specs.declared.expression.Op.{Op}
use Rattle.dz_rank.specs.Symbols.{identity}
use Rattle.dz_syntax.specs.Tokens.{skip_from, is_separator, is_letter, is_name_byte, is_token, front_len, token_of, front, behind, bytes_of, mark_of, mark_at, sized, differs_or_bad, word_or_name}
use Rattle.dz_syntax.specs.Names.{Declared, find}
use Rattle.dz_syntax.specs.Atoms.{independent_at, raised, names_go_on, names_in, symbol_of, symbol_if, symbol_from, symbol_at}
use Rattle.dz_syntax.specs.Faults.{refuse}
use Rattle.dz_syntax.specs.declared.fault.SyntaxKind.TheVariants.{Order}
use Rattle.dz_syntax.specs.declared.expression.Op.TheVariants as ops
use Rattle.dz_syntax.specs.Grammar.{Grammar, IsAtom, IsPower, IsFactors, IsProduct, IsSums, IsFirst, IsPoly, IsInside}
use Rattle.dz_algebra.proofs.Outcomes.{bind_ok}
use Rattle.dz_syntax.proofs.Sound.{ok_is}

cond_within : (c : Bool) (x y : List ℕ) (n : ℕ) → length x ≤ n → length y ≤ n → length (cond c x y) ≤ n
cond_within true x y n p q = p
cond_within false x y n p q = q

pub skip_within : (in_comment : Bool) (text : List ℕ) → length (skip_from in_comment text) ≤ length text
skip_within true [] = omega arith
skip_within false [] = omega arith
skip_within true (b ∷ rest) = omega (arith, skip_within (not (eqb b 10)) rest)
skip_within false (b ∷ rest) =
    let p : length (skip_from true rest) ≤ suc (length rest) = omega (arith, skip_within true rest) in
    let q : length (skip_from false rest) ≤ suc (length rest) = omega (arith, skip_within false rest) in
    cond_within (eqb b 35) _ _ _ p (cond_within (is_separator b) _ _ _ q (omega arith))

pub behind_within : (text : List ℕ) → length (behind text) ≤ length text
unfolding behind
behind_within text = let h = skip_within false (drop (token_of text).1 text) in omega (arith, h, length-drop (token_of text).1 text)

-- a token has a byte
abbrev HasByte : Token × ℕ → Type 0
HasByte t = IsTrue (is_token t.0) → 0 < t.1

either_has : (c : Bool) (x y : Token × ℕ) → (c ≡ true → HasByte x) → (c ≡ false → HasByte y) → HasByte (cond c x y)
either_has true x y p q = p refl
either_has false x y p q = q refl

bad_has : HasByte (Bad, 0)
bad_has h = absurd cc

differs_has : (rest : List ℕ) → HasByte (differs_or_bad rest)
differs_has [] = bad_has
differs_has (b ∷ rest) = either_has (eqb b 61) (Differs, 2) (Bad, 0) (λ _ _. omega arith) (λ _. bad_has)

sized_has : (t : Token) → HasByte (sized t)
sized_has Bad = bad_has
sized_has t = λ _. omega arith

mark_has : (b : ℕ) (rest : List ℕ) → HasByte (mark_at b rest)
mark_has b rest = either_has (eqb b 33) (differs_or_bad rest) (sized (mark_of b)) (λ _. differs_has rest) (λ _. sized_has (mark_of b))

front_len_some : (test : ℕ → Bool) (b : ℕ) (rest : List ℕ) → test b ≡ true → 0 < front_len test (b ∷ rest)
front_len_some test b rest e = rw e (omega arith)

letter_is_name : (b : ℕ) → is_letter b ≡ true → is_name_byte b ≡ true
letter_is_name b e = rw e refl

token_has : (text : List ℕ) → HasByte (token_of text)
unfolding token_of
token_has [] = λ h. absurd cc
token_has (b ∷ rest) =
    let name : Token × ℕ = (word_or_name (take (front_len is_name_byte (b ∷ rest)) (b ∷ rest)), front_len is_name_byte (b ∷ rest)) in
    let number : Token × ℕ = (Number, front_len is_ascii_digit (b ∷ rest)) in
    either_has (is_letter b) name (cond (is_ascii_digit b) number (mark_at b rest)) (λ e _. front_len_some is_name_byte b rest (letter_is_name b e))
    (λ _. either_has (is_ascii_digit b) number (mark_at b rest) (λ e _. front_len_some is_ascii_digit b rest e) (λ _. mark_has b rest))

nothing : IsTrue (is_token (front [])) → ⊥
unfolding front token_of
nothing h = cc

pub behind_shorter : (text : List ℕ) → IsTrue (is_token (front text)) → length (behind text) < length text
unfolding front behind
behind_shorter [] h = absurd (nothing h)
behind_shorter (b ∷ rest) h =
    let some = token_has (b ∷ rest) h in
    let k = skip_within false (drop (token_of (b ∷ rest)).1 (b ∷ rest)) in
    omega (arith, k, length-drop (token_of (b ∷ rest)).1 (b ∷ rest))

-- the same, where the token is known
pub past_shorter : (text : List ℕ) (t : Token) → front text ≡ t → IsTrue (is_token t) → length (behind text) < length text
past_shorter text t e h = behind_shorter text (rw e h)

-- ---- symbols

names_go_on_within : (more : List ℕ → Result (Operator × List ℕ) Fault) (bound : ℕ) (o : Operator) (t : Token) (text : List ℕ) (x : Operator × List ℕ)
    → ((rest : List ℕ) (y : Operator × List ℕ) → more rest ≡ Ok y → length y.1 ≤ length rest) → length text ≤ bound → names_go_on more o t text ≡ Ok x → length x.1 ≤ bound
names_go_on_within more bound o Comma text x h fits e = omega (arith, h (behind text) x e, behind_within text)
names_go_on_within more bound o CloseBracket text x h fits e = let k = ap (λ (p : Operator × List ℕ). length p.1) (ok_is _ x e) in omega (arith, k, behind_within text)
names_go_on_within more bound o t text x h fits e = absurd cc

pub names_in_within : (left : ℕ) (names : Declared) (o : Operator) (text : List ℕ) (x : Operator × List ℕ) → names_in left names o text ≡ Ok x → length x.1 ≤ length text
unfolding names_in
names_in_within zero names o text x e = let b = bind_ok (independent_at names text) (λ i. refuse Order text) x e in absurd (let f = b.2 in cc)
names_in_within (suc left) names o text x e =
    let b = bind_ok (independent_at names text) (λ i. names_go_on (λ rest. names_in left names (raised o i) rest) (raised o i) (front (behind text)) (behind text)) x e in
    names_go_on_within (λ rest. names_in left names (raised o b.0) rest) (length text) (raised o b.0) (front (behind text)) (behind text) x (λ rest y. names_in_within left names (raised o b.0) rest y) (behind_within text) b.2

symbol_of_within : (names : Declared) (text : List ℕ) (s : Symbol) (t : Token) (x : Symbol × List ℕ) → symbol_of names text s t ≡ Ok x → length x.1 ≤ length text
symbol_of_within names text (Independent i) OpenBracket x e = absurd cc
symbol_of_within names text (Derivative d o) OpenBracket x e =
    let b = bind_ok (names_in 60 names identity (behind (behind text))) (λ o. Ok (Derivative d o.0, o.1)) x e in
    let k = ap (λ (p : Symbol × List ℕ). length p.1) (ok_is _ x b.2) in
    omega (arith, k, names_in_within 60 names identity (behind (behind text)) b.0 b.1, behind_within (behind text), behind_within text)
symbol_of_within names text s t x e = let k = ap (λ (p : Symbol × List ℕ). length p.1) (ok_is _ x e) in omega (arith, k, behind_within text)

symbol_if_within : (names : Declared) (text : List ℕ) (s : Option Symbol) (x : Symbol × List ℕ) → symbol_if names text s ≡ Ok x → length x.1 ≤ length text
symbol_if_within names text None x e = absurd cc
symbol_if_within names text (Some s) x e = symbol_of_within names text s (front (behind text)) x e

symbol_from_within : (names : Declared) (t : Token) (text : List ℕ) (x : Symbol × List ℕ) → symbol_from names t text ≡ Ok x → length x.1 ≤ length text
symbol_from_within names Name text x e = symbol_if_within names text (find names (bytes_of text)) x e
symbol_from_within names t text x e = absurd cc

pub symbol_within : (names : Declared) (text : List ℕ) (x : Symbol × List ℕ) → symbol_at names text ≡ Ok x → length x.1 ≤ length text
unfolding symbol_at
symbol_within names text x e = symbol_from_within names (front text) text x e

-- ---- the grammar

abbrev pub Shrinks : Grammar → Type 0
Shrinks g = (text : List ℕ) (o : List Op) (rest : List ℕ) → g text o rest → length rest ≤ length text

module _ (names : Declared) (g : Grammar) where
  pub atom_within : Shrinks g → Shrinks (IsAtom names g)
  atom_within h text o rest (inl a) = rw a.1.end (behind_within text)
  atom_within h text o rest (inr (inl a)) = symbol_within names text (a.0, rest) a.1
  atom_within h text o rest (inr (inr a)) = h text o rest a.1

  pub power_within : Shrinks g → Shrinks (IsPower names g)
  power_within h text o rest (inl a) = atom_within h text o rest a
  power_within h text o rest (inr a) = rw a.5.end (omega (arith, atom_within h text a.0 a.1 a.3, behind_within a.1, behind_within (behind a.1)))

  -- and each factor takes a byte at least
  pub factors_within : Shrinks g → (n : ℕ) (text : List ℕ) (o : List Op) (rest : List ℕ) → IsFactors names g n text o rest → n + length rest ≤ length text
  factors_within h zero text o rest a = rw a.1 (omega arith)
  factors_within h (suc n) text o rest a = omega (arith, past_shorter text Star a.3 refl, power_within h (behind text) a.0 a.2 a.4, factors_within h n a.2 a.1 rest a.5)

  pub product_within : Shrinks g → Shrinks (IsProduct names g)
  product_within h text o rest a = omega (arith, power_within h text a.0 a.2 a.4, factors_within h a.3 a.2 a.1 rest a.5)

  sign_shorter : (text : List ℕ) (op : Op) → ((front text ≡ Plus) × (op ≡ ops.Add)) ⊎ ((front text ≡ Minus) × (op ≡ ops.Sub)) → length (behind text) < length text
  sign_shorter text op (inl a) = past_shorter text Plus a.0 refl
  sign_shorter text op (inr a) = past_shorter text Minus a.0 refl

  pub sums_within : Shrinks g → (n : ℕ) (text : List ℕ) (o : List Op) (rest : List ℕ) → IsSums names g n text o rest → n + length rest ≤ length text
  sums_within h zero text o rest a = rw a.1 (omega arith)
  sums_within h (suc n) text o rest a = omega (arith, sign_shorter text a.3 a.4, product_within h (behind text) a.0 a.2 a.5, sums_within h n a.2 a.1 rest a.6)

  pub first_within : Shrinks g → Shrinks (IsFirst names g)
  first_within h text o rest (inl a) = product_within h text o rest a
  first_within h text o rest (inr (inl a)) = omega (arith, product_within h (behind text) o rest a.1, behind_within text)
  first_within h text o rest (inr (inr a)) = omega (arith, product_within h (behind text) a.0 rest a.2, behind_within text)

  pub poly_within : Shrinks g → Shrinks (IsPoly names g)
  poly_within h text o rest a = omega (arith, first_within h text a.0 a.2 a.4, sums_within h a.3 a.2 a.1 rest a.5)

pub inside_within : (names : Declared) (n : ℕ) → Shrinks (IsInside names n)
unfolding IsInside
inside_within names zero text o rest a = absurd a
inside_within names (suc n) text o rest a =
    rw a.3 (omega (arith, poly_within names (IsInside names n) (inside_within names n) (behind text) o a.0 a.1, behind_within a.0, behind_within text))
