-- The blocks of a system name each dependent of its signature once.
use Rattle.std.proofs.Common.{◌≡◌, ◌≢◌, ◌⊎◌, ℕ, zero, suc, ◌<◌, ◌≤◌, ◌+◌, ◌-◌, length, slice_index_or, List, [], ◌∷◌, ◌++◌, Result, Ok, Err, false, All, refl, sym, ap, subst, ◌∙◌, inl, inr, arith}
use Rattle.std.specs.Prelude.{IfOk}
use Rattle.std.specs.List.{AllPairs, Contains}
use Rattle.std.proofs.lemmas.List.{length-append}
use Rattle.dz_rank.specs.declared.rankings.Signature.{Signature}
use Rattle.dz_rank.specs.Rankings.{BlockValue, IsRanking, IsRepeatFree, HasAllBelow, dependents_of}
use Rattle.dz_syntax.specs.declared.fault.SyntaxFault.{SyntaxFault}
use Rattle.dz_syntax.specs.declared.endings.Form.{Form}
use Rattle.dz_syntax.specs.declared.names.Group.TheVariants.{Independents, Dependents}
use Rattle.dz_syntax.specs.declared.system.SystemTree.{SystemTree}
use Rattle.dz_syntax.specs.Tokens.{behind, bytes_of, skip_from}
use Rattle.dz_syntax.specs.Names.{Declared, declared, dependents, no_names, room, signature_of}
use Rattle.dz_syntax.specs.Items.{Answers}
use Rattle.dz_syntax.specs.Marks.{is_semicolon}
use Rattle.dz_syntax.specs.Blocks.{numbers_from}
use Rattle.dz_syntax.specs.Systems.{Tree, tree_of, system_of}
use Rattle.dz_syntax.specs.SystemGrammar.{Stands, IsMoreNames, IsNames, IsIndependents, IsBlocks, IsHeader, IsSystem}
use Rattle.dz_syntax.proofs.SystemReadings.{system_found}

-- ---- numbers that follow one another

-- how many they are
length-numbers_from : (first n : ℕ) → length (numbers_from first n) ≡ n
length-numbers_from first zero = refl
length-numbers_from first (suc n) = ap suc (length-numbers_from (suc first) n)

-- which number stands at a place
number_at : (first n i d : ℕ) → i < n → slice_index_or (numbers_from first n) i d ≡ first + i
number_at first zero i d lt = absurd (omega arith)
number_at first (suc n) zero d lt = omega arith
number_at first (suc n) (suc i) d lt = let e : suc first + i ≡ first + suc i = omega arith in number_at (suc first) n i d (omega arith) ∙ e

-- some numbers, and those that follow them
numbers_from-append : (first m n : ℕ) → numbers_from first m ++ numbers_from (first + m) n ≡ numbers_from first (m + n)
numbers_from-append first zero n = let e : first + zero ≡ first = omega arith in let k : zero + n ≡ n = omega arith in rw (e, k) refl
numbers_from-append first (suc m) n =
    let e : first + suc m ≡ suc first + m = omega arith in
    let k : suc m + n ≡ suc (m + n) = omega arith in
    rw (e, k) (ap (λ (l : List ℕ). first ∷ l) (numbers_from-append (suc first) m n))

-- the numbers up to one end, and from there to another
numbers_joined : (first middle end : ℕ) → first ≤ middle → middle ≤ end
    → numbers_from first (middle - first) ++ numbers_from middle (end - middle) ≡ numbers_from first (end - first)
numbers_joined first middle end lower upper =
    let e : first + (middle - first) ≡ middle = omega arith in
    let k : (middle - first) + (end - middle) ≡ end - first = omega arith in
    ap (λ (s : ℕ). numbers_from first (middle - first) ++ numbers_from s (end - middle)) (sym e)
    ∙ numbers_from-append first (middle - first) (end - middle)
    ∙ ap (λ (n : ℕ). numbers_from first n) k

-- the numbers from 0 on are below their count
numbers_below : (n : ℕ) → All (λ u. u < n) (numbers_from 0 n)
numbers_below n i d lt =
    let within : i < n = omega (arith, lt, length-numbers_from 0 n) in
    omega (arith, within, number_at 0 n i d within)

-- no two of them are the same
numbers_apart : (n : ℕ) → IsRepeatFree (numbers_from 0 n)
numbers_apart n = record { apart = at }
  where
    at : AllPairs (λ u v. u ≢ v) (numbers_from 0 n)
    at i j d before lt e =
        let within : j < n = omega (arith, lt, length-numbers_from 0 n) in
        let first : i < n = omega (arith, before, within) in
        omega (arith, before, e, number_at 0 n i d first, number_at 0 n j d within)

-- each number below their count is among them
numbers_stand : (n : ℕ) → HasAllBelow n (numbers_from 0 n)
numbers_stand n = record { each = at }
  where
    at : (u : ℕ) → u < n → Contains (numbers_from 0 n) u
    at u lt = (u, omega (arith, lt, length-numbers_from 0 n), omega (arith, number_at 0 n u u lt))

-- blocks that name the numbers from 0 on are a ranking
numbers_rank : (g : Signature) (blocks : List BlockValue) → g.independents ≤ 4 → g.dependents ≤ 16
    → dependents_of blocks ≡ numbers_from 0 g.dependents → IsRanking (record { signature = g; blocks = blocks })
numbers_rank g blocks independents_fit dependents_fit e = record {
  few_independents = independents_fit;
  few_dependents = dependents_fit;
  only = subst (λ (us : List ℕ). All (λ u. u < g.dependents) us) (sym e) (numbers_below g.dependents);
  once = subst (λ (us : List ℕ). IsRepeatFree us) (sym e) (numbers_apart g.dependents);
  all = subst (λ (us : List ℕ). HasAllBelow g.dependents us) (sym e) (numbers_stand g.dependents);
}

-- ---- how many names are declared

-- there are no more names than a signature may have
record AreFew (names : Declared) : Type 0 where
  independents_fit : names.independents ≤ 4
  independents_are : names.independents ≤ length names.all
  dependents_fit : length names.all ≤ names.independents + 16

-- so many independents more
more_independents : (n : ℕ) (names : Declared) (text : List ℕ) (all : Declared) (rest : List ℕ) → IsMoreNames Independents n names text all rest
    → (all.independents ≡ names.independents + n) × (length all.all ≡ length names.all + n)
more_independents zero names text all rest more =
    (omega (arith, ap (λ (d : Declared). d.independents) more.0), omega (arith, ap (λ (d : Declared). length d.all) more.0))
more_independents (suc n) names text all rest more =
    let name = bytes_of (behind text) in
    let others = more_independents n (declared Independents names name) (behind (behind text)) all rest more.2 in
    (omega (arith, others.0), omega (arith, others.1, length-append names.all (name ∷ [])))

-- so many dependents more
more_dependents : (n : ℕ) (names : Declared) (text : List ℕ) (all : Declared) (rest : List ℕ) → IsMoreNames Dependents n names text all rest
    → (all.independents ≡ names.independents) × (length all.all ≡ length names.all + n)
more_dependents zero names text all rest more =
    (ap (λ (d : Declared). d.independents) more.0, omega (arith, ap (λ (d : Declared). length d.all) more.0))
more_dependents (suc n) names text all rest more =
    let name = bytes_of (behind text) in
    let others = more_dependents n (declared Dependents names name) (behind (behind text)) all rest more.2 in
    (others.0, omega (arith, others.1, length-append names.all (name ∷ [])))

-- the names behind the independents: few, and none is a dependent
record AreIndependents (names : Declared) : Type 0 where
  few : AreFew names
  none : dependents names ≡ 0

-- nothing is declared at first
no_names_are : AreIndependents no_names
no_names_are = record { few = record { independents_fit = omega arith; independents_are = omega arith; dependents_fit = omega arith }; none = refl }

-- the independents that are read behind their word
declared_are : (mid : List ℕ) (all : Declared) (rest : List ℕ)
    → (Stands is_semicolon mid rest × (all ≡ no_names)) ⊎ ((end : List ℕ) × IsNames Independents 4 no_names mid all end × Stands is_semicolon end rest)
    → AreIndependents all
declared_are mid all rest (inl a) = subst (λ (d : Declared). AreIndependents d) (sym a.1) no_names_are
declared_are mid all rest (inr a) =
    let n = a.1.0 in
    let m = more_independents n (declared Independents no_names (bytes_of mid)) (behind mid) all a.0 a.1.3 in
    let count : all.independents ≡ n + 1 = omega (arith, m.0) in
    let total : length all.all ≡ n + 1 = omega (arith, m.1) in
    record {
      few = record {
        independents_fit = omega (arith, count, a.1.1);
        independents_are = omega (arith, count, total);
        dependents_fit = omega (arith, count, total);
      };
      none = omega (arith, count, total);
    }

-- the independents that are read
independents_are : (text : List ℕ) (all : Declared) (rest : List ℕ) → IsIndependents text all rest → AreIndependents all
independents_are text all rest a = declared_are a.0 all rest a.2

-- names behind a few names: there are still few, and they have more dependents
record AreMore (names all : Declared) : Type 0 where
  few : AreFew all
  more : dependents names ≤ dependents all

-- the dependents that a block declares
names_are_more : (names : Declared) (text : List ℕ) (all : Declared) (rest : List ℕ) → AreFew names → IsNames Dependents (room names) names text all rest → AreMore names all
names_are_more names text all rest few a =
    let n = a.0 in
    let m = more_dependents n (declared Dependents names (bytes_of text)) (behind text) all rest a.3 in
    let same : all.independents ≡ names.independents = m.0 in
    let total : length all.all ≡ length names.all + 1 + n = omega (arith, m.1, length-append names.all (bytes_of text ∷ [])) in
    record {
      few = record {
        independents_fit = omega (arith, same, few.independents_fit);
        independents_are = omega (arith, same, total, few.independents_are);
        dependents_fit = omega (arith, same, total, a.1, few.independents_are);
      };
      more = omega (arith, same, total);
    }

-- ---- the dependents of the blocks

-- the blocks name the dependents that are declared by them, in order
record NameAll (names all : Declared) (blocks : List BlockValue) : Type 0 where
  are : AreMore names all
  named : dependents_of blocks ≡ numbers_from (dependents names) (dependents all - dependents names)

-- no blocks name nothing
none_named : (names : Declared) → AreFew names → NameAll names names []
none_named names few =
    let e : dependents names - dependents names ≡ 0 = omega arith in
    record { are = record { few = few; more = omega arith }; named = rw e refl }

-- the blocks that are read
blocks_name_all : (n : ℕ) (names : Declared) (text : List ℕ) (all : Declared) (blocks : List BlockValue) (rest : List ℕ) → AreFew names → IsBlocks n names text all blocks rest
    → NameAll names all blocks
blocks_name_all zero names text all blocks rest few a =
    subst (λ (bs : List BlockValue). NameAll names all bs) (sym a.1) (subst (λ (d : Declared). NameAll names d []) (sym a.0) (none_named names few))
blocks_name_all (suc n) names text all blocks rest few a =
    let middle = a.1 in
    let first = a.2 in
    let own = names_are_more names a.6.0 middle a.6.1 few a.6.3 in
    let others = blocks_name_all n middle a.3 all a.4 rest own.few a.7 in
    let low = dependents names in
    let seam = dependents middle in
    let high = dependents all in
    let parts : first.dependents ++ dependents_of a.4 ≡ numbers_from low (high - low) =
    ap (λ (b : BlockValue). b.dependents ++ dependents_of a.4) a.6.5
    ∙ ap (λ (l : List ℕ). numbers_from low (seam - low) ++ l) others.named
    ∙ numbers_joined low seam high own.more others.are.more in
    record {
      are = record { few = others.are.few; more = omega (arith, own.more, others.are.more) };
      named = ap (λ (bs : List BlockValue). dependents_of bs) a.8 ∙ parts;
    }

-- what a header declares is ranked by its blocks
header_ranked : (text : List ℕ) (all : Declared) (blocks : List BlockValue) (rest : List ℕ) → IsHeader text all blocks rest
    → IsRanking (record { signature = signature_of all; blocks = blocks })
header_ranked text all blocks rest a =
    let i = independents_are text a.0 a.1 a.5 in
    let b = blocks_name_all a.4 a.0 a.2 all blocks a.3 i.few a.7 in
    let e : dependents all - dependents a.0 ≡ dependents all = omega (arith, i.none) in
    let named : dependents_of blocks ≡ numbers_from 0 (dependents all) =
    b.named ∙ ap (λ (first : ℕ). numbers_from first (dependents all - dependents a.0)) i.none ∙ ap (λ (n : ℕ). numbers_from 0 n) e in
    let few = b.are.few in
    numbers_rank (signature_of all) blocks few.independents_fit (omega (arith, few.dependents_fit)) named

-- ---- the whole

-- the signature and the blocks of a tree are a ranking
abbrev IsRanked : Tree → Type 0
IsRanked t = IsRanking (record { signature = t.signature; blocks = t.blocks })

-- a tree of the grammar has blocks that name each dependent of its signature once
tree_ranked : (form : Form) (bytes : List ℕ) (t : Tree) → IsSystem form bytes t → IsRanked t
tree_ranked form bytes t a = subst (λ (t : Tree). IsRanked t) (sym a.12) (header_ranked (skip_from false bytes) a.0 a.1 a.5 a.8)

-- the signature of a tree of the grammar counts its names
tree_signature : (form : Form) (bytes : List ℕ) (t : Tree) → IsSystem form bytes t → t.signature ≡ signature_of t.names
tree_signature form bytes t a = subst (λ (t : Tree). t.signature ≡ signature_of t.names) (sym a.12) refl

-- a tree that is read has blocks that name each dependent of its signature once
pub system_ranked : (form : Form) (bytes : List ℕ) (t : Tree) → system_of form bytes ≡ Ok t → IsRanking (record { signature = t.signature; blocks = t.blocks })
system_ranked form bytes t e = tree_ranked form bytes t (system_found form bytes t e)

-- the signature of a tree that is read counts its names
pub system_signature : (form : Form) (bytes : List ℕ) (t : Tree) → system_of form bytes ≡ Ok t → t.signature ≡ signature_of t.names
system_signature form bytes t e = tree_signature form bytes t (system_found form bytes t e)

-- the same of what a reader answers: the ranking
pub have_ranking : (form : Form) (bytes : List ℕ) (r : Result SystemTree SyntaxFault) → Answers (λ t. tree_of t) r (system_of form bytes)
    → IfOk r (λ t. IsRanking (record { signature = (tree_of t).signature; blocks = (tree_of t).blocks }))
have_ranking form bytes (Ok t) e = system_ranked form bytes (tree_of t) e
have_ranking form bytes (Err f) e = tt

-- the same of what a reader answers: the signature
pub have_signature : (form : Form) (bytes : List ℕ) (r : Result SystemTree SyntaxFault) → Answers (λ t. tree_of t) r (system_of form bytes)
    → IfOk r (λ t. t.signature ≡ signature_of t.names)
have_signature form bytes (Ok t) e = system_signature form bytes (tree_of t) e
have_signature form bytes (Err f) e = tt
