-- The names that a system declares.
use Rattle.std.proofs.Common.{◌≡◌, ◌⊎◌, ℕ, zero, suc, ◌≤◌, List, false, refl, sym, subst, arith, inl, inr}
use Rattle.std.proofs.lemmas.List.{length_push}
use Rattle.dz_rank.specs.Rankings.{BlockValue}
use Rattle.dz_syntax.specs.declared.endings.Form.{Form}
use Rattle.dz_syntax.specs.declared.names.Group.{Group}
use Rattle.dz_syntax.specs.declared.names.Group.TheVariants.{Independents, Dependents}
use Rattle.dz_syntax.specs.Marks.{is_semicolon}
use Rattle.dz_syntax.specs.Names.{Declared, HasRoom, IsDeclared, declared, no_names, room}
use Rattle.dz_syntax.specs.SystemGrammar.{Stands, IsMoreNames, IsNames, IsIndependents, IsBlocks, IsHeader, IsSystem}
use Rattle.dz_syntax.specs.Systems.{Tree}
use Rattle.dz_syntax.specs.Tokens.{behind, bytes_of, skip_from}
use Rattle.dz_syntax.proofs.NameTokens.{bytes_of_is_name, declared_is, no_names_is}

-- room for fewer names
fewer : (group : Group) (left less : ℕ) (names : Declared) → less ≤ left → HasRoom group left names → HasRoom group less names
fewer Independents left less names le h = (omega (arith, le, h.0), h.1)
fewer Dependents left less names le h = omega (arith, le, h)

-- room that is left where one more is declared
one_less : (group : Group) (left : ℕ) (names : Declared) (name : List ℕ) → HasRoom group (suc left) names → HasRoom group left (declared group names name)
one_less Independents left names name h = (omega (arith, h.0), omega (arith, h.1, length_push names.all name))
one_less Dependents left names name h = omega (arith, h, length_push names.all name)

-- more names
more_declared : (group : Group) (n : ℕ) (names : Declared) (text : List ℕ) (all : Declared) (rest : List ℕ) → IsDeclared names → HasRoom group n names → IsMoreNames group n names text all rest → IsDeclared all
more_declared group zero names text all rest d h a = subst IsDeclared (sym a.0) d
more_declared group (suc n) names text all rest d h a =
    let name = bytes_of (behind text) in
    let one = declared_is group names name d (bytes_of_is_name (behind text) a.1.token) a.1.new (fewer group (suc n) 1 names (omega arith) h) in
    more_declared group n (declared group names name) (behind (behind text)) all rest one (one_less group n names name h) a.2

-- a list of names
names_declared : (group : Group) (most : ℕ) (names : Declared) (text : List ℕ) (all : Declared) (rest : List ℕ) → IsDeclared names → HasRoom group most names → IsNames group most names text all rest → IsDeclared all
names_declared group most names text all rest d h a =
    let there = fewer group most (suc a.0) names (omega (arith, a.1)) h in
    let one = declared_is group names (bytes_of text) d (bytes_of_is_name text a.2.token) a.2.new (fewer group (suc a.0) 1 names (omega arith) there) in
    more_declared group a.0 (declared group names (bytes_of text)) (behind text) all rest one (one_less group a.0 names (bytes_of text) there) a.3

-- the independents
independents_declared : (text : List ℕ) (all : Declared) (rest : List ℕ) → IsIndependents text all rest → IsDeclared all
independents_declared text all rest a = by_list a.2
  where
    by_list : (Stands is_semicolon a.0 rest × (all ≡ no_names)) ⊎ ((end : List ℕ) × IsNames Independents 4 no_names a.0 all end × Stands is_semicolon end rest) → IsDeclared all
    by_list (inl b) = subst IsDeclared (sym b.1) no_names_is
    by_list (inr b) = names_declared Independents 4 no_names a.0 all b.0 no_names_is (omega arith, refl) b.1

-- room for the dependents that are not declared yet
has_room : (names : Declared) → IsDeclared names → HasRoom Dependents (room names) names
has_room names d = omega (arith, d.dependents_fit, d.independents_are)

-- the blocks
blocks_declared : (n : ℕ) (names : Declared) (text : List ℕ) (all : Declared) (blocks : List BlockValue) (rest : List ℕ) → IsDeclared names → IsBlocks n names text all blocks rest → IsDeclared all
blocks_declared zero names text all blocks rest d a = subst IsDeclared (sym a.0) d
blocks_declared (suc n) names text all blocks rest d a =
    blocks_declared n a.1 a.3 all a.4 rest (names_declared Dependents (room names) names a.6.0 a.1 a.6.1 d (has_room names d) a.6.3) a.7

-- a header declares names
header_declared : (text : List ℕ) (all : Declared) (blocks : List BlockValue) (rest : List ℕ) → IsHeader text all blocks rest → IsDeclared all
header_declared text all blocks rest a = blocks_declared a.4 a.0 a.2 all blocks a.3 (independents_declared text a.0 a.1 a.5) a.7

-- and so does a system
pub system_declared : (form : Form) (bytes : List ℕ) (t : Tree) → IsSystem form bytes t → IsDeclared t.names
system_declared form bytes t a = subst (λ (t : Tree). IsDeclared t.names) (sym a.12) (header_declared (skip_from false bytes) a.0 a.1 a.5 a.8)
