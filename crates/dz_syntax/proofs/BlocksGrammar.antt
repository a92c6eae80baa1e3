-- The independents and the blocks: what is read is in the grammar, and what is in the grammar is read.
use Rattle.std.proofs.Common.{◌≡◌, ◌⊎◌, ℕ, zero, suc, ◌<◌, ◌≤◌, ◌+◌, ◌-◌, length, List, [], ◌∷◌, ◌++◌, Result, Ok, Option, Some, None, Bool, true, false, refl, sym, ap, subst, ◌∙◌, append_assoc, append-nil, inl, inr, arith}
use Rattle.dz_rank.specs.declared.rankings.Kind.{Kind}
use Rattle.dz_rank.specs.Rankings.{BlockValue}
use Rattle.dz_syntax.specs.declared.token.Token.{Token}
use Rattle.dz_syntax.specs.declared.token.Token.TheVariants.{Semicolon}
use Rattle.dz_syntax.specs.declared.fault.Fault.{Fault}
use Rattle.dz_syntax.specs.declared.names.Group.TheVariants.{Independents, Dependents}
use Rattle.dz_syntax.specs.Tokens.{front, behind}
use Rattle.dz_syntax.specs.Names.{Declared, dependents, no_names, room}
use Rattle.dz_algebra.specs.Outcome.{◌>>=◌}
use Rattle.dz_syntax.specs.Declarations.{declarations}
use Rattle.dz_syntax.specs.Marks.{expected, is_derivations, is_ranking, is_semicolon, is_open_bracket, is_close_bracket, kind_of}
use Rattle.dz_syntax.specs.Blocks.{independents_at, independents_from, numbers_from, block_at, blocks, blocks_from}
use Rattle.dz_syntax.specs.Systems.{header_at}
use Rattle.dz_syntax.specs.SystemGrammar.{Stands, IsNames, IsIndependents, IsBlock, IsBlocks, IsHeader}
use Rattle.dz_algebra.proofs.Outcomes.{bind_ok}
use Rattle.dz_syntax.proofs.Sound.{ok_is}
use Rattle.dz_syntax.proofs.Complete.{on_ok}
use Rattle.dz_syntax.proofs.Shorter.{behind_within, behind_shorter}
use Rattle.dz_syntax.proofs.BlockLists.{kind_is_token}
use Rattle.dz_syntax.proofs.NamesGrammar.{stands_sound, stands_complete, names_sound, names_complete, names_within, not_comma}

-- ---- the independents

-- behind the word
abbrev After : List ℕ → Declared → List ℕ → Type 0
After mid all rest =
    (Stands is_semicolon mid rest × (all ≡ no_names))
    ⊎ ((end : List ℕ) × IsNames Independents 4 no_names mid all end × Stands is_semicolon end rest)

after_sound : (c : Bool) (mid : List ℕ) (y : Declared × List ℕ) → is_semicolon (front mid) ≡ c → independents_from no_names c mid ≡ Ok y → After mid y.0 y.1
after_sound true mid y is e = subst (λ (y : Declared × List ℕ). After mid y.0 y.1) (ok_is (no_names, behind mid) y e) (inl ((is, refl), refl))
after_sound false mid y is e =
    let b = bind_ok (declarations 4 Independents no_names mid) (λ x. expected (is_semicolon (front x.1)) x.1 >>= λ t. Ok (x.0, t)) y e in
    let d = bind_ok (expected (is_semicolon (front b.0.1)) b.0.1) (λ t. Ok (b.0.0, t)) y b.2 in
    subst (λ (y : Declared × List ℕ). After mid y.0 y.1) (ok_is (b.0.0, d.0) y d.2)
    (inr (b.0.1, names_sound Independents 4 no_names mid b.0.0 b.0.1 b.1, stands_sound is_semicolon b.0.1 d.0 d.1))

independents_sound : (text : List ℕ) (y : Declared × List ℕ) → independents_at no_names text ≡ Ok y → IsIndependents text y.0 y.1
unfolding independents_at
independents_sound text y e =
    let b = bind_ok (expected (is_derivations (front text)) text) (λ t. independents_from no_names (is_semicolon (front t)) t) y e in
    (b.0, stands_sound is_derivations text b.0 b.1, after_sound (is_semicolon (front b.0)) b.0 y refl b.2)

after_complete : (mid : List ℕ) (all : Declared) (rest : List ℕ) → After mid all rest → independents_from no_names (is_semicolon (front mid)) mid ≡ Ok (all, rest)
after_complete mid all rest (inl a) = rw (a.0.0, a.0.1, a.1) refl
after_complete mid all rest (inr a) =
    let more = λ (x : Declared × List ℕ). expected (is_semicolon (front x.1)) x.1 >>= λ t. Ok (x.0, t) in
    let n = a.1 in
    ap (λ t. independents_from no_names (is_semicolon t) mid) n.2.token
    ∙ on_ok (declarations 4 Independents no_names mid) (all, a.0) more (names_complete Independents n.0 4 no_names mid all a.0 n.1 n.2 n.3 (not_comma is_semicolon (front a.0) a.2.0 refl))
    ∙ on_ok (expected (is_semicolon (front a.0)) a.0) rest (λ t. Ok (all, t)) (stands_complete is_semicolon a.0 rest a.2)

independents_complete : (text : List ℕ) (all : Declared) (rest : List ℕ) → IsIndependents text all rest → independents_at no_names text ≡ Ok (all, rest)
unfolding independents_at
independents_complete text all rest a =
    on_ok (expected (is_derivations (front text)) text) a.0 (λ t. independents_from no_names (is_semicolon (front t)) t) (stands_complete is_derivations text a.0 a.1)
    ∙ after_complete a.0 all rest a.2

-- ---- a block

abbrev One : Type 0
One = Declared × BlockValue × List ℕ

abbrev made : Kind → Declared → Declared → BlockValue
made kind names all = record { kind = kind; dependents = numbers_from (dependents names) (dependents all - dependents names) }

block_sound : (kind : Kind) (names : Declared) (text : List ℕ) (y : One) → block_at kind names text ≡ Ok y → IsBlock kind names text y.0 y.1 y.2
unfolding block_at
block_sound kind names text y e =
    let b = bind_ok (expected (is_open_bracket (front text)) text) (λ t. declarations (room names) Dependents names t >>= λ x. expected (is_close_bracket (front x.1)) x.1 >>= λ t. Ok (x.0, made kind names x.0, t)) y e in
    let d = bind_ok (declarations (room names) Dependents names b.0) (λ x. expected (is_close_bracket (front x.1)) x.1 >>= λ t. Ok (x.0, made kind names x.0, t)) y b.2 in
    let f = bind_ok (expected (is_close_bracket (front d.0.1)) d.0.1) (λ t. Ok (d.0.0, made kind names d.0.0, t)) y d.2 in
    subst (λ (y : One). IsBlock kind names text y.0 y.1 y.2) (ok_is (d.0.0, made kind names d.0.0, f.0) y f.2)
    (b.0, d.0.1, stands_sound is_open_bracket text b.0 b.1, names_sound Dependents (room names) names b.0 d.0.0 d.0.1 d.1, stands_sound is_close_bracket d.0.1 f.0 f.1, refl)

block_complete : (kind : Kind) (names : Declared) (text : List ℕ) (all : Declared) (block : BlockValue) (rest : List ℕ) → IsBlock kind names text all block rest → block_at kind names text ≡ Ok (all, block, rest)
unfolding block_at
block_complete kind names text all block rest a =
    let n = a.3 in
    on_ok (expected (is_open_bracket (front text)) text) a.0 (λ t. declarations (room names) Dependents names t >>= λ x. expected (is_close_bracket (front x.1)) x.1 >>= λ t. Ok (x.0, made kind names x.0, t)) (stands_complete is_open_bracket text a.0 a.2)
    ∙ on_ok (declarations (room names) Dependents names a.0) (all, a.1) (λ x. expected (is_close_bracket (front x.1)) x.1 >>= λ t. Ok (x.0, made kind names x.0, t)) (names_complete Dependents n.0 (room names) names a.0 all a.1 n.1 n.2 n.3 (not_comma is_close_bracket (front a.1) a.4.0 refl))
    ∙ on_ok (expected (is_close_bracket (front a.1)) a.1) rest (λ t. Ok (all, made kind names all, t)) (stands_complete is_close_bracket a.1 rest a.4)
    ∙ ap (λ (b : BlockValue). Ok (all, b, rest)) (sym a.5)

pub block_within : (kind : Kind) (names : Declared) (text : List ℕ) (all : Declared) (block : BlockValue) (rest : List ℕ) → IsBlock kind names text all block rest → length rest ≤ length text
block_within kind names text all block rest a =
    rw a.4.1 (omega (arith, behind_within a.1, names_within Dependents (room names) names a.0 all a.1 a.3, ap length a.2.1, behind_within text))

-- ---- the blocks

-- what the reading of blocks finds: some number of them behind those that were found, and the semicolon
record ReadBlocks (names : Declared) (found : List BlockValue) (text : List ℕ) (y : Declared × List BlockValue × List ℕ) : Type 0 where
  count : ℕ
  others : List BlockValue
  last : List ℕ
  are : IsBlocks count names text y.0 others last
  ends : Stands is_semicolon last y.2
  all : y.1 ≡ found ++ others

abbrev Many : Type 0
Many = Declared × List BlockValue × List ℕ

blocks_from_sound : (more : Declared → List BlockValue → List ℕ → Result Many Fault)
    → ((names : Declared) (found : List BlockValue) (text : List ℕ) (y : Many) → more names found text ≡ Ok y → ReadBlocks names found text y)
    → (names : Declared) (found : List BlockValue) (kind : Option Kind) (text : List ℕ) (y : Many) → kind_of (front text) ≡ kind
    → blocks_from more names found kind text ≡ Ok y → ReadBlocks names found text y
blocks_from_sound more sound names found None text y is e =
    let b = bind_ok (expected (is_semicolon (front text)) text) (λ t. Ok (names, found, t)) y e in
    subst (λ (y : Many). ReadBlocks names found text y) (ok_is (names, found, b.0) y b.2)
    (record { count = 0; others = []; last = text; are = (refl, refl, refl); ends = stands_sound is_semicolon text b.0 b.1; all = sym (append-nil found) })
blocks_from_sound more sound names found (Some kind) text y is e =
    let b = bind_ok (block_at kind names (behind text)) (λ x. more x.0 (found ++ x.1 ∷ []) x.2) y e in
    let r = sound b.0.0 (found ++ b.0.1 ∷ []) b.0.2 y b.2 in
    record {
      count = suc r.count;
      others = b.0.1 ∷ r.others;
      last = r.last;
      are = (kind, b.0.0, b.0.1, b.0.2, r.others, is, block_sound kind names (behind text) b.0 b.1, r.are, refl);
      ends = r.ends;
      all = r.all ∙ append_assoc found (b.0.1 ∷ []) r.others;
    }

blocks_sound : (n : ℕ) (names : Declared) (found : List BlockValue) (text : List ℕ) (y : Many) → blocks n names found text ≡ Ok y → ReadBlocks names found text y
unfolding blocks
blocks_sound zero names found text y e = absurd cc
blocks_sound (suc n) names found text y e = blocks_from_sound (blocks n) (blocks_sound n) names found (kind_of (front text)) text y refl e

semicolon_no_kind : (t : Token) → is_semicolon t ≡ true → kind_of t ≡ None
semicolon_no_kind Semicolon e = refl
semicolon_no_kind t e = absurd cc

blocks_complete : (n fuel : ℕ) (names : Declared) (found : List BlockValue) (text : List ℕ) (all : Declared) (others : List BlockValue) (last rest : List ℕ) → n < fuel
    → IsBlocks n names text all others last → Stands is_semicolon last rest → blocks fuel names found text ≡ Ok (all, found ++ others, rest)
unfolding blocks
blocks_complete n zero names found text all others last rest lt a ends = absurd (omega arith)
blocks_complete zero (suc fuel) names found text all others last rest lt a ends =
    let s : is_semicolon (front text) ≡ true = rw (← a.2) ends.0 in
    let h : Stands is_semicolon text rest = (s, ends.1 ∙ ap behind a.2) in
    ap (λ k. blocks_from (blocks fuel) names found k text) (semicolon_no_kind (front text) s)
    ∙ on_ok (expected (is_semicolon (front text)) text) rest (λ t. Ok (names, found, t)) (stands_complete is_semicolon text rest h)
    ∙ rw (a.0, a.1, append-nil) refl
blocks_complete (suc n) (suc fuel) names found text all others last rest lt a ends =
    ap (λ k. blocks_from (blocks fuel) names found k text) a.5
    ∙ on_ok (block_at a.0 names (behind text)) (a.1, a.2, a.3) (λ x. blocks fuel x.0 (found ++ x.1 ∷ []) x.2) (block_complete a.0 names (behind text) a.1 a.2 a.3 a.6)
    ∙ blocks_complete n fuel a.1 (found ++ a.2 ∷ []) a.3 all a.4 last rest (omega (arith, lt)) a.7 ends
    ∙ ap (λ (l : List BlockValue). Ok (all, l, rest)) (append_assoc found (a.2 ∷ []) a.4 ∙ ap (λ (l : List BlockValue). found ++ l) (sym a.8))

pub blocks_within : (n : ℕ) (names : Declared) (text : List ℕ) (all : Declared) (others : List BlockValue) (last : List ℕ) → IsBlocks n names text all others last → n + length last ≤ length text
blocks_within zero names text all others last a = rw a.2 (omega arith)
blocks_within (suc n) names text all others last a =
    omega (arith, behind_shorter text (kind_is_token (front text) a.0 a.5), block_within a.0 names (behind text) a.1 a.2 a.3 a.6, blocks_within n a.1 a.3 all a.4 last a.7)

-- ---- the header

pub header_sound : (text : List ℕ) (y : Many) → header_at no_names text ≡ Ok y → IsHeader text y.0 y.1 y.2
unfolding header_at
header_sound text y e =
    let b = bind_ok (independents_at no_names text) (λ x. expected (is_ranking (front x.1)) x.1 >>= λ t. blocks (length t + 1) x.0 [] t) y e in
    let d = bind_ok (expected (is_ranking (front b.0.1)) b.0.1) (λ t. blocks (length t + 1) b.0.0 [] t) y b.2 in
    let r = blocks_sound (length d.0 + 1) b.0.0 [] d.0 y d.2 in
    (b.0.0, b.0.1, d.0, r.last, r.count, independents_sound text b.0 b.1, stands_sound is_ranking b.0.1 d.0 d.1, subst (λ (l : List BlockValue). IsBlocks r.count b.0.0 d.0 y.0 l r.last) (sym r.all) r.are, r.ends)

pub header_complete : (text : List ℕ) (all : Declared) (found : List BlockValue) (rest : List ℕ) → IsHeader text all found rest → header_at no_names text ≡ Ok (all, found, rest)
unfolding header_at
header_complete text all found rest a =
    let w = blocks_within a.4 a.0 a.2 all found a.3 a.7 in
    on_ok (independents_at no_names text) (a.0, a.1) (λ x. expected (is_ranking (front x.1)) x.1 >>= λ t. blocks (length t + 1) x.0 [] t) (independents_complete text a.0 a.1 a.5)
    ∙ on_ok (expected (is_ranking (front a.1)) a.1) a.2 (λ t. blocks (length t + 1) a.0 [] t) (stands_complete is_ranking a.1 a.2 a.6)
    ∙ blocks_complete a.4 (length a.2 + 1) a.0 [] a.2 all found a.3 rest (omega (arith, w)) a.7 a.8
