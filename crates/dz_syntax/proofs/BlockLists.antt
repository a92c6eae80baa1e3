-- One turn of the loop over blocks.
use Rattle.std.proofs.Common.{◌≡◌, ℕ, zero, suc, ◌-◌, ◌<◌, List, [], ◌∷◌, ◌++◌, Result, Ok, Option, Some, None, IsTrue, refl, sym, ◌∙◌, arith}
use Rattle.dz_rank.specs.declared.rankings.Kind.{Kind}
use Rattle.dz_rank.specs.Rankings.{BlockValue}
use Rattle.dz_syntax.specs.declared.token.Token.{Token}
use Rattle.dz_syntax.specs.declared.token.Token.TheVariants.{Word}
use Rattle.dz_syntax.specs.declared.token.Word.TheVariants as words
use Rattle.dz_syntax.specs.declared.fault.Fault.{Fault}
use Rattle.dz_syntax.specs.declared.fault.Stop.{Stop}
use Rattle.dz_syntax.specs.declared.fault.Stop.TheVariants as stops
use Rattle.dz_syntax.specs.Tokens.{front, behind, is_token}
use Rattle.dz_syntax.specs.Names.{Declared}
use Rattle.dz_algebra.specs.Outcome.{◌>>=◌}
use Rattle.dz_syntax.specs.Faults.{Fails}
use Rattle.dz_syntax.specs.Marks.{expected, is_semicolon, kind_of}
use Rattle.dz_syntax.specs.Blocks.{block_at, blocks, blocks_from}

abbrev pub Read : Type 0
Read = Result (Declared × List BlockValue × List ℕ) Fault

-- the word of a kind is a token
pub kind_is_token : (t : Token) (kind : Kind) → kind_of t ≡ Some kind → IsTrue (is_token t)
kind_is_token (Word (words.Kind k)) kind e = refl
kind_is_token t kind e = absurd cc

blocks-turn : (n : ℕ) (names : Declared) (found : List BlockValue) (text : List ℕ) (kind : Option Kind) → 0 < n → kind_of (front text) ≡ kind
    → blocks n names found text ≡ blocks_from (blocks (n - 1)) names found kind text
unfolding blocks
blocks-turn zero names found text kind lt e = absurd (omega arith)
blocks-turn (suc n) names found text kind lt e = let k : suc n - 1 ≡ n = omega arith in rw (k, e) refl

pub blocks_fail : (stop : Stop) (n : ℕ) (names : Declared) (found : List BlockValue) (text : List ℕ) (kind : Kind) (total : Read) → 0 < n → kind_of (front text) ≡ Some kind
    → Fails stop (block_at kind names (behind text)) → blocks n names found text ≡ total → Fails stop total
blocks_fail stops.Memory n names found text kind total lt k e so_far = tt
blocks_fail (stops.Fault f) n names found text kind total lt k e so_far = sym so_far ∙ blocks-turn n names found text (Some kind) lt k ∙ rw e refl

pub blocks_more : (n : ℕ) (names : Declared) (found : List BlockValue) (text : List ℕ) (kind : Kind) (x : Declared × BlockValue × List ℕ) (total : Read) → 0 < n → kind_of (front text) ≡ Some kind
    → block_at kind names (behind text) ≡ Ok x → blocks n names found text ≡ total → blocks (n - 1) x.0 (found ++ x.1 ∷ []) x.2 ≡ total
blocks_more n names found text kind x total lt k e so_far = sym (blocks-turn n names found text (Some kind) lt k ∙ rw e refl) ∙ so_far

pub blocks_end : (n : ℕ) (names : Declared) (found : List BlockValue) (text : List ℕ) (total : Read) → 0 < n → kind_of (front text) ≡ None
    → blocks n names found text ≡ total → total ≡ (expected (is_semicolon (front text)) text >>= λ rest. Ok (names, found, rest))
blocks_end n names found text total lt k so_far = sym so_far ∙ blocks-turn n names found text None lt k
