use Rattle.std.proofs.Common.{◌≡◌, ◌-◌, ◌++◌, ◌∷◌, [], List, arith, ℕ, Some, None}
use Rattle.std.proofs.lemmas.Result.{err_from_is_err_and}
use Rattle.std.proofs.lemmas.List.{map_push}
use Rattle.dz_rank.specs.Rankings.{BlockValue, block_values}
use Rattle.dz_syntax.specs.Names.{Declared}
use Rattle.dz_syntax.specs.Tokens.{front}
use Rattle.dz_syntax.specs.Marks.{expected, is_semicolon, kind_of}
use Rattle.dz_syntax.proofs.Given.{gives_with}
use Rattle.dz_syntax.proofs.BlockLists.{kind_is_token, blocks_fail, blocks_more, blocks_end}
use Rattle.dz_syntax.proofs.blocks.blocks.Goals as goal

pub returns-in_default : goal.returns-in_default
returns-in_default c =
    let i = c.kinds.invariant in
    let none : kind_of (front c.kinds.rest.now) ≡ None = cc in
    let ends = blocks_end i.0 c.kinds.names (block_values c.kinds.into.items) c.kinds.rest.now _ (omega (arith, i.1)) none i.2 in
    let given = rw c.semicolon.ensures at c.expected.ensures.read in
    record { read = gives_with (λ t. t.now) (λ t. (c.kinds.names, block_values c.kinds.into.items, t)) c.expected.result (expected (is_semicolon (front c.kinds.rest.now)) c.kinds.rest.now) _ ends given }

pub returns-in_err-read : goal.returns-in_err-read
returns-in_err-read c =
    let p = err_from_is_err_and c.from_residual.result c.from_residual.ensures.1 in
    let i = c.kinds.invariant in
    let some : kind_of (front c.kinds.rest.now) ≡ Some c.in-Some.kind = cc in
    record { read = rw (p.1, p.2) (blocks_fail c.in_err-read.field-0.0 i.0 c.kinds.names (block_values c.kinds.into.items) c.kinds.rest.now c.in-Some.kind _ (omega (arith, i.1)) some (rw (← c.next.ensures.behind) c.in_err-read.ensures.read) i.2) }

pub kinds-preserved : goal.kinds-preserved
kinds-preserved c =
    let i = c.kinds.invariant in
    let some : kind_of (front c.kinds.rest.now) ≡ Some c.in-Some.kind = cc in
    let x : Declared × BlockValue × List ℕ = (c.block.new.names, record { kind = c.in_ok-read.read.kind; dependents = c.in_ok-read.read.dependents.items }, c.in_ok-read.behind.now) in
    let more = blocks_more i.0 c.kinds.names (block_values c.kinds.into.items) c.kinds.rest.now c.in-Some.kind x _ (omega (arith, i.1)) some (rw (← c.next.ensures.behind) c.in_ok-read.ensures.read) i.2 in
    let pushed : block_values c.push.new.self.items ≡ block_values c.kinds.into.items ++ x.1 ∷ [] = rw c.in_ok-push.ensures.items (map_push _ c.kinds.into.items c.in_ok-read.read) in
    let token = kind_is_token (front c.kinds.rest.now) c.in-Some.kind some in
    (i.0 - 1, grind arith, rw pushed more)
