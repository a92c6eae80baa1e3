use Rattle.std.proofs.Common.{◌≡◌, ◌∙◌, ◌+◌, ◌≤◌, ◌<◌, ℕ, length, Some, ap, refl, sym, arith}
use Rattle.std.proofs.lemmas.Option.{slice_get_read}
use Rattle.dz_diff.specs.States.{StandsIn, state_in}
use Rattle.dz_cert.specs.Documents.{canonical_texts}
use Rattle.dz_cert.specs.Readers.{texts_of}
use Rattle.dz_cert.proofs.SameTexts.{other-none, other-rest}
use Rattle.dz_cert.proofs.WrittenLines.{all_at}
use Rattle.dz_cert.proofs.checking.first_other.Goals as goal

pub returns-then-k-states : goal.returns-then-k-states
returns-then-k-states c =
    sym (other-none texts_of (λ s. canonical_texts c.args.names.now (state_in c.args.book.now s)) (c.chains.k + 1) c.chains.k c.args.chains.now c.args.states.now c.chains-test.true c.if-k-states.true) ∙ c.chains.invariant.same

pub is_canonical_chain-requires-clause-stands : goal.is_canonical_chain-requires-clause-stands
is_canonical_chain-requires-clause-stands c =
    let apart : c.chains.k ≡ length c.args.states.now → ⊥ = c.if-k-states.false in
    let most : c.chains.k ≤ length c.args.states.now = c.chains.invariant.within in
    all_at (λ s. StandsIn c.args.book.now s) c.args.states.now c.chains.k c.index-states-k.result (slice_get_read c.args.states.now _ c.chains.k c.index-states-k.result refl (omega arith) c.index-states-k.is) c.requires.stand

pub returns-then-chains-states : goal.returns-then-chains-states
returns-then-chains-states c =
    let over : length c.args.chains.now ≤ c.chains.k = c.chains-test.false in
    let end : c.chains.k ≤ length c.args.chains.now = c.chains.auto.k-end in
    let less : length c.args.chains.now < length c.args.states.now = c.if-chains-states.true in
    let all : length c.args.chains.now ≡ c.chains.k = omega arith in
    ap (λ (n : ℕ). Some (n + 1)) all ∙ sym (other-rest texts_of (λ s. canonical_texts c.args.names.now (state_in c.args.book.now s)) (c.chains.k + 1) c.chains.k c.args.chains.now c.args.states.now over (omega arith)) ∙ c.chains.invariant.same
