use Rattle.std.proofs.Common.{refl}
use Rattle.std.proofs.lemmas.Option.{slice_get_read}
use Rattle.dz_diff.specs.States.{StandsIn, state_in}
use Rattle.dz_cert.specs.Documents.{canonical_texts}
use Rattle.dz_cert.proofs.WrittenLines.{all_at, section_more}
use Rattle.dz_cert.proofs.writing.push_sections.Goals as goal

pub push_section-requires-clause-stands : goal.push_section-requires-clause-stands
push_section-requires-clause-stands c =
    all_at (λ s. StandsIn c.args.book.now s) c.args.chains.now c.chains.k c.index-chains-k.result (slice_get_read c.args.chains.now _ c.chains.k c.index-chains-k.result refl c.chains-test.true c.index-chains-k.is) c.requires.stand

pub chains-preserved : goal.chains-preserved
chains-preserved c =
    section_more (λ s. canonical_texts c.args.names.now (state_in c.args.book.now s)) c.chains.into.items c.push_section.new.into.items c.args.chains.now c.chains.k c.index-chains-k.result _
    (slice_get_read c.args.chains.now _ c.chains.k c.index-chains-k.result refl c.chains-test.true c.index-chains-k.is) c.in_ok-push_section.ensures c.chains.invariant
