use Rattle.std.proofs.Common.{map, subst, arith}
use Rattle.std.proofs.lemmas.List.{drop_more}
use Rattle.std.proofs.lemmas.Result.{err_from_is_err_and}
use Rattle.std.specs.List.{concat}
use Rattle.dz_run.proofs.Pieces.{IsWritten, written_more, written_part}
use Rattle.dz_run.proofs.message.write_pieces.Goals as goal

pub returns-in_err-write_all-clause-err : goal.returns-in_err-write_all-clause-err
returns-in_err-write_all-clause-err g c =
    let y = err_from_is_err_and c.from_residual.result c.from_residual.ensures.1 in
    let left = subst (λ ps. IsWritten (g.L.Sink.written c.args.sink.now) (g.L.Sink.written c.pieces.sink) (concat (map (λ p. p.now) ps)) (concat (map (λ p. p.now) c.args.pieces.now))) (drop_more c.args.pieces.now c.pieces.piece-index _ c.pieces-test.true) c.pieces.invariant.written in
    rw y.1 (written_part _ _ _ _ _ _ left c.in_err-write_all.ensures.err)

pub pieces-preserved : goal.pieces-preserved
pieces-preserved g c =
    let left = subst (λ ps. IsWritten (g.L.Sink.written c.args.sink.now) (g.L.Sink.written c.pieces.sink) (concat (map (λ p. p.now) ps)) (concat (map (λ p. p.now) c.args.pieces.now))) (drop_more c.args.pieces.now c.pieces.piece-index _ c.pieces-test.true) c.pieces.invariant.written in
    record {
      written = written_more _ _ _ _ _ _ left c.in_ok-write_all.ensures.ok;
      later = omega (arith, c.pieces.invariant.later, c.in_ok-write_all.ensures.later);
      stalls_later = omega (arith, c.pieces.invariant.stalls_later, c.in_ok-write_all.ensures.stalls_later);
    }
