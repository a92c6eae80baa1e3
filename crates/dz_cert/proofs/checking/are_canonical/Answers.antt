use Rattle.std.proofs.Common.{sym}
use Rattle.dz_form.specs.Texts.{polynomial_text}
use Rattle.dz_poly.specs.Books.{polynomial}
use Rattle.dz_cert.proofs.SameTexts.{are_same-counts}
use Rattle.dz_cert.proofs.checking.are_canonical.Goals as goal

pub returns-then-texts-polys : goal.returns-then-texts-polys
returns-then-texts-polys c =
    sym (are_same-counts (λ p. polynomial_text c.args.names.now p) (λ p. polynomial c.args.book.now p) c.args.texts.now c.args.polys.now c.if-texts-polys.true)
