use Rattle.std.proofs.Common.{◌≡◌, ◌∙◌, ap, refl, sym}
use Rattle.std.specs.Prelude.{slice_index_or}
use Rattle.dz_poly.specs.Books.{polynomial}
use Rattle.dz_diff.proofs.MemberTests.{place_found, place_left_out, place_differs, untrue}
use Rattle.dz_diff.proofs.members.is_among.Goals.{else-k-left_out-via-then-k-left_out+else-same_entries, else-k-left_out-via-else-k-left_out}
use Rattle.dz_diff.proofs.members.is_among.Goals as goal

pub returns-then-same_entries : goal.returns-then-same_entries
returns-then-same_entries c =
    let book = c.args.book.now in
    let there : c.entry-other.result.now.terms ≡ polynomial book (slice_index_or c.args.polys.now c.places.k c.index-polys-k.result) = c.entry-other.ensures.value ∙ ap (polynomial book) c.index-polys-k.is in
    place_found book c.args.entry.now.terms c.args.polys.now c.args.left_out c.places.k c.index-polys-k.result _ c.places-test.true c.places.invariant c.if-k-left_out.true (c.if-same_entries.ensures.0 refl ∙ there)

pub places-preserved : goal.places-preserved
places-preserved c =
    let book = c.args.book.now in
    let there : c.entry-other.result.now.terms ≡ polynomial book (slice_index_or c.args.polys.now c.places.k c.index-polys-k.result) = c.entry-other.ensures.value ∙ ap (polynomial book) c.index-polys-k.is in
    elim c.else-k-left_out.branch [
      | else-k-left_out-via-then-k-left_out+else-same_entries w ↦ place_differs book c.args.entry.now.terms c.args.polys.now c.args.left_out c.places.k c.index-polys-k.result _ c.places-test.true c.places.invariant w.if-k-left_out.true (λ e. untrue (w.if-same_entries.ensures.1 (e ∙ sym there)))
      | else-k-left_out-via-else-k-left_out w ↦ place_left_out book c.args.entry.now.terms c.args.polys.now c.args.left_out c.places.k c.index-polys-k.result _ c.places-test.true c.places.invariant w.if-k-left_out.false
    ]
