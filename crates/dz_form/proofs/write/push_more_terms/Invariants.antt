use Rattle.std.proofs.Common.{◌≡◌, ◌++◌, drop}
use Rattle.dz_poly.specs.Books.{polynomial}
use Rattle.dz_form.specs.Texts.{more_terms_text}
use Rattle.dz_form.proofs.write.push_more_terms.Given as goal

-- what is written, and the terms that are left
abbrev pub invariant-terms : goal.invariant-terms
invariant-terms l =
    l.into.items ++ more_terms_text l.names (drop l.k (polynomial l.book l.p)) ≡ l.fn.into.items ++ more_terms_text l.names (drop 1 (polynomial l.book l.p))
