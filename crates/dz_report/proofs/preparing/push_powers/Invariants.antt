use Rattle.std.proofs.Common.{◌≡◌, ◌++◌, drop, map}
use Rattle.dz_ask.specs.Attempts.{power_in}
use Rattle.dz_cert.specs.LineTexts.{behind_blanks}
use Rattle.dz_report.specs.Preparations.{power_text}
use Rattle.dz_report.proofs.preparing.push_powers.Given as goal

-- what is written, and the powers that are left
abbrev pub invariant-powers : goal.invariant-powers
invariant-powers l =
    l.into.items ++ behind_blanks (map (λ p. power_text l.names p) (map power_in (drop l.power-index l.powers))) ≡ l.fn.into.items ++ behind_blanks (map (λ p. power_text l.names p) (map power_in l.powers))
