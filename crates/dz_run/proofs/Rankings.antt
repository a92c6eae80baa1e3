-- A ranking has no fault.
use Rattle.std.proofs.Common.{◌≡◌, ◌<◌, ◌∙◌, sym, ℕ, List, length, take, arith}
use Rattle.std.specs.Prelude.{slice_index_or}
use Rattle.std.proofs.lemmas.List.{get_or-take, get_or_default, length-take-le}
use Rattle.dz_rank.specs.Rankings.{IsFaultOf, IsFirstRepeat, IsRanking, IsRepeatFree, RankingValue, dependents_of}
use Rattle.dz_rank.specs.declared.rankings.RankFault.TheVariants.{Twice, Missing}

-- no number stands twice in a list without repeats
no_repeat : (us : List ℕ) (u : ℕ) → IsRepeatFree us → IsFirstRepeat us u → ⊥
no_repeat us u free repeat =
    let k = repeat.stands.0 in
    let size : length (take repeat.at us) ≡ repeat.at = length-take-le repeat.at us (let l = repeat.inside in omega arith) in
    let before : k < repeat.at = omega (arith, repeat.stands.1) in
    let among : k < length us = omega (arith, repeat.inside) in
    let first : slice_index_or us k 0 ≡ u = get_or_default us k 0 u among ∙ sym (get_or-take repeat.at us k u before) ∙ repeat.stands.2 in
    free.apart k repeat.at 0 before repeat.inside (first ∙ sym repeat.is)

-- a ranking has no dependent twice, and none is missing
pub never_twice : (r : RankingValue) (u : ℕ) → IsRanking r → IsFaultOf r (Twice u) → ⊥
never_twice r u h fault = no_repeat (dependents_of r.blocks) u h.once fault

pub never_missing : (r : RankingValue) (u : ℕ) → IsRanking r → IsFaultOf r (Missing u) → ⊥
never_missing r u h fault = fault.1.missing (h.all.each u fault.1.below)
