use Rattle.std.proofs.Common.{refl}
use Rattle.dz_words.specs.declared.options.Key.TheVariants.{Budget, Chain, Order, Seed, Size}
use Rattle.clap.specs.Walk.{rows_of}
use Rattle.clap.specs.Matches.{found_of}
use Rattle.dz_words.specs.Verbs as verbs
use Rattle.dz_words.proofs.Written.{number_is}
use Rattle.dz_words.proofs.words.request_of.Goals as goal

pub returns : goal.returns
returns c = λ settings most is.
    let rows = rows_of (found_of c.args.matches.now) in
    let name = verbs.name_of c.args.verb in
    let budget = number_is c.number.result Budget name settings rows most is c.number.ensures.found c.number.ensures.unset in
    let chain = number_is c.number-2.result Chain name settings rows most is c.number-2.ensures.found c.number-2.ensures.unset in
    let order = number_is c.number-3.result Order name settings rows most is c.number-3.ensures.found c.number-3.ensures.unset in
    let seed = number_is c.number-4.result Seed name settings rows most is c.number-4.ensures.found c.number-4.ensures.unset in
    let size = number_is c.number-5.result Size name settings rows most is c.number-5.ensures.found c.number-5.ensures.unset in
    rw (budget, chain, order, seed, size) refl
