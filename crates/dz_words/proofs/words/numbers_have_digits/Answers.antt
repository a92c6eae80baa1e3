use Rattle.dz_words.proofs.Numbers.{decimal_passes, number_digits}
use Rattle.dz_words.proofs.words.numbers_have_digits.Goals as goal

pub returns-clause-number : goal.returns-clause-number
returns-clause-number c = number_digits

pub returns-clause-text : goal.returns-clause-text
returns-clause-text c = decimal_passes
