use Rattle.dz_form.proofs.TextItems.{text_is_item}
use Rattle.dz_form.proofs.laws.text_is_item.Goals as goal

pub returns : goal.returns
returns c = text_is_item
