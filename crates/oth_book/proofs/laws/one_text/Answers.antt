use Rattle.std.proofs.Common.{refl, sym, ◌∙◌}
use Rattle.oth_book.proofs.LawLemmas.{one_list}
use Rattle.oth_book.proofs.laws.one_text.Goals as goal

pub returns : goal.returns
returns c = record {
  exists = λ v claims are. record { entries = are; text = refl };
  text = λ v claims a b ha hb. ha.text ∙ sym hb.text;
  list = one_list;
}
