use Rattle.lj_text.proofs.PlainWords.{IsPlain-words, IsPlainWord-decimal, IsPlainWord-join, words-feeds}
use Rattle.lj_text.proofs.laws.words_law.Goals as goal

pub returns : goal.returns
returns c = record {
  plain = IsPlain-words;
  reads_back = words-feeds;
  decimal = IsPlainWord-decimal;
  joined = λ byte ws free h. IsPlainWord-join byte free ws h;
}
